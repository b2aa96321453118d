-- What the closed lists have, said of the lists alone.
-- For `Book::close`.
use Rattle.std.proofs.Common.{◌≡◌, ◌⊎◌, ℕ, zero, suc, ◌+◌, ◌<◌, ◌≤◌, List, [], ◌∷◌, ◌++◌, length, take, Bool, true, false, refl, sym, ap, ◌∙◌, subst, ⊎_elim, inl, inr, arith, append_assoc}
use Rattle.std.specs.Prelude.{◌==◌, if◌then◌else◌, Option, Some, None}
use mathlib.Core.Option.{some, some-ne-none, some-injective}
use lib.ListN.{get_elem?}
use Rattle.std.proofs.lemmas.Bool.Decides.{nat_tests}
use Rattle.lb_ticket.specs.declared.item.Drawn.{Drawn}
use Rattle.lb_ticket.proofs.Sums.{total_member, same_eq, once_at}
use Rattle.lb_ticket.specs.Tickets.{Meaning, total, times, Stands, AllStand, Has, InLists, ListsFit, quoted_by, quote_hit, quotes_of, QuoteFits, AllQuote, Closes, QuotesOne, QuotesHold}

module _ {I L : Type 0} (m : Meaning I L) where
  stands_of : (log : List I) (ds : List (Drawn I)) (d : Drawn I) → AllStand log ds → Has d ds → Stands log d
  stands_of log [] d a h = absurd h
  stands_of log (x ∷ ds) d a h =
      ⊎_elim (λ (p : x ≡ d). subst (Stands log) p a.0) (λ (r : Has d ds). stands_of log ds d a.1 r) h

  stands_in : (log : List I) (k : ℕ) (lists : List (List (Drawn I))) (d : Drawn I) → ListsFit m log k lists →
      InLists d lists → Stands log d
  stands_in log k [] d f h = absurd h
  stands_in log k (ds ∷ rest) d f h =
      ⊎_elim (λ (r : Has d ds). stands_of log ds d f.1 r) (λ (r : InLists d rest). stands_in log (k + 1) rest d f.2 r) h

  -- a ticket that stands here is an entry's
  found : (x : ℕ) (ds : List (Drawn I)) → 0 < times x ds → (d : Drawn I) × Has d ds × (d.ticket ≡ x)
  found x [] pos = absurd (omega arith)
  found x (d ∷ ds) pos = go (x == d.ticket) refl pos (found x ds)
    where
      go : (b : Bool) → (x == d.ticket) ≡ b → 0 < (let r : ℕ = if b then 1 else 0 in r) + times x ds →
          (0 < times x ds → (d : Drawn I) × Has d ds × (d.ticket ≡ x)) →
          (e : Drawn I) × ((d ≡ e) ⊎ Has e ds) × (e.ticket ≡ x)
      go true t p rec = (d, inl refl, (let e : x ≡ d.ticket = grind (arith, nat_tests) in sym e))
      go false t p rec = let r = rec (omega arith) in (r.0, inr r.1, r.2)

  found_in : (x : ℕ) (lists : List (List (Drawn I))) → 0 < total (times x) lists →
      (d : Drawn I) × InLists d lists × (d.ticket ≡ x)
  found_in x [] pos = absurd (omega arith)
  found_in x (ds ∷ rest) pos = go (times x ds) refl (found_in x rest)
    where
      go : (n : ℕ) → times x ds ≡ n → (0 < total (times x) rest → (d : Drawn I) × InLists d rest × (d.ticket ≡ x)) →
          (d : Drawn I) × InLists d (ds ∷ rest) × (d.ticket ≡ x)
      go zero e rec = let r = rec (omega arith) in (r.0, inr r.1, r.2)
      go (suc n) e rec = let r = found x ds (omega arith) in (r.0, inl r.1, r.2)

  below : (l : List I) (k : ℕ) (i : I) → get_elem? l k ≡ some i → k < length l
  below [] k i e = absurd (some-ne-none i (sym e))
  below (x ∷ l) zero i e = omega arith
  below (x ∷ l) (suc k) i e = omega (arith, below l k i e)

  -- each item of the log is an entry
  pub entry_of : (lists : List (List (Drawn I))) (c : Closes m lists) (k : ℕ) (i : I) → get_elem? c.log k ≡ some i →
      (e : Drawn I) × InLists e lists × (e.ticket ≡ suc k) × (e.item ≡ i)
  entry_of lists c k i at =
      let o = once_at k (length c.log) (below c.log k i at) in
      let n = c.each_once (suc k) in
      let f = found_in (suc k) lists (omega arith) in
      let st = stands_in c.log 0 lists f.0 c.lists_fit f.1 in
      let same_place : st.0 ≡ k = (let e = st.1 in let t = f.2 in omega arith) in
      (f.0, f.1, f.2, some-injective f.0.item i (sym st.2 ∙ ap (λ (z : ℕ). get_elem? c.log z) same_place ∙ at))

  quote_at : (before log : List I) (k : ℕ) (i : I) → AllQuote m before log → get_elem? log k ≡ some i →
      QuoteFits m (before ++ take k log) i (m.quote i)
  quote_at before [] k i a e = absurd (some-ne-none i (sym e))
  quote_at before (x ∷ log) zero i a e =
      subst (λ z. QuoteFits m (before ++ []) z (m.quote z)) (some-injective x i e)
      (subst (λ l. QuoteFits m l x (m.quote x)) (sym (append_nil' before)) a.0)
    where
      append_nil' : (l : List I) → l ++ [] ≡ l
      append_nil' [] = refl
      append_nil' (y ∷ l) = ap (λ z. y ∷ z) (append_nil' l)
  quote_at before (x ∷ log) (suc k) i a e =
      subst (λ l. QuoteFits m l i (m.quote i)) (append_assoc before (x ∷ []) (take k log))
      (quote_at (before ++ x ∷ []) log k i a.1 e)

  take_at : (log : List I) (n k : ℕ) (i : I) → get_elem? (take n log) k ≡ some i → (k < n) × (get_elem? log k ≡ some i)
  take_at log zero k i e = absurd (some-ne-none i (sym e))
  take_at [] (suc n) k i e = absurd (some-ne-none i (sym e))
  take_at (x ∷ log) (suc n) zero i e = (omega arith, e)
  take_at (x ∷ log) (suc n) (suc k) i e = let r = take_at log n k i e in let l = r.0 in (omega arith, r.1)

  each_quote : (lists : List (List (Drawn I))) (c : Closes m lists) (d : Drawn I) (k : ℕ) → d.ticket ≡ suc k →
      (o : Option (ℕ × L)) → QuoteFits m (take k c.log) d.item o → QuotesOne m lists d o
  each_quote lists c d k at None q = tt
  each_quote lists c d k at (Some o) q =
      let st = q.1 in
      let t = take_at c.log k st.0 q.0 st.2 in
      let lt = t.0 in
      let e = entry_of lists c st.0 q.0 t.1 in
      (e.0, e.1, e.2 ∙ sym st.1, (let x = e.2 in omega arith), ap m.leaves e.3 ∙ q.2, ap m.lane e.3 ∙ q.3)

  one_place : (f : I → ℕ) (log : List I) (k n : ℕ) (i j : I) → total f log ≤ 1 → get_elem? log k ≡ some i →
      get_elem? log n ≡ some j → f i ≡ 1 → f j ≡ 1 → k ≡ n
  one_place f [] k n i j le e g a b = absurd (some-ne-none i (sym e))
  one_place f (x ∷ log) zero zero i j le e g a b = refl
  one_place f (x ∷ log) zero (suc n) i j le e g a b =
      let h : f x ≡ f i = ap f (some-injective x i e) in let r = total_member f log n j g in absurd (omega arith)
  one_place f (x ∷ log) (suc k) zero i j le e g a b =
      let h : f x ≡ f j = ap f (some-injective x j g) in let r = total_member f log k i e in absurd (omega arith)
  one_place f (x ∷ log) (suc k) (suc n) i j le e g a b = ap suc (one_place f log k n i j (omega arith) e g a b)

  pub holds_direct : (lists : List (List (Drawn I))) → Closes m lists → QuotesHold m lists
  holds_direct lists c = record {
    each =
        (λ d at.
        let st = stands_in c.log 0 lists d c.lists_fit at in
        each_quote lists c d st.0 st.1 (m.quote d.item) (quote_at [] c.log st.0 d.item c.quotes st.2));
    apart = (λ d e at there pos same_quote.
        let s = stands_in c.log 0 lists d c.lists_fit at in
        let t = stands_in c.log 0 lists e c.lists_fit there in
        let x : ℕ = quoted_by (m.quote d.item) in
        let p =
        one_place (quote_hit m x) c.log s.0 t.0 d.item e.item (c.quoted_once x pos) s.2 t.2 (same_eq x x refl)
        (same_eq x (quoted_by (m.quote e.item)) same_quote) in
        s.1 ∙ ap suc p ∙ sym t.1);
  }

  -- an entry of the log is one of the lists
  pub entry_direct : (lists : List (List (Drawn I))) (c : Closes m lists) (d : Drawn I) → Stands c.log d →
      (e : Drawn I) × InLists e lists × (e ≡ d)
  entry_direct lists c d st =
      let f = entry_of lists c st.0 d.item st.2 in
      let ticket : f.0.ticket ≡ d.ticket = f.2 ∙ sym st.1 in
      let item = f.3 in
      (f.0, f.1, λ i. record { ticket = ticket i; item = item i })

  -- an entry of the log, whose ticket no item of the log quotes, is one of the lists that none quotes
  pub unquoted_direct : (lists : List (List (Drawn I))) (c : Closes m lists) (d : Drawn I) → Stands c.log d →
      quotes_of m d.ticket c.log ≡ 0 →
      (e : Drawn I) × InLists e lists × (e ≡ d)
      × ((x : Drawn I) → InLists x lists → quoted_by (m.quote x.item) ≡ d.ticket → ⊥)
  unquoted_direct lists c d st none =
      let f = entry_direct lists c d st in (
        f.0,
        f.1,
        f.2,
        λ x there q.
            let s = stands_in c.log 0 lists x c.lists_fit there in
            let h = total_member (quote_hit m d.ticket) c.log s.0 x.item s.2 in
            let o = same_eq d.ticket (quoted_by (m.quote x.item)) (sym q) in
            absurd (omega arith),
      )
