-- What a seat drew, holds and has read stays below its next ticket, whatever step the seat takes.
-- For `Seat::draw`, `take_in`, `note_as` and others.
use Rattle.std.proofs.Common.{ap, ◌≡◌, ◌+◌, ℕ, ◌<◌, ◌≤◌, Bool, true, false, eqb, List, [], ◌∷◌, ◌++◌, Option, Some, None, sym, subst, arith, inl, inr}
use Rattle.std.specs.Prelude.{if◌then◌else◌}
use Rattle.std.proofs.lemmas.List.{map-append}
use Rattle.std.proofs.lemmas.List.Elements.{All-append, All-cons, All-nil}
use base.Stored.{Coded}
use Rattle.lb_ticket.specs.declared.item.Drawn.{Drawn}
use Rattle.lb_ticket.specs.declared.view.Bare.{Bare}
use Rattle.lb_ticket.specs.declared.view.BareColumn.{BareColumn}
use Rattle.lb_ticket.specs.declared.view.Fact.{Fact}
use Rattle.lb_ticket.specs.declared.view.Held.{Held}
use Rattle.lb_ticket.specs.Tickets.{Meaning, AllBelow, quoted_by}
use Rattle.lb_ticket.specs.Facts.{HasFact, FactsBelow, without_fact, QuoteIsKnown, fact_of, held_of}
use Rattle.lb_ticket.specs.Bare.{HasBareList, IsBareBelow, BareMarks, bare_learnt, bare_note_left, bare_drew}

-- ---- facts
facts_up : (a b : ℕ) (fs : List Fact) → a ≤ b → FactsBelow a fs → FactsBelow b fs
facts_up a b [] le h = tt
facts_up a b (f ∷ fs) le h = (let lt = h.0 in omega arith, facts_up a b fs le h.1)

facts_with : (n : ℕ) (fs more : List Fact) → FactsBelow n fs → FactsBelow n more → FactsBelow n (fs ++ more)
facts_with n [] more h m = m
facts_with n (f ∷ fs) more h m = (h.0, facts_with n fs more h.1 m)

facts_without : (n k : ℕ) (fs : List Fact) → FactsBelow n fs → FactsBelow n (without_fact k fs)
facts_without n k [] h = tt
facts_without n k (f ∷ fs) h = one (eqb k f.ticket) (facts_without n k fs h.1)
  where
    one : (b : Bool) → FactsBelow n (without_fact k fs) →
        FactsBelow n (if b then without_fact k fs else f ∷ without_fact k fs)
    one true r = r
    one false r = (h.0, r)

fact_below : (n : ℕ) (f : Fact) (fs : List Fact) → FactsBelow n fs → HasFact f fs → f.ticket < n
fact_below n f [] h i = absurd i
fact_below n f (x ∷ fs) h (inl e) = subst (λ (y : Fact). y.ticket < n) e h.0
fact_below n f (x ∷ fs) h (inr i) = fact_below n f fs h.1 i

-- ---- entries
module _ {I : Type 0} where
  pub drawn_up : (a b : ℕ) (ds : List (Drawn I)) → a ≤ b → AllBelow a ds → AllBelow b ds
  drawn_up a b ds le h k d lt = let l = h k d lt in omega arith

  -- ---- the steps
  pub marks_below : (ds : List (Drawn I)) (v : Bare) (n : ℕ) (w : Bare) → BareMarks v n w → IsBareBelow ds v →
      IsBareBelow ds w
  marks_below ds v n w marks b =
      subst (IsBareBelow ds) (sym marks.0)
      (drawn_up v.seen n ds marks.1 b.0, facts_up v.seen n v.fresh marks.1 b.1, marks.2, marks.3)

  -- after something was learnt or read
  pub takes_below : (ds : List (Drawn I)) (v other : Bare) (n : ℕ) (w : Bare) → BareMarks (bare_learnt v other) n w →
      IsBareBelow ds v → IsBareBelow ds w
  takes_below ds v other n w marks b =
      let m = marks.1 in
      let le : v.seen ≤ n = omega arith in
      subst (IsBareBelow ds) (sym marks.0)
      (drawn_up v.seen n ds le b.0, facts_up v.seen n v.fresh le b.1, marks.2, marks.3)

  pub notes_below : (ds : List (Drawn I)) (v : Bare) (k : ℕ) → IsBareBelow ds v → IsBareBelow ds (bare_note_left k v)
  notes_below ds v k b = (b.0, facts_without v.seen k v.fresh b.1, b.2, b.3)

module _ {I L : Type 0} (m : Meaning I L) (code : Coded I) (left : Coded L) where
  pub draws_below : (ds : List (Drawn I)) (v : Bare) (c : BareColumn) (i : I) (n : ℕ) → v.columns ≡ c ∷ [] →
      v.seen ≤ n → IsBareBelow ds v →
      IsBareBelow (ds ++ record { ticket = n; item = i } ∷ []) (bare_drew m code left v i n)
  draws_below ds v c i n is le b =
      let d : Drawn I = record { ticket = n; item = i } in
      let next : v.seen ≤ n + 1 = omega arith in
      let here : n < n + 1 = omega arith in
      rw is (
        All-append (λ (x : Drawn I). x.ticket < n + 1) ds (d ∷ []) (drawn_up v.seen (n + 1) ds next b.0)
            (All-cons (λ (x : Drawn I). x.ticket < n + 1) d [] here (All-nil (λ (x : Drawn I). x.ticket < n + 1))),
        facts_with (n + 1) v.fresh (fact_of m left d ∷ []) (facts_up v.seen (n + 1) v.fresh next b.1) (here, tt),
        facts_without (n + 1) (quoted_by (m.quote i)) v.known (facts_up v.seen (n + 1) v.known next b.2),
        λ k h lt. (let l = b.3 k h lt in omega arith),
      )

  pub draws_list : (owner : ℕ) (ds : List (Drawn I)) (me : Bare × List (ℕ × Unit {0})) (i : I) (n : ℕ) →
      HasBareList code owner ds me →
      HasBareList code owner (ds ++ record { ticket = n; item = i } ∷ []) (bare_drew m code left me.0 i n, me.1)
  draws_list owner ds me i n h =
      let d : Drawn I = record { ticket = n; item = i } in
      rw h.0 (
        ap (λ (l : List Held). record { owner = owner; drawn = l } ∷ []) (sym (map-append (held_of code) ds (d ∷ []))),
        h.1,
        h.2,
      )

  -- what is known is below the next ticket, so a quote is too
  pub quoted_below : (next n : ℕ) (known : List Fact) (i : I) (q : Option (ℕ × L)) → next ≤ n → 0 < n →
      FactsBelow next known → QuoteIsKnown m left known i q → quoted_by q < n
  quoted_below next n known i None le some below is = some
  quoted_below next n known i (Some q) le some below is = let lt = fact_below next _ known below is in omega arith
