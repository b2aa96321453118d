-- What those who close the book need beside the law: the entries in the order of their tickets are the
-- log's, however they were put in order; and it is enough to know of the entries that nobody quotes that
-- they leave their lanes at rest.
-- For the laws `order_is_log` and `unquoted_rest`.
use Rattle.std.proofs.Common.{◌≡◌, ◌⊎◌, ℕ, zero, suc, ◌-◌, ◌<◌, ◌≤◌, Bool, true, false, eqb, ◌&&◌, List, [], ◌∷◌, length, get_or, refl, sym, ◌∙◌, ap, subst, arith, inl, inr}
use Rattle.std.proofs.lemmas.Bool.{cases_Bool, eqb-true, and_parts, eqb-false, both_ways}
use Rattle.std.proofs.lemmas.List.{length-map, same_lists, get_or-map, nil_from_length}
use Rattle.lb_trace.specs.declared.trace.Header.{Header}
use Rattle.lb_core.specs.declared.course.Course.{Course}
use Rattle.lb_core.specs.declared.course.Form.{Form}
use Rattle.lb_core.specs.declared.course.Form.TheVariants.{Rest}
use Rattle.lb_core.specs.declared.entry.What.{What}
use Rattle.lb_core.specs.declared.entry.What.TheVariants.{Out, End}
use Rattle.lb_core.specs.declared.entry.Entry.{Entry}
use Rattle.lb_core.specs.Stage.{draws}
use Rattle.lb_queue.specs.Queue.{QueueState}
use mathlib.Core.Option.{some-ne-none, some-injective}
use lib.ListN.{get_elem?}
use Rattle.lb_ticket.specs.declared.item.Drawn.{Drawn}
use Rattle.lb_ticket.specs.Tickets.{Closes}
use Rattle.lb_journal.specs.Journal.{Journal, number_of, sight_in, meaning_of_journal}
use Rattle.lb_journal.specs.Merge.{Each, LeavesAtRest, NobodyQuotes, OrderIsLog, UnquotedRest, closing_out, is_out_at_rest, is_end, is_landing, quotes_closing, is_closing, entries}
use Rattle.lb_ticket.proofs.Logs.{get_or_at_elem, at_below, fits_at}
use Rattle.lb_journal.proofs.Good.{At, items_of}
use Rattle.lb_journal.proofs.Lanes.{staged, split_at, at_front}
use Rattle.lb_journal.proofs.Bridge.{each_at, each_from, quoted_in, quoted_item, out_closes, any_cases}

module _ (lists : List (List (Drawn Journal))) (book : Closes meaning_of_journal lists) where
  at_place : (es : List Entry) (k : ℕ) (e : Entry) (j : Journal) → At book.log k j →
      Each (λ d. (x : Entry) → get_or es (d.0 - 1) x ≡ d.1.entry) lists → get_or es k e ≡ j.entry
  at_place es k e j a each =
      ap (λ (n : ℕ). get_or es n e) (let t : k ≡ suc k - 1 = omega arith in t)
      ∙ each_at lists book (λ d. (x : Entry) → get_or es (d.0 - 1) x ≡ d.1.entry) each k j a e

  -- a list with each item's entry at its ticket's place is the entries in their order
  pub in_order : (es : List Entry) → length es ≡ length book.log →
      Each (λ d. (e : Entry) → get_or es (d.0 - 1) e ≡ d.1.entry) lists → es ≡ entries book.log
  in_order es n each = go book.log refl
    where
      go : (log : List Journal) → log ≡ book.log → es ≡ entries book.log
      go [] e = nil_from_length es (n ∙ ap length (sym e)) ∙ ap entries e
      go (i ∷ log) e =
          same_lists es (entries book.log) (n ∙ sym (length-map book.log (λ (j : Journal). j.entry)))
          (λ k x lt.
          let there = get_or_at_elem book.log k i (omega arith) in
          at_place es k x (get_or book.log k i) there each
          ∙ sym (get_or-map (λ (j : Journal). j.entry) book.log k i x (omega arith)))

  -- ---- lanes at rest
  out_form : (w : What) (f : Form) → is_out_at_rest w f ≡ true → f ≡ Rest
  out_form (Out cause to tasks) Rest e = refl
  out_form (Out cause to tasks) f e = absurd (let q : ⊥ = cc in q)
  out_form w f e = absurd (let q : ⊥ = cc in q)

  end_form : (w : What) (f : Form) (h : Header) (c : Course) (q : QueueState) (lane : ℕ) → is_end w ≡ true →
      draws f h c q lane w ≡ true → f ≡ Rest
  unfolding draws
  end_form (End unserved) Rest h c q lane o e = refl
  end_form (End unserved) f h c q lane o e = absurd (let z : ⊥ = cc in z)
  end_form w f h c q lane o e = absurd (let z : ⊥ = cc in z)

  -- what quotes an item, and closes, quotes a course at rest
  closing_form : (s : ℕ) (i : Journal) → At book.log s i → is_closing lists i ≡ true → (j : Journal) →
      (0 < i.entry.prev) → At book.log (i.entry.prev - 1) j → is_closing lists j ≡ false → i.course.form ≡ Rest
  closing_form s i a c j pos aj open_ =
      elim (any_cases (closing_out i) (is_end i.entry.what) (is_landing i.entry.what && quotes_closing lists i) c) [
        | inl o ↦ out_form i.entry.what i.course.form (and_parts _ _ o).0
        | inr r ↦ elim r [
          | inl o ↦
              let sp = split_at book.log s i a in
              let ds = items_of (number_of i.entry.owner) sp.pre in
              let st = staged ds i (fits_at meaning_of_journal lists book sp.pre sp.rest i sp.parts) in
              end_form i.entry.what i.course.form i.header i.course (sight_in ds i).queue i.entry.lane o st.draws
          | inr o ↦
              let q = quoted_item lists book i (and_parts (is_landing i.entry.what) (quotes_closing lists i) o).1 in
              let t = q.ticket in
              let place : q.place ≡ i.entry.prev - 1 = omega arith in
              let same : q.item ≡ j = some-injective q.item j (sym q.there ∙ ap (get_elem? book.log) place ∙ aj) in
              absurd
              (both_ways (is_closing lists j) open_ (out_closes lists book j (ap closing_out (sym same) ∙ q.closes)))
        ]
      ]

  any_at : (p : Journal → Bool) (log : List Journal) →
      ((k : ℕ) (i : Journal) → At log k i → p i ≡ false) ⊎ ((k : ℕ) × (i : Journal) × At log k i × (p i ≡ true))
  any_at p [] = inl (λ k i a. absurd (some-ne-none i (sym a)))
  any_at p (x ∷ log) = go (p x) refl (any_at p log)
    where
      none : p x ≡ false → ((k : ℕ) (i : Journal) → At log k i → p i ≡ false) → (k : ℕ) (i : Journal) →
          At (x ∷ log) k i →
          p i ≡ false
      none e h zero i a = ap p (sym (some-injective x i a)) ∙ e
      none e h (suc k) i a = h k i a

      go : (b : Bool) → p x ≡ b →
          ((k : ℕ) (i : Journal) → At log k i → p i ≡ false) ⊎ ((k : ℕ) × (i : Journal) × At log k i × (p i ≡ true)) →
          ((k : ℕ) (i : Journal) → At (x ∷ log) k i → p i ≡ false)
          ⊎ ((k : ℕ) × (i : Journal) × At (x ∷ log) k i × (p i ≡ true))
      go true e r = inr (zero, x, refl, e)
      go false e (inl h) = inl (none e h)
      go false e (inr h) = inr (suc h.0, h.1, h.2, h.3)

  -- it is enough that each entry that nobody quotes, and that closes nothing, leaves its lane at rest
  pub rests : Each (λ d. is_closing lists d.1 ≡ false → NobodyQuotes lists d.0 → d.1.after.form ≡ Rest) lists →
      LeavesAtRest lists
  rests each =
      each_from lists book
      (λ d.
      is_closing lists d.1 ≡ false →
      Each (λ e. is_closing lists e.1 ≡ false → e.1.entry.lane ≡ d.1.entry.lane → e.0 ≤ d.0) lists →
      d.1.after.form ≡ Rest)
      (λ k j a open_ last. elim (any_at (λ i. eqb i.entry.prev (suc k)) book.log) [
        | inl none ↦
            each_at lists book (λ d. is_closing lists d.1 ≡ false → NobodyQuotes lists d.0 → d.1.after.form ≡ Rest) each
            k j a open_
            (each_from lists book (λ e. e.1.entry.prev ≡ suc k → ⊥)
            (λ s i ai e. eqb-false i.entry.prev (suc k) (none s i ai) e))
        | inr some_ ↦
            let s = some_.0 in
            let i = some_.1 in
            let ai = some_.2 in
            let quotes = eqb-true i.entry.prev (suc k) some_.3 in
            let sp = split_at book.log s i ai in
            let size = sp.place in
            let q = quoted_in lists book sp.pre sp.rest i sp.parts (omega arith) in
            let low = at_below sp.pre q.place q.item q.there in
            let t = q.ticket in
            let place : q.place ≡ k = omega arith in
            let there : At book.log q.place q.item =
            subst (λ (l : List Journal). At l q.place q.item) (sym sp.parts)
            (at_front sp.pre (i ∷ sp.rest) q.place q.item q.there) in
            let same : q.item ≡ j = some-injective q.item j (sym there ∙ ap (get_elem? book.log) place ∙ a) in
            let lane : i.entry.lane ≡ j.entry.lane = sym q.lane ∙ ap (λ (x : Journal). x.entry.lane) same in
            let left : j.after ≡ i.course = ap (λ (x : Journal). x.after) (sym same) ∙ q.left in
            elim (cases_Bool (is_closing lists i)) [
              | inl closed ↦
                  ap (λ (x : Course). x.form) left
                  ∙ closing_form s i ai closed j (omega arith)
                  (subst (λ (n : ℕ). At book.log n j) (let z : k ≡ i.entry.prev - 1 = omega arith in z) a) open_
              | inr o ↦ absurd
                  (let le = each_at lists book
                  (λ e. is_closing lists e.1 ≡ false → e.1.entry.lane ≡ j.entry.lane → e.0 ≤ suc k) last s i ai o lane in
                  omega arith)
            ]
      ])

pub order_is_log : OrderIsLog
order_is_log lists book es n each = in_order lists book es n each

pub unquoted_rest : UnquotedRest
unquoted_rest lists book each = rests lists book each
