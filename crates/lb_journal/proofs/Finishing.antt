-- The closing, entry by entry: it starts where nothing closes, and goes on by an entry above all others.
-- For the laws `closing_goes_on` and `closing_starts`.
use Rattle.std.proofs.Common.{All, ◌≡◌, ℕ, ◌<◌, ◌≤◌, false, List, [], ◌∷◌, ◌++◌, length, get_or, sym, ◌∙◌, subst, arith, inl, inr, append-nil}
use Rattle.std.proofs.lemmas.Bool.{cases_eq}
use Rattle.std.proofs.lemmas.List.{get_or-set_same, get_or-set_other}
use Rattle.std.proofs.lemmas.List.Elements.{All-nil, All-cons, All-append, All-set, All-push}
use Rattle.lb_trace.specs.declared.trace.Header.{Header}
use Rattle.lb_core.specs.declared.entry.Owner.TheVariants.{Lane}
use Rattle.lb_ticket.specs.declared.item.Drawn.{Drawn}
use Rattle.lb_journal.specs.Journal.{Journal, number_of}
use Rattle.lb_journal.specs.Merge.{closing_out, is_end, ClosesBy}
use Rattle.lb_journal.specs.Owners.{InAll, ClosesAs, ClosesSoFar, ListsGrow, ClosingStarts, with_item, ClosingGoesOn}
use Rattle.lb_journal.proofs.Growing.{closes_still, closes_grown}

pub closing_starts : ClosingStarts
closing_starts h lists cut none = record {
  open_before = λ k ds lt q d low le. let n = none k ds lt q d low in (n.1, n.2);
  closing_after = λ k ds lt q d low late. absurd (let n = (none k ds lt q d low).0 in omega arith);
  begins = λ k ds lt q d low late z. absurd (let n = (none k ds lt q d low).0 in omega arith);
  closes = λ k ds lt q d low late. absurd (let n = (none k ds lt q d low).0 in omega arith);
}

module _ (h : Header) (lists : List (List (Drawn Journal))) (cut k : ℕ) (d : Drawn Journal) (there : k < length lists)
  where
    grows : ListsGrow d.ticket lists (with_item lists k d)
    grows x = elim (cases_eq x k) [
      | inl e ↦ record {
        rest = d ∷ [];
        is =
            subst (λ (y : ℕ). get_or (with_item lists k d) y [] ≡ get_or lists y [] ++ d ∷ []) (sym e)
            (get_or-set_same lists k (get_or lists k [] ++ d ∷ []) [] there);
        late =
            All-cons (λ (e : Drawn Journal). d.ticket ≤ e.ticket) d [] (omega arith)
            (All-nil (λ (e : Drawn Journal). d.ticket ≤ e.ticket));
      }
      | inr n ↦ record {
        rest = [];
        is = get_or-set_other lists k x (get_or lists k [] ++ d ∷ []) [] n ∙ sym (append-nil (get_or lists x []));
        late = All-nil (λ (e : Drawn Journal). d.ticket ≤ e.ticket);
      }
    ]

    -- what holds of each item before, and of the further one
    in_more : (P : Drawn Journal → Type 0) → InAll P lists → P d → InAll P (with_item lists k d)
    in_more P all here =
        All-set (λ ds. All P ds) lists k (get_or lists k [] ++ d ∷ [])
        (All-push P (get_or lists k []) d (all k [] there) here) all

    abbrev Begins : ℕ → Type 0
    Begins t =
        All (λ o. t ≤ o.ticket) (get_or (with_item lists k d) (number_of (Lane 0)) [])
        × InAll (λ o. cut < o.ticket → t ≤ o.ticket) (with_item lists k d)

    own : (t : ℕ) → t ≤ d.ticket → All (λ (o : Drawn Journal). t ≤ o.ticket) (get_or lists (number_of (Lane 0)) []) →
        All (λ (o : Drawn Journal). t ≤ o.ticket) (get_or (with_item lists k d) (number_of (Lane 0)) [])
    own t le all =
        let g = grows (number_of (Lane 0)) in
        subst (All (λ (o : Drawn Journal). t ≤ o.ticket)) (sym g.is)
        (All-append (λ (o : Drawn Journal). t ≤ o.ticket) _ g.rest all (λ x o lt. let l = g.late x o lt in omega arith))

    pub goes_on : cut < d.ticket → InAll (λ e. e.ticket < d.ticket) lists → ClosesAs lists d.item →
        ClosesBy h lists d.ticket d.item.entry.what d.item.entry.owner →
        (d.item.entry.prev ≡ 0 → (get_or lists (number_of (Lane 0)) [] ≡ []) × InAll (λ e. e.ticket ≤ cut) lists) →
        ClosesSoFar h lists cut → ClosesSoFar h (with_item lists k d) cut
    goes_on late above what by first c =
        let lists' = with_item lists k d in
        record {
          open_before =
              in_more (λ e. e.ticket ≤ cut → (closing_out e.item ≡ false) × (is_end e.item.entry.what ≡ false))
              c.open_before (λ le. absurd (omega arith));
          closing_after =
              in_more (λ e. cut < e.ticket → ClosesAs lists' e.item)
              (λ x ds lt q e low after.
              closes_still d.ticket lists lists' grows (get_or (get_or lists x ds) q e).item
              (c.closing_after x ds lt q e low after))
              (λ after. closes_still d.ticket lists lists' grows d.item what);
          begins =
              in_more (λ e. cut < e.ticket → e.item.entry.prev ≡ 0 → Begins e.ticket)
              (λ x ds lt q e low after z.
              let y = get_or (get_or lists x ds) q e in
              let b = c.begins x ds lt q e low after z in
              let under = above x ds lt q e low in
              (own y.ticket (omega arith) b.0, in_more (λ o. cut < o.ticket → y.ticket ≤ o.ticket) b.1 (λ l. omega arith)))
              (λ after z.
              let f = first z in (
                own d.ticket (omega arith)
                    (subst (All (λ (o : Drawn Journal). d.ticket ≤ o.ticket)) (sym f.0)
                    (All-nil (λ (o : Drawn Journal). d.ticket ≤ o.ticket))),
                in_more (λ o. cut < o.ticket → d.ticket ≤ o.ticket)
                    (λ x ds lt q e low l. absurd (let n = f.1 x ds lt q e low in omega arith)) (λ l. omega arith),
              ));
          closes =
              in_more (λ e. cut < e.ticket → ClosesBy h lists' e.ticket e.item.entry.what e.item.entry.owner)
              (λ x ds lt q e low after.
              let y = get_or (get_or lists x ds) q e in
              closes_grown h lists lists' d.ticket grows y.ticket y.item.entry.what y.item.entry.owner
              (let l = above x ds lt q e low in omega arith) (c.closes x ds lt q e low after))
              (λ after.
              closes_grown h lists lists' d.ticket grows d.ticket d.item.entry.what d.item.entry.owner (omega arith)
              by);
        }

pub closing_goes_on : ClosingGoesOn
closing_goes_on h lists cut k d there late above what by first c =
    goes_on h lists cut k d there late above what by first c
