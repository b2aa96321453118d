-- The end, drawn above all others where no stop request is pending, closes the history.
-- For `Ended::finish`.
use Rattle.std.proofs.Common.{ℕ, ◌≡◌, ◌+◌, ◌-◌, ◌<◌, ◌≤◌, ◌&&◌, ◌||◌, Bool, true, false, is_some, ltb, List, [], ◌∷◌, ◌++◌, Option, None, Some, find, length, map, get_or, refl, sym, subst, ap, ◌∙◌, arith, inl, inr}
use Rattle.std.specs.Prelude.{slice_get}
use Rattle.std.specs.List.{list_any, range_with_len}
use Rattle.std.proofs.lemmas.Option.{slice_get_cases}
use base.Stored.{Coded}
use Rattle.atomic_table.specs.Seated.{TableId}
use Rattle.lb_base.specs.declared.mask.Mask.{Mask}
use Rattle.lb_base.specs.Sets.{mask_where}
use Rattle.lb_trace.specs.declared.trace.Header.{Header}
use Rattle.lb_core.specs.declared.course.Course.{Course}
use Rattle.lb_core.specs.declared.entry.Owner.TheVariants.{Lane}
use Rattle.lb_core.specs.declared.entry.What.TheVariants.{End}
use Rattle.lb_core.specs.Same.{same_mask}
use Rattle.lb_core.proofs.Equality.{mask_itself}
use Rattle.lb_ticket.specs.declared.item.Drawn.{Drawn}
use Rattle.lb_ticket.specs.Seats.{SeatIs}
use Rattle.lb_ticket.specs.Tickets.{pair}
use Rattle.lb_queue.specs.Requests.{has_pending}
use Rattle.lb_journal.specs.Journal.{Journal, Left, replay}
use Rattle.lb_journal.specs.Merge.{closing_out, is_end, queue_list}
use Rattle.lb_journal.specs.Owners.{ClosesFrom, ClosesNow, ClosesSoFar, ClosingGoesOn, ClosingStarts, InAll, lists_of, with_item}
use Rattle.lb_end.specs.Ends.{EndedIs, EndedKeeps, NothingCloses}
use Rattle.lb_end.specs.Seats.{list_at, next_at}
use Rattle.lb_end.specs.Drawing.{Drew, first_ticket, item_of, state_at}
use Rattle.lb_end.specs.Closing.{ClosesOn, GoesOn, IsClosing, StandsAbove, pending_now}
use Rattle.lb_end.specs.Finished.{DrewEnd, Finished}
use Rattle.lb_end.proofs.Keeping.{list_is}
use Rattle.lb_end.proofs.Ongoing.{goes_drew, goes_same, goes_through, here_more}
use Rattle.lb_end.proofs.Parts.{empty_first}
use Rattle.lb_end.proofs.Served.{closing_same}

-- it starts where nothing closes, and lane 0's seat stands above all
pub starts : ClosingStarts → (h : Header) (e : EndedIs) → NothingCloses e.seats → StandsAbove e.seats
    → IsClosing h (next_at e.seats 1 - 1) e
starts law h e none above =
    let cut = next_at e.seats 1 - 1 in
    let low : InAll (λ d. d.ticket ≤ cut) (lists_of e.seats) =
    (λ k ds lt i d l. let a = above k ds lt i d l in omega (arith, a)) in
    record {
      so_far = law h (lists_of e.seats) cut (λ k ds lt i d l. let n = none k ds lt i d l in (low k ds lt i d l, n.0, n.1));
      above = above;
      late = omega arith;
      first = λ z. low;
    }

-- the last item is among them
or_right : (a b : Bool) → b ≡ true → (a || b) ≡ true
or_right true b e = refl
or_right false b e = e

any_last : (ds : List (Drawn Journal)) (d : Drawn Journal) → is_end d.item.entry.what ≡ true
    → list_any (λ (x : ℕ × Journal). is_end x.1.entry.what) (map pair (ds ++ d ∷ [])) ≡ true
any_last [] d e = rw e refl
any_last (x ∷ ds) d e = or_right (is_end x.item.entry.what) _ (any_last ds d e)

-- a list of one seat, and of it once it has an item more
seat_end : (e e' : EndedIs) (u : Mask) (d : Drawn Journal) → 1 < length e.seats → 1 < length e'.seats
    → list_at e'.seats 1 ≡ list_at e.seats 1 ++ d ∷ [] → d.item.entry.what ≡ End u → DrewEnd e e' u
seat_end e e' u d lt lt' list what = elim (slice_get_cases e.seats 1).1 [
  | inl s ↦ elim (slice_get_cases e'.seats 1).1 [
    | inl s' ↦ record {
      seat = s.0;
      seat' = s'.0;
      before = s.2;
      after = s'.2;
      item = d;
      list =
          sym (list_is e'.seats 1 s'.0 s'.2)
          ∙ (list ∙ ap (λ (l : List (Drawn Journal)). l ++ d ∷ []) (list_is e.seats 1 s.0 s.2));
      what = what;
    }
    | inr past ↦ absurd (let p = past.0 in omega (arith, p, lt'))
  ]
  | inr past ↦ absurd (let p = past.0 in omega (arith, p, lt))
]

module _ (h : Header) (e0 e1 e2 e3 e4 : EndedIs) (c c' : Course) (t : ℕ) (u : Mask)
    (lists1 : lists_of e1.seats ≡ lists_of e0.seats) (on : ClosesOn h e1 e2)
    (lists3 : lists_of e3.seats ≡ lists_of e2.seats)
    (drew : Drew 1 (item_of h (Lane 0) c c' t (End u)) e3 e4) where
  abbrev lists : List (List (Drawn Journal))
  lists = lists_of e3.seats

  abbrev item : Journal
  item = item_of h (Lane 0) c c' t (End u)

  abbrev last : Drawn Journal
  last = record { ticket = drew.ticket; item = item }

  own : list_at e3.seats 1 ≡ list_at e0.seats 1
  own =
      ap (λ (l : List (List (Drawn Journal))). get_or l 1 []) lists3
      ∙ (on.own ∙ ap (λ (l : List (List (Drawn Journal))). get_or l 1 []) lists1)

  more : list_at e4.seats 1 ≡ list_at e3.seats 1 ++ last ∷ []
  more = ap (λ (l : List (List (Drawn Journal))). get_or l 1 []) drew.lists ∙ here_more lists 1 last drew.inside

  closes : ClosingGoesOn → ClosesNow → (cut : ℕ) → IsClosing h cut e3 → pending_now h e3 ≡ None
      → u ≡ mask_where (λ cpu. ltb cpu (length h.cpus) && is_some (state_at h e3 cpu).active)
      → (t ≡ 0 → list_at e3.seats 1 ≡ []) → ClosesFrom h (lists_of e4.seats) cut
  closes law now cut k none is empty =
      let under : InAll (λ d. d.ticket < drew.ticket) lists =
      (λ j ds lt i x l. let a = k.above j ds lt i x l in let b = drew.above in omega (arith, a, b)) in
      let late : cut < drew.ticket =
      (let a = k.late in let b = drew.above in let p = drew.some in omega (arith, a, b, p)) in
      let by = now h lists drew.ticket under in
      record {
        so_far =
            subst (λ (l : List (List (Drawn Journal))). ClosesSoFar h l cut) (sym drew.lists)
            (law h lists cut 1 last drew.inside late under (inr (inl refl))
            (by.0 ∙ none, subst (λ (m : Mask). same_mask u m ≡ true) (is ∙ sym by.1) (mask_itself u))
            (λ z. (empty z, k.first (sym drew.quoted ∙ z))) k.so_far);
        ends =
            ap (λ (ds : List (Drawn Journal)). list_any (λ (x : ℕ × Journal). is_end x.1.entry.what) (map pair ds)) more
            ∙ any_last (list_at e3.seats 1) last refl;
      }

  pub finished : ClosingStarts → ClosingGoesOn → ClosesNow → (book : TableId) (code : Coded Journal) (left : Coded Left)
      → EndedKeeps h book code left e0 → EndedKeeps h book code left e3 → EndedKeeps h book code left e4
      → NothingCloses e0.seats → StandsAbove e1.seats
      → ((k : ℕ) → 2 ≤ k → slice_get e1.seats k ≡ slice_get e0.seats k) → pending_now h e2 ≡ None
      → ((k : ℕ) → next_at e3.seats k ≡ next_at e2.seats k) → first_ticket e3 ≡ first_ticket e2
      → ((k : ℕ) → (k ≡ 1 → ⊥) → slice_get e3.seats k ≡ slice_get e2.seats k)
      → u ≡ mask_where (λ cpu. ltb cpu (length h.cpus) && is_some (state_at h e3 cpu).active) → t ≡ first_ticket e3
      → Finished h e0 e4 u
  finished start law now book code left keep0 keep3 keep4 nothing above others1 none nexts3 ticket3 others3 is ticket =
      let cut = next_at e1.seats 1 - 1 in
      let begun : IsClosing h cut e1 =
      starts start h e1
      (subst (λ (l : List (List (Drawn Journal))). InAll
      (λ d. (closing_out d.item ≡ false) × (is_end d.item.entry.what ≡ false)) l)
      (sym lists1) nothing) above in
      let ready : IsClosing h cut e3 = closing_same h e2 e3 lists3 nexts3 ticket3 cut (on.closing cut begun) in
      let none3 : pending_now h e3 ≡ None =
      ap (λ (l : List (List (Drawn Journal))). pending_of l) lists3 ∙ none in
      let goes : GoesOn h e0 e4 =
      goes_through h e0 e1 e4 (goes_same h e0 e1 lists1 (λ lane one lt. others1 (lane + 1) (omega (arith, one))))
      (goes_through h e1 e2 e4 on.goes_on
      (goes_through h e2 e3 e4 (goes_same h e2 e3 lists3 (λ lane one lt. others3 (lane + 1) (λ e. omega (arith, one, e))))
      (goes_drew h 1 item e3 e4 drew refl (λ lane one lt e. omega (arith, one, e))))) in
      let n0 = keep0.all_seats in
      let o0 = keep0.owners in
      let n4 = keep4.all_seats in
      let o4 = keep4.owners in
      record {
        cut = cut;
        closing =
            closes law now cut ready none3 is (λ z. empty_first h book code left e3 keep3 (sym ticket ∙ z));
        ended =
            seat_end e0 e4 u last (omega (arith, n0, o0)) (omega (arith, n4, o4))
            (more ∙ ap (λ (l : List (Drawn Journal)). l ++ last ∷ []) own) refl;
        goes_on = goes.lists;
        rows = goes.rows;
        others = goes.others;
      }
    where
      pending_of : List (List (Drawn Journal)) → Option ℕ
      pending_of l = find (λ cpu. has_pending (replay h cpu (queue_list l cpu))) (range_with_len 0 (length h.cpus))
