-- A stop request served whole: its task lands where it may, lane 0 is at rest again, and the closing goes on.
-- For `Ended::move_task` and `Ended::serve`.
use Rattle.std.proofs.Common.{ℕ, ◌≡◌, ◌+◌, ◌≤◌, ◌<◌, eqb, if◌then◌else◌, Bool, true, false, List, [], ◌∷◌, length, map, set, get_or, refl, sym, subst, ap, ◌∙◌, arith, All}
use Rattle.std.specs.Prelude.{slice_get}
use Rattle.std.proofs.lemmas.List.Elements.{All-nil, All-cons, All-head, All-tail}
use Rattle.lb_queue.specs.declared.record.TaskRecord.{TaskRecord}
use Rattle.lb_queue.specs.Queue.{QueueState, knows}
use Rattle.lb_queue.specs.Tasks.{ids, occurs}
use Rattle.lb_trace.specs.declared.trace.Header.{Header}
use Rattle.lb_core.specs.declared.course.Course.{Course}
use Rattle.lb_core.specs.declared.course.Form.TheVariants.{Rest}
use Rattle.lb_core.specs.Asks.{LandingAsks}
use Rattle.lb_core.specs.Course.{opening_course}
use Rattle.lb_ticket.specs.declared.item.Drawn.{Drawn}
use Rattle.lb_journal.specs.Journal.{Journal}
use Rattle.lb_journal.specs.Owners.{ClosesSoFar, InAll, lists_of}
use Rattle.lb_end.specs.Ends.{EndedIs}
use Rattle.lb_end.specs.Seats.{next_at}
use Rattle.lb_end.specs.Drawing.{first_ticket}
use Rattle.lb_end.specs.Closing.{ClosesOn, IsClosing}
use Rattle.lb_end.specs.Finished.{AllRest}
use Rattle.lb_end.proofs.Ongoing.{goes_same}

-- ---- the landing
at_most : (b : Bool) → (if b then 1 else 0) + 0 ≤ 1
at_most true = omega arith
at_most false = omega arith

one_unknown : (q : QueueState) (id : ℕ) (ts : List TaskRecord) → ids ts ≡ id ∷ [] → knows q id ≡ false
    → All (λ (t : TaskRecord). knows q t.id ≡ false) ts
one_unknown q id [] e un = absurd (cc e)
one_unknown q id (t ∷ []) e un =
    let same : t.id ≡ id = cc e in
    All-cons (λ (x : TaskRecord). knows q x.id ≡ false) t [] (ap (knows q) same ∙ un)
    (All-nil (λ (x : TaskRecord). knows q x.id ≡ false))
one_unknown q id (t ∷ u ∷ ts) e un = absurd (cc e)

pub landing_asks : (q : QueueState) (c : Course) (id to : ℕ) → c.to ≡ to → q.cpu ≡ to → ids c.hand ≡ id ∷ []
    → knows q id ≡ false → LandingAsks c q
landing_asks q c id to goes own one un = record {
  to = goes ∙ sym own;
  differ = λ n. subst (λ (l : List ℕ). occurs n l ≤ 1) (sym one) (at_most (eqb id n));
  unknown = one_unknown q id c.hand one un;
}

-- ---- where nothing was drawn
pub closing_same : (h : Header) (e e' : EndedIs) → lists_of e'.seats ≡ lists_of e.seats
    → ((k : ℕ) → next_at e'.seats k ≡ next_at e.seats k) → first_ticket e' ≡ first_ticket e
    → (cut : ℕ) → IsClosing h cut e → IsClosing h cut e'
closing_same h e e' lists nexts ticket cut c = record {
  so_far = subst (λ (l : List (List (Drawn Journal))). ClosesSoFar h l cut) (sym lists) c.so_far;
  above =
      subst (λ (l : List (List (Drawn Journal))). InAll (λ d. d.ticket < next_at e'.seats 1) l) (sym lists)
      (subst (λ (n : ℕ). InAll (λ d. d.ticket < n) (lists_of e.seats)) (sym (nexts 1)) c.above);
  late = let l = c.late in let n = nexts 1 in omega (arith, l, n);
  first = λ z.
      subst (λ (l : List (List (Drawn Journal))). InAll (λ d. d.ticket ≤ cut) l) (sym lists) (c.first (sym ticket ∙ z));
}

pub on_same : (h : Header) (e e' : EndedIs) → lists_of e'.seats ≡ lists_of e.seats
    → ((k : ℕ) → next_at e'.seats k ≡ next_at e.seats k) → first_ticket e' ≡ first_ticket e → h.lanes ≤ 16
    → ((k : ℕ) → k < 17 → slice_get e'.seats k ≡ slice_get e.seats k) → ClosesOn h e e'
on_same h e e' lists nexts ticket few others = record {
  goes_on = goes_same h e e' lists (λ lane one lt. others (lane + 1) (omega (arith, lt, few)));
  own = ap (λ (l : List (List (Drawn Journal))). get_or l 1 []) lists;
  closing = λ cut c. closing_same h e e' lists nexts ticket cut c;
}
