-- The serial entry of a lane says what is in range, where the row that is given is an accepted one.
-- For `State::draw`.
use Rattle.std.proofs.Common.{◌≡◌, ℕ, ◌+◌, ◌<◌, true, List, Option, Some, None, refl, sym, subst, Bor}
use Rattle.std.specs.Prelude.{IfSome, option_copied, option_to_list}
use Rattle.std.specs.List.{list_all}
use Rattle.std.proofs.lemmas.Bool.{and_parts}
use Rattle.lb_queue.specs.Queue.{QueueState}
use Rattle.lb_queue.proofs.Every.{all_one}
use Rattle.lb_trace.specs.declared.trace.Header.{Header}
use Rattle.lb_trace.specs.declared.trace.Row.{Row}
use Rattle.lb_trace.specs.Accepted.{is_row}
use Rattle.lb_core.specs.declared.history.TheConstants.{MAX_TICKET}
use Rattle.lb_core.specs.declared.course.Course.{Course}
use Rattle.lb_core.specs.declared.course.Form.{Form}
use Rattle.lb_core.specs.declared.course.Form.TheVariants.{Rest}
use Rattle.lb_core.specs.declared.entry.Entry.{Entry}
use Rattle.lb_core.specs.declared.entry.What.{What}
use Rattle.lb_core.specs.declared.entry.What.TheVariants.{Row as RowEntry}
use Rattle.lb_core.specs.Machine.{MachineState, course_at, sight}
use Rattle.lb_core.specs.OfTrace.{row_of}
use Rattle.lb_core.specs.Ranges.{what_fits, entry_fits}
use Rattle.lb_core.specs.Stage.{draws}
use Rattle.lb_core.proofs.Placing.{form_lets}
use Rattle.lb_ready.specs.Laws.{ReadsInRange, EntryFits}
use Rattle.lb_ready.specs.Next.{IsSerialNext, Takes}
use Rattle.lb_ready.specs.Ready.{IsReady, nice_fits}

-- the row that is given, by reference
copied : (P : Row → Type 0) (row : Option (Bor Row)) → IfSome row (λ r. P r.now) → IfSome (option_copied row) P
copied P None k = tt
copied P (Some r) k = k

given : (h : Header) (row : Option Row) → IfSome row (λ r. is_row h r ≡ true) → (rows : List Row)
    → rows ≡ option_to_list row → list_all (is_row h) rows ≡ true
given h None k rows e = rw e refl
given h (Some r) k rows e = rw e (all_one (is_row h) r k)

-- at rest it is that row, and at work none
rows_fit : (f : Form) (h : Header) (c : Course) (q : QueueState) (row : Option Row) (lane : ℕ) (w : What)
    → draws f h c q lane w ≡ true → IfSome row (λ r. is_row h r ≡ true) → Takes f row lane w
    → list_all (is_row h) (row_of w lane) ≡ true
unfolding draws
rows_fit Rest h c q row lane w d k t = given h row k (row_of w lane) t
rows_fit f h c q row lane (RowEntry n at command) d k t = absurd (let y : ⊥ = cc in y)
rows_fit f h c q row lane w d k t = refl

what_of : (ticket : ℕ) (e : Entry) → entry_fits ticket e ≡ true → what_fits e.what ≡ true
unfolding entry_fits
what_of ticket e h = (and_parts _ (what_fits e.what) h).1

-- the entry that comes next is in range, and so is the nice value of its row
pub drawn_fits : EntryFits → (m : MachineState) (lane : ℕ) (row : Option (Bor Row)) (e : Entry)
    → IsReady m → m.ticket < MAX_TICKET → IfSome row (λ r. is_row m.header r.now ≡ true)
    → IsSerialNext m lane (option_copied row) e → entry_fits (m.ticket + 1) e ≡ true
drawn_fits fits m lane row e k few accepted n =
    let own = n.own in
    let takes : Takes (course_at m.courses e.lane).form (option_copied row) e.lane e.what =
    subst (λ (l : ℕ). Takes (course_at m.courses l).form (option_copied row) l e.what) (sym own) n.takes in
    let rows = rows_fit (course_at m.courses e.lane).form m.header (course_at m.courses e.lane) (sight m e).queue
    (option_copied row) e.lane e.what (form_lets m e n.may).1 (copied (λ r. is_row m.header r ≡ true) row accepted) takes in
    fits m e k few n.may rows

pub drawn_nice : ReadsInRange → EntryFits → (m : MachineState) (lane : ℕ) (row : Option (Bor Row)) (e : Entry)
    → IsReady m → m.ticket < MAX_TICKET → IfSome row (λ r. is_row m.header r.now ≡ true)
    → IsSerialNext m lane (option_copied row) e → nice_fits e.what ≡ true
drawn_nice reads fits m lane row e k few accepted n =
    reads e.what (what_of (m.ticket + 1) e (drawn_fits fits m lane row e k few accepted n))

-- and so is the one that was drawn, if one was
pub each_drawn_fits : EntryFits → (m : MachineState) (lane : ℕ) (row : Option (Bor Row)) (drawn : Option Entry)
    → IsReady m → m.ticket < MAX_TICKET → IfSome row (λ r. is_row m.header r.now ≡ true)
    → IfSome drawn (λ e. IsSerialNext m lane (option_copied row) e) → IfSome drawn (λ e. entry_fits (m.ticket + 1) e ≡ true)
each_drawn_fits fits m lane row None k few accepted n = tt
each_drawn_fits fits m lane row (Some e) k few accepted n = drawn_fits fits m lane row e k few accepted n
