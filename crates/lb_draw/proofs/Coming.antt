-- The entry that a lane draws next may be added, the queue that draws it is there, and what its call asks is met.
-- For `next_entry`, `what_next` and `next_of`.
use Rattle.std.proofs.Common.{arith, ◌≡◌, ℕ, ◌<◌, Bool, true, false, not, ◌||◌, cond, List, length, Option, Some, None, is_some, refl, sym, ◌∙◌, ap, subst, ltb, Bor}
use Rattle.std.specs.Prelude.{IfSome, option_map, unwrap_or}
use Rattle.std.proofs.lemmas.Bool.{lt-ltb}
use Rattle.lb_base.specs.declared.mask.Mask.{Mask}
use Rattle.lb_base.specs.Mask.{has}
use Rattle.lb_base.specs.Sets.{least}
use Rattle.lb_base.proofs.Ranges.{found_at}
use Rattle.lb_queue.specs.Requests.{has_pending}
use Rattle.lb_trace.specs.declared.trace.Command.{Command}
use Rattle.lb_trace.specs.declared.trace.Command.TheVariants.{Wake, Sleep, Exit, SetMask, Nice, Tick, Rebuild}
use Rattle.lb_trace.specs.declared.trace.Row.{Row}
use Rattle.lb_core.specs.declared.course.Course.{Course}
use Rattle.lb_core.specs.declared.course.Form.{Form}
use Rattle.lb_core.specs.declared.course.Form.TheVariants.{Rest, Asked, Flight, Serving, Used, Position, Looked, Landed as LandedForm, Closed, Kicking}
use Rattle.lb_core.specs.declared.entry.Entry.{Entry}
use Rattle.lb_core.specs.declared.entry.FigName.{FigName}
use Rattle.lb_core.specs.declared.entry.Owner.TheVariants.{Lane}
use Rattle.lb_core.specs.declared.entry.What.{What}
use Rattle.lb_core.specs.declared.entry.What.TheVariants.{Turn, Shut}
use Rattle.lb_core.specs.declared.place.Place.{Place}
use Rattle.lb_core.specs.declared.place.Place.TheVariants.{Awake as AwakeAt, Asleep as AsleepAt, Gone as GoneAt, Hand as HandOf}
use Rattle.lb_core.specs.declared.rule.Rule.TheVariants.{Stage, Figure}
use Rattle.lb_core.specs.Course.{ticked_cpu, task_of, is_pull, source_of, looks_again}
use Rattle.lb_core.specs.Sight.{tickless_in}
use Rattle.lb_core.specs.Stage.{target_of}
use Rattle.lb_core.specs.Machine.{MachineState, course_at, queue_at, place_at, sight}
use Rattle.lb_core.specs.Elsewhere.{is_rest, first_pending}
use Rattle.lb_core.specs.Legal.{MayBeAdded}
use Rattle.lb_core.proofs.Unbroken.{unbroken}
use Rattle.lb_ready.specs.Ready.{IsReady, Names, FitsForm, Speaks, unnamed}
use Rattle.lb_ready.specs.Calls.{TrialAsks, TurnAsks, LookAsks, DecideAsks, IsOnAt}
use Rattle.lb_ready.specs.Laws.{NextIsSerial, CallsMayBeTried, LooksMayBeDecided, TasksStand}
use Rattle.lb_ready.specs.Next.{bare, cpu_of_place, cpu_of_task, cpu_next, owner_of, look_over, newest_due, is_answerable, at_rest, drawn, next_in, next_entry, IsSerialNext}
use Rattle.lb_due.specs.Turns.{named_sight}
use Rattle.lb_draw.specs.Dues.{entry_due}

-- ---- what comes next
-- a lane that serves its row draws what its form says
pub goes_on : (f : Form) (row : Option Row) (m : MachineState) (lane : ℕ) (c : Course) → is_rest f ≡ false
    → (f ≡ Asked → is_answerable c.command m ≡ true) → next_in f row m lane c ≡ Some (entry_due f m lane c)
goes_on Rest row m lane c b a = absurd (let y : ⊥ = cc in y)
goes_on Asked row m lane c b a = rw (a refl) refl
goes_on f row m lane c b a = refl

-- it is the entry that comes next
pub next_live : (m : MachineState) (lane : ℕ) (row : Option Row) → m.ended ≡ false → lane < length m.courses
    → next_entry m lane row ≡ next_in (course_at m.courses lane).form row m lane (course_at m.courses lane)
unfolding next_entry
next_live m lane row live lt =
    let there : ltb lane (length m.courses) ≡ true = lt-ltb lane (length m.courses) lt in
    let test : (m.ended || not (ltb lane (length m.courses))) ≡ false = rw (live, there) refl in
    ap (λ (b : Bool). cond b None (next_in (course_at m.courses lane).form row m lane (course_at m.courses lane))) test

pub next_at_rest : (m : MachineState) (lane : ℕ) (row o : Option Row) → m.ended ≡ false → lane < length m.courses
    → (course_at m.courses lane).form ≡ Rest → row ≡ o → at_rest o m lane (course_at m.courses lane) ≡ next_entry m lane row
next_at_rest m lane row o live lt f e =
    let c = course_at m.courses lane in
    sym (next_live m lane row live lt ∙ ap (λ (g : Form). next_in g row m lane c) f ∙ ap
    (λ (x : Option Row). at_rest x m lane c) e)

-- and there is none after the end
pub none_after : (m : MachineState) (lane : ℕ) (row : Option Row) → m.ended ≡ true → None ≡ next_entry m lane row
unfolding next_entry
none_after m lane row over =
    let test : (m.ended || not (ltb lane (length m.courses))) ≡ true = rw over refl in
    sym (ap (λ (b : Bool). cond b None (next_in (course_at m.courses lane).form row m lane (course_at m.courses lane))) test)

-- it is serial
pub drawn_serial : NextIsSerial → (m : MachineState) (lane : ℕ) (row : Option Row) (d : Option Entry) → IsReady m
    → IfSome row (λ r. r.lane ≡ lane) → d ≡ next_entry m lane row → IfSome d (λ e. IsSerialNext m lane row e)
drawn_serial serial m lane row None k own h = tt
drawn_serial serial m lane row (Some e) k own h = serial m lane row e k own (sym h)

pub own_row : (o : Option (Bor Row)) (lane : ℕ) → IfSome o (λ r. r.now.lane ≡ lane)
    → IfSome (option_map (λ r. r.now) o) (λ r. r.lane ≡ lane)
own_row None lane h = tt
own_row (Some r) lane h = h

-- and it may be added
pub may_come : NextIsSerial → (m : MachineState) (lane : ℕ) (f : Form) → IsReady m → m.ended ≡ false
    → lane < length m.courses → (course_at m.courses lane).form ≡ f → is_rest f ≡ false →
    (f ≡ Asked → is_answerable (course_at m.courses lane).command m ≡ true)
    → MayBeAdded m (entry_due f m lane (course_at m.courses lane))
may_come serial m lane f k live lt e busy can =
    let c = course_at m.courses lane in
    let next : next_entry m lane None ≡ Some (entry_due f m lane c) =
    next_live m lane None live lt ∙ ap (λ (g : Form). next_in g None m lane c) e ∙ goes_on f None m lane c busy can in
    (serial m lane None (entry_due f m lane c) k tt next).may

-- ---- the queue that draws
within : (o : Option ℕ) (n : ℕ) → 0 < n → ((k : ℕ) → o ≡ Some k → k < n) → unwrap_or o 0 < n
within None n z h = z
within (Some k) n z h = h k refl

placed_in : (m : MachineState) (t : ℕ) (p : Place) (n : ℕ) → length m.header.cpus ≡ n → IsOnAt m t p → (k : ℕ)
    → cpu_of_place p ≡ Some k → k < n
placed_in m t (AwakeAt cpu) n s on k e = let i : cpu ≡ k = cc in let lt = on.0 in omega arith
placed_in m t (AsleepAt cpu) n s on k e = let i : cpu ≡ k = cc in let lt = on.0 in omega arith
placed_in m t (GoneAt cpu) n s on k e = let i : cpu ≡ k = cc in let lt = on.0 in omega arith
placed_in m t (HandOf lane) n s on k e = absurd (let y : ⊥ = cc in y)

task_in : TasksStand → (m : MachineState) → IsReady m → (t n : ℕ) → t < length m.header.tasks
    → length m.header.cpus ≡ n → 0 < n → unwrap_or (cpu_of_place (place_at m t)) 0 < n
task_in stand m r t n lt s z = within (cpu_of_place (place_at m t)) n z (placed_in m t (place_at m t) n s (stand m t r lt))

command_in : TasksStand → (m : MachineState) → IsReady m → (command : Option Command) (n : ℕ) → Names m.header command
    → length m.header.cpus ≡ n → 0 < n →
    unwrap_or (ticked_cpu command) (unwrap_or (cpu_of_task (task_of command) m) 0) < n
command_in stand m r None n names s z = z
command_in stand m r (Some (Wake t)) n names s z = task_in stand m r t n names s z
command_in stand m r (Some (Sleep t)) n names s z = task_in stand m r t n names s z
command_in stand m r (Some (Exit t)) n names s z = task_in stand m r t n names s z
command_in stand m r (Some (SetMask t mask)) n names s z = task_in stand m r t n names s z
command_in stand m r (Some (Nice t nice)) n names s z = task_in stand m r t n names.0 s z
command_in stand m r (Some (Tick cpu)) n names s z = omega (arith, names)
command_in stand m r (Some (Rebuild parts)) n names s z = z

pulled_in : (b : Bool) (source cpu n : ℕ) → source < n → cpu < n → cond b source cpu < n
pulled_in true source cpu n s t = s
pulled_in false source cpu n s t = t

target_in : (o : Option ℕ) (rest n : ℕ) → is_some o ≡ true → ((k : ℕ) → o ≡ Some k → k < n) → unwrap_or o rest < n
target_in None rest n s h = absurd (let y : ⊥ = cc in y)
target_in (Some k) rest n s h = h k refl

least_has : (mask : Mask) (k : ℕ) → least mask ≡ Some k → has mask k ≡ true
unfolding least
least_has mask k e = (found_at (has mask) 64 k e).1

first_in : (m : MachineState) (k : ℕ) → first_pending m ≡ Some k → k < length m.queues
unfolding first_pending
first_in m k e = (found_at (λ cpu. has_pending (queue_at m.queues cpu)) (length m.queues) k e).0

pub queue_there : TasksStand → (m : MachineState) (lane : ℕ) (f : Form) → IsReady m
    → (course_at m.courses lane).form ≡ f → cpu_next f m (course_at m.courses lane) < length m.queues
queue_there stand m lane f r e = by_form f (subst (λ (g : Form). FitsForm m.ended m.header g (unnamed c)) e (r.fits lane).form)
  where
    c : Course
    c = course_at m.courses lane

    says : Speaks m.header m.ticket c
    says = (r.fits lane).says

    same : length m.header.cpus ≡ length m.queues
    same = sym r.sizes.queues

    turned : c.cpu < length m.queues
    turned = let t = says.turned in let s = same in omega arith

    some : 0 < length m.queues
    some = let t = turned in omega arith

    by_form : (g : Form) → FitsForm m.ended m.header g (unnamed c) → cpu_next g m c < length m.queues
    by_form Rest h = within (first_pending m) (length m.queues) some (first_in m)
    by_form Asked h = command_in stand m r c.command (length m.queues) says.names same some
    by_form Flight h = let s = same in omega (arith, h)
    by_form Serving h = command_in stand m r c.command (length m.queues) says.names same some
    by_form Looked h = pulled_in (is_pull c.decision) (source_of c.decision) c.cpu (length m.queues)
        (let s = same in let p = says.pulled in omega arith) turned
    by_form Closed h = let s = same in let p = says.pulled in omega arith
    by_form Kicking h = target_in (target_of c) _ (length m.queues) h
        (λ k i. let s = same in let t = says.tickless k (least_has (tickless_in c.figures) k i) in omega arith)
    by_form g h = turned

-- ---- what the calls ask
turn_with : (m : MachineState) (lane cpu : ℕ) (b : Bool) (ps : Mask)
    → TrialAsks (cond b Shut (Turn ps)) (sight m
    (drawn m lane (owner_of (cond b Shut (Turn ps)) lane cpu) (cond b Shut (Turn ps)))) →
    TurnAsks (bare m (course_at m.courses lane) (queue_at m.queues cpu))
unfolding sight
turn_with m lane cpu true ps t = record { few = t.few; in_order = t.in_order; fit = t.fit }
turn_with m lane cpu false ps t = record { few = t.few; in_order = t.in_order; fit = t.fit }

pub turn_asks : NextIsSerial → CallsMayBeTried → (m : MachineState) (lane : ℕ) → IsReady m → m.ended ≡ false
    → lane < length m.courses → (course_at m.courses lane).form ≡ Used →
    TurnAsks (bare m (course_at m.courses lane) (queue_at m.queues (cpu_next Used m (course_at m.courses lane))))
turn_asks serial tried m lane r live lt e =
    let x = entry_due Used m lane (course_at m.courses lane) in
    let may = may_come serial m lane Used r live lt e refl (λ a. absurd (let y : ⊥ = cc in y)) in
    turn_with m lane (cpu_next Used m (course_at m.courses lane)) _ _ (tried m x r (unbroken m x may Stage))

look_with : (m : MachineState) (lane : ℕ) (names : List FigName)
    → LookAsks (look_over m (course_at m.courses lane) names)
    (sight m (drawn m lane (Lane lane) (look_over m (course_at m.courses lane) names))) →
    DecideAsks (named_sight m (course_at m.courses lane) names)
unfolding sight
look_with m lane names t = record {
  count = t.count;
  union = t.union;
  local = t.local;
  kept = t.kept;
  figures = t.figures;
  named = t.named;
  sums = t.sums;
}

pub look_asks : NextIsSerial → LooksMayBeDecided → (m : MachineState) (lane : ℕ) → IsReady m → m.ended ≡ false
    → lane < length m.courses → (course_at m.courses lane).form ≡ Position →
    DecideAsks (named_sight m (course_at m.courses lane) (newest_due Position m (course_at m.courses lane)))
look_asks serial looks m lane r live lt e =
    let x = entry_due Position m lane (course_at m.courses lane) in
    let may = may_come serial m lane Position r live lt e refl (λ a. absurd (let y : ⊥ = cc in y)) in
    look_with m lane _ (looks m x r (unbroken m x may Stage) (unbroken m x may Figure))

again_with : (m : MachineState) (lane cpu : ℕ) (b : Bool) (names : List FigName) (w : What) → b ≡ true →
    LookAsks (cond b (look_over m (course_at m.courses lane) names) w)
    (sight m (drawn m lane (owner_of (cond b (look_over m (course_at m.courses lane) names) w) lane cpu)
    (cond b (look_over m (course_at m.courses lane) names) w))) →
    DecideAsks (named_sight m (course_at m.courses lane) names)
again_with m lane cpu true names w h t = look_with m lane names t
again_with m lane cpu false names w h t = absurd (let y : ⊥ = cc in y)

pub again_asks : NextIsSerial → LooksMayBeDecided → (m : MachineState) (lane : ℕ) → IsReady m → m.ended ≡ false
    → lane < length m.courses → (course_at m.courses lane).form ≡ LandedForm →
    looks_again m.header (course_at m.courses lane) ≡ true
    → DecideAsks (named_sight m (course_at m.courses lane) (newest_due LandedForm m (course_at m.courses lane)))
again_asks serial looks m lane r live lt e h =
    let x = entry_due LandedForm m lane (course_at m.courses lane) in
    let may = may_come serial m lane LandedForm r live lt e refl (λ a. absurd (let y : ⊥ = cc in y)) in
    again_with m lane (cpu_next LandedForm m (course_at m.courses lane)) _ _ _ h
    (looks m x r (unbroken m x may Stage) (unbroken m x may Figure))

-- ---- over the course of the lane
of_lane : (m : MachineState) (lane : ℕ) (c : Course) (f : Form) → c ≡ course_at m.courses lane → c.form ≡ f
    → (course_at m.courses lane).form ≡ f
of_lane m lane c f e i = ap (λ (k : Course). k.form) (sym e) ∙ i

pub drawn_there : TasksStand → (m : MachineState) (lane cpu : ℕ) (c : Course) → IsReady m
    → c ≡ course_at m.courses lane → cpu ≡ cpu_next c.form m c → cpu < length m.queues
drawn_there stand m lane cpu c r e i =
    subst (λ (n : ℕ). n < length m.queues) (sym (i ∙ ap (λ (k : Course). cpu_next k.form m k) e))
    (queue_there stand m lane (course_at m.courses lane).form r refl)

pub opening_asks : NextIsSerial → CallsMayBeTried → (m : MachineState) (lane cpu : ℕ) (c : Course) → IsReady m
    → m.ended ≡ false → lane < length m.courses → c ≡ course_at m.courses lane → cpu ≡ cpu_next c.form m c → c.form ≡ Used →
    TurnAsks (bare m c (queue_at m.queues cpu))
opening_asks serial tried m lane cpu c r live lt e i f =
    let n : cpu ≡ cpu_next Used m (course_at m.courses lane) =
    i ∙ ap (λ (g : Form). cpu_next g m c) f ∙ ap (λ (k : Course). cpu_next Used m k) e in
    subst (λ (k : Course). TurnAsks (bare m k (queue_at m.queues cpu))) (sym e)
    (subst (λ (k : ℕ). TurnAsks (bare m (course_at m.courses lane) (queue_at m.queues k))) (sym n)
    (turn_asks serial tried m lane r live lt (of_lane m lane c Used e f)))

pub looking_asks : NextIsSerial → LooksMayBeDecided → (m : MachineState) (lane : ℕ) (c : Course) → IsReady m
    → m.ended ≡ false → lane < length m.courses → c ≡ course_at m.courses lane → c.form ≡ Position →
    DecideAsks (named_sight m c (newest_due c.form m c))
looking_asks serial looks m lane c r live lt e f =
    let i = of_lane m lane c Position e f in
    subst (λ (k : Course). DecideAsks (named_sight m k (newest_due k.form m k))) (sym e)
    (subst (λ (g : Form). DecideAsks (named_sight m (course_at m.courses lane)
    (newest_due g m (course_at m.courses lane)))) (sym i) (look_asks serial looks m lane r live lt i))

pub landed_asks : NextIsSerial → LooksMayBeDecided → (m : MachineState) (lane : ℕ) (c : Course) → IsReady m
    → m.ended ≡ false → lane < length m.courses → c ≡ course_at m.courses lane → c.form ≡ LandedForm →
    looks_again m.header c ≡ true → DecideAsks (named_sight m c (newest_due LandedForm m c))
landed_asks serial looks m lane c r live lt e f =
    subst (λ (k : Course). looks_again m.header k ≡ true → DecideAsks (named_sight m k (newest_due LandedForm m k)))
    (sym e) (again_asks serial looks m lane r live lt (of_lane m lane c LandedForm e f))
