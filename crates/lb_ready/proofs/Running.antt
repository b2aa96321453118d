-- A serial run is never stuck: a lane that serves a row goes on, and where all lanes rest a row is taken
-- up, or the history is closed. So every accepted trace has a serial history: the entries that are due are
-- drawn until none is left.
-- For the law `serial_runs`.
use Rattle.std.proofs.Common.{cond, arith, ◌≡◌, ℕ, suc, ◌+◌, ◌<◌, Bool, true, false, List, [], ◌∷◌, length, Option, Some, None, is_some, is_none, refl, sym, ◌∙◌, ap, subst, ltb, inl, inr, ◌⊎◌, zero, not, ◌==◌, ◌++◌, get_or, replicate, set, add-one, length-set, get_or-set_same, get_or-set_other}
use Rattle.std.specs.List.{list_all}
use Rattle.std.specs.Prelude.{unwrap_or}
use Rattle.std.proofs.lemmas.Bool.{and_parts, and_from, ltb-true, cases_lt, cases_eq, eq-eqb, not-true}
use Rattle.std.proofs.lemmas.List.{get_or-replicate, length-replicate, get_or_past}
use Rattle.std.specs.Prelude.{◌↔◌}
use Rattle.lb_base.specs.declared.mask.Mask.{Mask}
use Rattle.lb_levels.specs.Faults.{parts_fault_of, ArePartition}
use Rattle.lb_trace.specs.declared.trace.Command.{Command}
use Rattle.lb_trace.specs.declared.trace.Command.TheVariants.{Wake, Sleep, Exit, SetMask, Nice, Tick, Rebuild}
use Rattle.lb_trace.specs.declared.trace.Header.{Header}
use Rattle.lb_trace.specs.declared.trace.Row.{Row}
use Rattle.lb_trace.specs.declared.trace.Trace.{Trace}
use Rattle.lb_trace.specs.Accepted.{is_command, is_nice_value, is_row, both_tick, agree, ticks_agree, IsTrace}
use Rattle.lb_queue.specs.Queue.{QueueState}
use Rattle.lb_queue.specs.Requests.{has_pending, has_owed, next_stop}
use Rattle.lb_queue.specs.Laws.{AskedIsNext}
use Rattle.lb_queue.proofs.Every.{all_weaker}
use Rattle.lb_core.specs.declared.course.Course.{Course}
use Rattle.lb_core.specs.declared.course.Form.{Form}
use Rattle.lb_core.specs.declared.course.Form.TheVariants.{Rest, Asked, Flight, Serving}
use Rattle.lb_core.specs.declared.entry.Owner.{Owner}
use Rattle.lb_core.specs.declared.entry.Owner.TheVariants.{Lane, Queue}
use Rattle.lb_core.specs.declared.entry.What.{What}
use Rattle.lb_core.specs.declared.entry.What.TheVariants.{Row as RowEntry, End, Out}
use Rattle.lb_core.specs.declared.rule.Rule.TheVariants.{Stage, Row as RowRule, Owed, End as EndRule}
use Rattle.lb_core.specs.declared.entry.Entry.{Entry}
use Rattle.lb_core.specs.Stage.{draws}
use Rattle.lb_core.specs.Leaving.{Leaving, stop_out, out_by}
use Rattle.lb_core.specs.Rules.{is_undeclared}
use Rattle.lb_core.specs.Elsewhere.{is_rest, all_rest, first_pending, is_first_pending, unserved, is_another, ticked_elsewhere}
use Rattle.lb_core.specs.Machine.{MachineState, queue_at, course_at, no_course, start, sight}
use Rattle.lb_core.specs.Legal.{MayBeAdded, MayFollow, run}
use Rattle.lb_core.specs.Step.{ended_after, after, closing_after, ticked_after}
use Rattle.lb_core.specs.OfTrace.{row_of, rows_drawn, of_lane}
use Rattle.lb_core.specs.Serial.{is_serial, AreSerial}
use Rattle.lb_core.specs.Placed.{is_flight, IsPlaced}
use Rattle.lb_ready.specs.Ready.{Names, FitsForm, Fits, ServesIn, IsReady, unnamed, nice_fits}
use Rattle.lb_ready.specs.Laws.{is_at_rest, OthersRest, GoesOn, ServiceGoesOn, RowsAreTaken, ClosingGoesOn, TracesHaveRuns, OpensReady, StaysReady, EntriesFall}
use Rattle.lb_ready.specs.Left.{rows_before, entries_left}
use Rattle.lb_ready.proofs.Counting.{found_in}
use Rattle.lb_ready.proofs.Due.{Keeps, drawn_by, each_kept, may_be_added, not_not, or_none, Next, Knows, stage_by, same, out_goes}
use Rattle.lb_ready.proofs.Going.{at_a_queue, next_goes}
use Rattle.lb_ready.specs.Next.{row_by, cpu_next, queue_next, owner_of, out_of, what_next, is_answerable}
use Rattle.lb_ready.proofs.Changes.{course_elsewhere}
use Rattle.lb_ready.proofs.Keeping.{opening_course_at}

-- ---- a lane that serves a row
-- what is known of a lane
knows : AskedIsNext → (m : MachineState) (lane : ℕ) → IsReady m → Knows m (course_at m.courses lane)
knows asked m lane k = record { asked = asked; sizes = k.sizes; says = (k.fits lane).says; named = k.named lane }

rest_flies_not : (f : Form) → is_rest f ≡ true → is_flight f ≡ false
rest_flies_not Rest h = refl
rest_flies_not f h = absurd (let y : ⊥ = cc in y)

-- only this lane can hold tasks or serve a tick, and it does neither
serves_not : (f : Form) (c : Course) (cpu : ℕ) → is_rest f ≡ true → ServesIn f c cpu → ⊥
serves_not Rest c cpu h s = s
serves_not f c cpu h s = let y : ⊥ = cc in y

asks_not : (f : Form) (c : Course) (cpu : ℕ) → f ≡ Asked → ServesIn f c cpu → ⊥
asks_not Serving c cpu h s = let y : ⊥ = cc in y
asks_not Flight c cpu h s = let y : ⊥ = cc in y
asks_not f c cpu h s = s

hands_empty : (m : MachineState) (lane : ℕ) → IsReady m → OthersRest m lane → (course_at m.courses lane).form ≡ Asked
    → (l : ℕ) → (course_at m.courses l).hand ≡ []
hands_empty m lane k others f l = elim (cases_eq l lane) [
  | inl e ↦ k.hands l (let g : (course_at m.courses l).form ≡ Asked = rw e f in rw g refl)
  | inr n ↦ k.hands l (rest_flies_not _ (others l n))
]

nothing_owed : (m : MachineState) (lane : ℕ) → IsReady m → OthersRest m lane → (course_at m.courses lane).form ≡ Asked
    → (cpu : ℕ) → has_owed (queue_at m.queues cpu) ≡ false
nothing_owed m lane k others f cpu = by_test (has_owed (queue_at m.queues cpu)) refl
  where
    by_test : (b : Bool) → has_owed (queue_at m.queues cpu) ≡ b → has_owed (queue_at m.queues cpu) ≡ false
    by_test true e =
        let s = k.owed cpu e in
        elim (cases_eq s.lane lane) [
          | inl i ↦ absurd (asks_not _ _ cpu (let g : (course_at m.courses s.lane).form ≡ Asked = rw i f in g) s.serves)
          | inr n ↦ absurd (serves_not _ _ cpu (others s.lane n) s.serves)
        ]
    by_test false e = e

-- a lane that does not rest is one of the machine
lane_inside : (m : MachineState) (lane : ℕ) → is_at_rest m lane ≡ false → lane < length m.courses
lane_inside m lane b = elim (cases_lt lane (length m.courses)) [
  | inl lt ↦ lt
  | inr ge ↦ let e : is_at_rest m lane ≡ true =
      ap (λ (c : Course). is_rest c.form) (get_or_past m.courses lane no_course ge) in absurd (let y : ⊥ = cc in y)
]

-- it may be added, where the lane's command can be answered
pub next_may : (m : MachineState) (lane : ℕ) → AskedIsNext → IsReady m → m.ended ≡ false → is_at_rest m lane ≡ false
    → ((course_at m.courses lane).form ≡ Asked → is_answerable (course_at m.courses lane).command m ≡ true)
    → Next (course_at m.courses lane).form m lane (course_at m.courses lane)
next_may m lane asked k live busy can =
    let fit = subst (λ (b : Bool). Fits b m.header m.ticket (course_at m.courses lane)) live (k.fits lane) in
    next_goes (course_at m.courses lane).form m lane (course_at m.courses lane) busy (knows asked m lane k) k.placed fit.form can

-- a command that names what is declared is answered where no task is in a hand and no stop is owed
answerable : (m : MachineState) (command : Option Command) → IsPlaced m
    → ((l : ℕ) → (course_at m.courses l).hand ≡ []) → ((cpu : ℕ) → has_owed (queue_at m.queues cpu) ≡ false)
    → Names m.header command → is_some command ≡ true → is_answerable command m ≡ true
answerable m None placed empty calm n h = absurd (let y : ⊥ = cc in y)
answerable m (Some (Wake t)) placed empty calm n h = rw (at_a_queue m t placed empty n) refl
answerable m (Some (Sleep t)) placed empty calm n h = rw (at_a_queue m t placed empty n) refl
answerable m (Some (Exit t)) placed empty calm n h = rw (at_a_queue m t placed empty n) refl
answerable m (Some (SetMask t mask)) placed empty calm n h = rw (at_a_queue m t placed empty n) refl
answerable m (Some (Nice t nice)) placed empty calm n h = rw (at_a_queue m t placed empty n.0) refl
answerable m (Some (Tick cpu)) placed empty calm n h = rw (calm cpu) refl
answerable m (Some (Rebuild parts)) placed empty calm n h = refl

asked_some : (f : Form) (ended : Bool) (h : Header) (c : Course) → f ≡ Asked → FitsForm ended h f c → is_some c.command ≡ true
asked_some Asked ended h c e k = k
asked_some f ended h c e k = absurd (let y : ⊥ = cc in y)

pub service_goes_on : AskedIsNext → ServiceGoesOn
service_goes_on asked m lane k live busy others =
    let c = course_at m.courses lane in
    let n = next_may m lane asked k live busy
    (λ f. answerable m c.command k.placed (hands_empty m lane k others f) (nothing_owed m lane k others f)
    (k.fits lane).says.names (asked_some c.form m.ended m.header (unnamed c) f (k.fits lane).form)) in (
      record {
        entry = drawn_by m lane (owner_of (what_next c.form m c) lane (cpu_next c.form m c)) (what_next c.form m c);
        own = refl;
        may = may_be_added m _ (each_kept m lane _ _ (lane_inside m lane busy) live n.keeps);
        serial = n.serial;
        rowless = n.rowless;
        nice = n.nice;
      },
      n.lives,
    )

-- ---- a row
-- what a partition is, by the law of its faults
abbrev pub PartitionLaw : Type 0
PartitionLaw = (cpus : ℕ) (parts : List Mask) → (parts_fault_of cpus parts ≡ None) ↔ ArePartition cpus parts

is_declared : PartitionLaw → (h : Header) (command : Command) → is_command h command ≡ true → is_undeclared h command ≡ false
is_declared law h (Wake t) c = rw c refl
is_declared law h (Sleep t) c = rw c refl
is_declared law h (Exit t) c = rw c refl
is_declared law h (SetMask t mask) c = rw ((and_parts (ltb t (length h.tasks)) _ c).0) refl
is_declared law h (Nice t nice) c = rw ((and_parts (ltb t (length h.tasks)) _ c).0) refl
is_declared law h (Tick cpu) c = rw c refl
is_declared law h (Rebuild parts) c =
    let p = (law (length h.cpus) parts).0 (none_is (parts_fault_of (length h.cpus) parts) ((and_parts _ _ c).1)) in
    rw (p.below, p.apart) refl
  where
    none_is : {A : Type 0} (o : Option A) → is_none o ≡ true → o ≡ None
    none_is None e = refl
    none_is (Some x) e = absurd (let y : ⊥ = cc in y)

pub rest_is : (f : Form) → is_rest f ≡ true → f ≡ Rest
rest_is Rest h = refl
rest_is f h = absurd (let y : ⊥ = cc in y)

all_at : (cs : List Course) → ((l : ℕ) → is_rest (course_at cs l).form ≡ true)
    → list_all (λ (c : Course). is_rest c.form) cs ≡ true
all_at [] h = refl
all_at (c ∷ cs) h = and_from (is_rest c.form) _ (h 0) (all_at cs (λ l. h (suc l)))

-- an entry of a lane at rest
at_rest : (m : MachineState) (lane : ℕ) (o : Owner) (w : What) → lane < length m.courses → m.ended ≡ false
    → is_at_rest m lane ≡ true → Keeps Rest m lane (course_at m.courses lane) o w → MayBeAdded m (drawn_by m lane o w)
at_rest m lane o w lt live r k =
    let f = rest_is (course_at m.courses lane).form r in
    may_be_added m (drawn_by m lane o w)
    (each_kept m lane o w lt live (subst (λ (x : Form). Keeps x m lane (course_at m.courses lane) o w) (sym f) k))

-- a lane at rest may take up a row that names what is declared and ticks no CPU of another lane
pub row_keeps : (m : MachineState) (lane : ℕ) (row : Row) → m.closing ≡ false
    → is_undeclared m.header row.command ≡ false → ticked_elsewhere m lane
    (row_by m lane (course_at m.courses lane) row) ≡ false →
    Keeps Rest m lane (course_at m.courses lane) (Lane lane) (row_by m lane (course_at m.courses lane) row)
unfolding draws
row_keeps m lane row begun declared free = keeps
  where
    keeps : Keeps Rest m lane (course_at m.courses lane) (Lane lane)
        (RowEntry ((course_at m.courses lane).rows + 1) row.at row.command)
    keeps Stage = stage_by _ _ _ _ _ (same lane) refl refl begun refl
    keeps RowRule = or_none _ _ (or_none _ _ (not_not _ (same ((course_at m.courses lane).rows + 1))) declared) free
    keeps r = refl

pub rows_are_taken : PartitionLaw → RowsAreTaken
rows_are_taken law m row k live begun rest accepted free =
    let p = and_parts _ _ accepted in
    let q = and_parts (ltb row.lane m.header.lanes) _ p.0 in
    let lt : row.lane < length m.courses = let a = ltb-true row.lane m.header.lanes q.0 in let s = k.sizes.courses in
    omega arith in (
      at_rest m row.lane (Lane row.lane) _ lt live (rest row.lane)
          (row_keeps m row.lane row begun (is_declared law m.header row.command p.1) free),
      all_at m.courses rest,
    )

-- ---- the closing
pending_there : AskedIsNext → (q : QueueState) → has_pending q ≡ true → is_some (next_stop q false) ≡ true
pending_there asked q h = asked q false ∙ h

stop_there : (o : Option _) (at : ℕ) (q : QueueState) → is_some o ≡ true → is_some (stop_out o at q) ≡ true
stop_there None at q h = absurd (let y : ⊥ = cc in y)
stop_there (Some s) at q h = refl

-- a stop of the first queue that has one pending, or the end
abbrev closing : MachineState → Option ℕ → Type 0
closing m o =
    let c = course_at m.courses 0 in
    let cpu = unwrap_or o 0 in
    let w = cond (is_some o) (out_of (out_by Rest m.header c (queue_at m.queues cpu))) (End (unserved m)) in
    Keeps Rest m 0 c (owner_of w 0 cpu) w

-- what lane 0 draws where all rest
pub closes : AskedIsNext → (m : MachineState) → IsReady m → all_rest m ≡ true
    → Keeps Rest m 0 (course_at m.courses 0) (owner_of (what_next Rest m (course_at m.courses 0)) 0
    (cpu_next Rest m (course_at m.courses 0))) (what_next Rest m (course_at m.courses 0))
unfolding draws first_pending
closes asked m k all = by_pending (first_pending m) refl
  where
    by_pending : (o : Option ℕ) → first_pending m ≡ o → closing m (first_pending m)
    by_pending None e = subst (closing m) (sym e) ends
      where
        ends : Keeps Rest m 0 (course_at m.courses 0) (Lane 0) (End (unserved m))
        ends Stage = stage_by _ _ _ _ _ refl refl refl (not_not _ all) refl
        ends Owed = or_none false (is_some (first_pending m)) refl (rw e refl)
        ends EndRule = not_not _ (same (unserved m).bits)
        ends r = refl
    by_pending (Some cpu) e =
        let f = found_in (λ cpu. has_pending (queue_at m.queues cpu)) 0 (length m.queues) cpu e in
        let lt : cpu < length m.header.cpus = let s = k.sizes.queues in let u = f.2 in omega arith in
        let q = queue_at m.queues cpu in
        let c = course_at m.courses 0 in
        let first : is_first_pending (first_pending m) (Queue cpu) ≡ true = rw e (same cpu) in
        let n = out_goes Rest m 0 c cpu (knows asked m 0 k) lt
        (stop_there (next_stop q false) c.at q (pending_there asked q f.0)) refl (λ l. refl)
        (λ l. or_none _ _ (not_not _ all) (not_not _ first)) (λ l. refl) in
        subst (closing m) (sym e) n.keeps

-- it takes up no row
pub closing_rowless : (m : MachineState) → (b : Bool) (o : Option Leaving) (l : ℕ)
    → row_of (cond b (out_of o) (End (unserved m))) l ≡ []
closing_rowless m true None l = refl
closing_rowless m true (Some x) l = refl
closing_rowless m false o l = refl

pub closing_serial : (m : MachineState) → (b : Bool) (o : Option Leaving)
    → (is_serial m (cond b (out_of o) (End (unserved m))) ≡ true) × (nice_fits (cond b (out_of o) (End (unserved m))) ≡ true)
closing_serial m true None = (refl, refl)
closing_serial m true (Some x) = (refl, refl)
closing_serial m false o = (refl, refl)

pub closing_goes_on : AskedIsNext → ClosingGoesOn
closing_goes_on asked m k live rest =
    let c = course_at m.courses 0 in
    let lane_there : 0 < length m.courses = let s = k.sizes.courses in let a = k.accepted.some_lane in omega arith in
    let all : all_rest m ≡ true = all_at m.courses rest in
    let w = what_next Rest m c in
    let o = out_by Rest m.header c (queue_next Rest m c) in
    let said = closing_serial m (is_some (first_pending m)) o in
    record {
      entry = drawn_by m 0 (owner_of w 0 (cpu_next Rest m c)) w;
      own = refl;
      may = at_rest m 0 (owner_of w 0 (cpu_next Rest m c)) w lane_there live (rest 0) (closes asked m k all);
      serial = said.0;
      rowless = closing_rowless m (is_some (first_pending m)) o;
      nice = said.1;
    }

-- ---- laws
-- what a run stands on
pub record RunLaws : Type 0 where
  pub partition : PartitionLaw
  pub asked : AskedIsNext
  pub opens : OpensReady
  pub stays : StaysReady
  pub falls : EntriesFall

-- ---- the rows that are still to come
-- no row ticks a CPU that another lane ticked
abbrev ticks_another : List (Option ℕ) → ℕ → Command → Bool
ticks_another ticked lane (Tick cpu) = is_another (get_or ticked cpu None) lane
ticks_another ticked lane command = false

abbrev is_free : List (Option ℕ) → Row → Bool
is_free ticked r = not (ticks_another ticked r.lane r.command)

pub record RowsFit (h : Header) (ticked : List (Option ℕ)) (rows : List Row) : Type 0 where
  pub each : list_all (is_row h) rows ≡ true
  pub free : list_all (is_free ticked) rows ≡ true
  pub agree : ticks_agree rows ≡ true

free_row : (m : MachineState) (r : Row) (n : ℕ) → is_free m.ticked r ≡ true → ticked_elsewhere m r.lane
    (RowEntry n r.at r.command) ≡ false
free_row m r n h = by_command r.command (not-true _ h)
  where
    by_command : (command : Command) → ticks_another m.ticked r.lane command ≡ false
        → ticked_elsewhere m r.lane (RowEntry n r.at command) ≡ false
    by_command (Tick cpu) h = h
    by_command command h = refl

-- after a row of a lane, which those to come agree with
still_free : (ticked : List (Option ℕ)) (lane n at : ℕ) (command : Command) (r s : Row) → r.lane ≡ lane
    → r.command ≡ command → agree r s ≡ true → is_free ticked s ≡ true
    → is_free (ticked_after (RowEntry n at command) lane ticked) s ≡ true
still_free ticked lane n at (Tick cpu) r s l e a f = by_command s.command refl f
  where
    by_command : (other : Command) → s.command ≡ other → not (ticks_another ticked s.lane other) ≡ true
        → not (ticks_another (set ticked cpu (Some lane)) s.lane other) ≡ true
    by_command (Tick u) o f = elim (cases_eq u cpu) [
      | inl i ↦ elim (cases_lt cpu (length ticked)) [
        | inl lt ↦
            let k : get_or (set ticked cpu (Some lane)) u None ≡ Some lane = rw i
            (get_or-set_same ticked cpu (Some lane) None lt) in
            let b : both_tick r.command s.command ≡ true = rw (e, o) (eq-eqb u cpu i) in
            let d : (r.lane == s.lane) ≡ true = rw b at a in
            rw (k, ← l, d) refl
        | inr ge ↦ let k : get_or (set ticked cpu (Some lane)) u None ≡ None =
            get_or_past (set ticked cpu (Some lane)) u None (let z = length-set ticked cpu (Some lane) in omega arith)
            in rw k refl
      ]
      | inr n ↦ rw (get_or-set_other ticked cpu u (Some lane) None n) f
    ]
    by_command other o f = refl
still_free ticked lane n at command r s l e a f = f

all_free_after : (ticked : List (Option ℕ)) (r : Row) (n : ℕ) (rows : List Row) → list_all (agree r) rows ≡ true
    → list_all (is_free ticked) rows ≡ true
    → list_all (is_free (ticked_after (RowEntry n r.at r.command) r.lane ticked)) rows ≡ true
all_free_after ticked r n [] a f = refl
all_free_after ticked r n (s ∷ rows) a f =
    let x = and_parts (agree r s) _ a in
    let y = and_parts (is_free ticked s) _ f in
    and_from (is_free (ticked_after (RowEntry n r.at r.command) r.lane ticked) s) _
    (still_free ticked r.lane n r.at r.command r s refl refl x.0 y.0) (all_free_after ticked r n rows x.1 y.1)

fewer_rows : (h : Header) (ticked : List (Option ℕ)) (r : Row) (n : ℕ) (rows : List Row) → RowsFit h ticked (r ∷ rows)
    → RowsFit h (ticked_after (RowEntry n r.at r.command) r.lane ticked) rows
fewer_rows h ticked r n rows k =
    let a = and_parts (list_all (agree r) (r ∷ rows)) _ k.agree in
    record {
      each = (and_parts (is_row h r) _ k.each).1;
      free = all_free_after ticked r n rows ((and_parts (agree r r) _ a.0).1) ((and_parts (is_free ticked r) _ k.free).1);
      agree = all_weaker (λ s. list_all (agree s) (r ∷ rows)) (λ s. list_all (agree s) rows)
          (λ s y. (and_parts (agree s r) _ y).1) rows a.1;
    }

-- ---- one entry more
row_nice : (h : Header) (r : Row) (n : ℕ) → is_row h r ≡ true → nice_fits (RowEntry n r.at r.command) ≡ true
row_nice h r n a = by_command r.command ((and_parts _ _ a).1)
  where
    by_command : (command : Command) → is_command h command ≡ true → nice_fits (RowEntry n r.at command) ≡ true
    by_command (Nice t nice) c = (and_parts _ (is_nice_value nice) c).1
    by_command command c = refl

same_ticks : (w : What) (lane : ℕ) (ticked : List (Option ℕ)) → ((l : ℕ) → row_of w l ≡ []) → ticked_after w lane ticked ≡ ticked
same_ticks (RowEntry n at command) lane ticked h = absurd (let k = h 0 in let y : ⊥ = cc in y)
same_ticks w lane ticked h = refl

same_rows : (w : What) (rows : ℕ) → ((l : ℕ) → row_of w l ≡ []) → rows_before w rows ≡ rows
same_rows (RowEntry n at command) rows h = absurd (let k = h 0 in let y : ⊥ = cc in y)
same_rows w rows h = refl

same_closing : (w : What) (f : Form) (b : Bool) → is_rest f ≡ false → closing_after w f b ≡ b
same_closing (Out cause to tasks) Rest b h = absurd (let y : ⊥ = cc in y)
same_closing (Out cause to tasks) f b h = refl
same_closing w f b h = refl

-- the entries from here on, up to the end
pub record Rest_of (m : MachineState) (rows : List Row) : Type 0 where
  pub entries : List Entry
  pub legal : MayFollow entries m
  pub serial : AreSerial entries m
  pub ended : (run entries m).ended ≡ true
  pub drawn : rows_drawn entries ≡ rows

before : (m : MachineState) (e : Entry) (rows : List Row) → MayBeAdded m e → is_serial m e.what ≡ true
    → (rest : Rest_of (after m e) rows) → Rest_of m (row_of e.what e.lane ++ rows)
before m e rows h s rest = record {
  entries = e ∷ rest.entries;
  legal = (h, rest.legal);
  serial = (s, rest.serial);
  ended = rest.ended;
  drawn = ap (λ (rs : List Row). row_of e.what e.lane ++ rs) rest.drawn;
}

-- what the run keeps: one lane alone may be busy, and rows to come can be taken up
pub record IsRunning (m : MachineState) (lane : ℕ) (rows : List Row) : Type 0 where
  pub ready : IsReady m
  pub live : m.ended ≡ false
  pub others : OthersRest m lane
  pub fit : RowsFit m.header m.ticked rows
  pub begun : (rows ≡ []) ⊎ (m.closing ≡ false)

others_rest : (m : MachineState) (e : Entry) (lane : ℕ) → e.lane ≡ lane → OthersRest m lane → OthersRest (after m e) lane
others_rest m e lane own others l n = rw (course_elsewhere m e l (λ i. n (i ∙ own))) (others l n)

abbrev AllRest : MachineState → Type 0
AllRest m = (l : ℕ) → is_at_rest m l ≡ true

all_from : (m : MachineState) (lane : ℕ) → is_at_rest m lane ≡ true → OthersRest m lane → (l : ℕ) → is_at_rest m l ≡ true
all_from m lane r others l = elim (cases_eq l lane) [ inl e ↦ rw e r | inr n ↦ others l n ]

-- the run goes on, where so many entries are left at most
abbrev Goes : ℕ → Type 0
Goes k = (m : MachineState) (lane : ℕ) (rows : List Row) → entries_left (length rows) m < k → IsRunning m lane rows
    → Rest_of m rows

-- after an entry that takes up no row
after_rowless : (laws : RunLaws) → (k : ℕ) → Goes k → (m : MachineState) (lane : ℕ) (rows : List Row)
    → entries_left (length rows) m < suc k → IsReady m → RowsFit m.header m.ticked rows → OthersRest m lane
    → (g : GoesOn m lane) →
    (after m g.entry).ended ≡ false → (rows ≡ []) ⊎ ((after m g.entry).closing ≡ false) → Rest_of m rows
unfolding after
after_rowless laws k go m lane rows lt ready fit others g live begun =
    let e = g.entry in
    let fall = laws.falls m e (length rows) ready g.may in
    let as_many : rows_before e.what (length rows) ≡ length rows = same_rows e.what (length rows) g.rowless in
    let less : entries_left (length rows) (after m e) < entries_left (length rows) m =
    subst (λ (n : ℕ). entries_left (length rows) (after m e) < entries_left n m) as_many fall in
    let rest = go (after m e) lane rows (omega arith) (record {
      ready = laws.stays m e ready g.may g.nice;
      live = live;
      others = others_rest m e lane g.own others;
      fit = subst (λ (ticked : List (Option ℕ)). RowsFit m.header ticked rows)
          (sym (same_ticks e.what e.lane m.ticked g.rowless)) fit;
      begun = begun;
    }) in
    subst (λ (rs : List Row). Rest_of m (rs ++ rows)) (g.rowless e.lane) (before m e rows g.may g.serial rest)

-- a lane serves its row
goes_serving : (laws : RunLaws) → (k : ℕ) → Goes k → (m : MachineState) (lane : ℕ) (rows : List Row)
    → entries_left (length rows) m < suc k → IsRunning m lane rows → is_at_rest m lane ≡ false → Rest_of m rows
unfolding after sight
goes_serving laws k go m lane rows lt r busy =
    let g = service_goes_on laws.asked m lane r.ready r.live busy r.others in
    let e = g.0.entry in
    let lives : ended_after e.what m.ended ≡ false = ap (λ (b : Bool). ended_after e.what b) r.live ∙ g.1 in
    let form : is_rest (course_at m.courses e.lane).form ≡ false = ap (is_at_rest m) g.0.own ∙ busy in
    let closing : closing_after e.what (course_at m.courses e.lane).form m.closing ≡ m.closing =
    same_closing e.what (course_at m.courses e.lane).form m.closing form in
    after_rowless laws k go m lane rows lt r.ready r.fit r.others g.0 lives
    (elim r.begun [ inl n ↦ inl n | inr c ↦ inr (closing ∙ c) ])

-- all rest, and no row is to come
goes_closing : (laws : RunLaws) → (k : ℕ) → Goes k → (m : MachineState) → entries_left 0 m < suc k → IsReady m
    → m.ended ≡ false → RowsFit m.header m.ticked [] → AllRest m → Rest_of m []
goes_closing laws k go m lt ready live fit rest = by_end (after m g.entry).ended refl
  where
    g : GoesOn m 0
    g = closing_goes_on laws.asked m ready live rest

    by_end : (b : Bool) → (after m (closing_goes_on laws.asked m ready live rest).entry).ended ≡ b → Rest_of m []
    by_end true e = record {
      entries = (closing_goes_on laws.asked m ready live rest).entry ∷ [];
      legal = ((closing_goes_on laws.asked m ready live rest).may, tt);
      serial = ((closing_goes_on laws.asked m ready live rest).serial, tt);
      ended = e;
      drawn = ap (λ (rs : List Row). rs ++ [])
          ((closing_goes_on laws.asked m ready live rest).rowless (closing_goes_on laws.asked m ready live rest).entry.lane);
    }
    by_end false e = after_rowless laws k go m 0 [] lt ready fit (λ l n. rest l)
        (closing_goes_on laws.asked m ready live rest) e (inl refl)

-- all rest, and a row is taken up
goes_taking : (laws : RunLaws) → (k : ℕ) → Goes k → (m : MachineState) (r : Row) (rows : List Row)
    → entries_left (suc (length rows)) m < suc k → IsReady m → m.ended ≡ false → m.closing ≡ false
    → RowsFit m.header m.ticked (r ∷ rows) → AllRest m → Rest_of m (r ∷ rows)
unfolding after
goes_taking laws k go m r rows lt ready live closing fit rest =
    let n = (course_at m.courses r.lane).rows + 1 in
    let e : Entry = record {
      owner = Lane r.lane;
      lane = r.lane;
      prev = get_or m.last r.lane 0;
      what = RowEntry n r.at
          r.command;
    } in
    let accepted = (and_parts (is_row m.header r) _ fit.each).0 in
    let t = rows_are_taken laws.partition m r ready live closing rest accepted
    (free_row m r n ((and_parts (is_free m.ticked r) _ fit.free).0)) in
    let fall = laws.falls m e (length rows) ready t.0 in
    let less : entries_left (length rows) (after m e) < entries_left (suc (length rows)) m = rw (← add-one (length rows)) fall in
    let later = go (after m e) r.lane rows (omega arith) (record {
      ready = laws.stays m e ready t.0 (row_nice m.header r n accepted);
      live = live;
      others = others_rest m e r.lane refl (λ l i. rest l);
      fit = fewer_rows m.header m.ticked r n rows fit;
      begun = inr closing;
    }) in
    before m e rows t.0 t.1 later

goes : (laws : RunLaws) → (k : ℕ) → Goes k
goes laws zero m lane rows lt r = absurd (omega arith)
goes laws (suc k) m lane rows lt r = by_rest (is_at_rest m lane) refl (goes laws k)
  where
    at_rest : (rows : List Row) → entries_left (length rows) m < suc k → IsRunning m lane rows
        → is_at_rest m lane ≡ true → Goes k → Rest_of m rows
    at_rest [] lt r e go = goes_closing laws k go m lt r.ready r.live r.fit (all_from m lane e r.others)
    at_rest (row ∷ rows) lt r e go = elim r.begun [
      | inl n ↦ absurd (let y : ⊥ = cc in y)
      | inr c ↦ goes_taking laws k go m row rows lt r.ready r.live c r.fit (all_from m lane e r.others)
    ]

    by_rest : (b : Bool) → is_at_rest m lane ≡ b → Goes k → Rest_of m rows
    by_rest false e go = goes_serving laws k go m lane rows lt r e
    by_rest true e go = at_rest rows lt r e go

-- ---- from the opening machine on
none_ticked : (n : ℕ) (r : Row) → is_free (replicate n None) r ≡ true
none_ticked n r = by_command r.command
  where
    none_at : (cpu : ℕ) → get_or (replicate {A = Option ℕ} n None) cpu None ≡ None
    none_at cpu = elim (cases_lt cpu n) [
      | inl lt ↦ get_or-replicate n cpu None None lt
      | inr ge ↦ get_or_past (replicate {A = Option ℕ} n None) cpu None
          (let e : length (replicate {A = Option ℕ} n None) ≡ n = length-replicate n None in omega arith)
    ]

    by_command : (command : Command) → not (ticks_another (replicate n None) r.lane command) ≡ true
    by_command (Tick cpu) = rw (none_at cpu) refl
    by_command command = refl

all_none_ticked : (n : ℕ) (rows : List Row) → list_all (is_free (replicate n None)) rows ≡ true
all_none_ticked n [] = refl
all_none_ticked n (r ∷ rows) = and_from (is_free (replicate n None) r) _ (none_ticked n r) (all_none_ticked n rows)

start_rests : (h : Header) (l : ℕ) → is_at_rest (start h) l ≡ true
start_rests h l = let c = opening_course_at h l in ap (λ (x : Course). is_rest x.form) c.1

start_runs : (laws : RunLaws) → (t : Trace) → IsTrace t → IsRunning (start t.header) 0 t.rows
unfolding start
start_runs laws t accepted = record {
  ready = laws.opens t.header accepted.header;
  live = refl;
  others = λ l n. start_rests t.header l;
  fit = record { each = accepted.rows; free = all_none_ticked (length t.header.cpus) t.rows; agree = accepted.ticks };
  begun = inr refl;
}

pub traces_have_runs : (laws : RunLaws) → TracesHaveRuns
traces_have_runs laws t accepted =
    let r = goes laws (suc (entries_left (length t.rows) (start t.header))) (start t.header) 0 t.rows (omega arith)
    (start_runs laws t accepted) in (
      record { header = t.header; entries = r.entries },
      record {
        of_trace = record { header = refl; legal = (r.legal, r.ended); rows = λ lane. ap (of_lane lane) r.drawn };
        file_order = r.drawn;
        serial = r.serial;
      },
    )
