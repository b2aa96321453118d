-- What comes next by its definition is the one serial entry of its lane that may be added.
-- For the law `next_entries`.
use Rattle.std.proofs.Common.{cond, ◌≡◌, ℕ, ◌+◌, ◌<◌, Bool, true, false, not, ◌==◌, ◌&&◌, ◌||◌, List, [], ◌∷◌, length, map, Option, Some, None, is_some, refl, sym, ◌∙◌, ap, subst, ltb}
use Rattle.std.specs.Prelude.{IfSome}
use Rattle.std.proofs.lemmas.Bool.{and_parts, and_from, or_parts, eqb-true, lt-ltb, ltb-true, not-true, not-false}
use Rattle.lb_base.specs.Mask.{members, without}
use Rattle.lb_trace.specs.declared.trace.Command.{Command}
use Rattle.lb_trace.specs.declared.trace.Command.TheVariants.{Wake, Sleep, Exit, SetMask, Nice, Tick, Rebuild}
use Rattle.lb_trace.specs.declared.trace.Header.{Header}
use Rattle.lb_trace.specs.declared.trace.Row.{Row}
use Rattle.lb_queue.specs.Requests.{has_owed}
use Rattle.lb_queue.specs.Laws.{AskedIsNext}
use Rattle.lb_core.specs.declared.course.Course.{Course}
use Rattle.lb_core.specs.declared.course.Form.{Form}
use Rattle.lb_core.specs.declared.course.Form.TheVariants.{Rest, Asked}
use Rattle.lb_core.specs.declared.entry.Entry.{Entry}
use Rattle.lb_core.specs.declared.entry.FigName.{FigName}
use Rattle.lb_core.specs.declared.entry.Owner.{Owner}
use Rattle.lb_core.specs.declared.entry.Owner.TheVariants.{Lane, Queue}
use Rattle.lb_core.specs.declared.entry.What.{What}
use Rattle.lb_core.specs.declared.entry.What.TheVariants.{Row as RowEntry, Adopt, Look, Scan, End, Did, Out, Pub}
use Rattle.lb_core.specs.declared.place.Place.{Place}
use Rattle.lb_core.specs.declared.place.Place.TheVariants.{Awake as AwakeAt, Asleep as AsleepAt, Gone as GoneAt, Hand as HandOf}
use Rattle.lb_core.specs.declared.rule.Rule.TheVariants.{Stage, Row as RowRule, Place as PlaceRule, Figure, Owed, End as EndRule}
use Rattle.lb_core.specs.Course.{ticked_cpu, is_tick, is_wake, is_rebuild, task_of, turn_domain, widest_span}
use Rattle.lb_core.specs.Stage.{draws, is_queue}
use Rattle.lb_core.specs.Machine.{MachineState, course_at, queue_at, owned_queue, entries_at, sight}
use Rattle.lb_core.specs.Rules.{is_undeclared}
use Rattle.lb_core.specs.Elsewhere.{is_rest, all_rest, is_at, task_elsewhere, ticked_elsewhere}
use Rattle.lb_core.specs.Legal.{MayBeAdded}
use Rattle.lb_core.specs.OfTrace.{row_of}
use Rattle.lb_core.specs.Serial.{is_serial, are_newest}
use Rattle.lb_core.specs.Choices.{Agree, ChoicesAreAll}
use Rattle.lb_core.proofs.Equality.{numbers_same}
use Rattle.lb_core.proofs.Placing.{lane_there, form_lets, entry}
use Rattle.lb_core.proofs.Unbroken.{unbroken, unbroken_here, unbroken_elsewhere}
use Rattle.lb_ready.specs.Ready.{IsReady}
use Rattle.lb_ready.specs.Laws.{is_at_rest, NextIsSerial, SerialIsNext}
use Rattle.lb_ready.specs.Next.{cpu_of_place, cpu_next, owner_of, what_next, is_answerable, row_by, may_take, drawn, drawn_if, next_in, next_entry, Takes, IsSerialNext}
use Rattle.lb_ready.proofs.Due.{Keeps, each_kept, may_be_added, or_none, not_not}
use Rattle.lb_ready.proofs.Running.{next_may, row_keeps, closes, closing_rowless, closing_serial}
use Rattle.lb_ready.proofs.Calls.{look_due, scan_due}
use Rattle.lb_ready.proofs.Staging.{staged}

-- ---- what comes next may be added
abbrev next_at : Form → MachineState → ℕ → Entry
next_at f m lane = let c = course_at m.courses lane in drawn m lane (owner_of (what_next f m c) lane (cpu_next f m c))
    (what_next f m c)

takes_none : (f : Form) (row : Option Row) (lane : ℕ) (w : What) → is_rest f ≡ false → Takes f row lane w
takes_none Rest row lane w h = absurd (let y : ⊥ = cc in y)
takes_none f row lane w h = tt

at_work : AskedIsNext → (m : MachineState) (lane : ℕ) (row : Option Row) (f : Form)
    → (course_at m.courses lane).form ≡ f → IsReady m → m.ended ≡ false → lane < length m.courses → is_rest f ≡ false →
    (f ≡ Asked → is_answerable (course_at m.courses lane).command m ≡ true) → IsSerialNext m lane row (next_at f m lane)
at_work asked m lane row f e k live lt busy can = subst (λ (x : Form). IsSerialNext m lane row (next_at x m lane)) e here
  where
    works : is_at_rest m lane ≡ false
    works = ap is_rest e ∙ busy

    here : IsSerialNext m lane row (next_at (course_at m.courses lane).form m lane)
    here =
        let n = next_may m lane asked k live works (λ a. can (sym e ∙ a)) in
        record {
          own = refl;
          may = may_be_added m _ (each_kept m lane _ _ lt live n.keeps);
          serial = n.serial;
          takes = takes_none (course_at m.courses lane).form row lane _ works;
        }

-- an entry of a lane at rest
added_at_rest : (m : MachineState) (lane : ℕ) (o : Owner) (w : What) → lane < length m.courses → m.ended ≡ false
    → (course_at m.courses lane).form ≡ Rest → Keeps Rest m lane (course_at m.courses lane) o w → MayBeAdded m (drawn m lane o w)
added_at_rest m lane o w lt live f k = may_be_added m (drawn m lane o w)
    (each_kept m lane o w lt live (subst (λ (x : Form). Keeps x m lane (course_at m.courses lane) o w) (sym f) k))

taking : (m : MachineState) (lane : ℕ) (row : Row) → lane < length m.courses → m.ended ≡ false
    → (course_at m.courses lane).form ≡ Rest → row.lane ≡ lane → may_take m lane (course_at m.courses lane) row ≡ true →
    IsSerialNext m lane (Some row) (drawn m lane (Lane lane) (row_by m lane (course_at m.courses lane) row))
taking m lane row lt live f own may =
    let p = and_parts _ _ may in
    let q = and_parts _ _ p.0 in
    let r = and_parts (not m.closing) _ q.0 in
    record {
      own = refl;
      may = added_at_rest m lane (Lane lane) _ lt live f
          (row_keeps m lane row (not-true _ r.0) (not-true _ q.1) (not-true _ p.1));
      serial = r.1;
      takes = subst (λ (x : Form). Takes x (Some row) lane (row_by m lane (course_at m.courses lane) row)) (sym f)
          (ap (λ (l : ℕ). let taken : Row = record { lane = l; at = row.at; command = row.command } in taken ∷ []) (sym own));
    }

closing : AskedIsNext → (m : MachineState) (lane : ℕ) → IsReady m → m.ended ≡ false
    → (course_at m.courses lane).form ≡ Rest → ((lane == 0) && all_rest m) ≡ true → lane < length m.courses
    → IsSerialNext m lane None (next_at Rest m lane)
closing asked m lane k live f h lt =
    let p = and_parts (lane == 0) _ h in
    let z = eqb-true lane 0 p.0 in
    subst (λ (l : ℕ). IsSerialNext m l None (next_at Rest m l)) (sym z)
    (here (subst (λ (l : ℕ). l < length m.courses) z lt) (subst (λ (l : ℕ). (course_at m.courses l).form ≡ Rest) z f) p.1)
  where
    here : 0 < length m.courses → (course_at m.courses 0).form ≡ Rest → all_rest m ≡ true
        → IsSerialNext m 0 None (next_at Rest m 0)
    here lt f all = record {
      own = refl;
      may = added_at_rest m 0 _ _ lt live f (closes asked m k all);
      serial = (closing_serial m _ _).0;
      takes = subst (λ (x : Form). Takes x None 0 (what_next Rest m (course_at m.courses 0))) (sym f) (closing_rowless m _ _ 0);
    }

next_form : AskedIsNext → (m : MachineState) (lane : ℕ) (row : Option Row) (e : Entry) (f : Form)
    → (course_at m.courses lane).form ≡ f → IsReady m → m.ended ≡ false → lane < length m.courses
    → IfSome row (λ r. r.lane ≡ lane) →
    next_in f row m lane (course_at m.courses lane) ≡ Some e → IsSerialNext m lane row e
next_form asked m lane (Some row) e Rest f k live lt own h = by_test (may_take m lane (course_at m.courses lane) row) refl h
  where
    by_test : (b : Bool) → may_take m lane (course_at m.courses lane) row ≡ b
        → drawn_if b m lane 0 (row_by m lane (course_at m.courses lane) row) ≡ Some e → IsSerialNext m lane (Some row) e
    by_test true t i = let same_entry : drawn m lane (Lane lane) (row_by m lane (course_at m.courses lane) row) ≡ e =
        cc in subst (IsSerialNext m lane (Some row)) same_entry (taking m lane row lt live f own t)
    by_test false t i = absurd (let y : ⊥ = cc in y)
next_form asked m lane None e Rest f k live lt own h = by_test ((lane == 0) && all_rest m) refl h
  where
    by_test : (b : Bool) → ((lane == 0) && all_rest m) ≡ b
        → drawn_if b m lane (cpu_next Rest m (course_at m.courses lane))
        (what_next Rest m (course_at m.courses lane)) ≡ Some e → IsSerialNext m lane None e
    by_test true t i = let same_entry : next_at Rest m lane ≡ e = cc in
        subst (IsSerialNext m lane None) same_entry (closing asked m lane k live f t lt)
    by_test false t i = absurd (let y : ⊥ = cc in y)
next_form asked m lane row e Asked f k live lt own h = by_test (is_answerable (course_at m.courses lane).command m) refl h
  where
    by_test : (b : Bool) → is_answerable (course_at m.courses lane).command m ≡ b
        → drawn_if b m lane (cpu_next Asked m (course_at m.courses lane))
        (what_next Asked m (course_at m.courses lane)) ≡ Some e → IsSerialNext m lane row e
    by_test true t i = let same_entry : next_at Asked m lane ≡ e = cc in
        subst (IsSerialNext m lane row) same_entry (at_work asked m lane row Asked f k live lt refl (λ _. t))
    by_test false t i = absurd (let y : ⊥ = cc in y)
next_form asked m lane row e g f k live lt own h = let same_entry : next_at g m lane ≡ e = cc in
    subst (IsSerialNext m lane row) same_entry (at_work asked m lane row g f k live lt refl (λ a. absurd (let y : ⊥ = cc in y)))

pub next_is_serial : AskedIsNext → NextIsSerial
unfolding next_entry
next_is_serial asked m lane row e k own h = by_test (m.ended || not (ltb lane (length m.courses))) refl h
  where
    by_test : (b : Bool) → (m.ended || not (ltb lane (length m.courses))) ≡ b
        → cond b None (next_in (course_at m.courses lane).form row m lane (course_at m.courses lane)) ≡ Some e
        → IsSerialNext m lane row e
    by_test true t i = absurd (let y : ⊥ = cc in y)
    by_test false t i =
        let p = or_parts m.ended _ t in
        next_form asked m lane row e (course_at m.courses lane).form refl k p.0
        (ltb-true lane (length m.courses) (not-false _ p.1)) own i

-- ---- serial entries of one lane agree in their choices
abbrev DueNames : Header → Course → What → Type 0
DueNames h c (Look p x names d) = map (λ f. f.cpu) names ≡ members (without (turn_domain h c).shape.span c.excluded)
DueNames h c (Scan names t) = map (λ f. f.cpu) names ≡ members (without (widest_span h c) c.excluded)
DueNames h c w = Unit {0}

due_names : (m : MachineState) (o : Owner) (lane prev : ℕ) (w : What) → IsReady m → MayBeAdded m (entry o lane prev w)
    → DueNames m.header (course_at m.courses lane) w
unfolding sight
due_names m o lane prev (Look p x names d) k h =
    let e = entry o lane prev (Look p x names d) in
    let due = look_due (course_at m.courses lane).form (sight m e) lane p x names d (form_lets m e h).1 in
    numbers_same _ _ (not-false _ (or_parts _ _ (unbroken_here m e h Figure)).0) ∙ ap members due
due_names m o lane prev (Scan names t) k h =
    let e = entry o lane prev (Scan names t) in
    let due = (scan_due (course_at m.courses lane).form m.ended (sight m e) lane names t (form_lets m e h).1
    (k.fits lane).form).0 in
    numbers_same _ _ (not-false _ (or_parts _ _ (unbroken_here m e h Figure)).0) ∙ ap members due
due_names m o lane prev w k h = tt

newest_numbers : (m : MachineState) (names : List FigName) → are_newest m names ≡ true
    → map (λ f. f.n) names ≡ map (λ cpu. entries_at m cpu) (map (λ f. f.cpu) names)
newest_numbers m [] h = refl
newest_numbers m (f ∷ names) h =
    let p = and_parts (f.n == entries_at m f.cpu) _ h in
    let e = eqb-true f.n (entries_at m f.cpu) p.0 in
    let rest = newest_numbers m names p.1 in
    rw (e, rest) refl

same_numbers_named : (m : MachineState) (a b : List FigName) (cpus : List ℕ) → are_newest m a ≡ true
    → are_newest m b ≡ true → map (λ f. f.cpu) a ≡ cpus → map (λ f. f.cpu) b ≡ cpus → map (λ f. f.n) a ≡ map (λ f. f.n) b
same_numbers_named m a b cpus h k x y = newest_numbers m a h ∙ ap (map (λ cpu. entries_at m cpu)) (x ∙ sym y) ∙ sym
    (newest_numbers m b k)

no_row : (n at lane : ℕ) (command : Command) → row_of (RowEntry n at command) lane ≡ [] → ⊥
no_row n at lane command h = let y : ⊥ = cc in y

agree : (m : MachineState) (c : Course) (lane : ℕ) (v w : What) → is_serial m v ≡ true → is_serial m w ≡ true
    → DueNames m.header c v → DueNames m.header c w → row_of v lane ≡ row_of w lane → Agree v w
agree m c lane (RowEntry n at command) (RowEntry n' at' command') s t d e r =
    let a : Row = record { lane = lane; at = at; command = command } in
    let b : Row = record { lane = lane; at = at'; command = command' } in
    let x : a ≡ b = cc in
    (ap (λ (y : Row). y.at) x, ap (λ (y : Row). y.command) x)
agree m c lane (RowEntry n at command) w s t d e r = no_row n at lane command r
agree m c lane v (RowEntry n at command) s t d e r = no_row n at lane command (sym r)
agree m c lane (Adopt v kind cpu) (Adopt v' kind' cpu') s t d e r =
    eqb-true v (length m.versions) s ∙ sym (eqb-true v' (length m.versions) t)
agree m c lane (Look p x a d') (Look p' x' b d'') s t d e r = same_numbers_named m a b _ s t d e
agree m c lane (Scan a x) (Scan b y) s t d e r = same_numbers_named m a b _ s t d e
agree m c lane v w s t d e r = tt

-- at work no row is taken up
no_row_at_work : (f : Form) (m : MachineState) (o : Owner) (lane prev : ℕ) (w : What)
    → (course_at m.courses lane).form ≡ f → is_rest f ≡ false → MayBeAdded m (entry o lane prev w) → row_of w lane ≡ []
unfolding draws
no_row_at_work Rest m o lane prev w e b h = absurd (let y : ⊥ = cc in y)
no_row_at_work f m o lane prev (RowEntry n at command) e b h =
    let lets = (form_lets m (entry o lane prev (RowEntry n at command)) h).1 in
    absurd (let d = rw e at lets in let y : ⊥ = cc in y)
no_row_at_work f m o lane prev w e b h = refl

rows_same : (m : MachineState) (lane : ℕ) (row : Option Row) (a b : Entry) → IsSerialNext m lane row a
    → IsSerialNext m lane row b → row_of a.what lane ≡ row_of b.what lane
rows_same m lane row a b x y = by_form (course_at m.courses lane).form refl x.takes y.takes
  where
    none : (e : Entry) (f : Form) → (course_at m.courses lane).form ≡ f → is_rest f ≡ false
        → IsSerialNext m lane row e → row_of e.what lane ≡ []
    none e f i busy s = no_row_at_work f m e.owner lane e.prev e.what i busy
        (subst (λ (l : ℕ). MayBeAdded m (entry e.owner l e.prev e.what)) s.own s.may)

    by_form : (f : Form) → (course_at m.courses lane).form ≡ f → Takes f row lane a.what → Takes f row lane b.what
        → row_of a.what lane ≡ row_of b.what lane
    by_form Rest i s t = s ∙ sym t
    by_form f i s t = none a f i refl x ∙ sym (none b f i refl y)

-- so there is one
pub one_serial : ChoicesAreAll → (m : MachineState) (lane : ℕ) (row : Option Row) (a b : Entry) → IsReady m
    → IsSerialNext m lane row a → IsSerialNext m lane row b → a ≡ b
one_serial law m lane row a b k x y =
    let at_lane = λ (e : Entry) (s : IsSerialNext m lane row e). subst
    (λ (l : ℕ). DueNames m.header (course_at m.courses l) e.what) s.own (due_names m e.owner e.lane e.prev e.what k s.may) in
    law m a b (x.own ∙ sym y.own) x.may y.may
    (agree m (course_at m.courses lane) lane a.what b.what x.serial y.serial (at_lane a x) (at_lane b y)
    (rows_same m lane row a b x y))

-- ---- where there is a serial entry, one comes next
somewhere : (p : Place) (o : Owner) → is_at p o ≡ true → is_some (cpu_of_place p) ≡ true
somewhere (AwakeAt cpu) o h = refl
somewhere (AsleepAt cpu) o h = refl
somewhere (GoneAt cpu) o h = refl
somewhere (HandOf lane) o h = absurd (let y : ⊥ = cc in y)

due_at : (cpu : ℕ) (o : Owner) (m : MachineState) → is_queue o (Some cpu) ≡ true → owned_queue o m ≡ queue_at m.queues cpu
due_at cpu (Queue u) m h = ap (queue_at m.queues) (eqb-true u cpu h)
due_at cpu o m h = absurd (let y : ⊥ = cc in y)

told : (command : Option Command) (m : MachineState) (o : Owner)
    → (is_some command && not (is_rebuild command)) ≡ true → is_queue o (ticked_cpu command) ≡ true
    → task_elsewhere (task_of command) m o ≡ false → (is_tick command && has_owed (owned_queue o m)) ≡ false
    → is_answerable command m ≡ true
told None m o s q p w = absurd (let y : ⊥ = cc in y)
told (Some (Wake t)) m o s q p w = rw (somewhere _ o (not-false _ p)) refl
told (Some (Sleep t)) m o s q p w = rw (somewhere _ o (not-false _ p)) refl
told (Some (Exit t)) m o s q p w = rw (somewhere _ o (not-false _ p)) refl
told (Some (SetMask t mask)) m o s q p w = rw (somewhere _ o (not-false _ p)) refl
told (Some (Nice t nice)) m o s q p w = rw (somewhere _ o (not-false _ p)) refl
told (Some (Tick cpu)) m o s q p w = let z : has_owed (queue_at m.queues cpu) ≡ false =
    sym (ap has_owed (due_at cpu o m q)) ∙ w in rw z refl
told (Some (Rebuild parts)) m o s q p w = refl

woken : (command : Option Command) (m : MachineState) (o : Owner) → is_wake command ≡ true
    → task_elsewhere (task_of command) m o ≡ false → is_answerable command m ≡ true
woken (Some (Wake t)) m o s p = rw (somewhere _ o (not-false _ p)) refl
woken command m o s p = absurd (let y : ⊥ = cc in y)

rebuilt : (command : Option Command) (m : MachineState) → is_rebuild command ≡ true → is_answerable command m ≡ true
rebuilt command m h = rw h refl

is_answered : (m : MachineState) (o : Owner) (lane prev : ℕ) (w : What) → (course_at m.courses lane).form ≡ Asked
    → MayBeAdded m (entry o lane prev w) → is_answerable (course_at m.courses lane).command m ≡ true
unfolding draws sight
is_answered m o lane prev (Did r) f h =
    let e = entry o lane prev (Did r) in
    let lets = form_lets m e h in
    let d = rw f at lets.1 in
    let q = rw f at lets.0 in
    let p = rw f at (unbroken_elsewhere m e h PlaceRule) in
    told (course_at m.courses lane).command m o d q p (unbroken_here m e h Owed)
is_answered m o lane prev (Out cause to tasks) f h =
    let e = entry o lane prev (Out cause to tasks) in
    let d = rw f at (form_lets m e h).1 in
    let p = rw f at (unbroken_elsewhere m e h PlaceRule) in
    woken (course_at m.courses lane).command m o d p
is_answered m o lane prev (Pub v) f h = rebuilt (course_at m.courses lane).command m
    (rw f at (form_lets m (entry o lane prev (Pub v)) h).1)
is_answered m o lane prev w f h = absurd (let d = rw f at (form_lets m (entry o lane prev w) h).1 in let y : ⊥ = cc in y)

same_tick : (m : MachineState) (lane n n' at at' : ℕ) (command : Command)
    → ticked_elsewhere m lane (RowEntry n at command) ≡ ticked_elsewhere m lane (RowEntry n' at' command)
same_tick m lane n n' at at' (Tick cpu) = refl
same_tick m lane n n' at at' command = refl

is_taken : (m : MachineState) (o : Owner) (lane prev : ℕ) (w : What) (row : Row)
    → (course_at m.courses lane).form ≡ Rest → MayBeAdded m (entry o lane prev w) → is_serial m w ≡ true
    → row_of w lane ≡ row ∷ [] → may_take m lane (course_at m.courses lane) row ≡ true
unfolding sight
is_taken m o lane prev (RowEntry n at command) row f h s t =
    let e = entry o lane prev (RowEntry n at command) in
    let a : Row = record { lane = lane; at = at; command = command } in
    let same_row : a ≡ row = cc in
    let begun : m.closing ≡ false = rw f at (staged m e (unbroken m e h Stage)).at_rest in
    let here = or_parts (not (n == (course_at m.courses lane).rows + 1)) (is_undeclared m.header command)
    (unbroken_here m e h RowRule) in
    let free = same_tick m lane ((course_at m.courses lane).rows + 1) n at at command ∙ unbroken_elsewhere m e h RowRule in
    subst (λ (r : Row). may_take m lane (course_at m.courses lane) r ≡ true) same_row
    (and_from _ _ (and_from _ _ (and_from _ _ (rw begun refl) s) (rw here.1 refl)) (rw free refl))
is_taken m o lane prev w row f h s t = absurd (let y : ⊥ = cc in y)

is_closing : (m : MachineState) (o : Owner) (lane prev : ℕ) (w : What) → (course_at m.courses lane).form ≡ Rest
    → MayBeAdded m (entry o lane prev w) → row_of w lane ≡ [] → ((lane == 0) && all_rest m) ≡ true
unfolding draws
is_closing m o lane prev (RowEntry n at command) f h t = absurd (no_row n at lane command t)
is_closing m o lane prev (Out cause to tasks) f h t =
    let e = entry o lane prev (Out cause to tasks) in
    let d = rw f at (form_lets m e h).1 in
    let away = rw f at (staged m e (unbroken m e h Stage)).at_rest in
    and_from (lane == 0) _ d (not-false _ (or_parts (not (all_rest m)) _ away).0)
is_closing m o lane prev (End cpus) f h t =
    let e = entry o lane prev (End cpus) in
    let d = rw f at (form_lets m e h).1 in
    let away = rw f at (staged m e (unbroken m e h Stage)).at_rest in
    and_from (lane == 0) _ d (not-false _ away)
is_closing m o lane prev w f h t = absurd (let d = rw f at (form_lets m (entry o lane prev w) h).1 in let y : ⊥ = cc in y)

-- what is drawn where a test passes
if_drawn : (b : Bool) (m : MachineState) (lane cpu : ℕ) (w : What) (e : Entry) → b ≡ true
    → drawn m lane (owner_of w lane cpu) w ≡ e → drawn_if b m lane cpu w ≡ Some e
if_drawn b m lane cpu w e h i = rw h (ap Some i)

comes_next : AskedIsNext → ChoicesAreAll → (m : MachineState) (lane : ℕ) (row : Option Row) (e : Entry) (f : Form)
    → (course_at m.courses lane).form ≡ f → IsReady m → m.ended ≡ false → lane < length m.courses
    → IfSome row (λ r. r.lane ≡ lane) → IsSerialNext m lane row e → MayBeAdded m (entry e.owner lane e.prev e.what)
    → Takes f row lane e.what →
    next_in f row m lane (course_at m.courses lane) ≡ Some e
comes_next asked law m lane (Some row) e Rest f k live lt own s may t =
    let b = is_taken m e.owner lane e.prev e.what row f may s.serial t in
    if_drawn _ m lane 0 _ e b (one_serial law m lane (Some row) _ e k (taking m lane row lt live f own b) s)
comes_next asked law m lane None e Rest f k live lt own s may t =
    let b = is_closing m e.owner lane e.prev e.what f may t in
    if_drawn _ m lane _ _ e b (one_serial law m lane None _ e k (closing asked m lane k live f b lt) s)
comes_next asked law m lane row e Asked f k live lt own s may t =
    let b = is_answered m e.owner lane e.prev e.what f may in
    if_drawn _ m lane _ _ e b (one_serial law m lane row _ e k (at_work asked m lane row Asked f k live lt refl (λ _. b)) s)
comes_next asked law m lane row e g f k live lt own s may t =
    ap Some (one_serial law m lane row _ e k (at_work asked m lane row g f k live lt refl (λ a. absurd (let y : ⊥ = cc in y))) s)

pub serial_is_next : AskedIsNext → ChoicesAreAll → SerialIsNext
unfolding next_entry
serial_is_next asked law m lane row e k own s =
    let may : MayBeAdded m (entry e.owner lane e.prev e.what) =
    subst (λ (l : ℕ). MayBeAdded m (entry e.owner l e.prev e.what)) s.own s.may in
    let live = (or_parts m.ended _ (unbroken_elsewhere m (entry e.owner lane e.prev e.what) may EndRule)).0 in
    let lt : lane < length m.courses = lane_there m (entry e.owner lane e.prev e.what) may in
    let there : (m.ended || not (ltb lane (length m.courses))) ≡ false = or_none _ _ live
    (not_not _ (lt-ltb lane (length m.courses) lt)) in
    subst (λ (b : Bool). cond b None (next_in (course_at m.courses lane).form row m lane (course_at m.courses lane)) ≡
    Some e) (sym there)
    (comes_next asked law m lane row e (course_at m.courses lane).form refl k live lt own s may s.takes)
