-- In a serial history one lane at most is at work: an entry that a lane draws at rest asks that all
-- lanes rest. After a stop at rest, or the end, no row comes. For callers too.
-- For the lemmas of `Excluded`, `Next` and other files, and so for the laws `one_serial_history`, `replies` and
-- others; cited by `lb_audit` and `lb_serial` too.
use Rattle.std.proofs.Common.{◌≡◌, ◌⊎◌, ℕ, zero, suc, Bool, true, false, ◌||◌, List, [], ◌∷◌, length, get_or, replicate, refl, sym, ◌∙◌, ap, arith, inl, inr, get_or-set_other}
use Rattle.std.specs.List.{list_all}
use Rattle.std.proofs.lemmas.Bool.{or_parts, or_left, or_right, and_parts, not-false, eqb-true, cases_eq, cases_lt}
use Rattle.std.proofs.lemmas.List.{get_or-replicate, length-replicate}
use Rattle.lb_queue.specs.Queue.{QueueState}
use Rattle.lb_trace.specs.declared.trace.Header.{Header}
use Rattle.lb_trace.specs.declared.trace.Row.{Row as TraceRow}
use Rattle.lb_core.specs.declared.course.Course.{Course}
use Rattle.lb_core.specs.declared.course.Form.{Form}
use Rattle.lb_core.specs.declared.course.Form.TheVariants.{Rest}
use Rattle.lb_core.specs.declared.entry.Owner.{Owner}
use Rattle.lb_core.specs.declared.entry.What.{What}
use Rattle.lb_core.specs.declared.entry.What.TheVariants.{Row, End, Out}
use Rattle.lb_core.specs.declared.entry.Entry.{Entry}
use Rattle.lb_core.specs.declared.rule.Rule.TheVariants.{Stage, End as EndRule}
use Rattle.lb_core.specs.Course.{opening_course}
use Rattle.lb_core.specs.Stage.{draws}
use Rattle.lb_core.specs.CourseAfter.{course_after}
use Rattle.lb_core.specs.Machine.{MachineState, no_course, course_at, start, sight}
use Rattle.lb_core.specs.Elsewhere.{is_rest, all_rest, stage_at_rest}
use Rattle.lb_core.specs.Step.{closing_after, ended_after, after}
use Rattle.lb_core.specs.Legal.{MayBeAdded, MayFollow}
use Rattle.lb_core.specs.OfTrace.{row_of, rows_drawn}
use Rattle.lb_core.specs.Serial.{is_serial}
use Rattle.lb_core.proofs.Unbroken.{unbroken_elsewhere}
use Rattle.lb_core.proofs.Placing.{form_lets}
use Rattle.lb_core.proofs.Opening.{past}

-- ---- rest
abbrev pub rests_at : MachineState → ℕ → Bool
rests_at m lane = is_rest (course_at m.courses lane).form

all_at : {X : Type 0} (p : X → Bool) (xs : List X) (d : X) → list_all p xs ≡ true → p d ≡ true → (i : ℕ)
    → p (get_or xs i d) ≡ true
all_at p [] d h k i = k
all_at p (x ∷ xs) d h k zero = (and_parts (p x) _ h).0
all_at p (x ∷ xs) d h k (suc i) = all_at p xs d ((and_parts (p x) _ h).1) k i

pub rest_each : (m : MachineState) → all_rest m ≡ true → (lane : ℕ) → rests_at m lane ≡ true
rest_each m h lane = all_at (λ c. is_rest c.form) m.courses no_course h refl lane

pub clash : {A : Type 0} (b : Bool) → b ≡ true → b ≡ false → A
clash b h k = absurd (let y : ⊥ = cc in y)

-- ---- what the rule `stage` and the rule `end` say elsewhere
pub at_rest_lets : (m : MachineState) (e : Entry) → MayBeAdded m e → stage_at_rest (course_at m.courses e.lane).form m
    e.owner e.what ≡ false
at_rest_lets m e h = (or_parts _ _ (or_parts _ _ (unbroken_elsewhere m e h Stage)).0).1

pub goes_on : (m : MachineState) (e : Entry) → MayBeAdded m e → m.ended ≡ false
goes_on m e h = (or_parts m.ended _ (unbroken_elsewhere m e h EndRule)).0

-- ---- an entry of a lane at rest
-- it takes up a row, or begins the closing or ends it for lane 0, where these rows come later
abbrev pub RestRows : What → ℕ → List TraceRow → Type 0
RestRows (Row n at command) lane rows = Unit {0}
RestRows (Out cause to ids) lane rows = (lane ≡ 0) × (rows ≡ [])
RestRows (End unserved) lane rows = (lane ≡ 0) × (rows ≡ [])
RestRows w lane rows = ⊥

pub record AtRest (m : MachineState) (w : What) (lane : ℕ) (rows : List TraceRow) : Type 0 where
  pub all : all_rest m ≡ true
  pub comes : RestRows w lane rows

at_rest : (f : Form) (m : MachineState) (h : Header) (c : Course) (q : QueueState) (lane : ℕ) (o : Owner) (w : What)
    (rows : List TraceRow) → is_rest f ≡ true → draws f h c q lane w ≡ true → stage_at_rest f m o w ≡ false →
    is_serial m w ≡ true → ((closing_after w f m.closing || ended_after w m.ended) ≡ true → rows ≡ []) → AtRest m w lane rows
unfolding draws
at_rest Rest m h c q lane o (Row n at command) rows r d s z none = record { all = z; comes = tt }
at_rest Rest m h c q lane o (Out cause to ids) rows r d s z none =
    record { all = not-false _ (or_parts _ _ s).0; comes = (eqb-true lane 0 d, none refl) }
at_rest Rest m h c q lane o (End unserved) rows r d s z none =
    record { all = not-false _ s; comes = (eqb-true lane 0 d, none (or_right m.closing true refl)) }
at_rest f m h c q lane o w rows r d s z none = absurd (let y : ⊥ = cc in y)

-- a row comes at rest alone, and not once the history is over
pub row_rests : (f : Form) (m : MachineState) (h : Header) (c : Course) (q : QueueState) (lane n at : ℕ) (o : Owner)
    (command : _) → draws f h c q lane (Row n at command) ≡ true → stage_at_rest f m o (Row n at command) ≡ false
    → (is_rest f ≡ true) × (m.closing ≡ false)
unfolding draws
row_rests Rest m h c q lane n at o command d s = (refl, s)
row_rests f m h c q lane n at o command d s = absurd (let y : ⊥ = cc in y)

-- ---- one lane at work
pub record OneAtWork (m : MachineState) : Type 0 where
  pub one : (l k : ℕ) → rests_at m l ≡ false → rests_at m k ≡ false → l ≡ k

-- an entry is drawn by the lane that is at work, if one is
pub works : (m : MachineState) (e : Entry) → MayBeAdded m e → is_serial m e.what ≡ true → OneAtWork m → (l : ℕ)
    → rests_at m l ≡ false → e.lane ≡ l
works m e h z one l k = by_rest (rests_at m e.lane) refl
  where
    by_rest : (b : Bool) → rests_at m e.lane ≡ b → e.lane ≡ l
    by_rest true r = clash _ (rest_each m
        (at_rest _ m _ _ _ e.lane e.owner e.what [] r (form_lets m e h).1 (at_rest_lets m e h) z (λ _. refl)).all l) k
    by_rest false r = one.one e.lane l r k

pub one_kept : (m : MachineState) (e : Entry) → MayBeAdded m e → is_serial m e.what ≡ true → OneAtWork m → OneAtWork (after m e)
unfolding after
one_kept m e h z one = record { one = λ l k a b. drew l a ∙ sym (drew k b) }
  where
    drew : (l : ℕ) → rests_at (after m e) l ≡ false → l ≡ e.lane
    drew l a = elim (cases_eq l e.lane) [
      | inl same ↦ same
      | inr other ↦
          let same = get_or-set_other m.courses e.lane l (course_after (sight m e) e) no_course other in
          sym (works m e h z one l (ap (λ (c : Course). is_rest c.form) (sym same) ∙ a))
    ]

-- ---- the opening state
pub opens_so : (h : Header) (lane : ℕ) → (course_at (start h).courses lane ≡ opening_course (length h.cpus))
    ⊎ (course_at (start h).courses lane ≡ no_course)
unfolding start
opens_so h lane =
    let c : Course = opening_course (length h.cpus) in
    elim (cases_lt lane h.lanes) [
      | inl lt ↦ inl (get_or-replicate h.lanes lane c no_course lt)
      | inr ge ↦ inr (past (replicate h.lanes c) lane no_course (let e = length-replicate h.lanes c in omega arith))
    ]

pub opening_rests : (h : Header) (lane : ℕ) → rests_at (start h) lane ≡ true
opening_rests h lane = elim (opens_so h lane)
    [ inl a ↦ ap (λ (x : Course). is_rest x.form) a | inr b ↦ ap (λ (x : Course). is_rest x.form) b ]

pub one_starts : (h : Header) → OneAtWork (start h)
one_starts h = record { one = λ l k a b. clash _ (opening_rests h l) a }

-- ---- once it is over
-- no row comes any more
abbrev is_over : MachineState → Bool
is_over m = m.closing || m.ended

closing_stays : (w : What) (f : Form) → closing_after w f true ≡ true
closing_stays (Out cause to ids) Rest = refl
closing_stays (Out cause to ids) f = refl
closing_stays w f = refl

closes_first : (a b : Bool) → (a || b) ≡ true → b ≡ false → a ≡ true
closes_first true b h k = refl
closes_first false b h k = clash b h k

no_row : (w : What) (m : MachineState) (c : Course) (h : Header) (q : QueueState) (lane : ℕ) (o : Owner)
    → draws c.form h c q lane w ≡ true → stage_at_rest c.form m o w ≡ false → m.closing ≡ true → row_of w lane ≡ []
no_row (Row n at command) m c h q lane o d s k = clash _ k (row_rests c.form m h c q lane n at o command d s).1
no_row w m c h q lane o d s k = refl

pub none_drawn : (es : List Entry) (m : MachineState) → is_over m ≡ true → MayFollow es m → rows_drawn es ≡ []
unfolding after sight
none_drawn [] m over h = refl
none_drawn (e ∷ es) m over h =
    let c = course_at m.courses e.lane in
    let closing : m.closing ≡ true = let g = goes_on m e h.0 in closes_first m.closing m.ended over g in
    let later : is_over (after m e) ≡ true =
    or_left _ (ended_after e.what m.ended) (ap (closing_after e.what c.form) closing ∙ closing_stays e.what c.form) in
    rw (no_row e.what m c _ _ e.lane e.owner (form_lets m e h.0).1 (at_rest_lets m e h.0) closing)
    (none_drawn es (after m e) later h.1)

pub comes_at_rest : (m : MachineState) (e : Entry) (es : List Entry) → MayBeAdded m e → MayFollow es (after m e)
    → is_serial m e.what ≡ true → rests_at m e.lane ≡ true → AtRest m e.what e.lane (rows_drawn es)
unfolding after sight
comes_at_rest m e es h l z r = at_rest (course_at m.courses e.lane).form m _ _ _ e.lane e.owner e.what
    (rows_drawn es) r (form_lets m e h).1 (at_rest_lets m e h) z (λ over. none_drawn es (after m e) over l)

-- nothing follows the end
pub nothing_follows : (es : List Entry) (m : MachineState) → m.ended ≡ true → MayFollow es m → es ≡ []
nothing_follows [] m ended h = refl
nothing_follows (e ∷ es) m ended h = clash _ ended (goes_on m e h.0)
