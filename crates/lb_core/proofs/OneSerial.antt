-- A trace has at most one serial history: two entries that a serial history may draw at one place, with
-- the same rows to come, are one.
-- For the law `one_serial_history`.
use Rattle.std.proofs.Common.{◌≡◌, ℕ, Bool, true, false, List, [], ◌∷◌, ◌++◌, length, map, refl, sym, ◌∙◌, ap, subst}
use Rattle.std.proofs.lemmas.Bool.{or_parts, and_parts, not-false, eqb-true}
use Rattle.lb_base.specs.Mask.{members}
use Rattle.lb_trace.specs.declared.trace.Header.{Header}
use Rattle.lb_trace.specs.declared.trace.Row.{Row as TraceRow}
use Rattle.lb_trace.specs.declared.trace.Trace.{Trace}
use Rattle.lb_core.specs.declared.course.Course.{Course}
use Rattle.lb_core.specs.declared.course.Form.{Form}
use Rattle.lb_core.specs.declared.course.Form.TheVariants.{ScanDue}
use Rattle.lb_core.specs.declared.entry.FigName.{FigName}
use Rattle.lb_core.specs.declared.entry.Owner.{Owner}
use Rattle.lb_core.specs.declared.entry.What.{What}
use Rattle.lb_core.specs.declared.entry.What.TheVariants.{Row, Adopt, Look, Scan, End, Out}
use Rattle.lb_core.specs.declared.entry.Entry.{Entry}
use Rattle.lb_core.specs.declared.history.History.{History}
use Rattle.lb_core.specs.declared.rule.Rule.TheVariants.{Figure}
use Rattle.lb_core.specs.Sight.{Sight}
use Rattle.lb_core.specs.Rules.{figures_due, are_wrong}
use Rattle.lb_core.specs.Machine.{MachineState, no_queue, course_at, entries_at, start, sight}
use Rattle.lb_core.specs.Step.{after}
use Rattle.lb_core.specs.Legal.{MayBeAdded, run, MayFollow, IsLegalHistory}
use Rattle.lb_core.specs.OfTrace.{row_of, rows_drawn}
use Rattle.lb_core.specs.Serial.{are_newest, is_serial, AreSerial, IsSerialHistory, OneSerialHistory}
use Rattle.lb_core.specs.Choices.{Agree}
use Rattle.lb_core.proofs.Unbroken.{unbroken_here}
use Rattle.lb_core.proofs.Agreeing.{choices_are_all}
use Rattle.lb_core.proofs.Equality.{numbers_same}
use Rattle.lb_core.proofs.Placing.{entry, form_lets}
use Rattle.lb_core.proofs.AtWork.{rests_at, rest_each, clash, at_rest_lets, RestRows, comes_at_rest, row_rests, OneAtWork, works, one_kept, one_starts, nothing_follows}

-- ---- the newest figures
abbrev sight_of : Header → Course → Sight
sight_of h c = record { header = h; course = c; queue = no_queue; count = 0; masks = []; figs = [] }

due_same : (f : Form) (s : Sight) → figures_due f s ≡ figures_due f (sight_of s.header s.course)
due_same ScanDue s = refl
due_same f s = refl

newest_are : (m : MachineState) (names : List FigName) → are_newest m names ≡ true
    → map (λ f. f.n) names ≡ map (entries_at m) (map (λ f. f.cpu) names)
newest_are m [] h = refl
newest_are m (f ∷ fs) h =
    let p = and_parts _ _ h in
    let a : f.n ≡ entries_at m f.cpu = eqb-true _ _ p.0 in
    rw (a, newest_are m fs p.1) refl

-- the numbers that the figures have to have
numbers_due : MachineState → ℕ → List ℕ
numbers_due m lane = let c = course_at m.courses lane in map (entries_at m) (members (figures_due c.form (sight_of m.header c)))

named_due : (m : MachineState) (s : Sight) (names : List FigName) → are_wrong s names ≡ false → are_newest m names ≡ true
    → map (λ f. f.n) names ≡ map (entries_at m) (members (figures_due s.course.form (sight_of s.header s.course)))
named_due m s names h z =
    let e : map (λ f. f.cpu) names ≡ members (figures_due s.course.form s) = numbers_same _ _ (not-false _ (or_parts _ _ h).0) in
    newest_are m names z ∙ ap (map (entries_at m)) (e ∙ ap members (due_same s.course.form s))

-- ---- what a serial history chooses
-- the version, or the figures' numbers, that the entry has to name; no row
abbrev Chosen : MachineState → ℕ → What → Type 0
Chosen m lane (Row n at command) = ⊥
Chosen m lane (Adopt v kind cpu) = v ≡ length m.versions
Chosen m lane (Look p x names d) = map (λ f. f.n) names ≡ numbers_due m lane
Chosen m lane (Scan names t) = map (λ f. f.n) names ≡ numbers_due m lane
Chosen m lane w = Unit {0}

agree : (m : MachineState) (lane : ℕ) (v w : What) → Chosen m lane v → Chosen m lane w → Agree v w
agree m lane (Row n at command) w a b = absurd a
agree m lane v (Row n at command) a b = absurd b
agree m lane (Adopt v kind cpu) (Adopt v' kind' cpu') a b = a ∙ sym b
agree m lane (Look p x names d) (Look p' x' names' d') a b = a ∙ sym b
agree m lane (Scan names t) (Scan names' t') a b = a ∙ sym b
agree m lane v w a b = tt

chosen : (m : MachineState) (o : Owner) (lane prev : ℕ) (w : What) → MayBeAdded m (entry o lane prev w)
    → is_serial m w ≡ true → rests_at m lane ≡ false → Chosen m lane w
unfolding sight numbers_due
chosen m o lane prev (Row n at command) h z r = let e = entry o lane prev (Row n at command) in
    clash _ (row_rests _ m _ _ _ lane n at o command (form_lets m e h).1 (at_rest_lets m e h)).0 r
chosen m o lane prev (Adopt v kind cpu) h z r = eqb-true _ _ z
chosen m o lane prev (Look p x names d) h z r = let e = entry o lane prev (Look p x names d) in
    named_due m (sight m e) names (unbroken_here m e h Figure) z
chosen m o lane prev (Scan names t) h z r = let e = entry o lane prev (Scan names t) in
    named_due m (sight m e) names (unbroken_here m e h Figure) z
chosen m o lane prev w h z r = tt

-- ---- at rest: the same row, or no row is left
head_same : (x y : TraceRow) (xs ys : List TraceRow) → x ∷ xs ≡ y ∷ ys → x ≡ y
head_same x y xs ys h = cc

none_left : {A : Type 0} (x : TraceRow) (xs ys : List TraceRow) → ys ≡ [] → x ∷ xs ≡ ys → A
none_left x xs ys n h = absurd (let y : ⊥ = cc in y)

rest_agree : (v w : What) (l k : ℕ) (xs ys : List TraceRow) → RestRows v l xs → RestRows w k ys
    → row_of v l ++ xs ≡ row_of w k ++ ys → (l ≡ k) × Agree v w
rest_agree (Row n at command) (Row n' at' command') l k xs ys a b e =
    let first : TraceRow = record { lane = l; at = at; command = command } in
    let second : TraceRow = record { lane = k; at = at'; command = command' } in
    let same : first ≡ second = head_same first second xs ys e in
    (ap (λ (r : TraceRow). r.lane) same, (ap (λ (r : TraceRow). r.at) same, ap (λ (r : TraceRow). r.command) same))
rest_agree (Row n at command) (Out cause to ids) l k xs ys a b e = none_left _ xs ys b.1 e
rest_agree (Row n at command) (End unserved) l k xs ys a b e = none_left _ xs ys b.1 e
rest_agree (Out cause to ids) (Row n at command) l k xs ys a b e = none_left _ ys xs a.1 (sym e)
rest_agree (End unserved) (Row n at command) l k xs ys a b e = none_left _ ys xs a.1 (sym e)
rest_agree (Out cause to ids) (Out cause' to' ids') l k xs ys a b e = (a.0 ∙ sym b.0, tt)
rest_agree (Out cause to ids) (End unserved) l k xs ys a b e = (a.0 ∙ sym b.0, tt)
rest_agree (End unserved) (Out cause to ids) l k xs ys a b e = (a.0 ∙ sym b.0, tt)
rest_agree (End unserved) (End unserved') l k xs ys a b e = (a.0 ∙ sym b.0, tt)
rest_agree (Row n at command) w l k xs ys a b e = absurd b
rest_agree (Out cause to ids) w l k xs ys a b e = absurd b
rest_agree (End unserved) w l k xs ys a b e = absurd b
rest_agree v w l k xs ys a b e = absurd a

-- ---- one entry comes
rows_left : (w : What) (lane : ℕ) (xs ys : List TraceRow) → row_of w lane ++ xs ≡ row_of w lane ++ ys → xs ≡ ys
rows_left (Row n at command) lane xs ys h = cc
rows_left w lane xs ys h = h

one_comes : (m : MachineState) (a b : Entry) (es fs : List Entry) → OneAtWork m → MayBeAdded m a → MayBeAdded m b
    → MayFollow es (after m a) → MayFollow fs (after m b) → is_serial m a.what ≡ true → is_serial m b.what ≡ true →
    rows_drawn (a ∷ es) ≡ rows_drawn (b ∷ fs) → a ≡ b
one_comes m a b es fs one ha hb la lb za zb rows = by_rest (rests_at m a.lane) refl
  where
    by_rest : (r : Bool) → rests_at m a.lane ≡ r → a ≡ b
    by_rest true r =
        let ra = comes_at_rest m a es ha la za r in
        let rb = comes_at_rest m b fs hb lb zb (rest_each m ra.all b.lane) in
        let s = rest_agree a.what b.what a.lane b.lane _ _ ra.comes rb.comes rows in
        choices_are_all m a b s.0 ha hb s.1
    by_rest false r =
        let same : a.lane ≡ b.lane = sym (works m b hb zb one a.lane r) in
        let cb = chosen m b.owner b.lane b.prev b.what hb zb (ap (rests_at m) (sym same) ∙ r) in
        choices_are_all m a b same ha hb
        (agree m a.lane a.what b.what (chosen m a.owner a.lane a.prev a.what ha za r)
        (subst (λ (l : ℕ). Chosen m l b.what) (sym same) cb))

-- ---- from a common state
abbrev Rest_ : MachineState → List Entry → Entry → List Entry → Entry → Type 0
Rest_ m es a fs b = MayFollow fs (after m b) → (run fs (after m b)).ended ≡ true → AreSerial fs (after m b)
    → row_of a.what a.lane ++ rows_drawn es ≡ row_of b.what b.lane ++ rows_drawn fs → a ∷ es ≡ b ∷ fs

same_from : (es fs : List Entry) (m : MachineState) → OneAtWork m → MayFollow es m → MayFollow fs m
    → (run es m).ended ≡ true → (run fs m).ended ≡ true → AreSerial es m → AreSerial fs m → rows_drawn es ≡ rows_drawn
    fs → es ≡ fs
same_from [] fs m one ha hb ea eb za zb rows = sym (nothing_follows fs m ea hb)
same_from (a ∷ es) [] m one ha hb ea eb za zb rows = nothing_follows (a ∷ es) m eb ha
same_from (a ∷ es) (b ∷ fs) m one ha hb ea eb za zb rows =
    let same = one_comes m a b es fs one ha.0 hb.0 ha.1 hb.1 za.0 zb.0 rows in
    subst (Rest_ m es a fs) same
    (λ h e z r. ap (λ (xs : List Entry). a ∷ xs)
    (same_from es fs (after m a) (one_kept m a ha.0 za.0 one) ha.1 h ea e za.1 z (rows_left a.what a.lane _ _ r)))
    hb.1 eb zb.1 rows

-- ---- from the opening state
abbrev Runs : Trace → List Entry → Header → Type 0
Runs t es h = IsLegalHistory h es × AreSerial es (start h)

runs : (t : Trace) (a : History) → IsSerialHistory t a → Runs t a.entries t.header
runs t a s = subst (Runs t a.entries) s.of_trace.header (s.of_trace.legal, s.serial)

same_history : (a b : History) → a.header ≡ b.header → a.entries ≡ b.entries → a ≡ b
same_history a b h k =
    let made : record { header = a.header; entries = a.entries } ≡ b = rw (h, k) refl in made

pub one_serial_history : OneSerialHistory
one_serial_history t a b sa sb =
    let ra = runs t a sa in
    let rb = runs t b sb in
    same_history a b (sa.of_trace.header ∙ sym sb.of_trace.header)
    (same_from a.entries b.entries (start t.header) (one_starts t.header) ra.0.0 rb.0.0 ra.0.1 rb.0.1 ra.1 rb.1
    (sa.file_order ∙ sym sb.file_order))
