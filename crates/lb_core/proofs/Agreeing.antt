-- With one choice there is one entry that may be added: the law on choices.
-- For the law `choices`.
use Rattle.std.proofs.Common.{arith, ◌≡◌, ℕ, ◌+◌, Bool, true, false, cond, ◌||◌, get_or, refl, sym, ◌∙◌, ap}
use Rattle.std.proofs.lemmas.Bool.{not-false, eqb-true}
use Rattle.lb_queue.specs.Queue.{QueueState}
use Rattle.lb_queue.specs.Requests.{has_owed}
use Rattle.lb_core.specs.declared.course.Course.{Course}
use Rattle.lb_core.specs.declared.course.Form.{Form}
use Rattle.lb_core.specs.declared.course.Form.TheVariants.{Rest, Asked, Flight, Serving, Due, Used, Position, Looked, Landed as LandedForm, Closed, Done, ScanDue, Kicking, Ended}
use Rattle.lb_core.specs.declared.rule.Rule.TheVariants.{Prev}
use Rattle.lb_core.specs.declared.entry.Owner.{Owner}
use Rattle.lb_core.specs.declared.entry.What.{What}
use Rattle.lb_core.specs.declared.entry.What.TheVariants.{Row, Adopt, Look, Scan, End, Did, Out, Landed, Turn, Shut, Close, Ask, Kick, Over, Pub}
use Rattle.lb_core.specs.declared.entry.Entry.{Entry}
use Rattle.lb_core.specs.Course.{looks_again}
use Rattle.lb_core.specs.Stage.{push_is_due}
use Rattle.lb_core.specs.Machine.{MachineState, course_at}
use Rattle.lb_core.specs.Legal.{MayBeAdded}
use Rattle.lb_core.specs.Choices.{Agree, ChoicesAreAll}
use Rattle.lb_core.proofs.Unbroken.{unbroken_elsewhere}
use Rattle.lb_core.proofs.Placing.{entry}
use Rattle.lb_core.proofs.Choosing.{Choice, ItsRow, ItsVersion, ItsFigures, Nothing, choice_of, cpu_next, queue_next, owner_next, row_or, what_next, chosen}

prev_is : (m : MachineState) (e : Entry) → MayBeAdded m e → e.prev ≡ get_or m.last e.lane 0
prev_is m e h = eqb-true e.prev _ (not-false _ (unbroken_elsewhere m e h Prev))

same_entry : (a b : Entry) → a.owner ≡ b.owner → a.lane ≡ b.lane → a.prev ≡ b.prev → a.what ≡ b.what → a ≡ b
same_entry a b o l p w = ap4_entry a.owner b.owner a.lane b.lane a.prev b.prev a.what b.what o l p w
  where
    ap4_entry : (o o' : Owner) (l l' p p' : ℕ) (w w' : What) → o ≡ o' → l ≡ l' → p ≡ p' → w ≡ w'
        → entry o l p w ≡ entry o' l' p' w'
    ap4_entry o o' l l' p p' w w' a b c d = rw (a, b, c, d) refl

-- what comes next depends on the state, the lane and the choice alone
what_of : MachineState → ℕ → Choice → What
what_of m lane choice = let c = course_at m.courses lane in what_next c.form m c (queue_next c.form m c) choice

what_chosen : (m : MachineState) (e : Entry) → MayBeAdded m e → e.what ≡ what_of m e.lane (choice_of e.what)
unfolding what_of
what_chosen m e h = (chosen m e h).0

owner_of : MachineState → ℕ → What → Owner
owner_of m lane w = let c = course_at m.courses lane in owner_next w lane (cpu_next c.form m c)

owner_chosen : (m : MachineState) (e : Entry) → MayBeAdded m e → e.owner ≡ owner_of m e.lane e.what
unfolding owner_of
owner_chosen m e h = (chosen m e h).1

-- ---- entries that agree
abbrev word : What → ℕ
word (Row n at command) = 0
word (Adopt v kind cpu) = 1
word (Look p x names d) = 2
word (Scan names t) = 3
word (End cpus) = 4
word (Did r) = 5
word (Out cause to tasks) = 6
word (Landed tasks) = 7
word (Turn ps) = 8
word Shut = 9
word (Close p w i f) = 10
word (Ask r) = 11
word (Kick r) = 12
word Over = 13
word (Pub v) = 14

abbrev is_row : Choice → Bool
is_row (ItsRow at command) = true
is_row none = false

cond_word : (b : Bool) (x x' y y' : What) → word x ≡ word x' → word y ≡ word y' → word (cond b x y) ≡ word (cond b x' y')
cond_word true x x' y y' h k = h
cond_word false x x' y y' h k = k

row_word : (a : Choice) (n : ℕ) (w : What) → is_row a ≡ false → row_or a n w ≡ w
row_word (ItsRow at command) n w h = absurd (let y : ⊥ = cc in y)
row_word (ItsVersion v) n w h = refl
row_word (ItsFigures ns) n w h = refl
row_word Nothing n w h = refl

-- but for rows, the choice decides no kind
one_word : (f : Form) (m : MachineState) (c : Course) (q : QueueState) (a b : Choice) → is_row a ≡ false → is_row b ≡ false
    → word (what_next f m c q a) ≡ word (what_next f m c q b)
one_word Rest m c q a b h k = ap word (row_word a (c.rows + 1) _ h ∙ sym (row_word b (c.rows + 1) _ k))
one_word Asked m c q a b h k = refl
one_word Flight m c q a b h k = refl
one_word Serving m c q a b h k = cond_word (has_owed q || push_is_due c q) _ _ _ _ refl refl
one_word Due m c q a b h k = refl
one_word Used m c q a b h k = refl
one_word Position m c q a b h k = refl
one_word Looked m c q a b h k = refl
one_word LandedForm m c q a b h k = cond_word (looks_again m.header c) _ _ _ _ refl refl
one_word Closed m c q a b h k = refl
one_word Done m c q a b h k = refl
one_word ScanDue m c q a b h k = refl
one_word Kicking m c q a b h k = refl
one_word Ended m c q a b h k = refl

one_kind : (m : MachineState) (lane : ℕ) (a b : Choice) → is_row a ≡ false → is_row b ≡ false
    → word (what_of m lane a) ≡ word (what_of m lane b)
unfolding what_of
one_kind m lane a b h k = let c = course_at m.courses lane in one_word c.form m c (queue_next c.form m c) a b h k

-- of one kind, those that agree make the same choice
one_choice : (v w : What) → word v ≡ word w → Agree v w → choice_of v ≡ choice_of w
one_choice (Row n at command) (Row n' at' command') h k = let a = k.0 in let b = k.1 in cc
one_choice (Adopt v kind cpu) (Adopt v' kind' cpu') h k = ap ItsVersion k
one_choice (Look p x names d) (Look p' x' names' d') h k = ap ItsFigures k
one_choice (Scan names t) (Scan names' t') h k = ap ItsFigures k
one_choice (End cpus) (End cpus') h k = refl
one_choice (Did r) (Did r') h k = refl
one_choice (Out cause to tasks) (Out cause' to' tasks') h k = refl
one_choice (Landed tasks) (Landed tasks') h k = refl
one_choice (Turn ps) (Turn ps') h k = refl
one_choice Shut Shut h k = refl
one_choice (Close p w i f) (Close p' w' i' f') h k = refl
one_choice (Ask r) (Ask r') h k = refl
one_choice (Kick r) (Kick r') h k = refl
one_choice Over Over h k = refl
one_choice (Pub v) (Pub v') h k = refl
one_choice v w h k = absurd (let y : ⊥ = omega arith in y)

-- both are rows, or neither is
both_rows : (v w : What) → Agree v w → is_row (choice_of v) ≡ is_row (choice_of w)
both_rows (Row n at command) (Row n' at' command') k = refl
both_rows (Row n at command) w k = absurd k
both_rows v (Row n at command) k = absurd k
both_rows v w k = refl

is_row_word : (w : What) → is_row (choice_of w) ≡ true → word w ≡ 0
is_row_word (Row n at command) h = refl
is_row_word w h = absurd (let y : ⊥ = cc in y)

words_same : (m : MachineState) (lane : ℕ) (v w : What) (b : Bool) → is_row (choice_of v) ≡ b → is_row (choice_of w) ≡ b
    → v ≡ what_of m lane (choice_of v) → w ≡ what_of m lane (choice_of w) → word v ≡ word w
words_same m lane v w true h k e f = is_row_word v h ∙ sym (is_row_word w k)
words_same m lane v w false h k e f = ap word e ∙ one_kind m lane (choice_of v) (choice_of w) h k ∙ sym (ap word f)

pub choices_are_all : ChoicesAreAll
choices_are_all m a b l h k agree =
    let v = what_chosen m a h in
    let w : b.what ≡ what_of m a.lane (choice_of b.what) = what_chosen m b k ∙ ap
    (λ (x : ℕ). what_of m x (choice_of b.what)) (sym l) in
    let kind = words_same m a.lane a.what b.what (is_row (choice_of a.what)) refl (sym (both_rows a.what b.what agree)) v w in
    let same = one_choice a.what b.what kind agree in
    let t : a.what ≡ b.what = v ∙ ap (what_of m a.lane) same ∙ sym w in
    let o : a.owner ≡ b.owner = owner_chosen m a h ∙ ap (owner_of m a.lane) t ∙ ap (λ (x : ℕ). owner_of m x b.what) l
    ∙ sym (owner_chosen m b k) in
    let p : a.prev ≡ b.prev = prev_is m a h ∙ ap (λ (x : ℕ). get_or m.last x 0) l ∙ sym (prev_is m b k) in
    same_entry a b o l p t
