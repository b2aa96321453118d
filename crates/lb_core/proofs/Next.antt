-- For the laws `permitted`, `replies` and `turns_fit`: a front cut at one entry (`parts`), and the next entry of its
-- lane, up to which the lane's course stays. For callers too: the machine after some entries and some more
-- (`run-append`).
use Rattle.std.proofs.Common.{◌≡◌, ℕ, Bool, true, false, cond, ◌==◌, List, [], ◌∷◌, ◌++◌, Some, refl, sym, ◌∙◌, ap, subst, get_or-set_other, append_assoc, append-nil}
use Rattle.std.proofs.lemmas.Bool.{not-false, eqb-true, eqb-false}
use Rattle.lb_queue.specs.Queue.{QueueState}
use Rattle.lb_trace.specs.declared.trace.Header.{Header}
use Rattle.lb_core.specs.declared.course.Course.{Course}
use Rattle.lb_core.specs.declared.course.Form.{Form}
use Rattle.lb_core.specs.declared.course.Form.TheVariants.{Rest}
use Rattle.lb_core.specs.declared.entry.Owner.{Owner}
use Rattle.lb_core.specs.declared.entry.What.{What}
use Rattle.lb_core.specs.declared.entry.What.TheVariants.{End}
use Rattle.lb_core.specs.declared.entry.Entry.{Entry}
use Rattle.lb_core.specs.Stage.{draws}
use Rattle.lb_core.specs.CourseAfter.{course_after}
use Rattle.lb_core.specs.Machine.{MachineState, no_course, course_at, sight}
use Rattle.lb_core.specs.Elsewhere.{is_rest, all_rest, stage_at_rest}
use Rattle.lb_core.specs.Step.{ended_after, after}
use Rattle.lb_core.specs.Legal.{MayBeAdded, run, MayFollow}
use Rattle.lb_core.specs.LaneEntries.{next_of, until, beyond}
use Rattle.lb_core.proofs.Placing.{form_lets}
use Rattle.lb_core.proofs.AtWork.{rests_at, rest_each, clash, at_rest_lets}

-- ---- parts of a front
pub record Parts (before : List Entry) (e : Entry) (later : List Entry) (m : MachineState) : Type 0 where
  pub first : MayFollow before m
  pub this : MayBeAdded (run before m) e
  pub last : MayFollow later (after (run before m) e)

pub parts : (before : List Entry) (e : Entry) (later : List Entry) (m : MachineState) → MayFollow (before ++ e ∷ later) m
    → Parts before e later m
parts [] e later m l = record { first = tt; this = l.0; last = l.1 }
parts (x ∷ before) e later m l = let p = parts before e later (after m x) l.1 in
    record { first = (l.0, p.first); this = p.this; last = p.last }

pub run-append : (xs ys : List Entry) (m : MachineState) → run (xs ++ ys) m ≡ run ys (run xs m)
run-append [] ys m = refl
run-append (x ∷ xs) ys m = run-append xs ys (after m x)

-- what each entry keeps holds of each front
pub front_holds : (P : List Entry → MachineState → Type 0)
    → ((pre : List Entry) (m : MachineState) (e : Entry) → MayBeAdded m e → P pre m → P (pre ++ e ∷ []) (after m e))
    → (es pre : List Entry) (m : MachineState) → MayFollow es m → P pre m → P (pre ++ es) (run es m)
front_holds P step [] pre m l k = subst (λ (x : List Entry). P x m) (sym (append-nil pre)) k
front_holds P step (e ∷ es) pre m l k = subst (λ (x : List Entry). P x (run es (after m e)))
    (append_assoc pre (e ∷ []) es) (front_holds P step es (pre ++ e ∷ []) (after m e) l.1 (step pre m e l.0 k))

-- ---- the next entry
pub record IsNextOf (lane : ℕ) (m : MachineState) (later : List Entry) (c : Course) (o : Entry) : Type 0 where
  pub same : course_at (run (until lane later) m).courses lane ≡ c
  pub added : MayBeAdded (run (until lane later) m) o
  pub own : o.lane ≡ lane
  pub rest : MayFollow (beyond lane later) (after (run (until lane later) m) o)

course_stays : (m : MachineState) (x : Entry) (lane : ℕ) → (x.lane == lane) ≡ false
    → course_at (after m x).courses lane ≡ course_at m.courses lane
unfolding after
course_stays m x lane h = get_or-set_other m.courses x.lane lane (course_after (sight m x) x) no_course
    (λ z. let w = eqb-false x.lane lane h in w (sym z))

next_step : (lane : ℕ) (m : MachineState) (x : Entry) (later : List Entry) (c : Course) (o : Entry) (b : Bool)
    → (x.lane == lane) ≡ b → course_at m.courses lane ≡ c → MayBeAdded m x → MayFollow later (after m x) →
    (course_at (after m x).courses lane ≡ c → next_of lane later ≡ Some o → IsNextOf lane (after m x) later c o)
    → cond b (Some x) (next_of lane later) ≡ Some o → IsNextOf lane m (x ∷ later) c o
next_step lane m x later c o true h at a l more e =
    let k : x ≡ o = cc in
    let u : until lane (x ∷ later) ≡ [] = rw h refl in
    let v : beyond lane (x ∷ later) ≡ later = rw h refl in
    record {
      same = ap (λ (es : List Entry). course_at (run es m).courses lane) u ∙ at;
      added = subst (λ (es : List Entry). MayBeAdded (run es m) o) (sym u) (subst (λ (y : Entry). MayBeAdded m y) k a);
      own = ap (λ (y : Entry). y.lane) (sym k) ∙ eqb-true x.lane lane h;
      rest = subst (λ (es : List Entry). MayFollow es (after (run (until lane (x ∷ later)) m) o)) (sym v)
          (subst (λ (es : List Entry). MayFollow later (after (run es m) o)) (sym u)
          (subst (λ (y : Entry). MayFollow later (after m y)) k l));
    }
next_step lane m x later c o false h at a l more e =
    let r = more (course_stays m x lane h ∙ at) e in
    let u : until lane (x ∷ later) ≡ x ∷ until lane later = rw h refl in
    let v : beyond lane (x ∷ later) ≡ beyond lane later = rw h refl in
    record {
      same = ap (λ (es : List Entry). course_at (run es m).courses lane) u ∙ r.same;
      added = subst (λ (es : List Entry). MayBeAdded (run es m) o) (sym u) r.added;
      own = r.own;
      rest = subst (λ (es : List Entry). MayFollow es (after (run (until lane (x ∷ later)) m) o)) (sym v)
          (subst (λ (es : List Entry). MayFollow (beyond lane later) (after (run es m) o)) (sym u) r.rest);
    }

pub next_is : (lane : ℕ) (later : List Entry) (m : MachineState) (c : Course) (o : Entry) → course_at m.courses lane ≡ c
    → MayFollow later m → next_of lane later ≡ Some o → IsNextOf lane m later c o
next_is lane [] m c o at l e = absurd (let y : ⊥ = cc in y)
next_is lane (x ∷ later) m c o at l e = next_step lane m x later c o (x.lane == lane) refl at l.0 l.1
    (λ at' e'. next_is lane later (after m x) c o at' l.1 e') e

-- ---- a lane that does not rest has one, where the history ends
no_end : (f : Form) (m : MachineState) (h : Header) (c : Course) (q : QueueState) (lane : ℕ) (o : Owner) (w : What)
    → draws f h c q lane w ≡ true → stage_at_rest f m o w ≡ false → (all_rest m ≡ true → ⊥) → ended_after w m.ended ≡ m.ended
unfolding draws
no_end Rest m h c q lane o (End unserved) d s n = absurd (n (not-false _ s))
no_end f m h c q lane o (End unserved) d s n = absurd (let y : ⊥ = cc in y)
no_end f m h c q lane o w d s n = refl

pub some_next : (lane : ℕ) (later : List Entry) (m : MachineState) → rests_at m lane ≡ false → m.ended ≡ false
    → MayFollow later m → (run later m).ended ≡ true → (o : Entry) × (next_of lane later ≡ Some o)
unfolding after
some_next lane [] m r n l e = clash _ e n
some_next lane (x ∷ later) m r n l e = by_lane (x.lane == lane) refl
    (λ b. some_next lane later (after m x) (ap (λ (c : Course). is_rest c.form) (course_stays m x lane b) ∙ r) (ended ∙ n) l.1 e)
  where
    ended : ended_after x.what m.ended ≡ m.ended
    ended = no_end _ m _ _ _ x.lane x.owner x.what (form_lets m x l.0).1 (at_rest_lets m x l.0)
        (λ all. clash _ (rest_each m all lane) r)

    by_lane : (b : Bool) → (x.lane == lane) ≡ b
        → ((x.lane == lane) ≡ false → (o : Entry) × (next_of lane later ≡ Some o))
        → (o : Entry) × (next_of lane (x ∷ later) ≡ Some o)
    by_lane true b more = (x, rw b refl)
    by_lane false b more = let k = more b in (k.0, rw b k.1)
