-- A `use` of the log is allowed by the queue of its CPU as it then is: the queue's answer to it, which
-- comes later in the log, says so of the same queue.
-- For the lemmas of `Merging`, and so for the laws `merge_is_run`, `closing_is_last` and others.
use Rattle.std.proofs.Common.{◌≡◌, ℕ, zero, suc, ◌+◌, ◌<◌, ◌≤◌, Bool, true, false, not, ◌&&◌, eqb, cond, Option, Some, is_some, unwrap_or, List, [], ◌∷◌, ◌++◌, length, refl, sym, ◌∙◌, ap, subst, arith, inl, inr, All, append-nil}
use Rattle.std.proofs.lemmas.Bool.{cases_lt, eqb-true, both_ways, false_from_ne_true, and_right}
use Rattle.std.proofs.lemmas.List.{get_or_past}
use Rattle.lb_queue.specs.Requests.{has_owed}
use Rattle.lb_base.specs.declared.shape.Kind.{Kind}
use Rattle.lb_base.specs.declared.shape.Kind.TheVariants.{Tick as TickTurn}
use Rattle.lb_queue.specs.Queue.{QueueState}
use mathlib.Core.Option.{some-injective}
use Rattle.lb_trace.specs.declared.trace.Header.{Header}
use Rattle.lb_trace.specs.Accepted.{IsHeader}
use Rattle.lb_core.specs.declared.course.Course.{Course}
use Rattle.lb_core.specs.declared.course.Form.{Form}
use Rattle.lb_core.specs.declared.course.Form.TheVariants.{Rest, Used}
use Rattle.lb_core.specs.declared.entry.Owner.{Owner}
use Rattle.lb_core.specs.declared.entry.Owner.TheVariants.{Publisher, Lane, Queue}
use Rattle.lb_core.specs.declared.entry.What.{What}
use Rattle.lb_core.specs.declared.entry.What.TheVariants.{Adopt, End, Turn, Shut}
use Rattle.lb_core.specs.declared.entry.Entry.{Entry}
use Rattle.lb_core.specs.Same.{same_kind}
use Rattle.lb_core.specs.Course.{turn_kind}
use Rattle.lb_core.specs.Sight.{Sight}
use Rattle.lb_core.specs.Stage.{is_owner, queue_due, draws, waits_for_push, waits_for_stop}
use Rattle.lb_core.specs.QueueAfter.{queue_after}
use Rattle.lb_core.specs.CourseAfter.{course_after, course_by, drew, cpu_of}
use Rattle.lb_core.specs.Machine.{MachineState, queue_at, course_at, no_queue}
use Rattle.lb_core.specs.Elsewhere.{stage_of_use, owed_elsewhere}
use Rattle.lb_journal.specs.Journal.{Journal, number_of, sight_in, owned_replay, Answers, AnswersUse, replay, meaning_of_journal}
use Rattle.lb_ticket.proofs.Logs.{at_below, head_is, tail_is, owned_from}
use Rattle.lb_journal.proofs.Chain.{is_quoted}
use Rattle.lb_journal.proofs.Good.{items_of, queue_items, At, Good, queue_in, may_close}
use Rattle.lb_journal.proofs.Lanes.{item, lane_at, quote_at, quotes, item_is, item_there, at_log, at_whole, split_at, staged}
use Rattle.lb_journal.proofs.Items.{items_front, later_items}
use Rattle.lb_journal.proofs.Agreement.{Agrees, course_is}
use Rattle.lb_journal.proofs.Resting.{none_owed}

-- ---- the course that a `use` leaves
pub record Adopted (old new : Course) (kind : Kind) (cpu : ℕ) : Type 0 where
  pub form : new.form ≡ Used
  pub kind_is : new.kind ≡ Some kind
  pub cpu_is : new.cpu ≡ cpu
  pub pushed : new.pushed ≡ old.pushed

drew_adopted : (o : Owner) (n : ℕ) (old new : Course) (kind : Kind) (cpu : ℕ) → Adopted old new kind cpu →
    Adopted old (drew o n new) kind cpu
drew_adopted (Queue u) n old new kind cpu a = record {
  form = a.form;
  kind_is = a.kind_is;
  cpu_is = a.cpu_is;
  pushed = a.pushed;
}
drew_adopted (Lane l) n old new kind cpu a = a
drew_adopted Publisher n old new kind cpu a = a

use_leaves : (w : What) (v : ℕ) (kind : Kind) (cpu : ℕ) → w ≡ Adopt v kind cpu → (s : Sight) (c : ℕ) (q : QueueState) →
    Adopted s.course (course_by w s c q) kind cpu
use_leaves w v kind cpu ew s c q =
    subst (λ (x : What). Adopted s.course (course_by x s c q) kind cpu) (sym ew)
    (record { form = refl; kind_is = refl; cpu_is = refl; pushed = refl })

adopted : (s : Sight) (e : Entry) (v : ℕ) (kind : Kind) (cpu : ℕ) → e.what ≡ Adopt v kind cpu →
    Adopted s.course (course_after s e) kind cpu
unfolding course_after
adopted s e v kind cpu ew =
    drew_adopted e.owner (s.count + 1) s.course _ kind cpu
    (use_leaves e.what v kind cpu ew s (cpu_of e.owner) (queue_after s e))

used_not_rest : Used ≡ Rest → ⊥
used_not_rest e = let q : ⊥ = cc in q

-- ---- the answer to it
used_draws : (w : What) (f : Form) (h : Header) (c : Course) (q : QueueState) (lane : ℕ) (ds : List (ℕ × Journal)) (i : Journal) →
    f ≡ Used → draws f h c q lane w ≡ true → AnswersUse w ds i → Answers ds i
unfolding draws
used_draws (Turn ps) Used h c q lane ds i f e t = t
used_draws Shut Used h c q lane ds i f e t = t
used_draws w Used h c q lane ds i f e t = absurd (let q : ⊥ = cc in q)
used_draws w g h c q lane ds i f e t = absurd (let q : ⊥ = cc in q)

used_owner : (w : What) (f : Form) (h : Header) (c : Course) (q : QueueState) (lane : ℕ) (o : Owner) → f ≡ Used →
    draws f h c q lane w ≡ true → is_owner w lane (queue_due f c) o ≡ true → o ≡ Queue c.cpu
unfolding draws
used_owner (Turn ps) Used h c q lane (Queue u) f e o = ap Queue (eqb-true u c.cpu o)
used_owner Shut Used h c q lane (Queue u) f e o = ap Queue (eqb-true u c.cpu o)
used_owner (Turn ps) Used h c q lane (Lane l) f e o = absurd (let q : ⊥ = cc in q)
used_owner Shut Used h c q lane (Lane l) f e o = absurd (let q : ⊥ = cc in q)
used_owner (Turn ps) Used h c q lane Publisher f e o = absurd (let q : ⊥ = cc in q)
used_owner Shut Used h c q lane Publisher f e o = absurd (let q : ⊥ = cc in q)
used_owner w Used h c q lane o f e own = absurd (let q : ⊥ = cc in q)
used_owner w g h c q lane o f e own = absurd (let q : ⊥ = cc in q)

-- ---- fronts of one list
longer_front : (xs ys zs ws : List Journal) (x : Journal) → xs ++ x ∷ ys ≡ zs ++ ws → length xs < length zs →
    (mid : List Journal) × (zs ≡ xs ++ x ∷ mid)
longer_front [] ys [] ws x e lt = absurd (omega arith)
longer_front [] ys (z ∷ zs) ws x e lt = (zs, ap (λ (y : Journal). y ∷ zs) (sym (head_is e)))
longer_front (y ∷ xs) ys [] ws x e lt = absurd (omega arith)
longer_front (y ∷ xs) ys (z ∷ zs) ws x e lt =
    let r = longer_front xs ys zs ws x (tail_is e) (omega arith) in
    (r.0, λ i. head_is (sym e) i ∷ r.1 i)

-- the later items have later tickets
late_none : (k n b : ℕ) (rest : List Journal) → b ≤ n →
    All (λ (d : ℕ × Journal). d.0 < b) (owned_from meaning_of_journal k n rest) →
    owned_from meaning_of_journal k n rest ≡ []
late_none k n b [] le a = refl
late_none k n b (x ∷ rest) le a = go (eqb (number_of x.entry.owner) k) a (late_none k (n + 1) b rest (omega arith))
  where
    go : (c : Bool) →
        All (λ (d : ℕ × Journal). d.0 < b)
        (cond c ((n, x) ∷ owned_from meaning_of_journal k (n + 1) rest) (owned_from meaning_of_journal k (n + 1) rest))
        →
        (All (λ (d : ℕ × Journal). d.0 < b) (owned_from meaning_of_journal k (n + 1) rest) →
        owned_from meaning_of_journal k (n + 1) rest ≡ [])
        →
        cond c ((n, x) ∷ owned_from meaning_of_journal k (n + 1) rest) (owned_from meaning_of_journal k (n + 1) rest) ≡
        []
    go true a rec = absurd (let h : n < b = a 0 (n, x) (omega arith) in omega arith)
    go false a rec = rec a

low_none : (k n b : ℕ) (rest : List Journal) (xs : List (ℕ × Journal)) → b ≤ n →
    All (λ (d : ℕ × Journal). d.0 < b) (xs ++ owned_from meaning_of_journal k n rest) →
    owned_from meaning_of_journal k n rest ≡ []
low_none k n b rest [] le a = late_none k n b rest le a
low_none k n b rest (x ∷ xs) le a = low_none k n b rest xs le (λ q z lt. a (suc q) z (omega arith))

-- what the queue of its CPU says of a `use`
pub record Allowed (kind : Kind) (c : Course) (q : QueueState) : Type 0 where
  pub push : waits_for_push kind c q ≡ false
  pub stop : waits_for_stop kind q ≡ false

waits_same : (k k' : Kind) (c c' : Course) (q q' : QueueState) → k ≡ k' → c.pushed ≡ c'.pushed → q ≡ q' →
    waits_for_push k c q ≡ waits_for_push k' c' q'
waits_same k k' c c' q q' ek ec eq = λ i. same_kind (ek i) TickTurn && (is_some (eq i).active && not (ec i))

stops_same : (k k' : Kind) (q q' : QueueState) → k ≡ k' → q ≡ q' → waits_for_stop k q ≡ waits_for_stop k' q'
stops_same k k' q q' ek eq = λ i. waits_for_stop (ek i) (eq i)

module _ (h : Header) (closing : Journal → Bool) (log : List Journal) (good : Good h closing log) (ok : IsHeader h)
    (d : Journal) (pre rest : List Journal) (j : Journal) (e : log ≡ pre ++ j ∷ rest) (m : MachineState)
    (a : Agrees h log d pre m) where
  leaves_used : (v : ℕ) (kind : Kind) (cpu : ℕ) → j.entry.what ≡ Adopt v kind cpu → Adopted j.course j.after kind cpu
  unfolding sight_in
  leaves_used v kind cpu ew =
      subst (λ (c : Course). Adopted j.course c kind cpu) (sym (good.fits pre rest j e).after)
      (adopted (sight_in (items_of (number_of j.entry.owner) pre) j) j.entry v kind cpu ew)

  -- the item that quotes it
  answer_at : (v : ℕ) (kind : Kind) (cpu r : ℕ) → j.entry.what ≡ Adopt v kind cpu → 1 ≤ r → r ≤ length log →
      quote_at log d r ≡ suc (length pre) → Allowed kind j.course (queue_in h pre cpu)
  unfolding sight_in
  answer_at v kind cpu zero ew one le q = absurd (omega arith)
  answer_at v kind cpu (suc k) ew one le quote =
      let t = length pre in
      let i = item log d (suc k) in
      let ai : At log k i = item_there log d k le in
      let sp = split_at log k i ai in
      let q = good.quoted sp.pre sp.rest i sp.parts (omega arith) in
      let tick = q.ticket in
      let place : q.place ≡ t = omega arith in
      let there : At log t q.item =
      subst (λ (x : ℕ). At log x q.item) place
      (at_whole closing log good.link sp.pre (i ∷ sp.rest) q.place q.item sp.parts q.there) in
      let same : q.item ≡ j = some-injective q.item j (sym there ∙ at_log closing log good.link pre rest j e) in
      let left : j.after ≡ i.course = ap (λ (x : Journal). x.after) (sym same) ∙ q.left in
      let used = subst (λ (c : Course). Adopted j.course c kind cpu) left (leaves_used v kind cpu ew) in
      let f = good.fits sp.pre sp.rest i sp.parts in
      let ds = items_of (number_of i.entry.owner) sp.pre in
      let st = staged ds i f in
      let own : i.entry.owner ≡ Queue cpu =
      used_owner i.entry.what i.course.form i.header i.course (sight_in ds i).queue i.entry.lane i.entry.owner
      used.form st.draws st.owner ∙ ap Queue used.cpu_is in
      let ans : Answers ds i =
      used_draws i.entry.what i.course.form i.header i.course (sight_in ds i).queue i.entry.lane ds i used.form
      st.draws f.turn in
      let below = at_below sp.pre q.place q.item q.there in
      let mid = longer_front pre rest sp.pre (i ∷ sp.rest) j (sym e ∙ sp.parts) (omega arith) in
      let n = number_of (Queue cpu) in
      let parts : queue_items cpu sp.pre ≡ queue_items cpu pre ++ later_items n pre (j ∷ mid.0) =
      ap (queue_items cpu) mid.1 ∙ items_front n pre (j ∷ mid.0) in
      let all : All (λ (x : ℕ × Journal). x.0 < i.entry.prev) (queue_items cpu pre ++ later_items n pre (j ∷ mid.0)) =
      subst (λ (l : List (ℕ × Journal)). All (λ (x : ℕ × Journal). x.0 < i.entry.prev) l)
      (ap (λ (o : Owner). items_of (number_of o) sp.pre) own ∙ parts) ans.before in
      let none : later_items n pre (j ∷ mid.0) ≡ [] =
      low_none n (1 + t) i.entry.prev (j ∷ mid.0) (queue_items cpu pre) (omega arith) all in
      let items : queue_items cpu sp.pre ≡ queue_items cpu pre =
      parts ∙ ap (λ (l : List (ℕ × Journal)). queue_items cpu pre ++ l) none ∙ append-nil (queue_items cpu pre) in
      let queue : owned_replay i.header i.entry.owner ds ≡ queue_in h pre cpu =
      ap (λ (o : Owner). owned_replay i.header o (items_of (number_of o) sp.pre)) own
      ∙ ap (λ (x : Header). replay x cpu (queue_items cpu sp.pre)) (good.header k i ai)
      ∙ ap (replay h cpu) items in
      let kind_same : turn_kind i.course ≡ kind = ap (λ (o : Option Kind). unwrap_or o TickTurn) used.kind_is in
      record {
        push =
            sym
            (waits_same (turn_kind i.course) kind i.course j.course (owned_replay i.header i.entry.owner ds)
            (queue_in h pre cpu) kind_same used.pushed queue)
            ∙ ans.push;
        stop =
            sym
            (stops_same (turn_kind i.course) kind (owned_replay i.header i.entry.owner ds) (queue_in h pre cpu)
            kind_same queue)
            ∙ ans.stop;
      }

  -- some item of the lane comes later
  answered : (v : ℕ) (kind : Kind) (cpu : ℕ) → j.entry.what ≡ Adopt v kind cpu → (s : ℕ) (x : Journal) → At log s x →
      x.entry.lane ≡ j.entry.lane → length pre < s → Allowed kind j.course (queue_in h pre cpu)
  answered v kind cpu ew s x ax l lt =
      let t = length pre in
      let low = at_below log s x ax in
      let lanes : lane_at log d (suc t) ≡ lane_at log d (suc s) =
      ap (λ (y : Journal). y.entry.lane) (item_is log d t j (at_log closing log good.link pre rest j e)) ∙ sym l
      ∙ sym (ap (λ (y : Journal). y.entry.lane) (item_is log d s x ax)) in
      let r =
      is_quoted (lane_at log d) (quote_at log d) (length log) (suc t) (suc s) (quotes closing log good.link d)
      (omega arith) (omega arith) (omega arith) lanes in
      let le = r.2 in
      answer_at v kind cpu r.0 ew r.1 (omega arith) r.3

  -- the lane does not end with a `use`
  not_last : (v : ℕ) (kind : Kind) (cpu : ℕ) → j.entry.what ≡ Adopt v kind cpu →
      ((s : ℕ) (x : Journal) → At log s x → closing x ≡ false → x.entry.lane ≡ j.entry.lane → s ≤ length pre) → ⊥
  not_last v kind cpu ew last =
      let open_ : closing j ≡ false =
      false_from_ne_true (closing j)
      (λ c.
      let k : may_close j.entry.what ≡ true = good.closing_kind j c in
      both_ways (may_close j.entry.what) (ap may_close ew) k)
      in
      let rest_is = good.at_rest (length pre) j (at_log closing log good.link pre rest j e) open_ last in
      used_not_rest (sym (leaves_used v kind cpu ew).form ∙ rest_is)

  allowed : (v : ℕ) (kind : Kind) (cpu : ℕ) → j.entry.what ≡ Adopt v kind cpu → (b : Bool) →
      (Allowed kind j.course (queue_in h pre cpu) → b ≡ false) → b ≡ false
  allowed v kind cpu ew b f =
      false_from_ne_true b
      (λ c. not_last v kind cpu ew
      (λ s x ax ox l. elim (cases_lt (length pre) s) [
        | inl lt ↦ absurd (both_ways b (f (answered v kind cpu ew s x ax l lt)) c)
        | inr le ↦ le
      ]))

  past : (cpu : ℕ) → length h.cpus ≤ cpu → queue_at m.queues cpu ≡ no_queue
  past cpu ge = get_or_past m.queues cpu no_queue (let l = a.cpus in omega arith)

  push_right : (v : ℕ) (kind : Kind) (cpu : ℕ) → j.entry.what ≡ Adopt v kind cpu →
      waits_for_push kind j.course (queue_at m.queues cpu) ≡ false
  push_right v kind cpu ew = elim (cases_lt cpu (length h.cpus)) [
    | inl lt ↦ ap (waits_for_push kind j.course) (a.queue cpu lt)
        ∙ allowed v kind cpu ew (waits_for_push kind j.course (queue_in h pre cpu)) (λ x. x.push)
    | inr ge ↦ ap (waits_for_push kind j.course) (past cpu ge) ∙ and_right (same_kind kind TickTurn) _ refl
  ]

  stop_right : (v : ℕ) (kind : Kind) (cpu : ℕ) → j.entry.what ≡ Adopt v kind cpu →
      waits_for_stop kind (queue_at m.queues cpu) ≡ false
  unfolding has_owed
  stop_right v kind cpu ew = elim (cases_lt cpu (length h.cpus)) [
    | inl lt ↦ ap (waits_for_stop kind) (a.queue cpu lt)
        ∙ allowed v kind cpu ew (waits_for_stop kind (queue_in h pre cpu)) (λ x. x.stop)
    | inr ge ↦ ap (waits_for_stop kind) (past cpu ge) ∙ and_right (same_kind kind TickTurn) _ refl
  ]

  use_by : (w : What) → j.entry.what ≡ w → stage_of_use m j.course w ≡ false
  use_by (Adopt v kind cpu) ew = push_right v kind cpu ew
  use_by w ew = refl

  pub use_right : stage_of_use m (course_at m.courses j.entry.lane) j.entry.what ≡ false
  use_right =
      ap (λ (c : Course). stage_of_use m c j.entry.what) (course_is h closing log good ok d pre rest j e m a)
      ∙ use_by j.entry.what refl

  owed_by : (w : What) → j.entry.what ≡ w → owed_elsewhere m w ≡ false
  owed_by (Adopt v kind cpu) ew = stop_right v kind cpu ew
  owed_by (End cpus) ew = none_owed h closing log good ok d pre rest j e m a cpus ew
  owed_by w ew = refl

  pub owed_right : owed_elsewhere m j.entry.what ≡ false
  owed_right = owed_by j.entry.what refl
