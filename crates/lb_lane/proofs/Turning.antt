-- A queue may answer the `use` that a lane drew in the same hold of its lock; and whether a push comes first.
-- For `Lane::turn`.
use Rattle.std.proofs.Common.{ℕ, zero, suc, ◌≡◌, ◌<◌, Bool, true, false, not, ◌&&◌, IfSome, Option, Some, None, is_some, List, [], ◌∷◌, if◌then◌else◌, get_or, slice_get, length, refl, sym, subst, ap, ◌∙◌, arith}
use Rattle.std.proofs.lemmas.List.{length-map}
use Rattle.lb_base.specs.declared.shape.Kind.{Kind}
use Rattle.lb_base.specs.declared.shape.Kind.TheVariants.{Tick}
use Rattle.lb_domain.specs.declared.domain.Domain.{Domain}
use Rattle.lb_domain.specs.Domains.{domains_of, domain_at}
use Rattle.lb_domain.specs.Laws.{StandInOrder}
use Rattle.lb_queue.specs.Queue.{QueueState}
use Rattle.lb_trace.specs.declared.trace.Header.{Header}
use Rattle.lb_core.specs.declared.course.Course.{Course}
use Rattle.lb_core.specs.declared.course.Form.TheVariants as forms
use Rattle.lb_core.specs.Asks.{OpeningAsks}
use Rattle.lb_core.specs.Course.{shapes_of, turn_domains, turn_kind}
use Rattle.lb_core.specs.Same.{same_kind}
use Rattle.lb_core.specs.Stage.{waits_for_push, waits_for_stop}
use Rattle.lb_cell.specs.Cells.{CellIs}
use Rattle.lb_cell.specs.Draws.{IsDueAt, MayAnswerUse}
use Rattle.lb_lane.specs.declared.chosen.Chosen.{Chosen}
use Rattle.lb_lane.specs.Began.{TurnAsks}
use Rattle.lb_lane.specs.Lanes.{LaneIs}
use Rattle.lb_lane.specs.Uses.{Adopted, IsChosen}
use Rattle.lb_lane.proofs.Adopting.{use_left}

-- ---- the lane took up the version
abbrev uses : Chosen → Kind → Course → Course
uses x kind c = record c {
  form = forms.Used;
  version = x.version;
  masks = x.masks;
  kind = Some kind;
  cpu = x.cpu;
  named_version = x.version;
}

used : (h : Header) (c : CellIs) (l m : LaneIs) (x : Chosen) (kind : Kind) (ticket : ℕ) → Adopted h c l m x kind ticket
    → m.side.course ≡ uses x kind l.side.course
used h c l m x kind ticket a =
    a.drew.course ∙ (use_left h a.followed x.version kind x.cpu x.masks [] ∙ ap (uses x kind) a.same.course)

pub due_now : (h : Header) (c : CellIs) (l m : LaneIs) (x : Chosen) (kind : Kind) (ticket : ℕ) → Adopted h c l m x kind ticket
    → x.cpu ≡ c.log.writer.cpu → IsDueAt forms.Used m.side.course c.log.writer.cpu
due_now h c l m x kind ticket a here =
    let course = used h c l m x kind ticket a in
    record { form = ap (λ y. y.form) course; here = ap (λ y. Some y.cpu) course ∙ ap Some here }

-- the queue has drawn nothing since
pub answers_now : (h : Header) (c : CellIs) (l m : LaneIs) (x : Chosen) (kind : Kind) (ticket : ℕ) → Adopted h c l m x kind ticket
    → waits_for_push kind l.side.course c.queue.state ≡ false → waits_for_stop kind c.queue.state ≡ false → MayAnswerUse c m.side
answers_now h c l m x kind ticket a push stop =
    let course = used h c l m x kind ticket a in
    let q : QueueState = c.queue.state in
    let held = a.drew.held in
    record {
      before = λ i e lt.
          let b : (get_or c.log.seat.list i e).ticket < ticket = a.above i e lt in
          omega (arith, b, held);
      push = subst (λ (y : Course). waits_for_push (turn_kind y) y q ≡ false) (sym course) push;
      stop = subst (λ (y : Course). waits_for_stop (turn_kind y) q ≡ false) (sym course) stop;
    }

in_order : (ds : List Domain) (at : ℕ → ℕ) → ((p : ℕ) → p < length ds → (domain_at ds p).shape.position ≡ at p)
    → (i : ℕ) → IfSome (slice_get (shapes_of ds) i) (λ s. s.position ≡ at i)
in_order [] at all i = tt
in_order (d ∷ ds) at all zero = all 0 (omega arith)
in_order (d ∷ ds) at all (suc i) = in_order ds (λ p. at (suc p)) (λ p lt. all (suc p) (omega (arith, lt))) i

pub opening_asks : (h : Header) (c : CellIs) (l m : LaneIs) (x : Chosen) (kind : Kind) (ticket : ℕ)
    → Adopted h c l m x kind ticket
    → IsChosen h l x → TurnAsks c l x kind → StandInOrder → OpeningAsks h c.queue.state m.side.course
opening_asks h c l m x kind ticket a chosen asks stand =
    let q : QueueState = c.queue.state in
    let ds = domains_of h.cpus h.distances x.masks x.cpu in
    let is : x.domains ≡ ds = chosen.copy.domains in
    let few = chosen.copy.few.domains in
    let long : length (shapes_of ds) ≡ length x.domains = length-map ds _ ∙ ap length (sym is) in
    subst (OpeningAsks h q) (sym (used h c l m x kind ticket a))
    (record {
      few = omega (arith, few, long);
      in_order = in_order ds (λ p. p) (λ p lt. stand h.cpus h.distances x.masks x.cpu p lt);
      fit = λ e. rw is at asks.fit e;
    })

pub counters_fit : (h : Header) (c : CellIs) (l m : LaneIs) (x : Chosen) (kind : Kind) (ticket : ℕ)
    → Adopted h c l m x kind ticket
    → IsChosen h l x → length (turn_domains h m.side.course) ≡ length x.domains
counters_fit h c l m x kind ticket a chosen =
    ap (λ y. length (turn_domains h y)) (used h c l m x kind ticket a) ∙ ap length (sym chosen.copy.domains)

-- ---- whether a push comes first
push_by : (b : Bool) (o : Option ℕ) (to : ℕ) → Some to ≡ (if b then o else None) → (b ≡ true) × (o ≡ Some to)
push_by true o to e = (refl, sym e)
push_by false o to e = absurd (cc e)

pub push_comes : (k : Kind) (c : Course) (q : QueueState) (to : ℕ)
    → Some to ≡ (if waits_for_push k c q then q.active else None) → (waits_for_push k c q ≡ true) × (q.active ≡ Some to)
push_comes k c q to e = push_by (waits_for_push k c q) q.active to e

none_by : (a p : Bool) (o : Option ℕ) → None ≡ (if (a && (is_some o && not p)) then o else None)
    → (a && (is_some o && not p)) ≡ false
none_by false p o e = refl
none_by true p None e = refl
none_by true true (Some x) e = refl
none_by true false (Some x) e = absurd (cc e)

pub no_push : (k : Kind) (c : Course) (q : QueueState) → None ≡ (if waits_for_push k c q then q.active else None)
    → waits_for_push k c q ≡ false
no_push k c q e = none_by (same_kind k Tick) c.pushed q.active e
