-- A turn that a lane wants to open at the queue of its CPU: the lane takes up a version and the queue answers, or a push
-- has to come first.
-- Cited by the contracts of `Lane::can_turn` and `Lane::turn`; also by `lb_cpu` and `lb_service`.
use Rattle.std.specs.Prelude.{ℕ, ◌≡◌, true, false, Some}
use Rattle.lb_base.specs.declared.shape.Kind.{Kind}
use Rattle.lb_queue.specs.declared.answers.TurnReply.{TurnReply}
use Rattle.lb_queue.specs.Turns.{FitCounters}
use Rattle.lb_trace.specs.declared.trace.Header.{Header}
use Rattle.lb_core.specs.Asks.{OpeningAsks}
use Rattle.lb_core.specs.Course.{shapes_of}
use Rattle.lb_core.specs.Stage.{waits_for_push, waits_for_stop}
use Rattle.lb_cell.specs.Cells.{CellIs}
use Rattle.lb_cell.specs.Draws.{Drew as DrewAt}
use Rattle.lb_cell.specs.Turns.{turn_what}
use Rattle.lb_lane.specs.declared.chosen.Chosen.{Chosen}
use Rattle.lb_lane.specs.declared.turns.Began.{Began}
use Rattle.lb_lane.specs.declared.turns.Began.TheVariants.{Turn, PushFirst}
use Rattle.lb_lane.specs.Lanes.{LaneIs}
use Rattle.lb_lane.specs.Own.{SameRest}
use Rattle.lb_lane.specs.Uses.{Adopted, use_due}

-- a `use` for such a turn is due at this queue, which owes no stop at a tick; and where it has counters of the version,
-- it has one for each domain
pub record TurnAsks (c : CellIs) (l : LaneIs) (x : Chosen) (kind : Kind) : Type 0 where
  pub due : use_due l.side.course.form l.side.course kind x.cpu ≡ true
  pub here : x.cpu ≡ c.log.writer.cpu
  pub owed : waits_for_stop kind c.queue.state ≡ false
  pub fit : FitCounters c.queue.state x.version (shapes_of x.domains)

-- no push had to come first: the lane took up the version, after all that the queue had drawn, and the queue, where a turn
-- may open over its domains, has answered that
pub record TurnAnswered (h : Header) (c c' : CellIs) (l l' : LaneIs) (x : Chosen) (kind : Kind) (r : TurnReply) : Type 0 where
  pub served : waits_for_push kind l.side.course c.queue.state ≡ false
  pub mid : LaneIs
  pub ticket : ℕ
  pub adopted : Adopted h c l mid x kind ticket
  pub asks : OpeningAsks h c.queue.state mid.side.course
  pub answered : DrewAt h c c' mid.side l'.side (turn_what r)
  pub rest : SameRest mid l'

-- what came of it
abbrev pub TurnBegan : Header → CellIs → CellIs → LaneIs → LaneIs → Chosen → Kind → Began → Type 0
TurnBegan h c c' l l' x kind (Turn r) = TurnAnswered h c c' l l' x kind r
TurnBegan h c c' l l' x kind (PushFirst to) =
    (c' ≡ c) × (l' ≡ l) × (waits_for_push kind l.side.course c.queue.state ≡ true) × (c.queue.state.active ≡ Some to)
