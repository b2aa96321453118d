-- The loops of `read_all` of src/figures.rt: a figure of each CPU of a mask.
use Rattle.std.proofs.Common.{◌-◌, ◌<◌, length, All}
use Rattle.lb_base.specs.declared.mask.TheConstants.{MAX_CPUS}
use Rattle.lb_base.specs.Mask.{members_below}
use Rattle.lb_base.proofs.Walks.{passed, Stands}
use Rattle.lb_lane.specs.Figures.{AreOf, Sees}
use Rattle.lb_lane.proofs.figures.read_all.Given as goal

abbrev pub invariant-loop-next : goal.invariant-loop-next
invariant-loop-next g l = record {
  at : Stands l.due l.next;
  sees : Sees l.initial.side l.side;
  so_far : AreOf l.initial.side.known.reader l.side.known.reader (members_below l.due (passed l.next)) l.figs;
  inside : All (λ f. f.cpu < length g.N.Names.board) l.figs;
}

abbrev pub decreases-loop-next : goal.decreases-loop-next
decreases-loop-next g l = MAX_CPUS - passed l.next
