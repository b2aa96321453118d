-- The loops of `are_of` of src/figures.rt: whether there is one name for each CPU of the mask, in their
-- order.
use Rattle.std.proofs.Common.{◌≡◌, map, drop}
use Rattle.lb_base.specs.Mask.{members}
use Rattle.lb_base.proofs.Walks.{Stands}
use Rattle.lb_core.specs.Same.{same_numbers}
use Rattle.lb_judge.proofs.Ahead.{ahead}
use Rattle.lb_judge.proofs.figures.are_of.Given as goal

abbrev pub invariant-loop-name : goal.invariant-loop-name
invariant-loop-name l = record {
  at : Stands l.mask l.next;
  so_far :
      same_numbers (map (λ f. f.cpu) l.names) (members l.mask)
      ≡ same_numbers (map (λ f. f.cpu) (drop l.name-index l.names)) (ahead l.mask l.next);
}
