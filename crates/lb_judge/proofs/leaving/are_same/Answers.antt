-- For `are_same` of src/leaving.rt: whether two lists of ids are equal.
use Rattle.lb_judge.proofs.Lists.{other_length}
use Rattle.lb_judge.proofs.leaving.are_same.Goals as goal

pub returns-then-one-other : goal.returns-then-one-other
returns-then-one-other c = other_length c.args.one.now c.args.other.now c.if-one-other.true
