-- For `mask_of_a_test` of src/laws.rt: the mask of a test has exactly the CPUs that pass it.
use Rattle.lb_base.proofs.Sets.{mask_where_has}
use Rattle.lb_base.proofs.laws.mask_of_a_test.Goals as goal

pub returns : goal.returns
returns c = mask_where_has
