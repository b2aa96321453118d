-- For `is_bad_row` of src/rows.rt: whether the row of node `a` cannot stand below those before it.
use Rattle.std.proofs.Common.{length, arith, rules, ◌∙◌, sym}
use Rattle.lb_levels.specs.Rows.{is_bad_entry}
use Rattle.lb_base.proofs.Ranges.{one_passes, none_passes}
use Rattle.lb_levels.proofs.Tables.{bad_row_is}
use Rattle.lb_levels.proofs.rows.is_bad_row.Goals as goal

pub returns-then-is_bad_entry : goal.returns-then-is_bad_entry
returns-then-is_bad_entry c =
    one_passes (is_bad_entry c.args.distances.now c.args.a) (length c.args.distances.now) c.loop-b.b (omega arith) (search rules)
    ∙ sym (bad_row_is c.args.distances.now c.args.a c.requires.square c.requires.from)

pub returns : goal.returns
returns c =
    none_passes (is_bad_entry c.args.distances.now c.args.a) (length c.args.distances.now)
    (λ k lt. c.loop-b.invariant k (omega (arith, lt)))
    ∙ sym (bad_row_is c.args.distances.now c.args.a c.requires.square c.requires.from)
