-- For `fault_of` of src/machine.rt: the first fault of the rows and the table.
use Rattle.std.proofs.Common.{ℕ, ◌<◌, sym, ◌∙◌, ap, arith, Some, None}
use Rattle.lb_levels.specs.Faults.{first_misfit}
use Rattle.lb_levels.proofs.FaultOrder.{clash_first, misfit_first, bad_row_first, not_nested_first, fits_length, fits_square}
use Rattle.lb_levels.proofs.Nodes.{some_nodes}
use Rattle.lb_levels.proofs.machine.fault_of.Goals as goal

pub returns-in-Some : goal.returns-in-Some
returns-in-Some c = clash_first c.args.cpus.now c.args.distances.now c.in-Some.cpu (sym c.first_clash.ensures ∙ c.in-Some.is)

pub first_misfit-requires-clause-some : goal.first_misfit-requires-clause-some
first_misfit-requires-clause-some c = omega (arith, c.nodes_of.ensures.count, some_nodes c.args.cpus.now c.requires.some)

pub returns-in-Some-first_misfit : goal.returns-in-Some-first_misfit
returns-in-Some-first_misfit c =
    let nodes = ap (λ (n : ℕ). first_misfit n c.args.distances.now) c.nodes_of.ensures.count in
    misfit_first c.args.cpus.now c.args.distances.now c.in-Some-first_misfit.row (sym c.first_clash.ensures ∙ c.in_default.is)
    (sym (c.first_misfit.ensures ∙ nodes) ∙ c.in-Some-first_misfit.is)

pub first_bad_row-requires-clause-square : goal.first_bad_row-requires-clause-square
first_bad_row-requires-clause-square c =
    let some : 0 < c.nodes_of.result = omega (arith, c.nodes_of.ensures.count, some_nodes c.args.cpus.now c.requires.some) in
    fits_square c.nodes_of.result c.args.distances.now some (sym c.first_misfit.ensures ∙ c.in_default-first_misfit.is)

pub first_bad_row-requires-clause-few : goal.first_bad_row-requires-clause-few
first_bad_row-requires-clause-few c =
    let some : 0 < c.nodes_of.result = omega (arith, c.nodes_of.ensures.count, some_nodes c.args.cpus.now c.requires.some) in
    omega (
      arith,
      fits_length c.nodes_of.result c.args.distances.now some
          (sym c.first_misfit.ensures ∙ c.in_default-first_misfit.is),
    )

pub returns-in-Some-first_bad_row : goal.returns-in-Some-first_bad_row
returns-in-Some-first_bad_row c =
    let nodes = ap (λ (n : ℕ). first_misfit n c.args.distances.now) c.nodes_of.ensures.count in
    bad_row_first c.args.cpus.now c.args.distances.now c.in-Some-first_bad_row.row (sym c.first_clash.ensures ∙ c.in_default.is)
    (sym (c.first_misfit.ensures ∙ nodes) ∙ c.in_default-first_misfit.is)
    (sym c.first_bad_row.ensures ∙ c.in-Some-first_bad_row.is)

pub first_not_nested-requires : goal.first_not_nested-requires
first_not_nested-requires c =
    let some : 0 < c.nodes_of.result = omega (arith, c.nodes_of.ensures.count, some_nodes c.args.cpus.now c.requires.some) in
    record {
      square = fits_square c.nodes_of.result c.args.distances.now some
          (sym c.first_misfit.ensures ∙ c.in_default-first_misfit.is);
    }

pub returns-in-Some-first_not_nested : goal.returns-in-Some-first_not_nested
returns-in-Some-first_not_nested c =
    let nodes = ap (λ (n : ℕ). first_misfit n c.args.distances.now) c.nodes_of.ensures.count in
    not_nested_first c.args.cpus.now c.args.distances.now (Some c.in-Some-first_not_nested.distance)
    (sym c.first_clash.ensures ∙ c.in_default.is)
    (sym (c.first_misfit.ensures ∙ nodes) ∙ c.in_default-first_misfit.is)
    (sym c.first_bad_row.ensures ∙ c.in_default-first_bad_row.is)
    (sym c.first_not_nested.ensures ∙ c.in-Some-first_not_nested.is)

pub returns-in-None : goal.returns-in-None
returns-in-None c =
    let nodes = ap (λ (n : ℕ). first_misfit n c.args.distances.now) c.nodes_of.ensures.count in
    not_nested_first c.args.cpus.now c.args.distances.now None (sym c.first_clash.ensures ∙ c.in_default.is)
    (sym (c.first_misfit.ensures ∙ nodes) ∙ c.in_default-first_misfit.is)
    (sym c.first_bad_row.ensures ∙ c.in_default-first_bad_row.is)
    (sym c.first_not_nested.ensures ∙ c.in-None.is)
