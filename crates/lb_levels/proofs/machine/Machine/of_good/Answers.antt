-- For `Machine::of_good` of src/machine.rt: the machine of rows and distances without a fault.
use Rattle.std.proofs.Common.{List, map, ◌∙◌, ap, arith}
use Rattle.lb_base.specs.declared.shape.LevelName.{LevelName}
use Rattle.lb_levels.specs.Faults.{nodes_of}
use Rattle.lb_levels.specs.Spans.{spans_at, spans_of}
use Rattle.lb_levels.proofs.FaultOrder.{good, fits_length, fits_square, fits_nodes}
use Rattle.lb_levels.proofs.Nodes.{some_nodes}
use Rattle.lb_levels.proofs.machine.Machine.of_good.Goals as goal

pub levels_of-requires-clause-square : goal.levels_of-requires-clause-square
levels_of-requires-clause-square c =
    fits_square (nodes_of c.args.cpus.now) c.args.distances.now (some_nodes c.args.cpus.now c.requires.some)
    (good c.args.cpus.now c.args.distances.now c.requires.good).fits

pub levels_of-requires-clause-some : goal.levels_of-requires-clause-some
levels_of-requires-clause-some c =
    omega (
      arith,
      some_nodes c.args.cpus.now c.requires.some,
      fits_length
          (nodes_of c.args.cpus.now) c.args.distances.now (some_nodes c.args.cpus.now c.requires.some)
          (good c.args.cpus.now c.args.distances.now c.requires.good).fits,
    )

pub spans_of-requires-clause-square : goal.spans_of-requires-clause-square
spans_of-requires-clause-square c =
    fits_square (nodes_of c.args.cpus.now) c.args.distances.now (some_nodes c.args.cpus.now c.requires.some)
    (good c.args.cpus.now c.args.distances.now c.requires.good).fits

pub spans_of-requires-clause-nodes : goal.spans_of-requires-clause-nodes
spans_of-requires-clause-nodes c =
    fits_nodes c.args.cpus.now c.args.distances.now c.requires.some
    (good c.args.cpus.now c.args.distances.now c.requires.good).fits

pub invariant_of-result : goal.invariant_of-result
unfolding spans_of
invariant_of-result c =
    let names = c.in_ok-names.ensures in
    let spans = c.in_ok-spans.ensures in
    rw (c.in_ok-from_slice.ensures, c.in_ok-copy_of.ensures) record {
      some = c.requires.some;
      few = c.requires.few;
      nodes = c.requires.nodes;
      good = c.requires.good;
      names = names;
      spans = spans ∙ ap (λ (ls : List LevelName). map (spans_at c.args.cpus.now c.args.distances.now) ls)
          (c.as_slice.ensures ∙ names);
    }
