-- For `Machine::span` of src/machine.rt: the CPUs that share with a CPU what a level stands for, among them
-- the CPU itself.
use Rattle.std.proofs.Common.{length, ◌∙◌, ap, arith}
use Rattle.lb_levels.specs.Rows.{Layout}
use Rattle.lb_levels.specs.Spans.{levels_of, level_at, span_of}
use Rattle.lb_levels.proofs.SpanTables.{length-spans_of, row_length, cell_is}
use Rattle.lb_levels.proofs.machine.Machine.span.Goals as goal

pub get-requires : goal.get-requires
get-requires c =
    let levels = ap (λ (m : Layout). length (levels_of m.distances)) c.self.view_is in
    omega (
      arith,
      ap length c.self.invariant.spans,
      length-spans_of c.self.inside.cpus c.self.inside.distances,
      levels,
      c.requires.level,
    )

pub get-requires-2 : goal.get-requires-2
get-requires-2 c =
    let levels = ap (λ (m : Layout). length (levels_of m.distances)) c.self.view_is in
    let cpus = ap (λ (m : Layout). length m.cpus) c.self.view_is in
    let row = row_length c.self.inside.cpus c.self.inside.distances c.self.inside.spans c.args.level c.get.result.now
    c.self.invariant.spans (omega (arith, levels, c.requires.level)) c.get.ensures in
    omega (arith, row, cpus, c.requires.cpu)

pub returns : goal.returns
returns c =
    let levels = ap (λ (m : Layout). length (levels_of m.distances)) c.self.view_is in
    let cpus = ap (λ (m : Layout). length m.cpus) c.self.view_is in
    cell_is c.self.inside.cpus c.self.inside.distances c.self.inside.spans c.args.level c.args.cpu c.get.result.now
    c.get-2.result.now c.self.invariant.spans
    (omega (arith, levels, c.requires.level)) (omega (arith, cpus, c.requires.cpu)) c.get.ensures c.get-2.ensures
    ∙ ap (λ (m : Layout). span_of m.cpus m.distances (level_at m.distances c.args.level) c.args.cpu) c.self.view_is
