-- For `counters_of` of src/closing.rt: the queue's counters of a position, or zeros where it has none.
use Rattle.std.proofs.Common.{sym, []}
use Rattle.std.specs.Prelude.{unwrap_or}
use Rattle.lb_queue.specs.Turns.{no_counters}
use Rattle.lb_act.proofs.Lists.{get_none}
use Rattle.lb_act.proofs.closing.counters_of.Goals as goal

pub returns-in-None : goal.returns-in-None
returns-in-None c = sym (get_none (unwrap_or c.args.queue.now.state.counters []) c.args.position no_counters
    (sym c.in-None.ensures))
