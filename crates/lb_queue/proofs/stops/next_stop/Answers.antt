-- For `next_stop` of src/stops.rt: the stop request of the least id, of the owed ones only if asked, in a
-- list that is kept from the back to the front.
use Rattle.std.proofs.Common.{◌∙◌, sym, ap}
use Rattle.lb_queue.specs.Requests.{stop_of}
use Rattle.lb_queue.proofs.Leasts.{next_is, next_none, all_go}
use Rattle.lb_queue.proofs.stops.next_stop.Goals as goal

pub returns-in-Some-clause-value : goal.returns-in-Some-clause-value
returns-in-Some-clause-value c = c.stop_of.ensures.value
    ∙ ap stop_of (next_is c.args.owed c.args.awake.now c.in-Some.id c.requires c.in-Some.ensures)

pub returns-in-Some-clause-goes : goal.returns-in-Some-clause-goes
returns-in-Some-clause-goes c = all_go c.args.owed c.args.awake.now c.in-Some.id c.stop_of.result c.requires
    c.in-Some.ensures c.stop_of.ensures.value c.stop_of.ensures.goes

pub returns-in-None-clause-value : goal.returns-in-None-clause-value
returns-in-None-clause-value c = ap stop_of (sym (next_none c.args.owed c.args.awake.now c.in-None.ensures))
