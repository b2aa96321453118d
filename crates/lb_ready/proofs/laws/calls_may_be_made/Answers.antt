-- For `calls_may_be_made` of src/laws.rt: an entry that may be added to a ready machine meets what the calls
-- of its queue ask, with the values that the course of its lane fixes; all but what a command asks it meets
-- as soon as its lane may draw it (`tried`).
use Rattle.lb_ready.proofs.Keeping.{DomainLaws}
use Rattle.lb_ready.proofs.Calls.{calls_may_be_tried, calls_may_be_made, looks_may_be_decided, stops_may_be_taken, tasks_stand}
use Rattle.lb_ready.proofs.laws.calls_may_be_made.Goals as goal

pub returns : goal.returns
returns c =
    let laws : DomainLaws = record {
      few = c.domains_are_few.ensures.most;
      order = c.domains_stand_in_order.ensures;
      inside = c.spans_lie_inside.ensures;
      part = c.groups_part_the_span.ensures;
    } in
    record {
      tried = calls_may_be_tried laws;
      calls = calls_may_be_made laws;
      looks = looks_may_be_decided laws;
      stops = stops_may_be_taken c.next_stops.ensures.taken;
      stand = tasks_stand;
    }
