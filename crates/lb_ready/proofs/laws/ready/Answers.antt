-- For `ready` of src/laws.rt: what every reachable state of the machine keeps: the opening machine of an
-- accepted header is ready, and every entry that may be added keeps it so, where the nice value of its row,
-- if it takes up one, is in range.
use Rattle.lb_ready.proofs.Keeping.{LawsBelow, ready_start, ready_kept}
use Rattle.lb_ready.proofs.Ranges.{fits_in_range}
use Rattle.lb_ready.proofs.laws.ready.Goals as goal

pub returns : goal.returns
returns c =
    let laws : LawsBelow = record {
      queues = record {
        advanced_is = c.advanced_is_bounded.ensures;
        value_is = c.value_is_bounded.ensures;
        moves = c.calls_move.ensures;
        tests = c.tests_last.ensures;
        rest = c.calls_keep_rest.ensures;
        asked = c.next_stops.ensures.asked;
        taken = c.next_stops.ensures.taken;
      };
      domains = record {
        few = c.domains_are_few.ensures.most;
        order = c.domains_stand_in_order.ensures;
        inside = c.spans_lie_inside.ensures;
        part = c.groups_part_the_span.ensures;
      };
      opens = c.placed_stays.ensures.opens;
      stays = c.placed_stays.ensures.stays;
      permitted = c.permitted.ensures.permitted;
      turns = c.turns_stay_open.ensures;
      counts = c.turns_fit.ensures;
    } in
    record {
      opens = ready_start laws;
      stays = λ m e k h r. ready_kept laws m e.owner e.lane e.prev e.what k h r;
      reads = fits_in_range;
    }
