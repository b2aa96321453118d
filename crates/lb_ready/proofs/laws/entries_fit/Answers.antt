-- For `entries_fit` of src/laws.rt: what the entries of a history of an accepted trace say is in the ranges
-- of its text (docs/rules/history-text.md), tickets and previous tickets too; and so does each entry that may
-- be added to a ready machine that has not drawn [`lb_core::MAX_TICKET`] entries.
use Rattle.lb_ready.proofs.Histories.{entries_fit}
use Rattle.lb_ready.proofs.Ranges.{ReadyLaws, entry_in}
use Rattle.lb_ready.proofs.laws.entries_fit.Goals as goal

pub returns : goal.returns
returns c =
    let laws : ReadyLaws = record {
      stays = c.ready.ensures.stays;
      looks = c.calls_may_be_made.ensures.looks;
      domains = record {
        few = c.domains_are_few.ensures.most;
        order = c.domains_stand_in_order.ensures;
        inside = c.spans_lie_inside.ensures;
        part = c.groups_part_the_span.ensures;
      };
    } in
    record {
      histories = entries_fit c.ready.ensures.opens c.histories_end.ensures laws;
      entries = λ m e k few h r. entry_in laws m e k few h r;
    }
