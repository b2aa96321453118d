-- For `histories_are_sound` of src/laws.rt: of each history of a trace that was read: after each entry every
-- task stands at one place, where it may run unless it is asked to leave; each look takes what the rules
-- pick, and each row has its reply; what the entries say is in range, and its text reads as it, and as
-- nothing else (docs/rules/legality.md).
use Rattle.lb.proofs.Sound.{sound}
use Rattle.lb.proofs.laws.histories_are_sound.Goals as goal

pub returns : goal.returns
returns c = sound
    (record {
      accepted = c.accepted.ensures;
      placed = c.placed.ensures;
      permitted = c.permitted.ensures.permitted;
      replies = c.replies.ensures.replied;
      passes = c.permitted.ensures.passes;
      fit = c.entries_fit.ensures.histories;
      declared = c.headers_read_back.ensures;
      back = c.histories_read_back.ensures.back;
      once = c.texts_read_once.ensures.once;
    })
