-- For `note_is_of_one` of src/laws.rt: a note is of one ticket.
use Rattle.std.proofs.Common.{◌≡◌, length, subst}
use Rattle.lb_ticket.proofs.Learnt.{one_fact}
use Rattle.lb_ticket.proofs.laws.note_is_of_one.Goals as goal

pub returns : goal.returns
returns c =
    one_fact c.args.note.now.facts (subst (λ n. length n.facts ≡ 1) c.note.view_is c.note.invariant.3)
