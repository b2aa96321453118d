-- For `note_as` of src/steps.rt: the note of a ticket.
use Rattle.std.proofs.Common.{ap, arith, subst, sym}
use Rattle.lb_ticket.specs.Bare.{IsBareBelow}
use Rattle.lb_ticket.proofs.BareKeeping.{bare_notes}
use Rattle.lb_ticket.proofs.Belows.{notes_below}
use Rattle.lb_ticket.proofs.steps.note_as.Goals as goal

pub split_seat-requires : goal.split_seat-requires
split_seat-requires g c =
    let m = g.I.Item.means in
    let ci = g.row.I.coded in
    let cl = g.row.I-Left.coded in (
      c.requires.table.0,
      (let w = c.requires.table.1 in omega arith),
      λ s h at.
          bare_notes m ci cl c.args.shared.now.key c.args.token.now.id g.J.PicksTicket.picked c.args.token.now.me.0
          s.words s.views h at,
    )

pub returns-clause-below : goal.returns-clause-below
returns-clause-below g c ds below =
    subst (IsBareBelow ds) (sym (ap (λ me. me.0) c.split_seat.ensures.2))
    (notes_below ds c.args.token.now.me.0 g.J.PicksTicket.picked below)
