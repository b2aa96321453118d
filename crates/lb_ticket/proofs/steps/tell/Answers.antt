-- For `tell` of src/steps.rt: what a seat drew, for another to read.
use Rattle.std.proofs.Common.{arith}
use Rattle.lb_ticket.proofs.BareKeeping.{bare_tells}
use Rattle.lb_ticket.proofs.steps.tell.Goals as goal

pub split_seat-requires : goal.split_seat-requires
split_seat-requires g c =
    let m = g.I.Item.means in
    let ci = g.row.I.coded in
    let cl = g.row.I-Left.coded in (
      c.requires.table.0,
      (let w = c.requires.table.1 in omega arith),
      λ s h at. bare_tells m ci cl c.args.shared.now.key c.args.token.now.id c.args.token.now.me.0 s.words s.views h at,
    )
