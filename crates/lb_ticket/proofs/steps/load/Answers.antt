-- For `load` of src/steps.rt: the next ticket at this moment.
use Rattle.std.proofs.Common.{refl, arith}
use Rattle.std.specs.Prelude.{slice_index}
use Rattle.atomic_table.specs.Table.{keeps}
use Rattle.lb_ticket.specs.Bare.{bare_marked}
use Rattle.lb_ticket.proofs.BareKeeping.{bare_marks}
use Rattle.lb_ticket.proofs.Belows.{marks_below}
use Rattle.lb_ticket.proofs.steps.load.Goals as goal

pub load-requires : goal.load-requires
load-requires g c =
    let m = g.I.Item.means in
    let ci = g.row.I.coded in
    let cl = g.row.I-Left.coded in
    let v = c.args.token.now.me.0 in (
      c.requires.table.0,
      (let w = c.requires.table.1 in omega arith),
      λ s h len at lt. let k =
          bare_marks m ci cl c.args.shared.now.key c.args.token.now.id v s.words s.views h at in
          (bare_marked v (slice_index s.words 0), keeps, tt, k.0, (k.1, refl)),
    )

pub returns-clause-below : goal.returns-clause-below
returns-clause-below g c ds below =
    marks_below ds c.args.token.now.me.0 c.load.result c.load.new.seat.me.0 c.load.ensures.2.0 below
