-- For `draw_as` of src/steps.rt: one fetch-and-add of the ticket word.
use Rattle.std.proofs.Common.{rules, [], ◌∷◌, ◌++◌, refl, sym, subst}
use Rattle.std.specs.Prelude.{slice_index}
use Rattle.lb_ticket.specs.Bare.{bare_drew, BareDraws, IsBareBelow}
use Rattle.lb_ticket.proofs.BareKeeping.{bare_draws}
use Rattle.atomic_table.specs.Table.{keeps}
use Rattle.lb_ticket.proofs.Belows.{draws_below}
use Rattle.lb_ticket.proofs.steps.draw_as.Goals as goal

pub fetch_add-requires : goal.fetch_add-requires
fetch_add-requires g c =
    let m = g.I.Item.means in
    let ci = g.row.I.coded in
    let cl = g.row.I-Left.coded in
    let v = c.args.token.now.me.0 in
    let i = c.args.item.now in (
      c.requires.table.0,
      search rules,
      λ s h len at lt.
          let n = slice_index s.words 0 in
          let k =
          bare_draws m ci cl c.args.shared.now.key c.args.token.now.id v i c.requires.may s.words s.views h at in (
            bare_drew m ci cl v i n,
            keeps,
            tt,
            k.0,
            (subst (λ l. BareDraws m ci cl l v n (bare_drew m ci cl v i n)) (sym c.requires.pick) k.1, refl),
          ),
    )

pub returns-clause-below : goal.returns-clause-below
returns-clause-below g c ds below =
    let m = g.I.Item.means in
    let ci = g.row.I.coded in
    let cl = g.row.I-Left.coded in
    let v = c.args.token.now.me.0 in
    let n = c.fetch_add.result in
    let now = c.fetch_add.new.seat.me.0 in
    let may = c.requires.may in
    let drew : BareDraws m ci cl (c.args.item.now ∷ []) v n now =
    subst (λ l. BareDraws m ci cl l v n now) c.requires.pick c.fetch_add.ensures.2.0 in
    subst (IsBareBelow (ds ++ record { ticket = n; item = c.args.item.now } ∷ [])) (sym drew.0)
    (draws_below m ci cl ds v _ c.args.item.now n may.is drew.1 below)
