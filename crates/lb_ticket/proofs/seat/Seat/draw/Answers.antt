-- For `Seat::draw` of src/seat.rt: draws the next ticket for an item, and answers it; the first ticket of a
-- book is 1. It is above the one that the item quotes and above all that this seat drew before.
use Rattle.std.proofs.Common.{rules, map, sym, subst, ap, ◌∙◌, [], ◌∷◌}
use Rattle.lb_ticket.specs.Facts.{held_of, QuoteIsKnown}
use Rattle.lb_ticket.specs.Tickets.{AllBelow}
use Rattle.lb_ticket.specs.Bare.{IsBareBelow}
use Rattle.lb_ticket.proofs.Belows.{draws_list, drawn_up, quoted_below}
use Rattle.lb_ticket.proofs.seat.Seat.draw.Goals as goal

pub invariant_of-self : goal.invariant_of-self
invariant_of-self g c =
    let code = g.row.I.coded in
    let was = c.self.invariant in
    let owner = c.self.inside.number in
    let drew = c.draw_as-ticket.ensures in
    let pushed = c.push_reserved.ensures.items in
    let list =
    draws_list g.I.Item.means code g.row.I-Left.coded owner c.self.inside.list.items c.self.inside.token.me c.args.item
    c.draw_as-ticket.result was.0 in (
      (
        ap (λ v. v.columns) drew.drew ∙ list.0
            ∙ ap (λ l. record { owner = owner; drawn = map (held_of code) l } ∷ []) (sym pushed),
        ap (λ v. v.vacant) drew.drew ∙ list.1,
        drew.table.1 ∙ list.2,
      ),
      search rules,
      search rules,
      subst (λ l. IsBareBelow l c.draw_as-ticket.new.token.me.0) (sym pushed)
          (drew.below c.self.inside.list.items was.3),
    )

pub returns-clause-above : goal.returns-clause-above
returns-clause-above g c =
    let m = g.I.Item.means in
    let left = g.row.I-Left.coded in
    let was = c.self.invariant in
    let quote = m.quote c.args.item in
    let next = c.self.inside.token.me.0.seen in
    let ticket = c.draw_as-ticket.result in
    let later = c.draw_as-ticket.ensures.later in (
      quoted_below m g.row.I.coded left next ticket c.self.inside.token.me.0.known c.args.item quote later.0 later.1
          was.3.2
          (subst (λ s. QuoteIsKnown m left s.known c.args.item quote) (sym c.self.view_is) c.requires.quote),
      subst (λ s. AllBelow ticket s.list) c.self.view_is (drawn_up next ticket c.self.inside.list.items later.0 was.3.0),
    )
