-- For `Cell::new` of src/making.rt: the cell of a CPU before any entry: its queue as the header declares it,
-- its seat, which drew nothing, and its writer, which published the opening figure alone.
use Rattle.std.proofs.Common.{◌≡◌, ◌∙◌, ap, sym, subst, arith, length, map, All, []}
use Rattle.std.proofs.lemmas.List.Elements.{All-nil}
use Rattle.lb_ticket.specs.Tickets.{pair}
use Rattle.lb_journal.specs.Journal.{replay}
use Rattle.lb_journal.specs.Owners.{published}
use Rattle.lb_cell.specs.Cells.{IsPlain}
use Rattle.lb_cell.proofs.Beginning.{opening_published}
use Rattle.lb_cell.proofs.cell.Cell.new.Goals as goal

pub invariant_of-result : goal.invariant_of-result
invariant_of-result g c =
    let h = g.N.Names.header in
    let cpu = c.args.writer.cpu in
    let empty : c.args.seat.list ≡ [] = c.requires.seat.2 in
    let long : length c.args.seat.list ≡ 0 = ap length empty in
    record {
      table = c.requires.seat.0;
      number = c.requires.seat.1;
      declared = c.requires.cpu;
      of_board = c.requires.writer.0;
      replayed = ap (λ q. q.state) c.requires.queue ∙ (λ i. replay h cpu (map pair (sym empty i)));
      figures = c.requires.writer.1 ∙ (opening_published h cpu ∙ (λ i. published h cpu (map pair (sym empty i))));
      plain = subst (All (IsPlain h)) (sym empty) (All-nil (IsPlain h));
      room = omega arith;
      short = omega (arith, long);
    }
