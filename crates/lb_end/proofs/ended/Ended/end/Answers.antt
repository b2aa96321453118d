-- For `Ended::end` of src/finish.rt: lane 0 ends the history.
use Rattle.std.proofs.Common.{ℕ, ◌≡◌, ◌+◌, ◌<◌, ◌≤◌, [], List, length, refl, sym, subst, ap, ◌∙◌, get_or, set, arith}
use Rattle.std.proofs.lemmas.List.{get_or-set_same}
use Rattle.lb_trace.specs.declared.trace.Header.{Header}
use Rattle.lb_core.specs.declared.course.Course.{Course}
use Rattle.lb_core.specs.declared.entry.Owner.TheVariants as owner
use Rattle.lb_core.specs.declared.entry.What.{What}
use Rattle.lb_core.specs.declared.entry.What.TheVariants as what
use Rattle.lb_core.specs.Course.{opening_course}
use Rattle.lb_cell.specs.LastEntries.{IsLast}
use Rattle.lb_ticket.specs.declared.item.Drawn.{Drawn}
use Rattle.lb_journal.specs.Journal.{Journal}
use Rattle.lb_journal.specs.declared.journal.Journal.{the_code}
use Rattle.lb_journal.specs.contracts.journal.Left.{the_row}
use Rattle.lb_end.specs.Ends.{EndedIs, IsFirstCourse}
use Rattle.lb_end.specs.Drawing.{Drew, first_course, first_ticket, item_of}
use Rattle.lb_end.proofs.Keeping.{keeps_drawn, list_is, replays_else}
use Rattle.lb_end.proofs.Parts.{drew_seen, empty_first, first_is, there}
use Rattle.lb_end.proofs.ended.Ended.end.Goals as goal

pub draw_end-requires-clause-first : goal.draw_end-requires-clause-first
draw_end-requires-clause-first g c =
    let f =
    first_is g.N.Names.header g.N.Names.book the_code the_row.coded _ c.self.invariant _ _ _ c.index_mut-2.ensures.value
    c.index_mut-3.ensures.value c.index_mut-4.ensures.value in
    let all = c.self.invariant.all_seats in
    let own = c.self.invariant.owners in
    let here = there c.self.inside.seats.items 1 c.index_mut.result.now (omega (arith, all, own)) c.index_mut.ensures.value in
    λ z.
    sym (list_is c.self.inside.seats.items 1 c.index_mut.result.now here)
    ∙ empty_first g.N.Names.header g.N.Names.book the_code the_row.coded _ c.self.invariant (f.ticket ∙ z)

pub draw_end-requires-clause-course : goal.draw_end-requires-clause-course
draw_end-requires-clause-course g c =
    let f =
    first_is g.N.Names.header g.N.Names.book the_code the_row.coded _ c.self.invariant _ _ _ c.index_mut-2.ensures.value
    c.index_mut-3.ensures.value c.index_mut-4.ensures.value in (
      ap (λ (x : Course). x.form) (sym f.course) ∙ (ap (λ (x : EndedIs). (first_course x).form) c.self.view_is ∙ c.requires.rest),
      (f.quiet.0 ∙ ap (λ (h : Header). length h.cpus) (sym c.self.invariant.header_is), f.quiet.1),
    )

pub invariant_of-self : goal.invariant_of-self
invariant_of-self g c =
    let all = c.self.invariant.all_seats in
    let own = c.self.invariant.owners in
    let here = there c.self.inside.seats.items 1 c.index_mut.result.now (omega (arith, all, own)) c.index_mut.ensures.value in
    let n = g.N.Names in
    let keep = c.self.invariant in
    let d = c.draw_end.ensures.drew in
    let w : What = what.End c.args.unserved in
    let item : Journal =
    item_of c.self.inside.header (owner.Lane 0) c.index_mut-2.result.now c.draw_end.new.course c.index_mut-3.result.now w in
    let x : Drawn Journal = record { ticket = c.draw_end.new.last; item = item } in
    keeps_drawn n.header n.book the_code the_row.coded _ keep 1 c.index_mut.result.now c.draw_end.new.seat x here d.list
    (d.seat.0, d.seat.1) d.seat.3 keep.header_is tt refl d.some (λ lane one lt is. omega (arith, one, is))
    c.draw_end.new.course (subst (λ (h : Header). IsFirstCourse h c.draw_end.new.course) keep.header_is c.draw_end.ensures.course)
    c.draw_end.new.note
    (subst (λ (t : Type 0). t)
    (λ i.
    IsLast (keep.book_is i) the_row.coded (length (keep.header_is i).cpus) 0 c.draw_end.new.course c.draw_end.new.last
    c.draw_end.new.note) d.last)
    c.growth_keeps.ensures c.self.inside.queues.items refl
    (replays_else n.header 1 c.self.inside.seats.items c.draw_end.new.seat c.self.inside.queues.items (omega arith) keep.replays)

pub returns : goal.returns
returns g c =
    let f =
    first_is g.N.Names.header g.N.Names.book the_code the_row.coded _ c.self.invariant _ _ _ c.index_mut-2.ensures.value
    c.index_mut-3.ensures.value c.index_mut-4.ensures.value in
    let all = c.self.invariant.all_seats in
    let own = c.self.invariant.owners in
    let here = there c.self.inside.seats.items 1 c.index_mut.result.now (omega (arith, all, own)) c.index_mut.ensures.value in
    record {
      drew =
          drew_seen g.N.Names.header the_row.coded 1 (owner.Lane 0) (what.End c.args.unserved) _ _ _ _ _ _ _ _ _ _
          c.self.inside.queues.items c.self.invariant.header_is c.self.view_is f here c.draw_end.ensures.drew;
    }
