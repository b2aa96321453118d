-- For `Blank::new` of src/blank.rt: the machine of an accepted trace before any entry: a book with a seat for
-- each owner, a board with the opening figures, version 1 with the masks of the header, the queues with the
-- tasks that are declared, and the rows of each lane in their order.
use Rattle.std.proofs.Common.{◌≡◌, ◌+◌, List, ◌∷◌, [], length, map, ap, sym, subst, ◌∙◌, arith}
use Rattle.std.specs.List.{range_with_len}
use Rattle.lb_base.specs.declared.mask.Mask.{Mask}
use Rattle.lb_levels.specs.Rows.{Layout}
use Rattle.lb_domain.specs.Topologies.{DomainsWithin, domains_within}
use Rattle.lb_trace.specs.declared.trace.Header.{Header}
use Rattle.lb_trace.specs.declared.trace.Row.{Row}
use Rattle.lb_trace.specs.Accepted.{IsHeader}
use Rattle.lb_core.specs.OfTrace.{of_lane}
use Rattle.lb_cpu.proofs.Cutting.{cut_up}
use Rattle.lb_cpu.proofs.Opening.{cpus_fit, lanes_fit}
use Rattle.lb_cpu.proofs.blank.Blank.new.Goals as goal

pub invariant_of-result : goal.invariant_of-result
invariant_of-result g c =
    let h = c.in_ok-header.header in
    let same = c.in_ok-header.ensures in
    let accepted : IsHeader h = subst (λ (x : Header). IsHeader x) (sym same) c.requires.header in
    let board = c.in_ok-board.board in
    let seats = c.in_ok-seats.seats in
    let cells : length board ≡ length h.cpus =
    (let b = c.in_ok-board.ensures.board in let l = c.len-cpus.ensures in omega arith) in
    let owners : c.in_ok-book.book.owners ≡ 17 + length h.cpus =
    (let o = c.in_ok-book.ensures.seats.0 in let l = c.len-cpus.ensures in omega arith) in
    let count : length seats.queues.items ≡ length h.cpus =
    (let q = c.in_ok-seats.ensures.queues in let b = c.in_ok-book.ensures.seats in let l = c.len-cpus.ensures in omega arith) in
    let cut = cut_up c.in_ok-book.book.table h.lanes c.in_ok-book.seats.items seats.publisher seats.lanes.items
    seats.unused.items seats.queues.items c.in_ok-book.ensures.seats.2 c.in_ok-book.ensures.empty c.in_ok-seats.ensures.all
    c.in_ok-seats.ensures.lanes c.in_ok-seats.ensures.unused in
    let rows = c.in_ok-rows.ensures
    ∙ ap (λ (l : List Row). map (λ lane. of_lane lane l) (range_with_len 0 h.lanes)) c.as_slice.ensures in
    let published = c.in_ok-publisher.ensures.first ∙ ap (λ (t : DomainsWithin). t ∷ []) c.in_ok-first.ensures.value
    ∙ ap (λ (m : Layout). domains_within m.cpus m.distances c.as_slice-2.result.now ∷ []) c.in_ok-machine.ensures
    ∙ ap (λ (ps : List Mask). domains_within h.cpus h.distances ps ∷ []) c.as_slice-2.ensures in
    let cpus = cpus_fit h c.in_ok-book.book.table board c.in_ok-queues.queues.items seats.queues.items
    c.in_ok-board.writers.items cells c.in_ok-queues.ensures cut.queues count c.in_ok-board.ensures.writers in
    let lanes = lanes_fit c.args.trace.now h c.in_ok-book.book.table board c.in_ok-publisher.publisher c.in_ok-rows.rows.items
    seats.lanes.items c.in_ok-board.writers.items c.in_ok-board.readers.items c.in_ok-publisher.lookers.items c.requires same
    cells rows cut.of_lanes c.in_ok-seats.ensures.lanes c.in_ok-board.ensures.writers
    c.in_ok-board.ensures.readers c.in_ok-publisher.ensures.lookers published in (
      record {
        header = accepted;
        machine = c.in_ok-machine.ensures;
        owners = owners;
        cells = cells;
        published = published;
        seat = cut.publisher;
      },
      cpus.0,
      cpus.1,
      lanes.0,
      lanes.1,
      record { numbered = cut.numbered; empty = cut.empty; all_lanes = c.in_ok-seats.ensures.unused },
    )

pub returns-clause-rows : goal.returns-clause-rows
returns-clause-rows g c =
    c.in_ok-rows.ensures
    ∙ ap (λ (l : List Row). map (λ lane. of_lane lane l) (range_with_len 0 c.in_ok-header.header.lanes)) c.as_slice.ensures
    ∙ ap (λ (h : Header). map (λ lane. of_lane lane c.args.trace.now.rows) (range_with_len 0 h.lanes)) c.in_ok-header.ensures
