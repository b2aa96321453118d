-- For `Cpus::rest` of src/rest.rt: takes the locks apart, with the lanes that `start` made, in the order of
-- their numbers.
use Rattle.std.proofs.Common.{ℕ, ◌≡◌, Some, List, map, length, vec_len, slice_get, All, ap, sym, subst, ◌∙◌}
use Rattle.std.proofs.lemmas.List.{length-map}
use mathlib.Core.List.{IsPrefix}
use Rattle.logbook.specs.Pages.{Book}
use Rattle.atomic_table.specs.Seated.{TableId}
use Rattle.lb_core.specs.declared.course.Course.{Course}
use Rattle.lb_ticket.specs.Seats.{Numbered}
use Rattle.lb_board.specs.Board.{Sight}
use Rattle.lb_topub.specs.Versions.{VersionsSeen}
use Rattle.lb_journal.specs.contracts.journal.Journal.{the_row}
use Rattle.lb_journal.specs.contracts.journal.Left.{the_row as left_row}
use Rattle.lb_lane.specs.Lanes.{LaneIs}
use Rattle.lb_lane.specs.Publishers.{PublisherIs}
use Rattle.lb_cpu.specs.Cpus.{CpusIs}
use Rattle.lb_end.specs.Ends.{EndedIs, HoldsFirst, IsFirstCourse, KnowLasts, NothingCloses}
use Rattle.lb_cpu.specs.Ends.{LaneIsLeft, VersionsAreSeen}
use Rattle.lb_cpu.proofs.Parting.{writers_are, readers_are, lookers_are}
use Rattle.lb_cpu.proofs.Leaving.{all_numbered, all_counted, all_replays, all_kept, all_lasts, all_open, first_course, left_lane}
use Rattle.lb_cpu.proofs.Resting.{holds_first, put_together, versions_seen}
use Rattle.lb_cpu.proofs.cpus.Cpus.rest.Goals as goal

pub gather-requires-clause-writers : goal.gather-requires-clause-writers
gather-requires-clause-writers g c =
    let n = g.N.Names in
    let cells = c.in_ok-cells.cells in
    let k = c.self.invariant in
    writers_are n.header n.book n.board cells.queues.items cells.seats.items cells.writers.items c.in_ok-cells.ensures.cells
    (c.in_ok-cells.ensures.count ∙ k.queues ∙ sym k.board_cells)
    ∙ sym k.board_is

pub gather-requires-clause-readers : goal.gather-requires-clause-readers
gather-requires-clause-readers g c =
    let n = g.N.Names in
    let lanes = c.args.lanes.items in
    let readers = readers_are n.header n.book n.board g.N.Versions.versions the_row.coded left_row.coded lanes
    c.in_ok-lanes.lanes.seats.items c.in_ok-lanes.ensures.lanes in
    subst (λ (rs : List Sight). All (λ r. r.cells ≡ c.self.inside.board) rs) (sym c.in_ok-lanes.ensures.readers)
    (subst (λ (b : List TableId). All (λ r. r.cells ≡ b) (map (λ (l : LaneIs). l.side.known.reader) lanes))
    (sym c.self.invariant.board_is) readers)

pub gather-requires-2 : goal.gather-requires-2
gather-requires-2 g c =
    let n = g.N.Names in
    let lanes = c.args.lanes.items in
    let lookers = lookers_are n.header n.book n.board g.N.Versions.versions the_row.coded left_row.coded lanes
    c.in_ok-lanes.lanes.seats.items c.in_ok-lanes.ensures.lanes in
    let of = ap (λ (p : PublisherIs). p.publisher.book) c.end-publisher.ensures.parts ∙
    c.end-publisher.ensures.kept.versions_are in
    record {
      lookers =
          subst (λ (ls : List VersionsSeen). All (λ l. l.book ≡ c.end-publisher.result.0.book) ls)
          (sym c.in_ok-lanes.ensures.lookers)
          (subst (λ (b : Book). All (λ l. l.book ≡ b) (map (λ (l : LaneIs). l.looker) lanes)) (sym of) lookers);
    }

pub new-requires : goal.new-requires
new-requires g c =
    let n = g.N.Names in
    let k = c.self.invariant in
    let x = c.self.inside in
    let cpus : CpusIs =
    record {
      header = x.header;
      layout = x.machine;
      book = x.book;
      board = x.board;
      cells = vec_len x.cells;
      unused =
          x.unused.items;
    } in
    let p : PublisherIs = record { publisher = c.end-publisher.result.0; seat = c.end-publisher.result.1 } in
    let lanes = c.args.lanes.items in
    let ls = c.in_ok-lanes.lanes.seats.items in
    let cells = c.in_ok-cells.cells in
    let all = c.in_ok-seats.seats.items in
    let left = put_together n.header n.book n.board g.N.Versions.versions the_row.coded left_row.coded cpus c.into_inner.result p
    lanes ls c.in_ok-lanes.lanes.readers.items cells.queues.items cells.seats.items cells.writers.items all k
    c.end-publisher.ensures.parts c.end-publisher.ensures.kept c.in_ok-lanes.ensures.lanes c.requires.lanes.1
    c.in_ok-cells.ensures.cells c.in_ok-cells.ensures.count c.in_ok-lanes.ensures.readers c.gather.ensures.seen
    c.in_ok-seats.ensures in
    let courses = c.in_ok-lanes.ensures.courses in
    let tickets = c.in_ok-lanes.ensures.tickets in
    let course : LaneIs → Course = λ l. l.side.course in
    let ticket : LaneIs → ℕ = λ l. l.side.known.ticket in
    record {
      header_is = k.header_is;
      accepted = k.accepted;
      book_is = k.book_is;
      numbered = subst (λ (t : TableId). Numbered t 0 all) (sym k.book_is)
          (all_numbered n.header n.book n.board g.N.Versions.versions the_row.coded left_row.coded p lanes ls
          x.unused.items cells.queues.items
          cells.seats.items cells.writers.items all left);
      owners = k.owners;
      all_seats = all_counted n.header n.book n.board g.N.Versions.versions the_row.coded left_row.coded p lanes ls
          x.unused.items cells.queues.items
          cells.seats.items cells.writers.items all left ∙ sym k.owners;
      all_queues = c.in_ok-cells.ensures.count ∙ k.queues;
      all_courses = ap (λ (l : List Course). length l) courses ∙ length-map lanes course ∙ c.requires.lanes.1;
      all_notes = c.in_ok-lanes.ensures.notes.count ∙ c.requires.lanes.1;
      all_tickets = ap (λ (l : List ℕ). length l) tickets ∙ length-map lanes ticket ∙ c.requires.lanes.1;
      lists = all_kept n.header n.book n.board g.N.Versions.versions the_row.coded left_row.coded p lanes ls
          x.unused.items cells.queues.items
          cells.seats.items cells.writers.items all left c.plain_is_kept.ensures c.saw_is_read.ensures;
      replays = all_replays n.header n.book n.board g.N.Versions.versions the_row.coded left_row.coded p lanes ls
          x.unused.items cells.queues.items
          cells.seats.items cells.writers.items all left;
      lasts =
          subst (λ (cs : List Course). KnowLasts left_row.coded (length n.header.cpus) cs c.in_ok-lanes.lanes.tickets.items all)
          (sym courses)
          (subst (λ (ts : List ℕ). KnowLasts left_row.coded (length n.header.cpus) (map course lanes) ts all) (sym tickets)
          (all_lasts n.header n.book n.board g.N.Versions.versions the_row.coded left_row.coded p lanes ls
          x.unused.items cells.queues.items
          cells.seats.items cells.writers.items all left));
      quiet =
          subst (λ (cs : List Course). (f : Course) → slice_get cs 0 ≡ Some f → IsFirstCourse n.header f) (sym courses)
          (first_course n.header n.book n.board g.N.Versions.versions the_row.coded left_row.coded p lanes ls x.unused.items
          cells.queues.items cells.seats.items cells.writers.items all left);
      first =
          subst (λ (cs : List Course). HoldsFirst n.book left_row.coded (length n.header.cpus) cs
          c.in_ok-lanes.lanes.tickets.items c.in_ok-lanes.lanes.notes.items) (sym courses)
          (subst (λ (ts : List ℕ). HoldsFirst n.book left_row.coded (length n.header.cpus) (map course lanes) ts
          c.in_ok-lanes.lanes.notes.items) (sym tickets)
          (holds_first n.book left_row.coded (length n.header.cpus) lanes c.in_ok-lanes.lanes.notes.items
          c.in_ok-lanes.ensures.notes));
    }

pub returns-clause-left : goal.returns-clause-left
returns-clause-left g c =
    let n = g.N.Names in
    let k = c.self.invariant in
    let x = c.self.inside in
    let cpus : CpusIs =
    record {
      header = x.header;
      layout = x.machine;
      book = x.book;
      board = x.board;
      cells = vec_len x.cells;
      unused =
          x.unused.items;
    } in
    let p : PublisherIs = record { publisher = c.end-publisher.result.0; seat = c.end-publisher.result.1 } in
    let lanes = c.args.lanes.items in
    let ls = c.in_ok-lanes.lanes.seats.items in
    let cells = c.in_ok-cells.cells in
    let all = c.in_ok-seats.seats.items in
    let left = put_together n.header n.book n.board g.N.Versions.versions the_row.coded left_row.coded cpus c.into_inner.result p
    lanes ls c.in_ok-lanes.lanes.readers.items cells.queues.items cells.seats.items cells.writers.items all k
    c.end-publisher.ensures.parts c.end-publisher.ensures.kept c.in_ok-lanes.ensures.lanes c.requires.lanes.1
    c.in_ok-cells.ensures.cells c.in_ok-cells.ensures.count c.in_ok-lanes.ensures.readers c.gather.ensures.seen
    c.in_ok-seats.ensures in
    subst (λ (e : EndedIs). (k : ℕ) (l : LaneIs) → slice_get lanes k ≡ Some l → LaneIsLeft left_row.coded e.seats k l)
    (sym c.new.ensures)
    (left_lane n.header n.book n.board g.N.Versions.versions the_row.coded left_row.coded p lanes ls x.unused.items
    cells.queues.items
    cells.seats.items cells.writers.items all left)

pub returns-clause-open : goal.returns-clause-open
returns-clause-open g c =
    let n = g.N.Names in
    let k = c.self.invariant in
    let x = c.self.inside in
    let cpus : CpusIs =
    record {
      header = x.header;
      layout = x.machine;
      book = x.book;
      board = x.board;
      cells = vec_len x.cells;
      unused =
          x.unused.items;
    } in
    let p : PublisherIs = record { publisher = c.end-publisher.result.0; seat = c.end-publisher.result.1 } in
    let lanes = c.args.lanes.items in
    let ls = c.in_ok-lanes.lanes.seats.items in
    let cells = c.in_ok-cells.cells in
    let all = c.in_ok-seats.seats.items in
    let left = put_together n.header n.book n.board g.N.Versions.versions the_row.coded left_row.coded cpus c.into_inner.result p
    lanes ls c.in_ok-lanes.lanes.readers.items cells.queues.items cells.seats.items cells.writers.items all k
    c.end-publisher.ensures.parts c.end-publisher.ensures.kept c.in_ok-lanes.ensures.lanes c.requires.lanes.1
    c.in_ok-cells.ensures.cells c.in_ok-cells.ensures.count c.in_ok-lanes.ensures.readers c.gather.ensures.seen
    c.in_ok-seats.ensures in
    subst (λ (e : EndedIs). NothingCloses e.seats) (sym c.new.ensures)
    (all_open n.header n.book n.board g.N.Versions.versions the_row.coded left_row.coded p lanes ls x.unused.items
    cells.queues.items
    cells.seats.items cells.writers.items all left)

pub returns-clause-versions : goal.returns-clause-versions
returns-clause-versions g c =
    let n = g.N.Names in
    let p : PublisherIs = record { publisher = c.end-publisher.result.0; seat = c.end-publisher.result.1 } in
    subst
    (λ (e : EndedIs). VersionsAreSeen n.header n.book g.N.Versions.versions e.seats
    (map (λ (l : LaneIs). l.looker) c.args.lanes.items)) (sym c.new.ensures)
    (versions_seen n.header n.book g.N.Versions.versions c.into_inner.result p _ c.in_ok-seats.seats.items
    (map (λ (l : LaneIs). l.looker) c.args.lanes.items) c.end-publisher.ensures.parts c.end-publisher.ensures.kept
    c.in_ok-seats.ensures
    (subst (λ (ls : List VersionsSeen). All (λ l. IsPrefix l.topologies c.end-publisher.result.0.topologies) ls)
    c.in_ok-lanes.ensures.lookers c.gather-2.ensures.seen))
