-- A machine comes to rest: what is left of its parts, put together.
-- For `Cpus::rest`.
use Rattle.std.proofs.Common.{refl, Option, ℕ, ◌≡◌, List, ◌∷◌, ◌++◌, map, length, slice_get, All, sym, ap, subst, ◌∙◌}
use mathlib.Core.List.{IsPrefix}
use base.Stored.{Coded}
use Rattle.atomic_table.specs.Seated.{TableId}
use Rattle.logbook.specs.Pages.{Book}
use Rattle.lb_queue.specs.Queue.{BookedQueue}
use Rattle.lb_trace.specs.declared.trace.Header.{Header}
use Rattle.lb_ticket.specs.Seats.{NoteIs, SeatIs}
use Rattle.lb_journal.specs.Journal.{Journal, Left}
use Rattle.lb_board.specs.Board.{Sight, WriterIs, Witnesses}
use Rattle.lb_topub.specs.Versions.{VersionsSeen}
use Rattle.lb_lane.specs.Lanes.{LaneIs}
use Rattle.lb_lane.specs.Publishers.{PublisherIs, PublisherKeeps}
use Rattle.lb_cpu.specs.Cpus.{CpusIs, CpusKeeps}
use Rattle.lb_cpu.specs.Ends.{LeftCell, LeftLane, LeftNote, VersionsAreSeen}
use Rattle.lb_end.specs.Ends.{HoldsFirst}
use Rattle.lb_cpu.specs.Numbering.{EachOfTwo, EachOfThree}
use Rattle.lb_cpu.proofs.Parting.{unmapped}
use Rattle.lb_cpu.proofs.Leaving.{IsLeft}
use Rattle.lb_cpu.proofs.Places.{of_mapped, one_item}
use Rattle.lb_cell.specs.LastEntries.{IsLast}
use Rattle.lb_core.specs.declared.course.Course.{Course}

abbrev reader_of : LaneIs → Sight
reader_of l = l.side.known.reader

pub put_together : (h : Header) (book : TableId) (board : List TableId) (versions : Book) (code : Coded Journal)
    (left : Coded Left) (cpus : CpusIs) (p p' : PublisherIs) (lanes : List LaneIs) (ls : List (SeatIs Journal))
    (readers : List Sight) (queues : List BookedQueue) (qs : List (SeatIs Journal)) (ws : List WriterIs)
    (all : List (SeatIs Journal)) → CpusKeeps h book board cpus → p' ≡ p → PublisherKeeps h book versions p
    → EachOfTwo (LeftLane h book board versions code left) lanes ls → length lanes ≡ h.lanes
    → EachOfThree (LeftCell h book board) queues qs ws → length queues ≡ cpus.cells
    → readers ≡ map reader_of lanes → All (Witnesses (length cpus.board) ws) readers
    → all ≡ p'.seat ∷ (ls ++ cpus.unused ++ qs)
    → IsLeft h book board versions code left p' lanes ls cpus.unused queues qs ws all
put_together h book board versions code left cpus p p' lanes ls readers queues qs ws all keeps same publisher of_lanes n of_queues
    m re seen all_are = record {
      parts = record {
        all_are = all_are;
        of_lanes = of_lanes.count ∙ n;
        unused = keeps.all_lanes;
      };
      publisher = subst (λ (x : PublisherIs). PublisherKeeps h book versions x) (sym same) publisher;
      of_lanes = of_lanes;
      numbered = keeps.numbered;
      empty = keeps.empty;
      of_queues = of_queues;
      cpus = m ∙ keeps.queues;
      cells = keeps.board_cells;
      seen =
          unmapped reader_of (Witnesses (length board) ws) lanes
          (subst (λ (rs : List Sight). All (Witnesses (length board) ws) rs) re
          (subst (λ (b : List TableId). All (Witnesses (length b) ws) readers) keeps.board_is seen));
    }

pub versions_seen : (h : Header) (book : TableId) (versions : Book) (p p' : PublisherIs) (rest all : List (SeatIs Journal))
    (lookers : List VersionsSeen) → p' ≡ p → PublisherKeeps h book versions p → all ≡ p'.seat ∷ rest
    → All (λ l. IsPrefix l.topologies p'.publisher.topologies) lookers → VersionsAreSeen h book versions all lookers
versions_seen h book versions p p' rest all lookers same keeps all_are seen =
    let kept : PublisherKeeps h book versions p' = subst (λ (x : PublisherIs). PublisherKeeps h book versions x)
    (sym same) keeps in
    record {
      topologies = p'.publisher.topologies;
      seat = p'.seat;
      there = ap (λ (ss : List (SeatIs Journal)). slice_get ss 0) all_are;
      kept =
          subst (λ (b : Book). PublisherKeeps h book versions
          (record { publisher = record { book = b; topologies = p'.publisher.topologies }; seat = p'.seat }))
          kept.versions_are kept;
      seen = seen;
    }

-- the note of lane 0
pub holds_first : (book : TableId) (left : Coded Left) (cpus : ℕ) (lanes : List LaneIs) (notes : List (Option NoteIs))
    → EachOfTwo (LeftNote book left cpus) lanes notes
    → HoldsFirst book left cpus (map (λ (l : LaneIs). l.side.course) lanes)
    (map (λ (l : LaneIs). l.side.known.ticket) lanes) notes
holds_first book left cpus lanes notes of c t note at_c at_t at_n =
    let l = of_mapped (λ (l : LaneIs). l.side.course) lanes 0 c at_c in
    let m = of_mapped (λ (l : LaneIs). l.side.known.ticket) lanes 0 t at_t in
    let same : m.0 ≡ l.0 = one_item lanes 0 m.0 l.0 m.1 l.1 in
    let ticket : l.0.side.known.ticket ≡ t = ap (λ (k : LaneIs). k.side.known.ticket) (sym same) ∙ m.2 in
    subst (λ (n : ℕ). IsLast book left cpus 0 c n note) ticket
    (subst (λ (z : Course). IsLast book left cpus 0 z l.0.side.known.ticket note) l.2
    ((of.at 0 l.0 note l.1 at_n).first refl))
