-- Where nothing was drawn, though the lane has seen, read and marked more, what it keeps stays.
-- For `Lane::scan`, `enter_above`, `Lane::look` and others.
use mathlib.Core.List.{IsPrefix}
use Rattle.std.proofs.Common.{true, false, ◌≡◌, ◌≤◌, ◌<◌, Result, Ok, Err, OnErr, List, [], ◌++◌, length, map, take, sym, subst, ap, ◌∙◌, arith, All}
use Rattle.std.proofs.lemmas.List.{append-nil}
use base.Stored.{Coded}
use Rattle.logbook.specs.Pages.{Book}
use Rattle.atomic_table.specs.Seated.{TableId}
use Rattle.lb_domain.specs.Domains.{domains_of}
use Rattle.lb_trace.specs.declared.trace.Header.{Header}
use Rattle.lb_core.specs.declared.course.Course.{Course}
use Rattle.lb_core.specs.Course.{named_at}
use Rattle.lb_core.specs.OfTrace.{rows_drawn}
use Rattle.lb_ticket.specs.declared.item.Drawn.{Drawn}
use Rattle.lb_ticket.specs.declared.view.Held.{Held}
use Rattle.lb_ticket.specs.Seats.{SeatIs}
use Rattle.lb_journal.specs.Journal.{Journal}
use Rattle.lb_cell.specs.Kinds.{is_of_lane}
use Rattle.lb_journal.specs.Owners.{UsesVersion, UsesStay}
use Rattle.lb_board.specs.Board.{seen_at}
use Rattle.lb_seen.proofs.Beginnings.{prefix_length}
use Rattle.lb_cell.specs.Cells.{LaneIs as SideIs}
use Rattle.lb_cell.specs.Reads.{SawAll, SawStays}
use Rattle.lb_cell.specs.Reads.{SameBut}
use Rattle.lb_lane.specs.Vouched.{Vouches}
use Rattle.lb_lane.proofs.Looking.{more_on}
use Rattle.lb_lane.proofs.Vouching.{vouches_read}
use Rattle.lb_lane.specs.Lanes.{LaneIs, LaneKeeps, is_due}
use Rattle.lb_lane.specs.Figures.{Sees}
use Rattle.lb_lane.specs.Own.{Unmoved}

pub on_err : {A E : Type 0} (r : Result A E) (P : Type 0) → P → OnErr r P
on_err (Ok x) P p = tt
on_err (Err e) P p = p

-- it read figures before
pub unmoved_since : (l r n : SideIs) → Sees l r → Unmoved r n → Unmoved l n
unmoved_since l r n sees u =
    let s = sees.0 in
    record {
      list = u.list ∙ ap (λ (x : SeatIs Journal). x.list) s.seat;
      more = u.more;
      read = u.read ∙ ap (λ (x : SeatIs Journal). x.read ++ u.more) s.seat;
      next = subst (λ (x : SeatIs Journal). x.next ≤ n.seat.next) s.seat u.next;
      course = u.course ∙ s.course;
      number = u.number ∙ s.number;
      held = u.held ∙ s.ticket;
      landing = u.landing ∙ s.landing;
      sees = more_on l.known.reader r.known.reader n.known.reader sees.1 u.sees;
    }

-- it read figures, marked, and made room or did not
pub unmoved : (l r m n : SideIs) → Sees l r → SameBut r m → r.seat.next ≤ m.seat.next → m.seat.read ≡ r.seat.read → SameBut m n
    → (n.seat.read ≡ m.seat.read) × (n.seat.next ≡ m.seat.next) → Unmoved l n
unmoved l r m n sees marks later read same view =
    let s = sees.0 in
    let reader : r.known.reader ≡ n.known.reader = ap (λ k. k.reader) (sym marks.known ∙ sym same.known) in
    record {
      list = same.list ∙ (marks.list ∙ ap (λ (x : SeatIs Journal). x.list) s.seat);
      more = [];
      read = view.0 ∙ (read ∙ ap (λ (x : SeatIs Journal). x.read) s.seat) ∙ sym (append-nil l.seat.read);
      next =
          subst (λ (x : SeatIs Journal). x.next ≤ n.seat.next) s.seat
          (subst (λ k. r.seat.next ≤ k) (sym view.1) later);
      course = same.course ∙ (marks.course ∙ s.course);
      number = same.number ∙ (marks.number ∙ s.number);
      held = ap (λ k. k.ticket) (same.known ∙ marks.known) ∙ s.ticket;
      landing = same.landing ∙ (marks.landing ∙ s.landing);
      sees = λ cpu. subst (λ x. IsPrefix (seen_at l.known.reader cpu) (seen_at x cpu)) reader (sees.1 cpu);
    }

pub still : (h : Header) (board : List TableId) (versions : Book) (code : Coded Journal) (l : LaneIs) (side : SideIs)
    → SawStays → UsesStay → LaneKeeps h board versions code l → Unmoved l.side side
    → LaneKeeps h board versions code (record l { side = side })
still h board versions code l side stays use_stays k u =
    let course : l.side.course ≡ side.course = sym u.course in
    let list : l.side.seat.list ≡ side.seat.list = sym u.list in
    let Uses : List Held → Drawn Journal → Type 0 = λ hs x. UsesVersion h code hs x.ticket x.item x.item.entry.what in
    record {
      machine = k.machine;
      cells = k.cells;
      looker = k.looker;
      vouches =
          subst (λ hs. Vouches h code hs side.seat.next l.looker.topologies l.vouched) (sym u.read)
          (vouches_read h code l.side.seat.read u.more l.side.seat.next side.seat.next l.looker.topologies l.vouched u.next
          k.vouches);
      some = k.some;
      seen = k.seen;
      version = subst (λ (c : Course). c.named_version ≤ length l.looker.topologies) course k.version;
      domains = k.domains ∙ (λ i. domains_of h.cpus h.distances (course i).masks l.turned);
      turned = k.turned;
      turns = subst (λ (c : Course). is_due c.form ≡ false → l.turned ≡ c.cpu) course k.turns;
      few = k.few;
      owned = subst (λ n. All (λ r. r.lane ≡ n) l.rows) (sym u.number) k.owned;
      declared = k.declared;
      short = k.short;
      within = subst (λ (c : Course). c.rows ≤ length l.rows) course k.within;
      rows =
          subst (λ (t : Type 0). t)
          (λ i. rows_drawn (map (λ d. d.item.entry) (list i)) ≡ take (course i).rows l.rows) k.rows;
      uses =
          subst (λ (t : Type 0). t) (λ i. All (Uses (sym u.read i)) (list i))
          (use_stays h code l.side.seat.read u.more l.side.seat.list k.uses);
      saw = stays l.side.known.reader side.known.reader side.seat.list u.sees (subst (SawAll l.side.known.reader) list k.saw);
      goes_on = subst (All (λ x. is_of_lane x.item.entry.what ≡ true)) list k.goes_on;
      numbers = λ cpu lt.
          let was : named_at side.course cpu < length (seen_at l.side.known.reader cpu) =
          subst (λ (c : Course). named_at c cpu < length (seen_at l.side.known.reader cpu)) course (k.numbers cpu lt) in
          let grows = prefix_length (seen_at l.side.known.reader cpu) (seen_at side.known.reader cpu) (u.sees cpu) in
          omega (arith, was, grows);
    }
