-- What a lane and the publisher behind its lock keep before any entry.
-- For `PublisherCell::new` and `Lane::new`.
use Rattle.std.proofs.Common.{true, ℕ, ◌≡◌, ◌<◌, ◌≤◌, false, List, [], ◌∷◌, Some, length, map, slice_get, take, refl, sym, subst, ap, ◌∙◌, arith, inl, All}
use Rattle.std.proofs.lemmas.List.{get_or-replicate}
use Rattle.std.proofs.lemmas.List.Elements.{All-nil}
use Rattle.std.proofs.lemmas.Option.{slice_get_within}
use base.Stored.{Coded}
use Rattle.logbook.specs.Pages.{Book}
use Rattle.atomic_table.specs.Seated.{TableId}
use Rattle.lb_levels.specs.Faults.{CanBeRead}
use Rattle.lb_domain.specs.Domains.{domains_of}
use Rattle.lb_domain.specs.Topologies.{AreFew, DomainsWithin, domains_within}
use Rattle.lb_topub.specs.Versions.{VersionsSeen}
use Rattle.lb_trace.specs.Accepted.{is_command}
use Rattle.lb_trace.specs.declared.trace.Header.{Header}
use Rattle.lb_trace.specs.declared.trace.Row.{Row as TraceRow}
use Rattle.lb_core.specs.declared.course.Course.{Course}
use Rattle.lb_core.specs.Course.{named_at, opening_course}
use Rattle.lb_core.specs.OfTrace.{rows_drawn}
use Rattle.lb_ticket.specs.declared.item.Drawn.{Drawn}
use Rattle.lb_ticket.specs.declared.view.Held.{Held}
use Rattle.lb_ticket.specs.Seats.{SeatIs}
use Rattle.lb_journal.specs.Journal.{Journal}
use Rattle.lb_cell.specs.Kinds.{is_of_lane}
use Rattle.lb_journal.specs.Owners.{UsesVersion}
use Rattle.lb_board.specs.Board.{seen_at}
use Rattle.lb_cell.specs.Cells.{LaneIs as SideIs}
use Rattle.lb_cell.specs.Reads.{Saw}
use Rattle.lb_lane.specs.Lanes.{LaneKeeps}
use Rattle.lb_lane.specs.Publishers.{PublisherKeeps}
use Rattle.lb_lane.specs.Vouched.{Vouches}

-- a lane that took up no version has no domains
no_domains : (h : Header) → [] ≡ domains_of h.cpus h.distances [] 0
unfolding domains_of
no_domains h = refl

few_none : AreFew []
few_none = record { domains = omega arith; groups = λ p lt. absurd (omega (arith, lt)) }

-- no CPU's figure was named
none_named : (n cpu : ℕ) → cpu < n → named_at (opening_course n) cpu ≡ 0
none_named n cpu lt = get_or-replicate n cpu 0 0 lt

-- it vouches for the header's version
vouches_one : (h : Header) (code : Coded Journal) (read : List Held) (next : ℕ) (topologies : List DomainsWithin)
    → slice_get topologies 0 ≡ Some (domains_within h.cpus h.distances h.parts) → Vouches h code read next topologies 1
vouches_one h code read next topologies first v one here =
    let is : v ≡ 1 = omega (arith, one, here) in
    record {
      masks = h.parts;
      shown = ap (λ (n : ℕ). slice_get topologies n) (omega (arith, is)) ∙ first;
      source = inl (is, refl);
    }

pub new_lane : (h : Header) (board : List TableId) (versions : Book) (code : Coded Journal) (side : SideIs)
    (looker : VersionsSeen)
    (rows : List TraceRow) → CanBeRead h.cpus h.distances → length board ≡ length h.cpus
    → side.course ≡ opening_course (length h.cpus) → side.seat.list ≡ []
    → ((cpu : ℕ) → cpu < length h.cpus → 0 < length (seen_at side.known.reader cpu)) → looker.book ≡ versions
    → slice_get looker.topologies 0 ≡ Some (domains_within h.cpus h.distances h.parts) → All (λ r. r.lane ≡ side.number) rows
    → All (λ r. is_command h r.command ≡ true) rows → length rows ≤ 100000
    → LaneKeeps h board versions code
    (record { side = side; looker = looker; rows = rows; vouched = 1; turned = 0; domains = [] })
new_lane h board versions code side looker rows machine cells course list seen book first owned declared short =
    let Seen : Drawn Journal → Type 0 = λ d. All (Saw side.known.reader d.ticket) d.item.figs in
    let GoesOn : Drawn Journal → Type 0 = λ d. is_of_lane d.item.entry.what ≡ true in
    let Uses : Drawn Journal → Type 0 = λ d. UsesVersion h code side.seat.read d.ticket d.item d.item.entry.what in
    record {
      machine = machine;
      cells = cells;
      looker = book;
      vouches = vouches_one h code side.seat.read side.seat.next looker.topologies first;
      some = omega arith;
      seen = let lt = slice_get_within looker.topologies 0 _ first in omega (arith, lt);
      version = subst (λ (c : Course). c.named_version ≤ length looker.topologies) (sym course) (omega arith);
      turned = machine.some;
      turns = λ e. sym (ap (λ (c : Course). c.cpu) course);
      domains = no_domains h ∙ (λ i. domains_of h.cpus h.distances (sym course i).masks 0);
      few = few_none;
      owned = owned;
      declared = declared;
      short = short;
      within = subst (λ (c : Course). c.rows ≤ length rows) (sym course) (omega arith);
      rows =
          ap (λ ds. rows_drawn (map (λ d. d.item.entry) ds)) list ∙ ap (λ (c : Course). take c.rows rows) (sym course);
      uses = subst (All Uses) (sym list) (All-nil Uses);
      saw = subst (All Seen) (sym list) (All-nil Seen);
      goes_on = subst (All GoesOn) (sym list) (All-nil GoesOn);
      numbers = λ cpu lt.
          let none : named_at side.course cpu ≡ 0 =
          ap (λ (c : Course). named_at c cpu) course ∙ none_named (length h.cpus) cpu lt in
          let some = seen cpu lt in
          omega (arith, none, some);
    }

pub new_publisher : (h : Header) (book : TableId) (versions : Book) (publisher : VersionsSeen) (seat : SeatIs Journal)
    → seat.table ≡ book → seat.number ≡ 0 → seat.list ≡ [] → publisher.book ≡ versions
    → publisher.topologies ≡ domains_within h.cpus h.distances h.parts ∷ []
    → PublisherKeeps h book versions (record { publisher = publisher; seat = seat })
new_publisher h book versions publisher seat table number list of topologies =
    let none : length seat.list ≡ 0 = ap length list in
    let one : length publisher.topologies ≡ 1 = ap length topologies in
    record {
      table = table;
      number = number;
      versions_are = of;
      first = ap (λ (ts : List DomainsWithin). slice_get ts 0) topologies;
      count = omega (arith, none, one);
      short = omega (arith, none);
      pubs = λ k d lt. absurd (omega (arith, none, lt));
    }
