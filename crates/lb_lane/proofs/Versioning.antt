-- The `pub` of the next version fits the publisher's list, and what the lock and the lane keep stays.
-- For `PublisherCell::publish`.
use Rattle.std.proofs.Common.{ℕ, ◌≡◌, ◌+◌, ◌<◌, ◌≤◌, true, false, not, List, [], ◌∷◌, ◌++◌, Some, get_or, length, map, take, refl, sym, subst, ap, ◌∙◌, arith, inl, inr, All}
use Rattle.std.specs.Prelude.{slice_get}
use Rattle.std.proofs.Math.ListN.{get_or-append}
use Rattle.std.proofs.Math.Seq.{get_or-append_seam}
use Rattle.std.proofs.lemmas.Bool.{cases_lt, lt-ltb}
use Rattle.std.proofs.lemmas.List.{length-append, length-map}
use Rattle.std.proofs.lemmas.List.Elements.{All-map}
use Rattle.std.proofs.lemmas.Option.{slice_get-get_or}
use base.Stored.{Coded}
use mathlib.Core.List.{IsPrefix}
use Rattle.logbook.specs.Pages.{Book}
use Rattle.atomic_table.specs.Seated.{TableId}
use Rattle.lb_domain.specs.Topologies.{DomainsWithin, domains_within}
use Rattle.lb_domain.specs.Domains.{domains_of}
use Rattle.lb_topub.specs.Versions.{VersionsSeen}
use Rattle.lb_trace.specs.declared.trace.Header.{Header}
use Rattle.lb_core.specs.declared.course.Course.{Course}
use Rattle.lb_core.specs.declared.course.Form.{Form}
use Rattle.lb_core.specs.declared.course.Form.TheVariants as forms
use Rattle.lb_core.specs.declared.entry.What.TheVariants.{Pub}
use Rattle.lb_core.specs.declared.rule.Rule.{Rule}
use Rattle.lb_core.specs.declared.rule.Rule.TheVariants.{Ticket, Prev, Stage, Row as RowRule, Place, Reply as ReplyRule, Version, Figure, Decision as DecisionRule, Pick, Flight, Counters as CountersRule, Owed, End}
use Rattle.lb_core.specs.Course.{is_rebuild, named_at}
use Rattle.lb_core.specs.CourseAfter.{comes_to_rest, course_after}
use Rattle.lb_core.specs.Sight.{Sight as StepSight}
use Rattle.lb_core.specs.Stage.{stage_allows, draws}
use Rattle.lb_core.specs.Rules.{breaks_here}
use Rattle.lb_core.specs.Machine.{no_queue}
use Rattle.lb_core.specs.OfTrace.{rows_drawn}
use Rattle.lb_ticket.specs.declared.item.Drawn.{Drawn}
use Rattle.lb_ticket.specs.Seats.{SeatIs}
use Rattle.lb_ticket.specs.Tickets.{pair}
use Rattle.lb_journal.specs.Journal.{Journal, Left, Fits, item_sight, sight_in}
use Rattle.lb_journal.specs.Merge.{parts_of}
use Rattle.lb_cell.specs.Kinds.{is_of_lane}
use Rattle.lb_journal.specs.Owners.{SeatUses}
use Rattle.lb_lane.specs.Vouched.{Vouches}
use Rattle.lb_board.specs.Board.{seen_at}
use Rattle.lb_seen.proofs.Beginnings.{prefix_get, prefix_length}
use Rattle.lb_cell.specs.Cells.{LaneIs as SideIs, LaneKeeps as SideKeeps}
use Rattle.lb_cell.specs.Reads.{SawAll}
use Rattle.lb_cell.specs.Pubs.{DrewPub, pub_sight, pub_entry, pub_item, pub_left}
use Rattle.lb_lane.specs.Lanes.{LaneIs, LaneKeeps, is_due}
use Rattle.lb_lane.specs.Publishers.{PublisherIs, PublisherKeeps, IsPub}
use Rattle.lb_lane.specs.Publishes.{RebuildAsks}
use Rattle.lb_lane.proofs.Drawing.{opening}
use Rattle.lb_core.proofs.Equality.{equal_itself}
use Rattle.lb_lane.proofs.Vouching.{vouches_more}

-- ---- the test
allowed : (h : Header) (l : SideIs) (count : ℕ) → l.course.form ≡ forms.Asked → is_rebuild l.course.command ≡ true → (rule : Rule)
    → breaks_here rule (pub_sight h l.course count) (pub_entry l (count + 2)) ≡ false
unfolding stage_allows draws
allowed h l count form rebuild Stage =
    subst (λ (f : Form). not (draws f h l.course no_queue l.number (Pub (count + 2))) ≡ false) (sym form) (rw rebuild refl)
allowed h l count form rebuild ReplyRule = rw (equal_itself (count + 2)) refl
allowed h l count form rebuild Ticket = refl
allowed h l count form rebuild Prev = refl
allowed h l count form rebuild RowRule = refl
allowed h l count form rebuild Place = refl
allowed h l count form rebuild Version = refl
allowed h l count form rebuild Figure = refl
allowed h l count form rebuild DecisionRule = refl
allowed h l count form rebuild Pick = refl
allowed h l count form rebuild Flight = refl
allowed h l count form rebuild CountersRule = refl
allowed h l count form rebuild Owed = refl
allowed h l count form rebuild End = refl

sight_is : (h : Header) (l : SideIs) (list : List (Drawn Journal)) (v : ℕ)
    → pub_sight h l.course (length list) ≡ sight_in (map pair list) (pub_item h l (length list) v)
unfolding sight_in
sight_is h l list v =
    (λ i. item_sight no_queue (sym (length-map list (pair {I = Journal})) i) (pub_item h l (length list) v))

pub pub_fits : (h : Header) (book : TableId) (board : List TableId) (code : Coded Left) (l : SideIs) (list : List (Drawn Journal))
    (v : ℕ) → SideKeeps h book board code l → All (λ d. d.item.header ≡ h) list → RebuildAsks h l.course → v ≡ length list + 2
    → Fits (map pair list) (pub_item h l (length list) v)
pub_fits h book board code l list v k headers asks is =
    let s = sight_is h l list v in
    record {
      header = All-map (λ (x : ℕ × Journal). x.1.header ≡ h) pair list headers;
      declared = rw (lt-ltb l.number h.lanes k.number) refl;
      allowed = λ rule.
          subst (λ (x : StepSight). breaks_here rule x (pub_entry l v) ≡ false) s
          (subst (λ n. breaks_here rule (pub_sight h l.course (length list)) (pub_entry l n) ≡ false) (sym is)
          (allowed h l (length list) asks.form asks.rebuild rule));
      after = ap (λ (x : StepSight). course_after x (pub_entry l v)) s;
      first = λ z.
          let opens = opening book code (length h.cpus) l.number l.known.ticket l.course l.known.note k.last z in
          absurd (let f = sym asks.form ∙ ap (λ (c : Course). c.form) opens in cc f);
      masks = refl;
      figs = refl;
      turn = tt;
    }

-- ---- behind the lock
pub one_more : (h : Header) (book : TableId) (versions : Book) (p p' : PublisherIs) (l : SideIs) (ticket : ℕ)
    → PublisherKeeps h book versions p → (p'.seat.table ≡ p.seat.table) × (p'.seat.number ≡ p.seat.number)
    → p'.publisher.book ≡ p.publisher.book
    → p'.publisher.topologies
    ≡ p.publisher.topologies ++ domains_within h.cpus h.distances (parts_of l.course.command) ∷ []
    → p'.seat.list
    ≡ p.seat.list ++ record { ticket = ticket; item = pub_item h l (length p.seat.list) (length p.seat.list + 2) } ∷ []
    → length p.seat.list + 1 < 1099511627776 → PublisherKeeps h book versions p'
one_more h book versions p p' l ticket k seat of shown list short =
    let ts = p.publisher.topologies in
    let t = domains_within h.cpus h.distances (parts_of l.course.command) in
    let d : Drawn Journal = record { ticket = ticket; item = pub_item h l (length p.seat.list) (length p.seat.list + 2) } in
    let front : IsPrefix ts p'.publisher.topologies = (t ∷ [], sym shown) in
    let long : length p'.publisher.topologies ≡ length ts + 1 = ap length shown ∙ length-append ts (t ∷ []) in
    let more : length p'.seat.list ≡ length p.seat.list + 1 = ap length list ∙ length-append p.seat.list (d ∷ []) in
    let count = k.count in
    record {
      table = seat.0 ∙ k.table;
      number = seat.1 ∙ k.number;
      versions_are = of ∙ k.versions_are;
      first = prefix_get ts p'.publisher.topologies 0 (domains_within h.cpus h.distances h.parts) front k.first;
      count = omega (arith, long, more, count);
      short = omega (arith, more, short);
      pubs = λ n e lt. elim (cases_lt n (length p.seat.list)) [
        | inl here ↦
            let x : IsPub h p n (get_or p.seat.list n e) = k.pubs n e here in
            let is : get_or p.seat.list n e ≡ get_or p'.seat.list n e =
            sym (ap (λ ds. get_or ds n e) list ∙ get_or-append p.seat.list (d ∷ []) e n here) in
            subst (IsPub h p' n) is
            (record {
              header = x.header;
              owner = x.owner;
              what = x.what;
              figs = x.figs;
              shown = prefix_get ts p'.publisher.topologies (n + 1) _ front x.shown;
            })
        | inr past ↦
            let same : n ≡ length p.seat.list = omega (arith, past, lt, more) in
            let is : d ≡ get_or p'.seat.list n e =
            sym (ap (λ ds. get_or ds n e) list
            ∙ (ap (λ m. get_or (p.seat.list ++ d ∷ []) m e) same ∙ get_or-append_seam p.seat.list d [] e)) in
            let place : n + 1 ≡ length ts = omega (arith, same, count) in
            let there : slice_get p'.publisher.topologies (n + 1) ≡ Some t =
            (λ i. slice_get (shown i) (place i))
            ∙ (slice_get-get_or (ts ++ t ∷ []) (length ts) t (let a = length-append ts (t ∷ []) in omega (arith, a))
            ∙ ap Some (get_or-append_seam ts t [] t)) in
            subst (IsPub h p' n) is
            (record { header = refl; owner = refl; what = ap (λ m. Pub (m + 2)) (sym same); figs = refl; shown = there })
      ];
    }

-- ---- the lane
left_is : (h : Header) (l : SideIs) (count v : ℕ) → pub_left h l count v ≡ record (comes_to_rest l.course) { named_version = v }
unfolding course_after
left_is h l count v = refl

pub published : (h : Header) (board : List TableId) (versions : Book) (code : Coded Journal) (l : LaneIs) (side : SideIs)
    (looker : VersionsSeen) (s s' : SeatIs Journal) (v ticket : ℕ) (topologies : List DomainsWithin)
    → LaneKeeps h board versions code l
    → DrewPub h l.side side s s' v ticket → looker.book ≡ l.looker.book → IsPrefix l.looker.topologies looker.topologies
    → IsPrefix topologies looker.topologies → v ≡ length topologies → l.side.course.form ≡ forms.Asked
    → LaneKeeps h board versions code (record l { side = side; looker = looker })
published h board versions code l side looker s s' v ticket topologies k drew book front told is asked =
    let left = drew.course ∙ left_is h l.side (length s.list) v in
    let rows : l.side.course.rows ≡ side.course.rows = sym (ap (λ c. c.rows) left) in
    let seat : l.side.seat ≡ side.seat = sym drew.own in
    let reader : l.side.known.reader ≡ side.known.reader = sym drew.reader in
    let more = prefix_length l.looker.topologies looker.topologies front in
    record {
      machine = k.machine;
      cells = k.cells;
      looker = book ∙ k.looker;
      vouches =
          subst (λ (x : SeatIs Journal). Vouches h code x.read x.next looker.topologies l.vouched) seat
          (vouches_more h code l.side.seat.read l.side.seat.next l.looker.topologies looker.topologies l.vouched front k.vouches);
      some = k.some;
      seen = let a = k.seen in omega (arith, a, more);
      version =
          let a : side.course.named_version ≡ v = ap (λ c. c.named_version) left in
          let b = prefix_length topologies looker.topologies told in
          omega (arith, a, b, is);
      domains = k.domains ∙ (λ i. domains_of h.cpus h.distances (sym (ap (λ (c : Course). c.masks) left) i) l.turned);
      turned = k.turned;
      turns = λ e. k.turns (ap is_due asked) ∙ sym (ap (λ (c : Course). c.cpu) left);
      few = k.few;
      owned = subst (λ n. All (λ r. r.lane ≡ n) l.rows) (sym drew.number) k.owned;
      declared = k.declared;
      short = k.short;
      within = subst (λ n. n ≤ length l.rows) rows k.within;
      rows =
          subst (λ (t : Type 0). t)
          (λ i. rows_drawn (map (λ d. d.item.entry) (seat i).list) ≡ take (rows i) l.rows) k.rows;
      uses = subst (SeatUses h code) seat k.uses;
      saw = subst (λ (t : Type 0). t) (λ i. SawAll (reader i) (seat i).list) k.saw;
      goes_on = subst (λ (x : SeatIs Journal). All (λ d. is_of_lane d.item.entry.what ≡ true) x.list) seat k.goes_on;
      numbers = λ cpu lt.
          subst (λ (t : Type 0). t)
          (λ i. named_at (record l.side.course { named = sym (ap (λ (c : Course). c.named) left) i })
          cpu < length (seen_at (reader i) cpu))
          (k.numbers cpu lt);
    }
