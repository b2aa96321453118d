-- An entry of a lane's own list that breaks no rule may be drawn, and what the lane keeps stays.
-- For `Lane::row`, `Lane::scan`, `enter` and others.
use Rattle.std.proofs.Common.{ℕ, ◌≡◌, ◌<◌, ◌≤◌, true, false, List, [], ◌∷◌, ◌++◌, Option, Some, None, length, map, take, refl, sym, subst, ap, ◌∙◌, arith, All}
use Rattle.std.proofs.lemmas.List.{append-nil, append_assoc, map-append}
use Rattle.std.proofs.lemmas.List.Elements.{All-push}
use base.Stored.{Coded}
use Rattle.atomic_table.specs.Seated.{TableId}
use Rattle.logbook.specs.Pages.{Book}
use Rattle.lb_base.specs.declared.mask.Mask.{Mask}
use Rattle.lb_trace.specs.Accepted.{is_command}
use Rattle.lb_trace.specs.declared.trace.Header.{Header}
use Rattle.lb_trace.specs.declared.trace.Row.{Row as TraceRow}
use Rattle.lb_core.specs.declared.course.Course.{Course}
use Rattle.lb_core.specs.declared.entry.CpuFig.{CpuFig}
use Rattle.lb_core.specs.declared.entry.Entry.{Entry}
use Rattle.lb_trace.specs.declared.trace.Command.{Command}
use Rattle.lb_core.specs.declared.entry.What.{What}
use Rattle.lb_core.specs.declared.entry.What.TheVariants as whats
use Rattle.lb_core.specs.declared.rule.Rule.{Rule}
use Rattle.lb_core.specs.Course.{opening_course, named_at}
use Rattle.lb_core.specs.Rules.{breaks_here}
use Rattle.lb_core.specs.OfTrace.{row_of, rows_drawn}
use Rattle.lb_ticket.specs.declared.item.Drawn.{Drawn}
use Rattle.lb_ticket.specs.declared.view.Held.{Held}
use Rattle.lb_ticket.specs.Seats.{NoteIs}
use Rattle.lb_journal.specs.Journal.{Journal, Left, CarriesMasks, CarriesFigs}
use Rattle.lb_cell.specs.Kinds.{is_of_lane}
use Rattle.lb_journal.specs.Owners.{UsesVersion}
use Rattle.lb_board.specs.Board.{seen_at}
use Rattle.lb_topub.specs.Versions.{VersionsSeen}
use Rattle.lb_domain.specs.Domains.{domains_of}
use Rattle.lb_domain.specs.Topologies.{AreFew}
use Rattle.lb_cell.specs.LastEntries.{IsLast}
use Rattle.lb_cell.specs.Cells.{LaneIs as SideIs, IsInRange}
use Rattle.lb_cell.specs.Reads.{Saw, SawAll, SawStays, SeesMore}
use Rattle.lb_cell.specs.Own.{OwnAsks, DrewOwn, MayDrawOwn, sight_from, sight_own, entry_own, item_own, own_left}
use Rattle.lb_cell.specs.Reads.{SameBut}
use Rattle.lb_lane.specs.Vouched.{Vouches}
use Rattle.lb_lane.proofs.Vouching.{vouches_on}
use Rattle.lb_lane.specs.Lanes.{LaneIs, LaneKeeps, is_due}
use Rattle.lb_lane.specs.Own.{Drew}

-- a lane without an entry has the opening course
pub opening : (book : TableId) (code : Coded Left) (cpus lane t : ℕ) (course : Course) (note : Option NoteIs)
    → IsLast book code cpus lane course t note → t ≡ 0 → course ≡ opening_course cpus
opening book code cpus lane t course None h z = h.1
opening book code cpus lane t course (Some n) h z = let p : 0 < t = h.0 in absurd (omega (arith, z))

-- ---- when it may be drawn
of_lane : (w : What) (c : Course) (own : Option Command) → OwnAsks w c own → is_of_lane w ≡ true
of_lane (whats.Row n at command) c own e = refl
of_lane (whats.Adopt v k cpu) c own e = refl
of_lane (whats.Look p x fs d) c own e = refl
of_lane (whats.Scan fs t) c own e = refl
of_lane (whats.Did r) c own e = absurd e
of_lane (whats.Out cause to tasks) c own e = absurd e
of_lane (whats.Landed tasks) c own e = absurd e
of_lane (whats.Turn ps) c own e = absurd e
of_lane whats.Shut c own e = absurd e
of_lane (whats.Close p w i f) c own e = absurd e
of_lane (whats.Ask r) c own e = absurd e
of_lane (whats.Kick r) c own e = absurd e
of_lane whats.Over c own e = absurd e
of_lane (whats.End u) c own e = absurd e
of_lane (whats.Pub v) c own e = absurd e

pub may_draw : (h : Header) (l : SideIs) (w : What) (own : Option Command) (masks : List Mask) (figs : List CpuFig)
    → OwnAsks w l.course own → ((rule : Rule) → breaks_here rule (sight_own h l masks figs) (entry_own l w) ≡ false)
    → CarriesMasks w masks → CarriesFigs w figs → MayDrawOwn h l w masks figs
may_draw h l w own masks figs asks allowed carries names = record {
  of_lane = of_lane w l.course own asks;
  allowed = allowed;
  carries_masks = carries;
  carries_figs = names;
}

-- room was made before it, or marked
pub allowed_after : (h : Header) (l m : SideIs) (w : What) (masks ms : List Mask) (figs : List CpuFig) → SameBut l m → ms ≡ masks
    → ((rule : Rule) → breaks_here rule (sight_own h l masks figs) (entry_own l w) ≡ false) → (rule : Rule)
    → breaks_here rule (sight_own h m ms figs) (entry_own m w) ≡ false
allowed_after h l m w masks ms figs same is all rule =
    subst (λ (t : Type 0). t)
    (λ i. breaks_here rule (sight_from h (sym same.course i) (sym is i) figs)
    (entry_own (record l { number = sym same.number i; known = sym same.known i }) w) ≡ false) (all rule)

pub may_after : (h : Header) (l m : SideIs) (w : What) (masks : List Mask) (figs : List CpuFig) → SameBut l m
    → MayDrawOwn h l w masks figs → MayDrawOwn h m w masks figs
may_after h l m w masks figs same may = record {
  of_lane = may.of_lane;
  allowed = allowed_after h l m w masks masks figs same refl may.allowed;
  carries_masks = may.carries_masks;
  carries_figs = may.carries_figs;
}

pub range_after : (h : Header) (l m : SideIs) (w : What) (masks : List Mask) (figs : List CpuFig) → SameBut l m
    → IsInRange (own_left h l w masks figs) → IsInRange (own_left h m w masks figs)
range_after h l m w masks figs same r =
    subst (λ (t : Type 0). t)
    (λ i. IsInRange (own_left h
    (record l { number = sym same.number i; course = sym same.course i; known = sym same.known i }) w masks figs)) r

-- of two sides that are alike in what an entry says of them
may_alike : (h : Header) (l m : SideIs) (w : What) (masks : List Mask) (figs : List CpuFig) → m.course ≡ l.course
    → m.number ≡ l.number → m.known.ticket ≡ l.known.ticket → MayDrawOwn h m w masks figs → MayDrawOwn h l w masks figs
may_alike h l m w masks figs course number held may = record {
  of_lane = may.of_lane;
  allowed = λ rule.
      subst (λ (t : Type 0). t)
      (λ i. breaks_here rule (sight_from h (course i) masks figs)
      (entry_own (record l { number = number i; known = record l.known { ticket = held i } }) w) ≡ false) (may.allowed rule);
  carries_masks = may.carries_masks;
  carries_figs = may.carries_figs;
}

-- ---- what was drawn
pub drew_of : (h : Header) (l l' : SideIs) (w : What) (masks : List Mask) (figs : List CpuFig) (ticket : ℕ)
    → DrewOwn h l l' w masks figs ticket → Drew h l l' w masks figs ticket
drew_of h l l' w masks figs ticket d = record {
  may = d.may;
  list = d.list;
  course = d.course;
  held = d.held;
  above = d.above;
  read = d.seat.3;
  number = d.number;
  landing = d.landing;
}

-- room was made before it
pub drew_after : (h : Header) (l m l' : SideIs) (w : What) (masks : List Mask) (figs : List CpuFig) (ticket : ℕ) → SameBut l m
    → (m.seat.read ≡ l.seat.read) × (m.seat.next ≡ l.seat.next) → DrewOwn h m l' w masks figs ticket
    → Drew h l l' w masks figs ticket
drew_after h l m l' w masks figs ticket same view d =
    let item : item_own h m w masks figs ≡ item_own h l w masks figs =
    (λ i. item_own h (record l { number = same.number i; course = same.course i; known = same.known i }) w masks figs) in
    record {
      may = may_alike h l m w masks figs same.course same.number (ap (λ x. x.ticket) same.known) d.may;
      list = d.list ∙ (λ i. same.list i ++ record { ticket = ticket; item = item i } ∷ []);
      course = d.course ∙ ap (λ j. j.after) item;
      held = d.held;
      above = (subst (λ n. n ≤ ticket) view.1 d.above.0, d.above.1);
      read = d.seat.3 ∙ view.0;
      number = d.number ∙ same.number;
      landing = d.landing ∙ same.landing;
    }

-- the lane read, saw and marked before it
pub drew_since : (h : Header) (l m l' : SideIs) (w : What) (masks : List Mask) (figs : List CpuFig) (ticket : ℕ)
    → m.seat.list ≡ l.seat.list → m.course ≡ l.course → m.number ≡ l.number → m.known.ticket ≡ l.known.ticket
    → m.landing ≡ l.landing → m.seat.read ≡ l.seat.read → l.seat.next ≤ m.seat.next → Drew h m l' w masks figs ticket
    → Drew h l l' w masks figs ticket
drew_since h l m l' w masks figs ticket list course number held landing read next d =
    let item : item_own h m w masks figs ≡ item_own h l w masks figs =
    (λ i. item_own h (record l { number = number i; course = course i; known = record l.known { ticket = held i } }) w masks figs)
    in
    record {
      may = may_alike h l m w masks figs course number held d.may;
      list = d.list ∙ (λ i. list i ++ record { ticket = ticket; item = item i } ∷ []);
      course = d.course ∙ ap (λ j. j.after) item;
      held = d.held;
      above = let a = d.above.0 in (omega (arith, next, a), d.above.1);
      read = d.read ∙ read;
      number = d.number ∙ number;
      landing = d.landing ∙ landing;
    }

-- ---- rows
rows_append : (es fs : List Entry) → rows_drawn (es ++ fs) ≡ rows_drawn es ++ rows_drawn fs
rows_append [] fs = refl
rows_append (e ∷ es) fs =
    ap (λ l. row_of e.what e.lane ++ l) (rows_append es fs)
    ∙ sym (append_assoc (row_of e.what e.lane) (rows_drawn es) (rows_drawn fs))

pub rows_more : (list more : List (Drawn Journal)) (d : Drawn Journal) → more ≡ list ++ d ∷ []
    → rows_drawn (map (λ x. x.item.entry) more)
    ≡ rows_drawn (map (λ x. x.item.entry) list) ++ row_of d.item.entry.what d.item.entry.lane
rows_more list more d is =
    ap (λ l. rows_drawn (map (λ x. x.item.entry) l)) is
    ∙ (ap rows_drawn (map-append (λ (x : Drawn Journal). x.item.entry) list (d ∷ []))
    ∙ (rows_append (map (λ x. x.item.entry) list) (d.item.entry ∷ [])
    ∙ ap (λ l. rows_drawn (map (λ x. x.item.entry) list) ++ l) (append-nil (row_of d.item.entry.what d.item.entry.lane))))

-- ---- what is kept
-- what is new of an own entry: the lane has rows now, and the entry's are its next ones; the version that it uses was read,
-- the figures that it names were seen, and it is no end
pub record AddsTo (h : Header) (code : Coded Journal) (l l' : LaneIs) (w : What) (masks : List Mask) (figs : List CpuFig)
    (ticket : ℕ)
    : Type 0 where
  pub looker : l'.looker ≡ l.looker
  pub trace : l'.rows ≡ l.rows
  pub vouched : l'.vouched ≡ l.vouched
  pub version : l'.side.course.named_version ≤ length l.looker.topologies
  pub domains : l'.domains ≡ domains_of h.cpus h.distances l'.side.course.masks l'.turned
  pub within : l'.side.course.rows ≤ length l.rows
  pub rows : take l.side.course.rows l.rows ++ row_of w l.side.number ≡ take l'.side.course.rows l.rows
  pub uses : UsesVersion h code l.side.seat.read ticket (item_own h l.side w masks figs) w
  pub sees : SeesMore l.side.known.reader l'.side.known.reader
  pub saw : All (Saw l'.side.known.reader ticket) figs
  pub goes_on : is_of_lane w ≡ true
  pub turned : l'.turned < length h.cpus
  pub turns : is_due l'.side.course.form ≡ false → l'.turned ≡ l'.side.course.cpu
  pub few : AreFew l'.domains
  pub numbers : (cpu : ℕ) → cpu < length h.cpus → named_at l'.side.course cpu < length (seen_at l'.side.known.reader cpu)

pub kept : (h : Header) (board : List TableId) (versions : Book) (code : Coded Journal) (l l' : LaneIs) (w : What)
    (masks : List Mask)
    (figs : List CpuFig) (ticket : ℕ) → SawStays → LaneKeeps h board versions code l → Drew h l.side l'.side w masks figs ticket
    → AddsTo h code l l' w masks figs ticket → LaneKeeps h board versions code l'
kept h board versions code l l' w masks figs ticket stays k drew adds =
    let d : Drawn Journal = record { ticket = ticket; item = item_own h l.side w masks figs } in
    let list : l'.side.seat.list ≡ l.side.seat.list ++ d ∷ [] = drew.list in
    let read : l.side.seat.read ≡ l'.side.seat.read = sym drew.read in
    let trace : l.rows ≡ l'.rows = sym adds.trace in
    let Uses : List Held → Drawn Journal → Type 0 = λ hs x. UsesVersion h code hs x.ticket x.item x.item.entry.what in
    let uses : All (Uses l.side.seat.read) l'.side.seat.list =
    subst (All (Uses l.side.seat.read)) (sym list) (All-push (Uses l.side.seat.read) l.side.seat.list d k.uses adds.uses) in
    let Seen : Drawn Journal → Type 0 = λ x. All (Saw l'.side.known.reader x.ticket) x.item.figs in
    let still : SawAll l'.side.known.reader l.side.seat.list =
    stays l.side.known.reader l'.side.known.reader l.side.seat.list adds.sees k.saw in
    let saw : All Seen l'.side.seat.list = subst (All Seen) (sym list) (All-push Seen l.side.seat.list d still adds.saw) in
    record {
      machine = k.machine;
      cells = k.cells;
      turned = adds.turned;
      turns = adds.turns;
      few = adds.few;
      numbers = adds.numbers;
      looker = ap (λ v. v.book) adds.looker ∙ k.looker;
      vouches =
          subst (λ (t : Type 0). t)
          (λ i. Vouches h code (read i) l'.side.seat.next (sym adds.looker i).topologies (sym adds.vouched i))
          (vouches_on h code l.side.seat.read l.side.seat.next l'.side.seat.next l.looker.topologies l.vouched
          (let a = drew.above.0 in let b = drew.above.1 in omega (arith, a, b)) k.vouches);
      some = subst (λ n. 1 ≤ n) (sym adds.vouched) k.some;
      seen = subst (λ (t : Type 0). t) (λ i. sym adds.vouched i ≤ length (sym adds.looker i).topologies) k.seen;
      version = subst (λ (v : VersionsSeen). l'.side.course.named_version ≤ length v.topologies) (sym adds.looker) adds.version;
      domains = adds.domains;
      owned = subst (λ (t : Type 0). t) (λ i. All (λ r. r.lane ≡ sym drew.number i) (trace i)) k.owned;
      declared = subst (All (λ r. is_command h r.command ≡ true)) trace k.declared;
      short = subst (λ (rs : List TraceRow). length rs ≤ 100000) trace k.short;
      within = subst (λ (rs : List TraceRow). l'.side.course.rows ≤ length rs) trace adds.within;
      rows =
          rows_more l.side.seat.list l'.side.seat.list d list
          ∙ (ap (λ rs. rs ++ row_of w l.side.number) k.rows ∙ (adds.rows ∙ ap (take l'.side.course.rows) trace));
      uses = subst (λ hs. All (Uses hs) l'.side.seat.list) read uses;
      saw = saw;
      goes_on =
          subst (All (λ x. is_of_lane x.item.entry.what ≡ true)) (sym list)
          (All-push (λ x. is_of_lane x.item.entry.what ≡ true) l.side.seat.list d k.goes_on adds.goes_on);
    }
