-- A `pub` of the publisher's list, from its parts; it leaves what every lane keeps.
-- For `Lane::draw_pub`.
use Rattle.std.proofs.Common.{ℕ, ◌≡◌, ◌<◌, false, List, [], length, map, refl, sym, subst, ap, ◌∙◌, arith}
use Rattle.std.proofs.lemmas.List.{length-map}
use base.Stored.{Coded}
use Rattle.atomic_table.specs.Seated.{TableId}
use Rattle.lb_base.specs.declared.mask.Mask.{Mask}
use Rattle.lb_trace.specs.declared.trace.Header.{Header}
use Rattle.lb_core.specs.declared.course.Course.{Course}
use Rattle.lb_core.specs.declared.entry.CpuFig.{CpuFig}
use Rattle.lb_core.specs.Placed.{is_flight}
use Rattle.lb_core.specs.CourseAfter.{comes_to_rest, course_after}
use Rattle.lb_core.specs.Rules.{breaks_here}
use Rattle.lb_ticket.specs.declared.item.Drawn.{Drawn}
use Rattle.lb_ticket.specs.Tickets.{pair}
use Rattle.lb_journal.specs.Journal.{Fits, Journal, Left, sight_in}
use Rattle.lb_board.specs.Board.{Sight as FiguresSeen}
use Rattle.lb_cell.specs.declared.known.Known.{Known}
use Rattle.lb_cell.specs.LastEntries.{IsLast}
use Rattle.lb_cell.specs.Cells.{LaneIs, LaneKeeps, IsInRange}
use Rattle.lb_cell.specs.Pubs.{MayDrawPub, pub_entry, pub_item, pub_left, pub_sight}

pub pub_course : (h : Header) (l : LaneIs) (count version : ℕ)
    → record (comes_to_rest l.course) { named_version = version } ≡ pub_left h l count version
unfolding course_after
pub_course h l count version = refl

pub pub_item_is : (h : Header) (l : LaneIs) (count version : ℕ) (j : Journal) (hv : Header) (cv av : Course)
    (ms : List Mask) (fs : List CpuFig)
    → j ≡ record { header = hv; entry = pub_entry l version; course = cv; after = av; masks = ms; figs = fs }
    → hv ≡ h → cv ≡ l.course → av ≡ record (comes_to_rest l.course) { named_version = version } → ms ≡ [] → fs ≡ []
    → j ≡ pub_item h l count version
pub_item_is h l count version j hv cv av ms fs e eh ec ea em ef =
    let left : av ≡ pub_left h l count version = ea ∙ pub_course h l count version in
    e ∙ (λ i. record {
      header = eh i;
      entry = pub_entry l version;
      course = ec i;
      after = left i;
      masks = em i;
      figs = ef i;
    })

-- where it fits the publisher's list, it may be drawn
pub pub_may : (h : Header) (l : LaneIs) (ds : List (Drawn Journal)) (version : ℕ)
    → Fits (map pair ds) (pub_item h l (length ds) version) → MayDrawPub h l (length ds) version
unfolding sight_in
pub_may h l ds version f rule =
    subst (λ (n : ℕ). breaks_here rule (pub_sight h l.course n) (pub_entry l version) ≡ false) (length-map ds pair)
    (f.allowed rule)

in_range : (c : Course) (version : ℕ) → IsInRange c → IsInRange (record (comes_to_rest c) { named_version = version })
in_range c version r = record { cpu = r.cpu; position = r.position; source = omega arith }

pub pub_more : (h : Header) (book : TableId) (board : List TableId) (code : Coded Left) (l : LaneIs) (count version : ℕ)
    (new : Course) (known : Known) → LaneKeeps h book board code l → 0 < known.ticket
    → new ≡ record (comes_to_rest l.course) { named_version = version } → known.reader ≡ l.known.reader
    → IsLast book code (length h.cpus) l.number (pub_left h l count version) known.ticket known.note
    → LaneKeeps h book board code
    (record { number = l.number; course = new; known = known; seat = l.seat; landing = l.landing })
pub_more h book board code l count version new known k some steps reader last =
    let left : new ≡ pub_left h l count version = steps ∙ pub_course h l count version in
    record {
      number = k.number;
      table = k.table;
      owner = k.owner;
      cells = ap (λ (x : FiguresSeen). x.cells) reader ∙ k.cells;
      last = subst (λ (c : Course). IsLast book code (length h.cpus) l.number c known.ticket known.note) (sym left) last;
      first = λ z. absurd (omega (arith, z, some));
      range = subst IsInRange (sym steps) (in_range l.course version k.range);
      quiet = λ rest. (ap (λ (c : Course). c.command) steps, ap (λ (c : Course). c.decision) steps);
      named = ap (λ (c : Course). length c.named) steps ∙ k.named;
      headers = k.headers;
      landing = λ flies. absurd (let no = ap (λ (c : Course). is_flight c.form) steps in cc (no, flies));
    }
