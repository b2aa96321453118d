-- A `use` of a chosen version breaks no rule, and what the lane keeps stays.
-- For `Lane::follow`, `Lane::adopt` and `PublisherCell::vouch`.
use Rattle.std.proofs.Common.{All, ℕ, ◌≡◌, ◌-◌, ◌<◌, ◌≤◌, true, false, List, [], ◌++◌, Option, Some, unwrap_or, length, take, refl, sym, subst, ap, ◌∙◌, arith, inl, inr}
use Rattle.std.proofs.Math.Nat.{max-le}
use Rattle.std.proofs.lemmas.Bool.{le-ltb}
use Rattle.std.proofs.lemmas.List.{append-nil}
use Rattle.std.proofs.lemmas.List.Elements.{All-nil}
use Rattle.std.proofs.lemmas.Option.{slice_get_within}
use base.Stored.{Coded}
use mathlib.Core.List.{IsPrefix}
use Rattle.logbook.specs.Pages.{Book}
use Rattle.atomic_table.specs.Seated.{TableId}
use Rattle.lb_base.specs.declared.mask.Mask.{Mask}
use Rattle.lb_base.specs.declared.shape.Kind.{Kind}
use Rattle.lb_domain.specs.Domains.{domains_of}
use Rattle.lb_domain.specs.Topologies.{DomainsWithin, domains_within}
use Rattle.lb_trace.specs.declared.trace.Header.{Header}
use Rattle.lb_core.specs.declared.course.Course.{Course}
use Rattle.lb_core.specs.declared.course.Form.{Form}
use Rattle.lb_core.specs.declared.course.Form.TheVariants as forms
use Rattle.lb_core.specs.declared.entry.CpuFig.{CpuFig}
use Rattle.lb_core.specs.declared.entry.What.TheVariants.{Adopt}
use Rattle.lb_core.specs.declared.rule.Rule.{Rule}
use Rattle.lb_core.specs.declared.rule.Rule.TheVariants.{Ticket, Prev, Stage, Row as RowRule, Place, Reply as ReplyRule, Version, Figure, Decision as DecisionRule, Pick, Flight, Counters as CountersRule, Owed, End}
use Rattle.lb_core.specs.Course.{named_at}
use Rattle.lb_core.specs.CourseAfter.{course_after}
use Rattle.lb_core.specs.Stage.{stage_allows, draws}
use Rattle.lb_core.specs.Rules.{breaks_here}
use Rattle.lb_core.specs.Machine.{no_queue}
use Rattle.lb_ticket.specs.declared.view.Held.{Held}
use Rattle.lb_journal.specs.Journal.{Journal}
use Rattle.lb_journal.specs.Owners.{UsesVersion}
use Rattle.lb_board.specs.Board.{Sight, seen_at}
use Rattle.lb_seen.proofs.Beginnings.{prefix_self}
use Rattle.lb_cell.specs.Cells.{LaneIs as SideIs}
use Rattle.lb_cell.specs.Reads.{Saw}
use Rattle.lb_cell.specs.Own.{sight_own, entry_own, item_own, own_left}
use Rattle.lb_cell.specs.Reads.{SameBut}
use Rattle.lb_lane.specs.declared.chosen.Chosen.{Chosen}
use Rattle.lb_lane.specs.Lanes.{LaneIs, LaneKeeps}
use Rattle.lb_lane.specs.Own.{Drew, Unmoved}
use Rattle.lb_lane.specs.Vouched.{IsVouched, Source}
use Rattle.lb_lane.specs.Uses.{IsChosen, use_due}
use Rattle.lb_lane.proofs.Drawing.{AddsTo}
use Rattle.lb_core.proofs.Equality.{equal_itself}

-- ---- the test
draws_use : (form : Form) (h : Header) (c : Course) (lane v : ℕ) (kind : Kind) (cpu : ℕ) → use_due form c kind cpu ≡ true
    → draws form h c no_queue lane (Adopt v kind cpu) ≡ true
unfolding draws
draws_use forms.Serving h c lane v kind cpu e = e
draws_use forms.Due h c lane v kind cpu e = e
draws_use forms.Rest h c lane v kind cpu e = absurd (cc e)
draws_use forms.Asked h c lane v kind cpu e = absurd (cc e)
draws_use forms.Flight h c lane v kind cpu e = absurd (cc e)
draws_use forms.Used h c lane v kind cpu e = absurd (cc e)
draws_use forms.Position h c lane v kind cpu e = absurd (cc e)
draws_use forms.Looked h c lane v kind cpu e = absurd (cc e)
draws_use forms.Landed h c lane v kind cpu e = absurd (cc e)
draws_use forms.Closed h c lane v kind cpu e = absurd (cc e)
draws_use forms.Done h c lane v kind cpu e = absurd (cc e)
draws_use forms.ScanDue h c lane v kind cpu e = absurd (cc e)
draws_use forms.Kicking h c lane v kind cpu e = absurd (cc e)
draws_use forms.Ended h c lane v kind cpu e = absurd (cc e)

pub use_allowed : (h : Header) (l : SideIs) (x : Chosen) (kind : Kind) (figs : List CpuFig)
    → use_due l.course.form l.course kind x.cpu ≡ true → 1 ≤ x.version → l.course.named_version ≤ x.version → (rule : Rule)
    → breaks_here rule (sight_own h l x.masks figs) (entry_own l (Adopt x.version kind x.cpu)) ≡ false
unfolding stage_allows
use_allowed h l x kind figs due one newest Stage =
    rw (equal_itself l.number) (rw (draws_use l.course.form h l.course l.number x.version kind x.cpu due) refl)
use_allowed h l x kind figs due one newest Version = le-ltb x.version _ (max-le newest one)
use_allowed h l x kind figs due one newest Ticket = refl
use_allowed h l x kind figs due one newest Prev = refl
use_allowed h l x kind figs due one newest RowRule = refl
use_allowed h l x kind figs due one newest Place = refl
use_allowed h l x kind figs due one newest ReplyRule = refl
use_allowed h l x kind figs due one newest Figure = refl
use_allowed h l x kind figs due one newest DecisionRule = refl
use_allowed h l x kind figs due one newest Pick = refl
use_allowed h l x kind figs due one newest Flight = refl
use_allowed h l x kind figs due one newest CountersRule = refl
use_allowed h l x kind figs due one newest Owed = refl
use_allowed h l x kind figs due one newest End = refl

-- ---- the lane made room and read the queue's list
pub followed : (l m f : SideIs) (more : List Held) → SameBut l m → (m.seat.read ≡ l.seat.read) × (m.seat.next ≡ l.seat.next)
    → SameBut m f → f.seat.read ≡ m.seat.read ++ more → m.seat.next ≤ f.seat.next → Unmoved l f
followed l m f more room view same read next =
    let known = same.known ∙ room.known in
    record {
      list = same.list ∙ room.list;
      more = more;
      read = read ∙ ap (λ hs. hs ++ more) view.0;
      next = subst (λ n. n ≤ f.seat.next) view.1 next;
      course = same.course ∙ room.course;
      number = same.number ∙ room.number;
      held = ap (λ k. k.ticket) known;
      landing = same.landing ∙ room.landing;
      sees = λ cpu. subst (λ (s : Sight). IsPrefix (seen_at l.known.reader cpu) (seen_at s cpu)) (sym (ap (λ k. k.reader) known))
          (prefix_self (seen_at l.known.reader cpu));
    }

pub same_self : (l : SideIs) → SameBut l l
same_self l = record { number = refl; course = refl; known = refl; landing = refl; list = refl }

-- ---- what is kept
pub use_left : (h : Header) (l : SideIs) (v : ℕ) (kind : Kind) (cpu : ℕ) (masks : List Mask) (figs : List CpuFig)
    → own_left h l (Adopt v kind cpu) masks figs ≡ record l.course {
      form = forms.Used;
      version = v;
      masks = masks;
      kind = Some kind;
      cpu = cpu;
      named_version = v;
    }
unfolding course_after
use_left h l v kind cpu masks figs = refl

same_masks : (h : Header) (a b : List Mask)
    → Some (domains_within h.cpus h.distances a) ≡ Some (domains_within h.cpus h.distances b)
    → a ≡ b
same_masks h a b e = ap (λ (o : Option DomainsWithin). (unwrap_or o (domains_within h.cpus h.distances a)).masks) e

-- the version that it uses was read
use_read : (h : Header) (code : Coded Journal) (read : List Held) (next ticket : ℕ) (j : Journal) (v : ℕ) (kind : Kind) (cpu : ℕ)
    (masks : List Mask) → j.masks ≡ masks → next ≤ ticket → Source h code read next masks v
    → UsesVersion h code read ticket j (Adopt v kind cpu)
use_read h code read next ticket j v kind cpu masks is le (inl first) = inl (first.0, is ∙ first.1)
use_read h code read next ticket j v kind cpu masks is le (inr p) = inr (record {
  publ = p.publ;
  here = record { read_it = p.here.read_it; before = let b = p.here.before in omega (arith, b, le) };
  owner = p.owner;
  is = p.is;
  masks = is ∙ p.masks_are;
})

pub use_adds : (h : Header) (board : List TableId) (versions : Book) (code : Coded Journal) (l : LaneIs) (side : SideIs)
    (x : Chosen)
    (kind : Kind) (figs : List CpuFig) (ticket : ℕ) → LaneKeeps h board versions code l → IsChosen h l x
    → Drew h l.side side (Adopt x.version kind x.cpu) x.masks figs ticket → figs ≡ [] → side.known.reader ≡ l.side.known.reader
    → AddsTo h code l (record l { side = side; turned = x.cpu; domains = x.domains }) (Adopt x.version kind x.cpu) x.masks figs
    ticket
use_adds h board versions code l side x kind figs ticket k chosen drew none es =
    let c = l.side.course in
    let left = drew.course ∙ use_left h l.side x.version kind x.cpu x.masks figs in
    let rows : side.course.rows ≡ c.rows = ap (λ y. y.rows) left in
    let named : c.named ≡ side.course.named = sym (ap (λ y. y.named) left) in
    let v : IsVouched h code l.side.seat.read l.side.seat.next l.looker.topologies x.version =
    k.vouches x.version chosen.copy.one chosen.vouched in
    let masks : v.masks ≡ x.masks = same_masks h v.masks x.masks (sym v.shown ∙ chosen.copy.shown) in
    record {
      looker = refl;
      trace = refl;
      vouched = refl;
      version =
          let is : side.course.named_version ≡ x.version = ap (λ y. y.named_version) left in
          let lt : x.version - 1 < length l.looker.topologies = slice_get_within l.looker.topologies _ _ chosen.copy.shown in
          let one = chosen.copy.one in
          omega (arith, is, lt, one);
      domains = chosen.copy.domains ∙ (λ i. domains_of h.cpus h.distances (sym (ap (λ (y : Course). y.masks) left) i) x.cpu);
      within = subst (λ n. n ≤ length l.rows) (sym rows) k.within;
      rows = append-nil (take c.rows l.rows) ∙ ap (λ n. take n l.rows) (sym rows);
      uses =
          use_read h code l.side.seat.read l.side.seat.next ticket (item_own h l.side (Adopt x.version kind x.cpu) x.masks figs)
          x.version kind x.cpu x.masks refl drew.above.0
          (subst (λ ms. Source h code l.side.seat.read l.side.seat.next ms x.version) masks v.source);
      sees = λ cpu. subst (λ (s : Sight). IsPrefix (seen_at l.side.known.reader cpu) (seen_at s cpu)) (sym es)
          (prefix_self (seen_at l.side.known.reader cpu));
      saw = subst (All (Saw side.known.reader ticket)) (sym none) (All-nil (Saw side.known.reader ticket));
      goes_on = refl;
      turned = chosen.copy.cpu;
      turns = λ e. sym (ap (λ y. y.cpu) left);
      few = chosen.copy.few;
      numbers = λ cpu lt.
          subst (λ (t : Type 0). t) (λ i. named_at (record c { named = named i }) cpu < length (seen_at (sym es i) cpu))
          (k.numbers cpu lt);
    }

-- choosing speaks of the course alone, and of what the lane vouches for
pub chosen_still : (h : Header) (l : LaneIs) (f : SideIs) (x : Chosen) → f.course ≡ l.side.course → IsChosen h l x
    → IsChosen h (record l { side = f }) x
chosen_still h l f x same c = record {
  copy = c.copy;
  vouched = c.vouched;
  newest = subst (λ (y : Course). y.named_version ≤ x.version) (sym same) c.newest;
}
