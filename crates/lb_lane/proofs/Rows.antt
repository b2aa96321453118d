-- The next row of a lane breaks no rule, and is its next in the list.
-- For `Lane::row`.
use Rattle.std.proofs.Common.{ltb, is_none, None, Option, true, ℕ, ◌≡◌, ◌+◌, ◌<◌, ◌≤◌, false, not, List, [], ◌∷◌, ◌++◌, Some, length, get_or, slice_get, take, refl, sym, subst, ap, ◌∙◌, arith, All}
use Rattle.std.specs.Prelude.{◌↔◌}
use Rattle.std.proofs.lemmas.Bool.{and_parts}
use Rattle.std.proofs.lemmas.List.{take_more}
use Rattle.std.proofs.lemmas.List.Elements.{All-nil}
use Rattle.std.proofs.lemmas.Option.{same_Some, slice_get-get_or}
use base.Stored.{Coded}
use mathlib.Core.List.{IsPrefix}
use Rattle.logbook.specs.Pages.{Book}
use Rattle.atomic_table.specs.Seated.{TableId}
use Rattle.lb_base.specs.declared.mask.Mask.{Mask}
use Rattle.lb_domain.specs.Domains.{domains_of}
use Rattle.lb_levels.specs.Faults.{ArePartition, parts_fault_of}
use Rattle.lb_trace.specs.Accepted.{is_command}
use Rattle.lb_trace.specs.declared.trace.Command.{Command}
use Rattle.lb_trace.specs.declared.trace.Command.TheVariants.{Wake, Sleep, Exit, SetMask, Nice, Tick, Rebuild}
use Rattle.lb_trace.specs.declared.trace.Header.{Header}
use Rattle.lb_trace.specs.declared.trace.Row.{Row as TraceRow}
use Rattle.lb_core.specs.declared.course.Form.{Form}
use Rattle.lb_core.specs.declared.course.Form.TheVariants as forms
use Rattle.lb_core.specs.declared.course.Course.{Course}
use Rattle.lb_core.specs.declared.entry.CpuFig.{CpuFig}
use Rattle.lb_core.specs.declared.entry.What.TheVariants.{Row}
use Rattle.lb_core.specs.declared.rule.Rule.{Rule}
use Rattle.lb_core.specs.declared.rule.Rule.TheVariants.{Ticket, Prev, Stage, Row as RowRule, Place, Reply as ReplyRule, Version, Figure, Decision as DecisionRule, Pick, Flight, Counters as CountersRule, Owed, End}
use Rattle.lb_core.specs.Stage.{stage_allows, draws}
use Rattle.lb_core.proofs.Equality.{equal_itself}
use Rattle.lb_core.specs.Rules.{breaks_here, is_undeclared}
use Rattle.lb_core.specs.Machine.{no_queue}
use Rattle.lb_core.specs.OfTrace.{row_of}
use Rattle.lb_core.specs.CourseAfter.{course_after}
use Rattle.lb_journal.specs.Journal.{Journal}
use Rattle.lb_core.specs.Course.{named_at}
use Rattle.lb_board.specs.Board.{Sight, seen_at}
use Rattle.lb_seen.proofs.Beginnings.{prefix_self}
use Rattle.lb_cell.specs.Reads.{Saw}
use Rattle.lb_cell.specs.Cells.{LaneIs as SideIs}
use Rattle.lb_cell.specs.Own.{sight_own, entry_own, own_left}
use Rattle.lb_lane.specs.Lanes.{LaneIs, LaneKeeps, is_due}
use Rattle.lb_lane.specs.Own.{Drew}
use Rattle.lb_lane.proofs.Drawing.{AddsTo}

-- what an accepted command names is declared, by the law of a partition's faults
pub is_declared : ((cpus : ℕ) (parts : List Mask) → (parts_fault_of cpus parts ≡ None) ↔ ArePartition cpus parts) → (h : Header)
    (command : Command) → is_command h command ≡ true → is_undeclared h command ≡ false
is_declared law h (Wake t) c = rw c refl
is_declared law h (Sleep t) c = rw c refl
is_declared law h (Exit t) c = rw c refl
is_declared law h (SetMask t mask) c = rw ((and_parts (ltb t (length h.tasks)) _ c).0) refl
is_declared law h (Nice t nice) c = rw ((and_parts (ltb t (length h.tasks)) _ c).0) refl
is_declared law h (Tick cpu) c = rw c refl
is_declared law h (Rebuild parts) c =
    let p = (law (length h.cpus) parts).0 (none_is (parts_fault_of (length h.cpus) parts) ((and_parts _ _ c).1)) in
    rw (p.below, p.apart) refl
  where
    none_is : {A : Type 0} (o : Option A) → is_none o ≡ true → o ≡ None
    none_is None e = refl
    none_is (Some x) e = absurd (let y : ⊥ = cc in y)

pub allowed : (h : Header) (l : SideIs) (at : ℕ) (command : Command) → l.course.form ≡ forms.Rest
    → is_undeclared h command ≡ false → (rule : Rule)
    → breaks_here rule (sight_own h l [] []) (entry_own l (Row (l.course.rows + 1) at command)) ≡ false
unfolding stage_allows draws
allowed h l at command rest declared Stage =
    rw (equal_itself l.number)
    (subst (λ (f : Form). not (draws f h l.course no_queue l.number (Row (l.course.rows + 1) at command)) ≡ false) (sym rest)
    refl)
allowed h l at command rest declared RowRule = rw (equal_itself (l.course.rows + 1)) declared
allowed h l at command rest declared Ticket = refl
allowed h l at command rest declared Prev = refl
allowed h l at command rest declared Place = refl
allowed h l at command rest declared ReplyRule = refl
allowed h l at command rest declared Version = refl
allowed h l at command rest declared Figure = refl
allowed h l at command rest declared DecisionRule = refl
allowed h l at command rest declared Pick = refl
allowed h l at command rest declared Flight = refl
allowed h l at command rest declared CountersRule = refl
allowed h l at command rest declared Owed = refl
allowed h l at command rest declared End = refl

-- what holds of all rows holds of the one at a place
pub at_place : (P : TraceRow → Type 0) (rows : List TraceRow) (n : ℕ) (row : TraceRow) → All P rows → slice_get rows n ≡ Some row
    → n < length rows → P row
at_place P rows n row all here lt =
    subst P (same_Some _ _ (sym (slice_get-get_or rows n row lt) ∙ here)) (all n row lt)

-- one row more
pub row_more : (rows : List TraceRow) (n lane : ℕ) (row : TraceRow) → slice_get rows n ≡ Some row → row.lane ≡ lane
    → n < length rows
    → take n rows ++ row_of (Row (n + 1) row.at row.command) lane ≡ take (n + 1) rows
row_more rows n lane row here own lt =
    let is : get_or rows n row ≡ row = same_Some _ _ (sym (slice_get-get_or rows n row lt) ∙ here) in
    let mine : record { lane = lane; at = row.at; command = row.command } ≡ get_or rows n row =
    (λ i. record { lane = sym own i; at = row.at; command = row.command }) ∙ sym is in
    ap (λ (r : TraceRow). take n rows ++ r ∷ []) mine ∙ sym (take_more rows n row lt)

-- as it is drawn
pub allowed_as : (h : Header) (l : SideIs) (rows at : ℕ) (command : Command) (masks : List Mask) (figs : List CpuFig)
    → l.course.form ≡ forms.Rest → is_undeclared h command ≡ false → rows ≡ l.course.rows → masks ≡ [] → figs ≡ [] → (rule : Rule)
    → breaks_here rule (sight_own h l masks figs) (entry_own l (Row (rows + 1) at command)) ≡ false
allowed_as h l rows at command masks figs rest declared er em ef rule =
    subst (λ (t : Type 0). t)
    (λ i. breaks_here rule (sight_own h l (sym em i) (sym ef i)) (entry_own l (Row (sym er i + 1) at command)) ≡ false)
    (allowed h l at command rest declared rule)

-- ---- what is kept
row_left : (h : Header) (l : SideIs) (n at : ℕ) (command : Command) (masks : List Mask) (figs : List CpuFig)
    → own_left h l (Row n at command) masks figs
    ≡ record l.course { form = forms.Asked; rows = n; at = at; command = Some command }
unfolding course_after
row_left h l n at command masks figs = refl

pub row_adds : (h : Header) (board : List TableId) (versions : Book) (code : Coded Journal) (l : LaneIs) (side : SideIs)
    (rows at : ℕ)
    (command : Command) (row : TraceRow) (masks : List Mask) (figs : List CpuFig) (ticket : ℕ) → LaneKeeps h board versions code l
    → Drew h l.side side (Row (rows + 1) at command) masks figs ticket → rows ≡ l.side.course.rows → rows < length l.rows
    → slice_get l.rows rows ≡ Some row → at ≡ row.at → command ≡ row.command → figs ≡ []
    → side.known.reader ≡ l.side.known.reader → l.side.course.form ≡ forms.Rest
    → AddsTo h code l (record l { side = side }) (Row (rows + 1) at command) masks figs ticket
row_adds h board versions code l side rows at command row masks figs ticket k drew er more here ea ec ef es rest =
    let left = drew.course ∙ row_left h l.side (rows + 1) at command masks figs in
    let n : side.course.rows ≡ rows + 1 = ap (λ c. c.rows) left in
    let named : l.side.course.named ≡ side.course.named = sym (ap (λ c. c.named) left) in
    let own : row.lane ≡ l.side.number = at_place (λ r. r.lane ≡ l.side.number) l.rows rows row k.owned here more in
    let next : take rows l.rows ++ row_of (Row (rows + 1) row.at row.command) l.side.number ≡ take (rows + 1) l.rows =
    row_more l.rows rows l.side.number row here own more in
    record {
      looker = refl;
      trace = refl;
      vouched = refl;
      version = subst (λ n. n ≤ length l.looker.topologies) (sym (ap (λ (c : Course). c.named_version) left)) k.version;
      domains = k.domains ∙ (λ i. domains_of h.cpus h.distances (sym (ap (λ (c : Course). c.masks) left) i) l.turned);
      within = omega (arith, n, more);
      rows =
          (λ i. take (sym er i) l.rows ++ row_of (Row (rows + 1) (ea i) (ec i)) l.side.number)
          ∙ (next ∙ ap (λ m. take m l.rows) (sym n));
      uses = tt;
      sees = λ cpu. subst (λ (s : Sight). IsPrefix (seen_at l.side.known.reader cpu) (seen_at s cpu)) (sym es)
          (prefix_self (seen_at l.side.known.reader cpu));
      saw = subst (All (Saw side.known.reader ticket)) (sym ef) (All-nil (Saw side.known.reader ticket));
      turned = k.turned;
      turns = λ e. k.turns (ap is_due rest) ∙ sym (ap (λ (c : Course). c.cpu) left);
      few = k.few;
      numbers = λ cpu lt.
          subst (λ (t : Type 0). t) (λ i. named_at (record l.side.course { named = named i })
          cpu < length (seen_at (sym es i) cpu))
          (k.numbers cpu lt);
      goes_on = refl;
    }
