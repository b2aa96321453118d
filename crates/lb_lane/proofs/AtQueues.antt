-- What a lane keeps stays as it draws an entry of a queue, of whatever kind: its own list, its rows, the masks and the
-- version of its last `use` are as they were, and it has seen the queue's new figure.
-- For `Lane::serve`, `Lane::kick`, `Lane::land` and others.
use Rattle.std.proofs.Common.{ℕ, ◌≡◌, ◌+◌, ◌<◌, ◌≤◌, Bool, true, false, if◌then◌else◌, Option, Some, None, Result, Ok, Err, OnOk, OnErr, List, [], ◌∷◌, length, map, get_or, set, take, refl, sym, subst, ap, ◌∙◌, arith, All}
use Rattle.std.proofs.lemmas.List.{get_or-set_same, get_or-set_other, length-append, length-map}
use Rattle.std.specs.List.{range_with_len}
use Rattle.std.proofs.lemmas.List.FromFn.{length-range_with_len}
use base.Stored.{Coded}
use mathlib.Core.Logic.{dite}
use native.Mathlib.Decide.{ℕ_discrete}
use Rattle.logbook.specs.Pages.{Book}
use Rattle.atomic_table.specs.Seated.{TableId}
use Rattle.lb_base.specs.declared.shape.Kind.{Kind}
use Rattle.lb_base.specs.declared.shape.Kind.TheVariants.{Tick as TickTurn, Idle, Nohz}
use Rattle.lb_base.specs.Sets.{least}
use Rattle.lb_domain.specs.Domains.{domains_of}
use Rattle.lb_queue.specs.declared.answers.AskReply.{AskReply}
use Rattle.lb_queue.specs.declared.answers.AskReply.TheVariants.{New, Old}
use Rattle.lb_queue.specs.declared.answers.OutCause.{OutCause}
use Rattle.lb_queue.specs.declared.answers.OutCause.TheVariants as causes
use Rattle.lb_queue.specs.declared.answers.TurnReply.{TurnReply}
use Rattle.lb_queue.specs.declared.answers.TurnReply.TheVariants.{Opened, TurnOpen}
use Rattle.lb_queue.specs.Queue.{QueueState}
use Rattle.lb_trace.specs.declared.trace.Command.{Command}
use Rattle.lb_trace.specs.declared.trace.Command.TheVariants as commands
use Rattle.lb_trace.specs.declared.trace.Header.{Header}
use Rattle.lb_core.specs.declared.course.Course.{Course}
use Rattle.lb_core.specs.declared.course.Form.{Form}
use Rattle.lb_core.specs.declared.course.Form.TheVariants as forms
use Rattle.lb_core.specs.declared.entry.OutcomeWord.{OutcomeWord}
use Rattle.lb_core.specs.declared.entry.OutcomeWord.TheVariants as words
use Rattle.lb_core.specs.declared.entry.What.{What}
use Rattle.lb_core.specs.declared.entry.What.TheVariants as whats
use Rattle.lb_core.specs.Course.{named_at, is_tick, is_newly, turn_kind}
use Rattle.lb_core.specs.CourseAfter.{after_sleep, answered, closes, comes_to_rest, course_after, course_by, goes_to, is_due_at, kicked, kicks_next, lands, left_idle, takes_off, turn_ends, turn_ends_by}
use Rattle.lb_core.specs.Leaving.{Leaving, leaving}
use Rattle.lb_core.specs.OfTrace.{rows_drawn}
use Rattle.lb_core.specs.QueueAfter.{cause_of, queue_after}
use Rattle.lb_core.specs.Sight.{Sight as StepSight}
use Rattle.lb_ticket.specs.Seats.{SeatIs}
use Rattle.lb_ticket.specs.Tickets.{pair}
use Rattle.lb_journal.specs.Journal.{Journal}
use Rattle.lb_cell.specs.Kinds.{is_of_lane}
use Rattle.lb_journal.specs.Owners.{SeatUses}
use Rattle.lb_board.specs.Board.{seen_at}
use Rattle.lb_seen.proofs.Beginnings.{prefix_length}
use Rattle.lb_cell.specs.Kinds.{is_of_queue}
use Rattle.lb_cell.specs.Cells.{CellIs, CellKeeps, LaneIs as SideIs}
use Rattle.lb_cell.specs.Draws.{Drew, course_left, sight_at, entry_at}
use Rattle.lb_cell.specs.Turns.{IsPositionDone, turn_what}
use Rattle.lb_cell.specs.Reads.{LookSeesMore, SawAll, SawStays, SeesMore}
use Rattle.lb_lane.specs.Lanes.{LaneIs, LaneKeeps, is_due}
use Rattle.lb_lane.specs.Vouched.{Vouches}

-- ---- of a course these are as they were; its turn's CPU, too, unless another turn is due
abbrev Stays : Course → Course → Type 0
Stays c d =
    (d.rows ≡ c.rows) × (d.masks ≡ c.masks) × (d.named_version ≡ c.named_version) × (d.named ≡ c.named)
    × (is_due d.form ≡ false → d.cpu ≡ c.cpu)

by_test : (b : Bool) (c d e : Course) → Stays c d → Stays c e → Stays c (if b then d else e)
by_test true c d e x y = x
by_test false c d e x y = y

at_rest : (c : Course) → Stays c (comes_to_rest c)
at_rest c = (refl, refl, refl, refl, λ e. refl)

at_due : (k : Kind) (cpu : ℕ) (c : Course) → Stays c (is_due_at k cpu c)
at_due k cpu c = (refl, refl, refl, refl, λ e. absurd (cc e))

at_next : (o : Option ℕ) (c : Course) → Stays c (goes_to o c)
at_next None c = (refl, refl, refl, refl, λ e. refl)
at_next (Some p) c = (refl, refl, refl, refl, λ e. refl)

at_kick : (o : Option ℕ) (c : Course) → Stays c (kicks_next o c)
at_kick None c = at_rest c
at_kick (Some cpu) c = at_due Nohz cpu c

after_turn : (k : Kind) (h : Header) (c : Course) → Stays c (turn_ends_by k h c)
after_turn TickTurn h c = by_test _ c _ (comes_to_rest c) (refl, refl, refl, refl, λ e. refl) (at_rest c)
after_turn Idle h c = at_rest c
after_turn Nohz h c = at_kick _ c

at_end : (h : Header) (c : Course) → Stays c (turn_ends h c)
unfolding turn_ends
at_end h c = after_turn (turn_kind c) h c

slept : (b : Bool) (cpu : ℕ) (c : Course) → Stays c (after_sleep b cpu c)
slept true cpu c = at_due Idle cpu c
slept false cpu c = at_rest c

at_answer : (o : Option Command) (cpu : ℕ) (before now : QueueState) (c : Course) → Stays c (answered o cpu before now c)
at_answer None cpu before now c = at_rest c
at_answer (Some (commands.Sleep t)) cpu before now c = slept (left_idle t before now) cpu c
at_answer (Some (commands.Exit t)) cpu before now c = slept (left_idle t before now) cpu c
at_answer (Some (commands.Tick t)) cpu before now c = (refl, refl, refl, refl, λ e. refl)
at_answer (Some (commands.Wake t)) cpu before now c = at_rest c
at_answer (Some (commands.SetMask t m)) cpu before now c = at_rest c
at_answer (Some (commands.Nice t n)) cpu before now c = at_rest c
at_answer (Some (commands.Rebuild ms)) cpu before now c = at_rest c

at_out : (o : Option Leaving) (c : Course) → Stays c (takes_off o c)
at_out None c = (refl, refl, refl, refl, λ e. refl)
at_out (Some l) c = (refl, refl, refl, refl, λ e. refl)

at_landing : (cause : OutCause) (c : Course) → Stays c (lands cause c)
at_landing causes.Pull c = (refl, refl, refl, refl, λ e. refl)
at_landing causes.Wake c = by_test (is_tick c.command) c _ (comes_to_rest c) (refl, refl, refl, refl, λ e. refl) (at_rest c)
at_landing causes.Stop c = by_test (is_tick c.command) c _ (comes_to_rest c) (refl, refl, refl, refl, λ e. refl) (at_rest c)
at_landing causes.Push c = by_test (is_tick c.command) c _ (comes_to_rest c) (refl, refl, refl, refl, λ e. refl) (at_rest c)

at_close : (w : OutcomeWord) (c : Course) → Stays c (closes w c)
at_close words.Asking c = (refl, refl, refl, refl, λ e. refl)
at_close words.NotMine c = at_next None c
at_close words.Moved c = by_test (is_newly (turn_kind c)) c _ _ (at_next None c) (at_next _ c)
at_close words.Balanced c = at_next _ c
at_close words.Pinned c = at_next _ c
at_close words.Failed c = at_next _ c

after_kick : (r : AskReply) (c : Course) → Stays c (kicked r c)
after_kick New c = at_kick _ c
after_kick Old c = at_rest c

stays : (w : What) → is_of_queue w ≡ true → (s : StepSight) (cpu : ℕ) (now : QueueState) → Stays s.course (course_by w s cpu now)
stays (whats.Did r) e s cpu now = at_answer s.course.command cpu s.queue now s.course
stays (whats.Out cause to tasks) e s cpu now = at_out (leaving s) s.course
stays (whats.Landed tasks) e s cpu now = at_landing (cause_of s.course) s.course
stays (whats.Turn ps) e s cpu now = at_next (least ps) _
stays whats.Shut e s cpu now = at_end s.header s.course
stays (whats.Close p w i f) e s cpu now = at_close w s.course
stays (whats.Ask r) e s cpu now = at_next _ s.course
stays (whats.Kick r) e s cpu now = after_kick r s.course
stays whats.Over e s cpu now = at_end s.header s.course
stays (whats.Row n at command) e s cpu now = absurd (cc e)
stays (whats.Adopt v k turned) e s cpu now = absurd (cc e)
stays (whats.Look p x fs d) e s cpu now = absurd (cc e)
stays (whats.Scan fs t) e s cpu now = absurd (cc e)
stays (whats.End u) e s cpu now = absurd (cc e)
stays (whats.Pub v) e s cpu now = absurd (cc e)

-- ---- no turn is due where a position is done; and the answer to a `use` is one of a queue
pub done_not_due : (form : Form) (h : Header) (c : Course) → IsPositionDone form h c → is_due form ≡ false
done_not_due forms.Rest h c e = refl
done_not_due forms.Asked h c e = refl
done_not_due forms.Flight h c e = refl
done_not_due forms.Serving h c e = refl
done_not_due forms.Due h c e = absurd e
done_not_due forms.Used h c e = refl
done_not_due forms.Position h c e = refl
done_not_due forms.Looked h c e = refl
done_not_due forms.Landed h c e = refl
done_not_due forms.Closed h c e = refl
done_not_due forms.Done h c e = refl
done_not_due forms.ScanDue h c e = refl
done_not_due forms.Kicking h c e = refl
done_not_due forms.Ended h c e = refl

pub turn_is_of_queue : (r : TurnReply) → is_of_queue (turn_what r) ≡ true
turn_is_of_queue (Opened positions) = refl
turn_is_of_queue TurnOpen = refl

-- ---- what an entry of a queue leaves: the course counts it as the lane's greatest number there
abbrev Leaves : Course → ℕ → ℕ → Course → Type 0
Leaves c cpu n d =
    (d.rows ≡ c.rows) × (d.masks ≡ c.masks) × (d.named_version ≡ c.named_version) × (d.named ≡ set c.named cpu n)
    × (is_due d.form ≡ false → d.cpu ≡ c.cpu)

leaves : (h : Header) (c : CellIs) (l : SideIs) (w : What) → is_of_queue w ≡ true
    → Leaves l.course c.log.writer.cpu (length c.log.seat.list + 1) (course_left h c l w)
unfolding course_after
leaves h c l w e =
    let cpu = c.log.writer.cpu in
    let s = stays w e (sight_at h c l) cpu (queue_after (sight_at h c l) (entry_at c l w)) in
    (s.0, s.1, s.2, ap (λ (ns : List ℕ). set ns cpu (length c.log.seat.list + 1)) s.3, s.4)

-- ---- what is kept
module _ (h : Header) (book : TableId) (board : List TableId) (versions : Book) (code : Coded Journal) where
  -- the queue's new figure was seen, and of other CPUs no less than before
  numbers : (l : LaneIs) (side : SideIs) (c c' : CellIs) (w : What) → LaneKeeps h board versions code l
      → length l.side.course.named ≡ length h.cpus → CellKeeps h book board c → Drew h c c' l.side side w
      → SeesMore l.side.known.reader side.known.reader
      → side.course.named ≡ set l.side.course.named c.log.writer.cpu (length c.log.seat.list + 1) → (cpu : ℕ)
      → cpu < length h.cpus
      → named_at side.course cpu < length (seen_at side.known.reader cpu)
  numbers l side c c' w k long keeps drew sees named cpu lt =
      let own = c.log.writer.cpu in
      let n = length c.log.seat.list + 1 in
      let ns = l.side.course.named in
      let seen = seen_at side.known.reader in
      let room : own < length ns = let d = keeps.declared in omega (arith, d, long) in
      let published : length c.log.writer.figures ≡ n =
      ap length keeps.figures
      ∙ (length-map (range_with_len 0 (length (map pair c.log.seat.list) + 1)) _
      ∙ (length-range_with_len 0 (length (map pair c.log.seat.list) + 1)
      ∙ ap (λ m. m + 1) (length-map c.log.seat.list pair))) in
      let more : length c'.log.writer.figures ≡ n + 1 =
      ap (λ x. length x.figures) drew.writer ∙ (length-append c.log.writer.figures (_ ∷ []) ∙ ap (λ m. m + 1) published) in
      let told : length c'.log.writer.figures ≤ length (seen own) = prefix_length c'.log.writer.figures (seen own) drew.told in
      subst (λ (xs : List ℕ). get_or xs cpu 0 < length (seen cpu)) (sym named)
      (dite (ℕ_discrete cpu own)
      (λ (e : cpu ≡ own).
      subst (λ (j : ℕ). get_or (set ns own n) j 0 < length (seen j)) (sym e)
      (subst (λ (v : ℕ). v < length (seen own)) (sym (get_or-set_same ns own n 0 room)) (omega (arith, more, told))))
      (λ ne.
      let was : get_or ns cpu 0 < length (seen_at l.side.known.reader cpu) = k.numbers cpu lt in
      let grows = prefix_length (seen_at l.side.known.reader cpu) (seen cpu) (sees cpu) in
      subst (λ (v : ℕ). v < length (seen cpu)) (sym (get_or-set_other ns own cpu n 0 ne)) (omega (arith, was, grows))))

  pub at_queue : (l : LaneIs) (side : SideIs) (c c' : CellIs) (w : What) → LookSeesMore → SawStays
      → LaneKeeps h board versions code l
      → length l.side.course.named ≡ length h.cpus → CellKeeps h book board c → is_of_queue w ≡ true
      → is_due l.side.course.form ≡ false → Drew h c c' l.side side w → LaneKeeps h board versions code (record l { side = side })
  at_queue l side c c' w looks stay k long keeps kind due drew =
      let left : Leaves l.side.course c.log.writer.cpu (length c.log.seat.list + 1) side.course =
      subst (Leaves l.side.course c.log.writer.cpu (length c.log.seat.list + 1)) (sym drew.course) (leaves h c l.side w kind) in
      let seat : l.side.seat ≡ side.seat = sym drew.seat in
      let rows : l.side.course.rows ≡ side.course.rows = sym left.0 in
      let sees : SeesMore l.side.known.reader side.known.reader =
      looks l.side.known.reader side.known.reader c.log.writer.cpu drew.seen drew.seen_more in
      record {
        machine = k.machine;
        cells = k.cells;
        looker = k.looker;
        vouches = subst (λ (x : SeatIs Journal). Vouches h code x.read x.next l.looker.topologies l.vouched) seat k.vouches;
        some = k.some;
        seen = k.seen;
        version = subst (λ n. n ≤ length l.looker.topologies) (sym left.2) k.version;
        turned = k.turned;
        turns = λ e. k.turns due ∙ sym (left.4 e);
        domains = k.domains ∙ (λ i. domains_of h.cpus h.distances (sym left.1 i) l.turned);
        few = k.few;
        owned = subst (λ n. All (λ r. r.lane ≡ n) l.rows) (sym drew.number) k.owned;
        declared = k.declared;
        short = k.short;
        within = subst (λ n. n ≤ length l.rows) rows k.within;
        rows =
            subst (λ (t : Type 0). t)
            (λ i. rows_drawn (map (λ d. d.item.entry) (seat i).list) ≡ take (rows i) l.rows) k.rows;
        uses = subst (SeatUses h code) seat k.uses;
        saw = subst (λ (x : SeatIs Journal). SawAll side.known.reader x.list) seat
            (stay l.side.known.reader side.known.reader l.side.seat.list sees k.saw);
        goes_on = subst (λ (x : SeatIs Journal). All (λ d. is_of_lane d.item.entry.what ≡ true) x.list) seat k.goes_on;
        numbers = numbers l side c c' w k long keeps drew sees left.3;
      }

  -- or it was refused, and nothing was drawn
  pub at_queue_if : {A E : Type 0} (X : Type 0) (r : Result A E) (l : LaneIs) (side : SideIs) (c c' : CellIs) (w : What)
      → LookSeesMore → SawStays
      → LaneKeeps h board versions code l → length l.side.course.named ≡ length h.cpus → CellKeeps h book board c
      → is_of_queue w ≡ true → is_due l.side.course.form ≡ false → OnOk r (Drew h c c' l.side side w)
      → OnErr r ((c' ≡ c) × (side ≡ l.side) × X)
      → LaneKeeps h board versions code (record l { side = side })
  at_queue_if X (Ok x) l side c c' w looks stay k long keeps kind due drew same =
      at_queue l side c c' w looks stay k long keeps kind due drew
  at_queue_if X (Err x) l side c c' w looks stay k long keeps kind due drew same =
      subst (λ (s : SideIs). LaneKeeps h board versions code (record l { side = s })) (sym same.1) k
