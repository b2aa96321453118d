-- An entry of a queue that its lane may draw fits the queue's list, and what cell and lane keep stays.
-- For `Before::enter` and `item_of`.
use Rattle.std.proofs.Common.{ℕ, ◌≡◌, ◌+◌, ◌<◌, true, false, List, [], ◌∷◌, ◌++◌, Option, Some, None, slice_get, length, map, refl, sym, subst, ap, ◌∙◌, arith, All}
use Rattle.std.proofs.lemmas.List.{length-append, length-map, length-set}
use Rattle.std.proofs.lemmas.List.Elements.{All-map, All-push}
use Rattle.std.proofs.lemmas.Bool.{lt-ltb}
use base.Stored.{Coded}
use Rattle.atomic_table.specs.Seated.{TableId}
use Rattle.lb_base.specs.declared.mask.Mask.{Mask}
use Rattle.lb_base.specs.declared.mask.TheConstants.{MAX_CPUS}
use Rattle.lb_queue.specs.Queue.{BookedQueue, QueueState}
use Rattle.lb_queue.specs.Figures.{figure}
use Rattle.lb_queue.specs.Tasks.{ids}
use Rattle.lb_trace.specs.declared.trace.Header.{Header}
use Rattle.lb_core.specs.declared.course.Course.{Course}
use Rattle.lb_core.specs.declared.course.Form.{Form}
use Rattle.lb_core.specs.declared.course.Form.TheVariants as forms
use Rattle.lb_core.specs.declared.entry.CpuFig.{CpuFig}
use Rattle.lb_core.specs.declared.entry.Owner.TheVariants.{Queue}
use Rattle.lb_core.specs.declared.entry.What.{What}
use Rattle.lb_core.specs.declared.entry.What.TheVariants as whats
use Rattle.lb_core.specs.Sight.{Sight}
use Rattle.lb_core.specs.Elsewhere.{is_rest}
use Rattle.lb_core.specs.Placed.{is_flight}
use Rattle.lb_core.specs.Course.{turn_kind}
use Rattle.lb_core.specs.Stage.{waits_for_push, waits_for_stop}
use Rattle.lb_core.specs.Rules.{breaks_here}
use Rattle.lb_core.specs.QueueAfter.{queue_by, queue_after}
use Rattle.lb_core.specs.CourseAfter.{course_by, course_after}
use Rattle.lb_ticket.specs.declared.item.Drawn.{Drawn}
use Rattle.lb_ticket.specs.Seats.{NoteIs}
use Rattle.lb_ticket.specs.Tickets.{pair}
use Rattle.lb_journal.specs.Journal.{Journal, Left, Fits, Answers, AnswersUse, CarriesMasks, CarriesFigs, item_sight, sight_in, replay, queue_by_item}
use Rattle.lb_journal.specs.Merge.{is_out_at_rest}
use Rattle.lb_journal.specs.Owners.{published}
use Rattle.lb_board.specs.Board.{add_figure, see, seen_at, Sight as FiguresSeen}
use Rattle.lb_cell.specs.declared.log.Log.{Log}
use Rattle.lb_cell.specs.declared.known.Known.{Known}
use Rattle.lb_cell.specs.LastEntries.{IsLast}
use Rattle.lb_cell.specs.Cells.{CellIs, CellKeeps, LaneIs, LaneKeeps, IsPlain, IsInRange}
use Rattle.lb_cell.specs.Kinds.{is_of_queue, is_out}
use Rattle.lb_cell.proofs.Bounds.{stays_in}
use Rattle.lb_cell.proofs.Resting.{rests_quiet}
use Rattle.lb_cell.proofs.Going.{named_stays, flight_is_out}
use Rattle.lb_cell.specs.Draws.{MayDraw, MayAnswerUse, AnswersUseAt, counted_at, sight_at, queue_left, course_left, item_at}

-- ---- what an entry of a queue carries
carries_masks : (w : What) → is_of_queue w ≡ true → CarriesMasks w []
carries_masks (whats.Did r) e = refl
carries_masks (whats.Out cause to ids) e = refl
carries_masks (whats.Landed ids) e = refl
carries_masks (whats.Turn ps) e = refl
carries_masks whats.Shut e = refl
carries_masks (whats.Close p w i f) e = refl
carries_masks (whats.Ask r) e = refl
carries_masks (whats.Kick r) e = refl
carries_masks whats.Over e = refl
carries_masks (whats.Row n at command) e = refl
carries_masks (whats.Adopt v k c) e = tt
carries_masks (whats.Look p x fs d) e = refl
carries_masks (whats.Scan fs t) e = refl
carries_masks (whats.End u) e = refl
carries_masks (whats.Pub v) e = refl

carries_figs : (w : What) → is_of_queue w ≡ true → CarriesFigs w []
carries_figs (whats.Did r) e = refl
carries_figs (whats.Out cause to ids) e = refl
carries_figs (whats.Landed ids) e = refl
carries_figs (whats.Turn ps) e = refl
carries_figs whats.Shut e = refl
carries_figs (whats.Close p w i f) e = refl
carries_figs (whats.Ask r) e = refl
carries_figs (whats.Kick r) e = refl
carries_figs whats.Over e = refl
carries_figs (whats.Row n at command) e = refl
carries_figs (whats.Adopt v k c) e = refl
carries_figs (whats.Look p x fs d) e = absurd (cc e)
carries_figs (whats.Scan fs t) e = absurd (cc e)
carries_figs (whats.End u) e = refl
carries_figs (whats.Pub v) e = refl

-- ---- a lane at work
out_at_rest : (w : What) (f : Form) → is_rest f ≡ false → is_out_at_rest w f ≡ false
out_at_rest (whats.Out cause to ids) forms.Rest e = absurd (cc e)
out_at_rest (whats.Out cause to ids) forms.Asked e = refl
out_at_rest (whats.Out cause to ids) forms.Flight e = refl
out_at_rest (whats.Out cause to ids) forms.Serving e = refl
out_at_rest (whats.Out cause to ids) forms.Due e = refl
out_at_rest (whats.Out cause to ids) forms.Used e = refl
out_at_rest (whats.Out cause to ids) forms.Position e = refl
out_at_rest (whats.Out cause to ids) forms.Looked e = refl
out_at_rest (whats.Out cause to ids) forms.Landed e = refl
out_at_rest (whats.Out cause to ids) forms.Closed e = refl
out_at_rest (whats.Out cause to ids) forms.Done e = refl
out_at_rest (whats.Out cause to ids) forms.ScanDue e = refl
out_at_rest (whats.Out cause to ids) forms.Kicking e = refl
out_at_rest (whats.Out cause to ids) forms.Ended e = refl
out_at_rest (whats.Did r) f e = refl
out_at_rest (whats.Landed ids) f e = refl
out_at_rest (whats.Turn ps) f e = refl
out_at_rest whats.Shut f e = refl
out_at_rest (whats.Close p w i g) f e = refl
out_at_rest (whats.Ask r) f e = refl
out_at_rest (whats.Kick r) f e = refl
out_at_rest whats.Over f e = refl
out_at_rest (whats.Row n at command) f e = refl
out_at_rest (whats.Adopt v k c) f e = refl
out_at_rest (whats.Look p x fs d) f e = refl
out_at_rest (whats.Scan fs t) f e = refl
out_at_rest (whats.End u) f e = refl
out_at_rest (whats.Pub v) f e = refl

-- a lane that drew nothing is at rest
never_first : (book : TableId) (code : Coded Left) (cpus lane t : ℕ) (course : Course) (note : Option NoteIs)
    → IsLast book code cpus lane course t note → is_rest course.form ≡ false → t ≡ 0 → ⊥
never_first book code cpus lane t course None h work none = cc (work, ap (λ (c : Course). is_rest c.form) h.1)
never_first book code cpus lane t course (Some n) h work none = let p : 0 < t = h.0 in omega (arith, none)

-- ---- the owner's test
sight_is : (h : Header) (book : TableId) (board : List TableId) (c : CellIs) (l : LaneIs) (w : What)
    → CellKeeps h book board c → sight_at h c l ≡ sight_in (map pair c.log.seat.list) (item_at h c l w)
unfolding sight_in
sight_is h book board c l w k =
    let n : length c.log.seat.list ≡ length (map pair c.log.seat.list) = sym (length-map c.log.seat.list pair) in
    (λ i. item_sight (k.replayed i) (n i) (item_at h c l w))

-- what is known of a queue that answers a `use`
answers_at : (h : Header) (book : TableId) (board : List TableId) (c : CellIs) (l : LaneIs) (w : What) → CellKeeps h book board c
    → MayAnswerUse c l → Answers (map pair c.log.seat.list) (item_at h c l w)
unfolding sight_in
answers_at h book board c l w k a = record {
  before = All-map (λ (x : ℕ × Journal). x.0 < l.known.ticket) pair c.log.seat.list a.before;
  push = subst (λ (q : QueueState). waits_for_push (turn_kind l.course) l.course q ≡ false) k.replayed a.push;
  stop = subst (λ (q : QueueState). waits_for_stop (turn_kind l.course) q ≡ false) k.replayed a.stop;
}

answers_use : (h : Header) (book : TableId) (board : List TableId) (c : CellIs) (l : LaneIs) (w : What) → CellKeeps h book board c
    → AnswersUseAt w c l → AnswersUse w (map pair c.log.seat.list) (item_at h c l w)
answers_use h book board c l (whats.Turn ps) k a = answers_at h book board c l (whats.Turn ps) k a
answers_use h book board c l whats.Shut k a = answers_at h book board c l whats.Shut k a
answers_use h book board c l (whats.Did r) k a = tt
answers_use h book board c l (whats.Out cause to list) k a = tt
answers_use h book board c l (whats.Landed list) k a = tt
answers_use h book board c l (whats.Close p w i f) k a = tt
answers_use h book board c l (whats.Ask r) k a = tt
answers_use h book board c l (whats.Kick r) k a = tt
answers_use h book board c l whats.Over k a = tt
answers_use h book board c l (whats.Row n at command) k a = tt
answers_use h book board c l (whats.Adopt v t p) k a = tt
answers_use h book board c l (whats.Look p x fs d) k a = tt
answers_use h book board c l (whats.Scan fs t) k a = tt
answers_use h book board c l (whats.End u) k a = tt
answers_use h book board c l (whats.Pub v) k a = tt

pub fits : (h : Header) (book : TableId) (board : List TableId) (code : Coded Left) (c : CellIs) (l : LaneIs) (w : What)
    → CellKeeps h book board c → LaneKeeps h book board code l → MayDraw h c l w
    → Fits (map pair c.log.seat.list) (item_at h c l w)
fits h book board code c l w k lk may =
    let j : Journal = item_at h c l w in
    let s = sight_is h book board c l w k in
    record {
      header = All-map (λ (x : ℕ × Journal). x.1.header ≡ h) pair c.log.seat.list (λ i d lt. (k.plain i d lt).header);
      declared = rw (lt-ltb l.number h.lanes lk.number) (lt-ltb c.log.writer.cpu (length h.cpus) k.declared);
      allowed = λ rule. subst (λ (x : Sight). breaks_here rule x j.entry ≡ false) s (may.allowed rule);
      after = ap (λ (x : Sight). course_after x j.entry) s;
      first = λ z.
          absurd (never_first book code (length h.cpus) l.number l.known.ticket l.course l.known.note lk.last may.at_work z);
      masks = carries_masks w may.of_queue;
      figs = carries_figs w may.of_queue;
      turn = answers_use h book board c l w k may.answers;
    }

-- the queue's step is the item's
pub step_is : (h : Header) (book : TableId) (board : List TableId) (c : CellIs) (l : LaneIs) (w : What) (q : QueueState)
    → CellKeeps h book board c → q ≡ queue_by w (sight_at h c l) l.number
    → q ≡ queue_by_item (replay h c.log.writer.cpu (map pair c.log.seat.list)) (length c.log.seat.list) (item_at h c l w)
unfolding queue_after
step_is h book board c l w q k e = e ∙ (λ i. queue_by_item (k.replayed i) (length c.log.seat.list) (item_at h c l w))

pub queue_is : (h : Header) (c : CellIs) (l : LaneIs) (w : What) (q : QueueState)
    → q ≡ queue_by w (sight_at h c l) l.number → q ≡ queue_left h c l w
unfolding queue_after
queue_is h c l w q e = e

-- the course, once the entry's number is counted
pub course_is : (h : Header) (c : CellIs) (l : LaneIs) (w : What) (q : QueueState) (cpu n : ℕ) (now new : Course)
    → q ≡ queue_by w (sight_at h c l) l.number → now ≡ course_by w (sight_at h c l) c.log.writer.cpu q
    → cpu ≡ c.log.writer.cpu → n ≡ length c.log.seat.list + 1 → new ≡ counted_at cpu n now → new ≡ course_left h c l w
unfolding course_after
course_is h c l w q cpu n now new e f ec en g =
    let at : QueueState → Course = course_by w (sight_at h c l) c.log.writer.cpu in
    let is : now ≡ at (queue_left h c l w) = f ∙ ap at (queue_is h c l w q e) in
    g ∙ (λ i. counted_at (ec i) (en i) (is i))

-- the lane has a number for the queue
pub named_here : (h : Header) (book : TableId) (board : List TableId) (code : Coded Left) (c : CellIs) (l : LaneIs) (w : What)
    (q : QueueState) (now : Course) → CellKeeps h book board c → LaneKeeps h book board code l → is_of_queue w ≡ true
    → now ≡ course_by w (sight_at h c l) c.log.writer.cpu q → c.log.writer.cpu < length now.named
named_here h book board code c l w q now k lk of_queue is =
    let same : length now.named ≡ length h.cpus =
    ap (λ (x : Course). length x.named) is
    ∙ (ap length (named_stays w (sight_at h c l) c.log.writer.cpu q of_queue) ∙ lk.named) in
    let here : c.log.writer.cpu < length h.cpus = k.declared in
    omega (arith, same, here)

-- the item, from its parts
pub item_is : (h : Header) (c : CellIs) (l : LaneIs) (w : What) (j : Journal) (hv : Header) (cpu number prev : ℕ) (cv av : Course)
    (masks : List Mask) (figs : List CpuFig)
    → j ≡ record {
      header = hv;
      entry = record { owner = Queue cpu; lane = number; prev = prev; what = w };
      course = cv;
      after = av;
      masks = masks;
      figs = figs;
    }
    → hv ≡ h → cpu ≡ c.log.writer.cpu → number ≡ l.number → prev ≡ l.known.ticket → cv ≡ l.course → av ≡ course_left h c l w
    → masks ≡ [] → figs ≡ [] → j ≡ item_at h c l w
item_is h c l w j hv cpu number prev cv av masks figs e eh ec en ep ev ea em ef =
    e ∙ (λ i. record {
      header = eh i;
      entry = record { owner = Queue (ec i); lane = en i; prev = ep i; what = w };
      course = ev i;
      after = ea i;
      masks = em i;
      figs = ef i;
    })

-- ---- what is kept
pub cell_more : (h : Header) (book : TableId) (board : List TableId) (c : CellIs) (l : LaneIs) (w : What) (queue : BookedQueue)
    (log : Log) (room ticket : ℕ) → CellKeeps h book board c → is_of_queue w ≡ true → is_rest l.course.form ≡ false
    → room < c.log.seat.spare → length c.log.seat.list + room + 1 < 1099511627776
    → log.seat.list ≡ c.log.seat.list ++ record { ticket = ticket; item = item_at h c l w } ∷ []
    → (log.seat.table ≡ c.log.seat.table) × (log.seat.number ≡ c.log.seat.number)
    × (c.log.seat.spare ≡ log.seat.spare + 1) × (log.seat.read ≡ c.log.seat.read)
    → log.writer ≡ add_figure c.log.writer (figure queue.state (length c.log.seat.list + 1) ticket)
    → queue.state ≡ replay h c.log.writer.cpu (map pair log.seat.list)
    → log.writer.figures ≡ published h c.log.writer.cpu (map pair log.seat.list)
    → CellKeeps h book board (record { queue = queue; log = log; room = room })
cell_more h book board c l w queue log room ticket k of_queue work free few list s writer replayed figures =
    let cpu : log.writer.cpu ≡ c.log.writer.cpu = ap (λ v. v.cpu) writer in
    let d : Drawn Journal = record { ticket = ticket; item = item_at h c l w } in
    let long : length log.seat.list ≡ length c.log.seat.list + 1 = ap length list ∙ length-append c.log.seat.list (d ∷ []) in
    let left : c.log.seat.spare ≡ log.seat.spare + 1 = s.2 in
    let plain : IsPlain h d = record {
      header = refl;
      figs = refl;
      of_queue = of_queue;
      goes_on = rw (out_at_rest w l.course.form work) refl;
    } in
    record {
      table = s.0 ∙ k.table;
      number = s.1 ∙ (k.number ∙ ap (λ (n : ℕ). 17 + n) (sym cpu));
      declared = subst (λ (n : ℕ). n < length h.cpus) (sym cpu) k.declared;
      of_board = ap (slice_get board) cpu ∙ (k.of_board ∙ ap Some (sym (ap (λ v. v.cell) writer)));
      replayed = replayed ∙ (λ i. replay h (sym cpu i) (map pair log.seat.list));
      figures = figures ∙ (λ i. published h (sym cpu i) (map pair log.seat.list));
      plain = subst (All (IsPlain h)) (sym list) (All-push (IsPlain h) c.log.seat.list d k.plain plain);
      room = omega arith;
      short = omega arith;
    }

pub lane_more : (h : Header) (book : TableId) (board : List TableId) (code : Coded Left) (c : CellIs) (l : LaneIs) (w : What)
    (number : ℕ) (q : QueueState) (now new : Course) (known : Known) (landing : List ℕ) → LaneKeeps h book board code l
    → is_of_queue w ≡ true → c.log.writer.cpu < MAX_CPUS → number ≡ l.number
    → now ≡ course_by w (sight_at h c l) c.log.writer.cpu q
    → new ≡ counted_at c.log.writer.cpu (length c.log.seat.list + 1) now
    → (is_out w ≡ true → landing ≡ ids now.hand)
    → known.reader ≡ see l.known.reader c.log.writer.cpu (seen_at known.reader c.log.writer.cpu)
    → IsLast book code (length h.cpus) l.number new known.ticket known.note → 0 < known.ticket
    → LaneKeeps h book board code (record { number = number; course = new; known = known; seat = l.seat; landing = landing })
lane_more h book board code c l w number q now new known landing k of_queue small is steps counted lands seen last some =
    let s : Sight = sight_at h c l in
    let named : now.named ≡ l.course.named = ap (λ (x : Course). x.named) steps ∙ named_stays w s c.log.writer.cpu q of_queue in
    let form : new.form ≡ (course_by w s c.log.writer.cpu q).form =
    ap (λ (x : Course). x.form) counted ∙ ap (λ (x : Course). x.form) steps in
    let hand : new.hand ≡ now.hand = ap (λ (x : Course). x.hand) counted in
    record {
      number = subst (λ (n : ℕ). n < h.lanes) (sym is) k.number;
      table = k.table;
      owner = k.owner ∙ ap (λ (n : ℕ). n + 1) (sym is);
      cells = ap (λ (x : FiguresSeen). x.cells) seen ∙ k.cells;
      last = subst (λ (n : ℕ). IsLast book code (length h.cpus) n new known.ticket known.note) (sym is) last;
      first = λ z. absurd (omega (arith, z, some));
      named =
          ap (λ (x : Course). length x.named) counted
          ∙ (length-set now.named c.log.writer.cpu (length c.log.seat.list + 1) ∙ (ap length named ∙ k.named));
      headers = k.headers;
      range =
          let r : IsInRange now = subst IsInRange (sym steps) (stays_in w s c.log.writer.cpu q of_queue small k.range) in
          subst IsInRange (sym counted) (record { cpu = r.cpu; position = r.position; source = r.source });
      quiet = λ rest.
          let still = rests_quiet w s c.log.writer.cpu q k.quiet (sym form ∙ rest) in (
            ap (λ (x : Course). x.command) counted ∙ (ap (λ (x : Course). x.command) steps ∙ still.0),
            ap (λ (x : Course). x.decision) counted ∙ (ap (λ (x : Course). x.decision) steps ∙ still.1),
          );
      landing = λ flies.
          lands (flight_is_out w s c.log.writer.cpu q of_queue (ap is_flight (sym form) ∙ flies)) ∙ ap ids (sym hand);
    }
