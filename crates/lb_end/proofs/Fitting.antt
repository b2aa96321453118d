-- The entries that close a history fit the lists of their owners: the `out` and the `in` of a stop request, and the end.
-- For `draw_end`, `draw_out` and `draw_in`.
use Rattle.std.proofs.Common.{ℕ, ◌≡◌, ◌+◌, ◌<◌, ◌&&◌, true, false, not, Option, Some, None, List, [], ◌∷◌, length, map, refl, sym, subst, ap, ◌∙◌, arith, All}
use Rattle.std.proofs.lemmas.Bool.{lt-ltb}
use Rattle.std.proofs.lemmas.List.{length-map}
use Rattle.std.proofs.lemmas.List.Elements.{All-map}
use base.Stored.{Coded}
use Rattle.atomic_table.specs.Seated.{TableId}
use Rattle.lb_base.specs.declared.mask.Mask.{Mask}
use Rattle.lb_queue.specs.declared.answers.OutCause.TheVariants as causes
use Rattle.lb_queue.specs.declared.answers.Stop.{Stop}
use Rattle.lb_queue.specs.declared.record.TaskRecord.{TaskRecord}
use Rattle.lb_queue.specs.Queue.{QueueState}
use Rattle.lb_queue.specs.Requests.{next_stop}
use Rattle.lb_queue.specs.Hands.{land, take_stop}
use Rattle.lb_queue.specs.Tasks.{ids}
use Rattle.lb_trace.specs.declared.trace.Header.{Header}
use Rattle.lb_core.specs.declared.course.Course.{Course}
use Rattle.lb_core.specs.declared.course.Form.{Form}
use Rattle.lb_core.specs.declared.course.Form.TheVariants as forms
use Rattle.lb_core.specs.declared.entry.Owner.{Owner}
use Rattle.lb_core.specs.declared.entry.Owner.TheVariants as owners
use Rattle.lb_core.specs.declared.entry.What.{What}
use Rattle.lb_core.specs.declared.entry.What.TheVariants as whats
use Rattle.lb_core.specs.declared.rule.Rule.{Rule}
use Rattle.lb_core.specs.declared.rule.Rule.TheVariants as rules
use Rattle.lb_core.specs.Same.{same_numbers}
use Rattle.lb_core.specs.Sight.{Sight}
use Rattle.lb_core.specs.Course.{opening_course}
use Rattle.lb_core.specs.Stage.{draws, is_owner, queue_due, stage_allows}
use Rattle.lb_core.specs.Leaving.{Leaving, leaving, leaving_by, out_by, stop_out}
use Rattle.lb_core.specs.Rules.{breaks_here, is_other_out}
use Rattle.lb_core.specs.QueueAfter.{cause_of, queue_after, rest_of}
use Rattle.lb_core.specs.Machine.{no_queue}
use Rattle.lb_core.specs.CourseAfter.{course_after, lands, takes_off}
use Rattle.lb_core.proofs.Equality.{equal_itself, cause_itself, numbers_itself}
use Rattle.lb_ticket.specs.declared.item.Drawn.{Drawn}
use Rattle.lb_ticket.specs.Seats.{NoteIs}
use Rattle.lb_ticket.specs.Tickets.{pair}
use Rattle.lb_journal.specs.Journal.{AnswersUse, Begins, CarriesFigs, CarriesMasks, Fits, Journal, Left, is_nil, item_sight, queue_by_item, replay, sight_in}
use Rattle.lb_cell.specs.LastEntries.{IsLast}
use Rattle.lb_cell.specs.Draws.{counted_at}
use Rattle.lb_end.specs.Drawing.{item_of}

-- ---- in general
-- the quoted course of an entry without a quote is the opening one
pub opens : (table : TableId) (code : Coded Left) (cpus : ℕ) (c : Course) (t : ℕ) (note : Option NoteIs)
    → IsLast table code cpus 0 c t note → t ≡ 0 → c ≡ opening_course cpus
opens table code cpus c t None h z = h.1
opens table code cpus c t (Some n) h z = absurd (let p = h.0 in omega (arith, z, p))

-- what the step of a queue's entry reads
module _ (h : Header) (cpu : ℕ) (list : List (Drawn Journal)) (q : QueueState) (is : q ≡ replay h cpu (map pair list)) where
  abbrev sight : Course → Sight
  sight c = record { header = h; course = c; queue = q; count = length list; masks = []; figs = [] }

  sight_is : (c c' : Course) (t : ℕ) (w : What)
      → sight c ≡ sight_in (map pair list) (item_of h (owners.Queue cpu) c c' t w)
  unfolding sight_in
  sight_is c c' t w = (λ i. item_sight (is i) (sym (length-map list pair) i) (item_of h (owners.Queue cpu) c c' t w))

  pub fits_at : (lanes : 0 < h.lanes) (here : cpu < length h.cpus) (c c' : Course) (t : ℕ) (w : What)
      → All (λ d. d.item.header ≡ h) list
      → ((rule : Rule) → breaks_here rule (sight c) (item_of h (owners.Queue cpu) c c' t w).entry ≡ false)
      → c' ≡ course_after (sight c) (item_of h (owners.Queue cpu) c c' t w).entry
      → (t ≡ 0 → Begins (map pair list) (item_of h (owners.Queue cpu) c c' t w))
      → CarriesMasks w [] → CarriesFigs w []
      → AnswersUse w (map pair list) (item_of h (owners.Queue cpu) c c' t w)
      → Fits (map pair list) (item_of h (owners.Queue cpu) c c' t w)
  fits_at lanes here c c' t w headers allowed after first masks figs turn =
      let j : Journal = item_of h (owners.Queue cpu) c c' t w in
      record {
        header = All-map (λ (x : ℕ × Journal). x.1.header ≡ h) pair list headers;
        declared = rw (lt-ltb 0 h.lanes lanes) (lt-ltb cpu (length h.cpus) here);
        allowed = λ rule. subst (λ (s : Sight). breaks_here rule s j.entry ≡ false) (sight_is c c' t w) (allowed rule);
        after = after ∙ ap (λ (s : Sight). course_after s j.entry) (sight_is c c' t w);
        first = first;
        masks = masks;
        figs = figs;
        turn = turn;
      }

  -- ---- the `out` of a stop request
  module _ (c : Course) (rest : c.form ≡ forms.Rest) (stop : Stop) (next : next_stop q false ≡ Some stop) where
    abbrev moved : List TaskRecord × QueueState
    moved = take_stop q c.at stop.id

    pub out_due : leaving (sight c) ≡ leaving_by causes.Stop stop.to None moved
    unfolding leaving
    out_due =
        ap (λ (f : Form). out_by f h c q) rest ∙ ap (λ (o : Option Stop). stop_out o c.at q) next

    out_stage : (t to : ℕ) (c' : Course) (tasks : List ℕ)
        → stage_allows (sight c) (item_of h (owners.Queue cpu) c c' t (whats.Out causes.Stop to tasks)).entry ≡ true
    unfolding stage_allows draws
    out_stage t to c' tasks =
        subst
        (λ (f : Form).
        (is_owner (whats.Out causes.Stop to tasks) 0 (queue_due f c) (owners.Queue cpu)
        && draws f h c q 0 (whats.Out causes.Stop to tasks)) ≡ true)
        (sym rest) refl

    out_allowed : (t to : ℕ) (c' : Course) (tasks : List ℕ) → to ≡ stop.to → tasks ≡ ids moved.0 → (rule : Rule)
        → breaks_here rule (sight c) (item_of h (owners.Queue cpu) c c' t (whats.Out causes.Stop to tasks)).entry ≡ false
    out_allowed t to c' tasks et ek rules.Stage = ap not (out_stage t to c' tasks)
    out_allowed t to c' tasks et ek rules.Pick =
        subst (λ (o : Option Leaving). is_other_out o causes.Stop to tasks ≡ false) (sym out_due)
        (rw et (rw ek (rw (equal_itself stop.to) (rw (numbers_itself (ids moved.0)) refl))))
    out_allowed t to c' tasks et ek rules.Reply = refl
    out_allowed t to c' tasks et ek rules.Ticket = refl
    out_allowed t to c' tasks et ek rules.Prev = refl
    out_allowed t to c' tasks et ek rules.Row = refl
    out_allowed t to c' tasks et ek rules.Place = refl
    out_allowed t to c' tasks et ek rules.Version = refl
    out_allowed t to c' tasks et ek rules.Figure = refl
    out_allowed t to c' tasks et ek rules.Decision = refl
    out_allowed t to c' tasks et ek rules.Flight = refl
    out_allowed t to c' tasks et ek rules.Counters = refl
    out_allowed t to c' tasks et ek rules.Owed = refl
    out_allowed t to c' tasks et ek rules.End = refl

    pub fits_out : (table : TableId) (code : Coded Left) (note : Option NoteIs) (t to : ℕ) (c' : Course) (tasks : List ℕ)
        → 0 < h.lanes → cpu < length h.cpus → All (λ d. d.item.header ≡ h) list
        → IsLast table code (length h.cpus) 0 c t note → to ≡ stop.to → tasks ≡ ids moved.0
        → c' ≡ counted_at cpu (length list + 1) (takes_off (leaving_by causes.Stop stop.to None moved) c)
        → Fits (map pair list) (item_of h (owners.Queue cpu) c c' t (whats.Out causes.Stop to tasks))
    unfolding course_after
    fits_out table code note t to c' tasks lanes here headers last et ek after =
        fits_at lanes here c c' t (whats.Out causes.Stop to tasks) headers (out_allowed t to c' tasks et ek)
        (after ∙ ap (λ (o : Option Leaving). counted_at cpu (length list + 1) (takes_off o c)) (sym out_due))
        (λ z. record { course = opens table code (length h.cpus) c t note last z; allowed = refl }) refl refl tt

    pub out_step : (t to : ℕ) (c' : Course) (tasks : List ℕ)
        → moved.1 ≡ queue_by_item q (length list) (item_of h (owners.Queue cpu) c c' t (whats.Out causes.Stop to tasks))
    unfolding queue_after
    out_step t to c' tasks =
        ap (λ (o : Option Leaving). rest_of o q) (sym out_due)

  -- ---- its `in`
  module _ (c : Course) (flies : c.form ≡ forms.Flight) (to : c.to ≡ cpu) where
    in_stage : (t : ℕ) (c' : Course) (tasks : List ℕ)
        → stage_allows (sight c) (item_of h (owners.Queue cpu) c c' t (whats.Landed tasks)).entry ≡ true
    unfolding stage_allows draws
    in_stage t c' tasks =
        subst
        (λ (f : Form).
        (is_owner (whats.Landed tasks) 0 (queue_due f c) (owners.Queue cpu) && draws f h c q 0 (whats.Landed tasks)) ≡ true)
        (sym flies) (rw to (rw (equal_itself cpu) refl))

    in_allowed : (t : ℕ) (c' : Course) (tasks : List ℕ) → tasks ≡ ids c.hand → (rule : Rule)
        → breaks_here rule (sight c) (item_of h (owners.Queue cpu) c c' t (whats.Landed tasks)).entry ≡ false
    in_allowed t c' tasks ek rules.Stage = ap not (in_stage t c' tasks)
    in_allowed t c' tasks ek rules.Flight =
        subst (λ (ns : List ℕ). not (same_numbers ns (ids c.hand)) ≡ false) (sym ek) (rw (numbers_itself (ids c.hand)) refl)
    in_allowed t c' tasks ek rules.Pick = refl
    in_allowed t c' tasks ek rules.Reply = refl
    in_allowed t c' tasks ek rules.Ticket = refl
    in_allowed t c' tasks ek rules.Prev = refl
    in_allowed t c' tasks ek rules.Row = refl
    in_allowed t c' tasks ek rules.Place = refl
    in_allowed t c' tasks ek rules.Version = refl
    in_allowed t c' tasks ek rules.Figure = refl
    in_allowed t c' tasks ek rules.Decision = refl
    in_allowed t c' tasks ek rules.Counters = refl
    in_allowed t c' tasks ek rules.Owed = refl
    in_allowed t c' tasks ek rules.End = refl

    pub fits_in : (table : TableId) (code : Coded Left) (note : Option NoteIs) (t : ℕ) (c' : Course) (tasks : List ℕ)
        → 0 < h.lanes → cpu < length h.cpus → All (λ d. d.item.header ≡ h) list
        → IsLast table code (length h.cpus) 0 c t note → tasks ≡ ids c.hand
        → c' ≡ counted_at cpu (length list + 1) (lands (cause_of c) c)
        → Fits (map pair list) (item_of h (owners.Queue cpu) c c' t (whats.Landed tasks))
    unfolding course_after
    fits_in table code note t c' tasks lanes here headers last ek after =
        fits_at lanes here c c' t (whats.Landed tasks) headers (in_allowed t c' tasks ek) after
        (λ z. absurd (cc (flies, ap (λ (x : Course). x.form) (opens table code (length h.cpus) c t note last z)))) refl refl tt

    pub in_step : (t : ℕ) (c' : Course) (tasks : List ℕ)
        → land q c.at (cause_of c) c.moment c.hand
        ≡ queue_by_item q (length list) (item_of h (owners.Queue cpu) c c' t (whats.Landed tasks))
    unfolding queue_after
    in_step t c' tasks = refl

-- ---- the end
abbrev own_sight : Header → Course → Sight
own_sight h c = record { header = h; course = c; queue = no_queue; count = 0; masks = []; figs = [] }

end_stage : (h : Header) (c c' : Course) (t : ℕ) (unserved : Mask) → c.form ≡ forms.Rest
    → stage_allows (own_sight h c) (item_of h (owners.Lane 0) c c' t (whats.End unserved)).entry ≡ true
unfolding stage_allows draws
end_stage h c c' t unserved rest =
    subst
    (λ (f : Form).
    (is_owner (whats.End unserved) 0 (queue_due f c) (owners.Lane 0)
    && draws f h c no_queue 0 (whats.End unserved)) ≡ true)
    (sym rest) refl

end_allowed : (h : Header) (c c' : Course) (t : ℕ) (unserved : Mask) → c.form ≡ forms.Rest → (rule : Rule)
    → breaks_here rule (own_sight h c) (item_of h (owners.Lane 0) c c' t (whats.End unserved)).entry ≡ false
end_allowed h c c' t unserved rest rules.Stage = ap not (end_stage h c c' t unserved rest)
end_allowed h c c' t unserved rest rules.Flight = refl
end_allowed h c c' t unserved rest rules.Pick = refl
end_allowed h c c' t unserved rest rules.Reply = refl
end_allowed h c c' t unserved rest rules.Ticket = refl
end_allowed h c c' t unserved rest rules.Prev = refl
end_allowed h c c' t unserved rest rules.Row = refl
end_allowed h c c' t unserved rest rules.Place = refl
end_allowed h c c' t unserved rest rules.Version = refl
end_allowed h c c' t unserved rest rules.Figure = refl
end_allowed h c c' t unserved rest rules.Decision = refl
end_allowed h c c' t unserved rest rules.Counters = refl
end_allowed h c c' t unserved rest rules.Owed = refl
end_allowed h c c' t unserved rest rules.End = refl

pub fits_end : (h : Header) (list : List (Drawn Journal)) (table : TableId) (code : Coded Left) (note : Option NoteIs)
    (c c' : Course) (t : ℕ) (unserved : Mask) → 0 < h.lanes → All (λ d. d.item.header ≡ h) list → c.form ≡ forms.Rest
    → IsLast table code (length h.cpus) 0 c t note → (t ≡ 0 → list ≡ []) → c' ≡ record c { form = forms.Ended }
    → Fits (map pair list) (item_of h (owners.Lane 0) c c' t (whats.End unserved))
unfolding sight_in course_after
fits_end h list table code note c c' t unserved lanes headers rest last first after = record {
  header = All-map (λ (x : ℕ × Journal). x.1.header ≡ h) pair list headers;
  declared = rw (lt-ltb 0 h.lanes lanes) refl;
  allowed = λ rule. end_allowed h c c' t unserved rest rule;
  after = after;
  first = λ z. record {
    course = opens table code (length h.cpus) c t note last z;
    allowed = ap (λ (l : List (Drawn Journal)). is_nil (map pair l)) (first z);
  };
  masks = refl;
  figs = refl;
  turn = tt;
}
