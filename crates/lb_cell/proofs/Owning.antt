-- An entry of a lane's own list fits it, and what the lane keeps stays.
-- For `Lane::draw` and `enter_own`.
use Rattle.std.proofs.Common.{ℕ, ◌≡◌, ◌+◌, ◌<◌, true, false, List, [], ◌∷◌, ◌++◌, Option, Some, None, length, map, set, refl, sym, subst, ap, ◌∙◌, arith, All}
use Rattle.std.proofs.lemmas.List.{length-set}
use Rattle.std.proofs.lemmas.List.Elements.{All-map, All-push}
use Rattle.std.proofs.lemmas.Bool.{lt-ltb}
use base.Stored.{Coded}
use Rattle.atomic_table.specs.Seated.{TableId}
use Rattle.lb_base.specs.declared.mask.Mask.{Mask}
use Rattle.lb_trace.specs.declared.trace.Command.{Command}
use Rattle.lb_trace.specs.declared.trace.Header.{Header}
use Rattle.lb_core.specs.declared.course.Course.{Course}
use Rattle.lb_core.specs.declared.entry.CpuFig.{CpuFig}
use Rattle.lb_core.specs.declared.entry.FigName.{FigName}
use Rattle.lb_core.specs.declared.entry.Owner.TheVariants.{Lane}
use Rattle.lb_core.specs.declared.entry.What.{What}
use Rattle.lb_core.specs.declared.entry.What.TheVariants as whats
use Rattle.lb_core.specs.Sight.{Sight}
use Rattle.lb_core.specs.Placed.{is_flight}
use Rattle.lb_core.specs.Rules.{breaks_here}
use Rattle.lb_core.specs.CourseAfter.{course_by, course_after, raised_numbers, scanned}
use Rattle.lb_core.specs.Machine.{no_queue}
use Rattle.lb_core.specs.Course.{opening_course}
use Rattle.lb_ticket.specs.declared.item.Drawn.{Drawn}
use Rattle.lb_ticket.specs.Seats.{NoteIs, SeatIs}
use Rattle.lb_ticket.specs.Tickets.{pair}
use Rattle.lb_journal.specs.Journal.{Journal, Left, Fits, Begins, AnswersUse, is_nil, sight_in}
use Rattle.lb_cell.specs.declared.known.Known.{Known}
use Rattle.lb_cell.specs.LastEntries.{IsLast, DrewOne}
use Rattle.lb_cell.specs.Kinds.{is_of_lane}
use Rattle.lb_cell.specs.Cells.{LaneIs, LaneKeeps, IsInRange, IsQuiet}
use Rattle.lb_cell.specs.Own.{MayDrawOwn, MayFollow, OwnAsks, sight_from, sight_own, own_left, item_own}
use Rattle.lb_cell.proofs.Resting.{rests_quiet}

-- ---- the owner's test
sight_is : (h : Header) (l : LaneIs) (w : What) (masks : List Mask) (figs : List CpuFig)
    → sight_own h l masks figs ≡ sight_in (map pair l.seat.list) (item_own h l w masks figs)
unfolding sight_in
sight_is h l w masks figs = refl

no_use : (w : What) (ds : List (ℕ × Journal)) (j : Journal) → is_of_lane w ≡ true → AnswersUse w ds j
no_use (whats.Row n at command) ds j e = tt
no_use (whats.Adopt v k c) ds j e = tt
no_use (whats.Look p x fs d) ds j e = tt
no_use (whats.Scan fs t) ds j e = tt
no_use (whats.End u) ds j e = absurd (cc e)
no_use (whats.Did r) ds j e = absurd (cc e)
no_use (whats.Out cause to list) ds j e = absurd (cc e)
no_use (whats.Landed list) ds j e = absurd (cc e)
no_use (whats.Turn ps) ds j e = absurd (cc e)
no_use whats.Shut ds j e = absurd (cc e)
no_use (whats.Close p w i f) ds j e = absurd (cc e)
no_use (whats.Ask r) ds j e = absurd (cc e)
no_use (whats.Kick r) ds j e = absurd (cc e)
no_use whats.Over ds j e = absurd (cc e)
no_use (whats.Pub v) ds j e = absurd (cc e)

opens_by : (table : TableId) (code : Coded Left) (cpus lane t : ℕ) (course : Course) (note : Option NoteIs)
    → IsLast table code cpus lane course t note → t ≡ 0 → course ≡ opening_course cpus
opens_by table code cpus lane t course None last z = last.1
opens_by table code cpus lane t course (Some n) last z = absurd (let p : 0 < t = last.0 in omega (arith, z))

begins : (h : Header) (book : TableId) (board : List TableId) (code : Coded Left) (l : LaneIs) (w : What) (masks : List Mask)
    (figs : List CpuFig) → LaneKeeps h book board code l → l.known.ticket ≡ 0
    → Begins (map pair l.seat.list) (item_own h l w masks figs)
begins h book board code l w masks figs k z = record {
  course = opens_by book code (length h.cpus) l.number l.known.ticket l.course l.known.note k.last z;
  allowed = ap (λ (ds : List (Drawn Journal)). is_nil (map pair ds)) (k.first z);
}

pub fits_own : (h : Header) (book : TableId) (board : List TableId) (code : Coded Left) (l : LaneIs) (w : What)
    (masks : List Mask) (figs : List CpuFig) → LaneKeeps h book board code l → MayDrawOwn h l w masks figs
    → Fits (map pair l.seat.list) (item_own h l w masks figs)
fits_own h book board code l w masks figs k may =
    let j : Journal = item_own h l w masks figs in
    let s = sight_is h l w masks figs in
    record {
      header = All-map (λ (x : ℕ × Journal). x.1.header ≡ h) pair l.seat.list k.headers;
      declared = rw (lt-ltb l.number h.lanes k.number) refl;
      allowed = λ rule. subst (λ (x : Sight). breaks_here rule x j.entry ≡ false) s (may.allowed rule);
      after = ap (λ (x : Sight). course_after x j.entry) s;
      first = begins h book board code l w masks figs k;
      masks = may.carries_masks;
      figs = may.carries_figs;
      turn = no_use w (map pair l.seat.list) j may.of_lane;
    }

pub item_own_is : (h : Header) (l : LaneIs) (w : What) (j : Journal) (hv : Header) (number prev : ℕ) (cv av : Course)
    (masks : List Mask) (figs : List CpuFig)
    → j ≡ record {
      header = hv;
      entry = record { owner = Lane number; lane = number; prev = prev; what = w };
      course = cv;
      after = av;
      masks = masks;
      figs = figs;
    }
    → hv ≡ h → number ≡ l.number → prev ≡ l.known.ticket → cv ≡ l.course → av ≡ own_left h l w masks figs
    → j ≡ item_own h l w masks figs
item_own_is h l w j hv number prev cv av masks figs e eh en ep ev ea =
    e ∙ (λ i. record {
      header = eh i;
      entry = record { owner = Lane (en i); lane = en i; prev = ep i; what = w };
      course = ev i;
      after = ea i;
      masks = masks;
      figs = figs;
    })

-- ---- what is kept
pub lane_own : (h : Header) (book : TableId) (board : List TableId) (code : Coded Left) (l : LaneIs) (w : What)
    (masks : List Mask) (figs : List CpuFig) (number : ℕ) (course : Course) (known : Known) (seat : SeatIs Journal) (ticket : ℕ)
    → LaneKeeps h book board code l → number ≡ l.number → MayFollow h course → DrewOne l.seat seat
    → seat.list ≡ l.seat.list ++ record { ticket = ticket; item = item_own h l w masks figs } ∷ []
    → known.reader ≡ l.known.reader → known.ticket ≡ ticket → 0 < ticket
    → IsLast book code (length h.cpus) l.number course ticket known.note
    → LaneKeeps h book board code (record { number = number; course = course; known = known; seat = seat; landing = l.landing })
lane_own h book board code l w masks figs number course known seat ticket k is next one list reader held some last =
    let d : Drawn Journal = record { ticket = ticket; item = item_own h l w masks figs } in
    record {
      number = subst (λ (n : ℕ). n < h.lanes) (sym is) k.number;
      table = one.0 ∙ k.table;
      owner = one.1 ∙ (k.owner ∙ ap (λ (n : ℕ). n + 1) (sym is));
      cells = ap (λ x. x.cells) reader ∙ k.cells;
      last = subst (λ (t : Type 0). t) (λ i. IsLast book code (length h.cpus) (sym is i) course (sym held i) known.note) last;
      headers =
          subst (All (λ (e : Drawn Journal). e.item.header ≡ h)) (sym list)
          (All-push (λ (e : Drawn Journal). e.item.header ≡ h) l.seat.list d k.headers refl);
      first = λ z. absurd (omega (arith, z, held, some));
      named = next.named;
      range = next.range;
      quiet = next.quiet;
      landing = λ flies. absurd (let no = next.empty_handed in cc (no, flies));
    }

-- ---- the course
pub own_course : (h : Header) (l : LaneIs) (w : What) (own : Option Command) (masks : List Mask) (figs : List CpuFig)
    → OwnAsks w l.course own → course_by w (sight_own h l masks figs) 0 no_queue ≡ own_left h l w masks figs
unfolding course_after
own_course h l (whats.Row n at command) own masks figs e = refl
own_course h l (whats.Adopt v k c) own masks figs e = refl
own_course h l (whats.Look p x fs d) own masks figs e = refl
own_course h l (whats.Scan fs t) own masks figs e = refl
own_course h l (whats.Did r) own masks figs e = absurd e
own_course h l (whats.Out cause to tasks) own masks figs e = absurd e
own_course h l (whats.Landed tasks) own masks figs e = absurd e
own_course h l (whats.Turn ps) own masks figs e = absurd e
own_course h l whats.Shut own masks figs e = absurd e
own_course h l (whats.Close p w i f) own masks figs e = absurd e
own_course h l (whats.Ask r) own masks figs e = absurd e
own_course h l (whats.Kick r) own masks figs e = absurd e
own_course h l whats.Over own masks figs e = absurd e
own_course h l (whats.End u) own masks figs e = absurd e
own_course h l (whats.Pub v) own masks figs e = absurd e

raised_length : (fs : List FigName) (ns : List ℕ) → length (raised_numbers fs ns) ≡ length ns
raised_length [] ns = refl
raised_length (f ∷ fs) ns = raised_length fs (set ns f.cpu f.n) ∙ length-set ns f.cpu f.n

-- it has as many numbers as before, and is not in flight
abbrev GoesOn : Course → Course → Type 0
GoesOn c c' = (length c'.named ≡ length c.named) × (is_flight c'.form ≡ false)

scan_goes : (t : Option ℕ) (figs : List CpuFig) (fs : List FigName) (c : Course)
    → GoesOn c (scanned t (record c { figures = figs; named = raised_numbers fs c.named }))
scan_goes None figs fs c = (raised_length fs c.named, refl)
scan_goes (Some t) figs fs c = (raised_length fs c.named, refl)

own_goes : (h : Header) (c : Course) (w : What) (own : Option Command) (masks : List Mask) (figs : List CpuFig)
    → OwnAsks w c own → GoesOn c (course_by w (sight_from h c masks figs) 0 no_queue)
own_goes h c (whats.Row n at command) own masks figs e = (refl, refl)
own_goes h c (whats.Adopt v k cpu) own masks figs e = (refl, refl)
own_goes h c (whats.Look p x fs d) own masks figs e = (raised_length fs c.named, refl)
own_goes h c (whats.Scan fs t) own masks figs e = scan_goes t figs fs c
own_goes h c (whats.Did r) own masks figs e = absurd e
own_goes h c (whats.Out cause to tasks) own masks figs e = absurd e
own_goes h c (whats.Landed tasks) own masks figs e = absurd e
own_goes h c (whats.Turn ps) own masks figs e = absurd e
own_goes h c whats.Shut own masks figs e = absurd e
own_goes h c (whats.Close p w i f) own masks figs e = absurd e
own_goes h c (whats.Ask r) own masks figs e = absurd e
own_goes h c (whats.Kick r) own masks figs e = absurd e
own_goes h c whats.Over own masks figs e = absurd e
own_goes h c (whats.End u) own masks figs e = absurd e
own_goes h c (whats.Pub v) own masks figs e = absurd e

pub may_follow : (h : Header) (book : TableId) (board : List TableId) (code : Coded Left) (l : LaneIs) (w : What)
    (own : Option Command) (masks : List Mask) (figs : List CpuFig) (new : Course) → LaneKeeps h book board code l
    → OwnAsks w l.course own → IsInRange (own_left h l w masks figs)
    → new ≡ course_by w (sight_own h l masks figs) 0 no_queue → MayFollow h new
may_follow h book board code l w own masks figs new k asks range steps =
    let goes : GoesOn l.course new = subst (GoesOn l.course) (sym steps) (own_goes h l.course w own masks figs asks) in
    record {
      named = goes.0 ∙ k.named;
      range = subst IsInRange (sym (steps ∙ own_course h l w own masks figs asks)) range;
      empty_handed = goes.1;
      quiet = subst IsQuiet (sym steps) (rests_quiet w (sight_own h l masks figs) 0 no_queue k.quiet);
    }
