-- The machine after a front of the log agrees with the lists of the owners so far: each queue is the
-- replay of its list, each course is what the lane's last entry left. So the step of the next item
-- reads the same from the machine as from its owner's list.
-- For the lemmas of `Merging`, `Resting` and other files, and so for the laws `merge_is_run`, `uses_stay` and others.
use Rattle.std.proofs.Common.{◌≡◌, ℕ, zero, suc, ◌+◌, ◌-◌, ◌<◌, ◌≤◌, Bool, true, false, eqb, ltb, leb, not, Option, Some, None, List, [], ◌∷◌, ◌++◌, length, get_or, map, replicate, refl, sym, ◌∙◌, ap, subst, arith, inl, inr, ne_eqb, All}
use Rattle.std.specs.List.{range_with_len, list_any}
use Rattle.std.proofs.lemmas.Bool.{cases_lt, and_parts, or_parts, ltb-true, leb-true, not-false}
use Rattle.std.proofs.lemmas.List.{length-replicate, get_or-replicate, get_or_past}
use Rattle.std.proofs.lemmas.List.FromFn.{get_or-map-range_with_len, length-map-range_with_len}
use Rattle.lb_base.specs.declared.mask.Mask.{Mask}
use Rattle.lb_base.specs.declared.figure.Fig.{Fig}
use Rattle.lb_base.specs.Figures.{no_fig}
use Rattle.lb_queue.specs.Figures.{figure}
use Rattle.lb_trace.specs.declared.trace.Header.{Header}
use Rattle.lb_core.specs.declared.course.Course.{Course}
use Rattle.lb_core.specs.declared.course.Form.TheVariants.{Ended}
use Rattle.lb_core.specs.declared.entry.FigName.{FigName}
use Rattle.lb_core.specs.declared.entry.Owner.{Owner}
use Rattle.lb_core.specs.declared.entry.Owner.TheVariants.{Publisher, Lane, Queue}
use Rattle.lb_core.specs.declared.entry.What.{What}
use Rattle.lb_core.specs.declared.entry.What.TheVariants.{Adopt, Look, Scan}
use Rattle.lb_core.specs.Course.{opening_course}
use Rattle.lb_core.proofs.Headers.{homes_declared}
use Rattle.lb_trace.specs.declared.trace.TaskRow.{TaskRow}
use Rattle.lb_trace.specs.Accepted.{IsHeader}
use Rattle.lb_core.specs.Machine.{tasks_at, MachineState, queue_at, course_at, figures_at, opening_queue, start, no_queue, no_course, owned_queue, owned_count, masks_for, figures_named, figs_for, sight}
use Rattle.lb_journal.specs.Journal.{Journal, number_of, sight_in, owned_replay, counted, CarriesMasks, CarriesFigs, is_declared_owner, meaning_of_journal}
use Rattle.lb_ticket.proofs.Logs.{owned_from, at_below}
use Rattle.lb_journal.specs.Merge.{closing_out, is_end, ticked_by, figure_after, versions_of}
use Rattle.lb_journal.proofs.Chain.{IsLast, last_start, quotes_last}
use Rattle.lb_journal.proofs.Good.{items_of, queue_items, At, Good, queue_in, figures_in, CarriesIn, VersionIn}
use Rattle.lb_journal.proofs.Lanes.{item, lane_at, quote_at, item_is, quotes, quoted_at, at_log, at_whole, split_at, lane_owner}
use Rattle.lb_journal.proofs.Items.{queue_number, items_front, later_items, figure_front, versions_length, versions_front}

-- the course that the entry with a ticket left; the opening course at 0
abbrev pub left_at : Header → List Journal → Journal → ℕ → Course
left_at h log d zero = opening_course (length h.cpus)
left_at h log d (suc k) = (item log d (suc k)).after

-- an item among these with a property
pub record Some-at (pre : List Journal) (p : Journal → Bool) : Type 0 where
  pub place : ℕ
  pub item : Journal
  pub there : At pre place item
  pub has : p item ≡ true

-- a tick row of the lane among these
pub record TickedBy (pre : List Journal) (cpu lane : ℕ) : Type 0 where
  pub place : ℕ
  pub item : Journal
  pub there : At pre place item
  pub cpu_is : ticked_by item.entry.what ≡ Some cpu
  pub lane_is : item.entry.lane ≡ lane

pub record Agrees (h : Header) (log : List Journal) (d : Journal) (pre : List Journal) (m : MachineState) : Type 0 where
  pub header : m.header ≡ h
  pub ticket : m.ticket ≡ length pre
  pub cpus : length m.queues ≡ length h.cpus
  pub figs : length m.figures ≡ length h.cpus
  pub lanes : length m.courses ≡ h.lanes
  pub lasts : length m.last ≡ h.lanes
  pub ticks : length m.ticked ≡ length h.cpus
  pub queue : (cpu : ℕ) → cpu < length h.cpus → queue_at m.queues cpu ≡ queue_in h pre cpu
  pub many : (cpu : ℕ) → cpu < length h.cpus → length (figures_at m.figures cpu) ≡ 1 + length (queue_items cpu pre)
  pub figure : (cpu n : ℕ) → cpu < length h.cpus → n ≤ length (queue_items cpu pre) →
      get_or (figures_at m.figures cpu) n no_fig ≡ figure_after h cpu (queue_items cpu pre) n
  pub versions : m.versions ≡ versions_of h (items_of 0 pre)
  pub last : (l : ℕ) → l < h.lanes → IsLast (lane_at log d) (quote_at log d) l (length pre) (get_or m.last l 0)
  pub course : (l : ℕ) → l < h.lanes → course_at m.courses l ≡ left_at h log d (get_or m.last l 0)
  pub ticked : (cpu l : ℕ) → get_or m.ticked cpu None ≡ Some l → TickedBy pre cpu l
  pub closing : m.closing ≡ true → Some-at pre closing_out
  pub over : m.ended ≡ true → ((course_at m.courses 0).form ≡ Ended) × Some-at pre (λ j. is_end j.entry.what)

none_some : {A : Type 0} {x : A} → None ≡ Some x → ⊥
none_some e = let q : ⊥ = cc in q

no_tick : (n cpu l : ℕ) → get_or (replicate {A = Option ℕ} n None) cpu None ≡ Some l → ⊥
no_tick zero cpu l e = none_some e
no_tick (suc n) zero l e = none_some e
no_tick (suc n) (suc cpu) l e = no_tick n cpu l e

first_figure : (h : Header) (cpu k : ℕ) (figs : List Fig) → figs ≡ figure (opening_queue h cpu) 0 0 ∷ [] → k ≤ 0 →
    get_or figs k no_fig ≡ figure_after h cpu [] k
first_figure h cpu zero figs e le = ap (λ (l : List Fig). get_or l 0 no_fig) e
first_figure h cpu (suc k) figs e le = absurd (omega arith)

pub agrees_start : (h : Header) (log : List Journal) (d : Journal) → Agrees h log d [] (start h)
unfolding start
agrees_start h log d =
    let n = length h.cpus in
    let f : ℕ → List Fig = λ cpu. figure (opening_queue h cpu) 0 0 ∷ [] in
    let one : (cpu : ℕ) → cpu < n → figures_at (map f (range_with_len 0 n)) cpu ≡ f cpu =
    λ cpu lt. get_or-map-range_with_len f 0 n cpu cpu [] lt (omega arith) in
    let z : (l : ℕ) → l < h.lanes → get_or (replicate {A = ℕ} h.lanes 0) l 0 ≡ 0 =
    λ l lt. get_or-replicate {A = ℕ} h.lanes l 0 0 lt in
    record {
      header = refl;
      ticket = refl;
      cpus = length-map-range_with_len (opening_queue h) 0 n;
      figs = length-map-range_with_len f 0 n;
      lanes = length-replicate h.lanes (opening_course n);
      lasts = length-replicate h.lanes 0;
      ticks = length-replicate n None;
      queue = λ cpu lt. get_or-map-range_with_len (opening_queue h) 0 n cpu cpu no_queue lt (omega arith);
      many = λ cpu lt. ap length (one cpu lt);
      figure = λ cpu k lt le. first_figure h cpu k _ (one cpu lt) le;
      versions = refl;
      last =
          λ l lt.
          subst (λ (b : ℕ). IsLast (lane_at log d) (quote_at log d) l 0 b) (sym (z l lt))
          (last_start (lane_at log d) (quote_at log d) l);
      course = λ l lt. get_or-replicate h.lanes l (opening_course n) no_course lt ∙ ap (left_at h log d) (sym (z l lt));
      ticked = λ cpu l e. absurd (no_tick n cpu l e);
      closing = λ e. absurd (let q : ⊥ = cc in q);
      over = λ e. absurd (let q : ⊥ = cc in q);
    }

-- ---- what the step of the next item reads
masks_agree : (w : What) (h : Header) (log pre rest : List Journal) (j : Journal) (m : MachineState) →
    log ≡ pre ++ j ∷ rest →
    m.versions ≡ versions_of h (items_of 0 pre) → CarriesMasks w j.masks → VersionIn h log pre j w →
    masks_for w m ≡ j.masks
masks_agree (Adopt v kind cpu) h log pre rest j m e agree c r =
    let n = versions_length h (items_of 0 pre) in
    let front : items_of 0 log ≡ items_of 0 pre ++ later_items 0 pre (j ∷ rest) =
    ap (items_of 0) e ∙ items_front 0 pre (j ∷ rest) in
    let le = r.earlier in
    ap (λ (l : List (List Mask)). get_or l (v - 1) []) agree
    ∙ sym (versions_front h (items_of 0 pre) (later_items 0 pre (j ∷ rest)) (v - 1) (omega arith))
    ∙ ap (λ (l : List (ℕ × Journal)). get_or (versions_of h l) (v - 1) []) (sym front)
    ∙ sym r.masks
masks_agree w h log pre rest j m e agree c r = sym c

-- an owner that drew nothing
pub none_owned : (k n : ℕ) (pre : List Journal) →
    ((s : ℕ) (i : Journal) → At pre s i → number_of i.entry.owner ≡ k → ⊥) →
    owned_from meaning_of_journal k n pre ≡ []
none_owned k n [] none = refl
none_owned k n (x ∷ pre) none =
    let c : eqb (number_of x.entry.owner) k ≡ false = ne_eqb (number_of x.entry.owner) k (none 0 x refl) in
    rw c (none_owned k (n + 1) pre (λ s i a e. none (suc s) i a e))

-- nobody is at home at a CPU that is not declared
no_tasks : (cpu n id : ℕ) (rows : List TaskRow) → n ≤ cpu → All (λ row. row.home < n) rows → tasks_at cpu id rows ≡ []
no_tasks cpu n id [] le a = refl
no_tasks cpu n id (row ∷ rows) le a =
    let lt : row.home < n = a 0 row (omega arith) in
    let c : eqb row.home cpu ≡ false = ne_eqb row.home cpu (λ e. omega arith) in
    rw c (no_tasks cpu n (id + 1) rows le (λ k d h. a (suc k) d (omega arith)))

no_figure : (h : Header) (cpu : ℕ) → IsHeader h → length h.cpus ≤ cpu → figure (opening_queue h cpu) 0 0 ≡ no_fig
unfolding figure opening_queue
no_figure h cpu ok le = rw (no_tasks cpu (length h.cpus) 0 h.tasks le (homes_declared h ok)) refl

not_any : {X : Type 0} (p : X → Bool) (x : X) (xs : List X) → list_any (λ y. not (p y)) (x ∷ xs) ≡ false →
    (p x ≡ true) × (list_any (λ y. not (p y)) xs ≡ false)
not_any p x xs e = let s = or_parts (not (p x)) (list_any (λ y. not (p y)) xs) e in (not-false (p x) s.0, s.1)

module _ (h : Header) (closing : Journal → Bool) (log : List Journal) (good : Good h closing log) (ok : IsHeader h)
    (d : Journal) where
  -- ---- what is declared
  pub lane_declared : (pre rest : List Journal) (j : Journal) → log ≡ pre ++ j ∷ rest → j.entry.lane < h.lanes
  lane_declared pre rest j e =
      let f = good.fits pre rest j e in
      let s = and_parts (ltb j.entry.lane j.header.lanes) (is_declared_owner j.header j.entry.owner) f.declared in
      let k = ltb-true j.entry.lane j.header.lanes s.0 in
      let same =
      ap (λ (x : Header). x.lanes) (good.header (length pre) j (at_log closing log good.link pre rest j e)) in
      omega arith

  pub lane_small : (pre rest : List Journal) (j : Journal) (l : ℕ) → log ≡ pre ++ j ∷ rest → j.entry.owner ≡ Lane l →
      l < 16
  lane_small pre rest j l e own =
      let s = lane_owner _ j l (good.fits pre rest j e) own in
      let lt = lane_declared pre rest j e in
      let most = ok.most_lanes in
      omega arith

  pub queue_declared : (pre rest : List Journal) (j : Journal) (cpu : ℕ) → log ≡ pre ++ j ∷ rest →
      j.entry.owner ≡ Queue cpu → cpu < length h.cpus
  queue_declared pre rest j cpu e own =
      let f = good.fits pre rest j e in
      let s = and_parts (ltb j.entry.lane j.header.lanes) (is_declared_owner j.header j.entry.owner) f.declared in
      let c : ltb cpu (length j.header.cpus) ≡ true =
      subst (λ (x : Owner). is_declared_owner j.header x ≡ true) own s.1 in
      let k = ltb-true cpu (length j.header.cpus) c in
      let same =
      ap (λ (x : Header). length x.cpus) (good.header (length pre) j (at_log closing log good.link pre rest j e)) in
      omega arith

  pub is_queues : (pre rest : List Journal) (j : Journal) (cpu : ℕ) → log ≡ pre ++ j ∷ rest →
      number_of j.entry.owner ≡ number_of (Queue cpu) → j.entry.owner ≡ Queue cpu
  is_queues pre rest j cpu e n = queue_number j.entry.owner cpu (λ l own. lane_small pre rest j l e own) n

  pub absent : (pre rest : List Journal) (cpu : ℕ) → log ≡ pre ++ rest → length h.cpus ≤ cpu → queue_items cpu pre ≡ []
  absent pre rest cpu e le =
      none_owned (number_of (Queue cpu)) 1 pre
      (λ s i a n. let sp = split_at log s i (at_whole closing log good.link pre rest s i e a) in
      absurd
      (let lt = queue_declared sp.pre sp.rest i cpu sp.parts (is_queues sp.pre sp.rest i cpu sp.parts n) in omega arith))

  -- ---- what the next item reads
  module _ (pre rest : List Journal) (j : Journal) (e : log ≡ pre ++ j ∷ rest) (m : MachineState) (a : Agrees h log d pre m)
    where
      figure_is : (cpu n : ℕ) → n ≤ length (queue_items cpu pre) →
          get_or (figures_at m.figures cpu) n no_fig ≡ figure_after h cpu (queue_items cpu log) n
      figure_is cpu n le = elim (cases_lt cpu (length h.cpus)) [
        | inl lt ↦
            let front : queue_items cpu log ≡ queue_items cpu pre ++ later_items (number_of (Queue cpu)) pre (j ∷ rest) =
            ap (queue_items cpu) e ∙ items_front (number_of (Queue cpu)) pre (j ∷ rest) in
            a.figure cpu n lt le
            ∙ sym (figure_front h cpu (queue_items cpu pre) (later_items (number_of (Queue cpu)) pre (j ∷ rest)) n le)
            ∙ ap (λ (l : List (ℕ × Journal)). figure_after h cpu l n) (sym front)
        | inr ge ↦
            let z : n ≡ 0 = let k = ap length (absent pre (j ∷ rest) cpu e ge) in omega arith in
            let past : figures_at m.figures cpu ≡ [] = get_or_past m.figures cpu [] (let k = a.figs in omega arith) in
            ap (λ (l : List Fig). get_or l n no_fig) past ∙ sym (no_figure h cpu ok ge)
            ∙ ap (figure_after h cpu (queue_items cpu log)) (sym z)
      ]

      figures_agree : (names : List FigName) →
          list_any (λ f. not (leb f.n (length (queue_items f.cpu pre)))) names ≡ false →
          figures_named m.figures names ≡ figures_in h log names
      figures_agree [] n = refl
      figures_agree (f ∷ names) n =
          let s = not_any (λ (x : FigName). leb x.n (length (queue_items x.cpu pre))) f names n in
          let here = figure_is f.cpu f.n (leb-true f.n (length (queue_items f.cpu pre)) s.0) in
          let more = figures_agree names s.1 in
          λ i. record { cpu = f.cpu; fig = here i } ∷ more i

      figs_agree : (w : What) → CarriesFigs w j.figs → CarriesIn h log pre j w → figs_for w m ≡ j.figs
      figs_agree (Look p x names t) c r = figures_agree names r.earlier ∙ sym r.figs
      figs_agree (Scan names t) c r = figures_agree names r.earlier ∙ sym r.figs
      figs_agree w c r = sym c

      queue_agree : (o : Owner) → j.entry.owner ≡ o → owned_queue o m ≡ owned_replay h o (items_of (number_of o) pre)
      queue_agree (Queue cpu) own = a.queue cpu (queue_declared pre rest j cpu e own)
      queue_agree (Lane l) own = refl
      queue_agree Publisher own = refl

      count_agree : (o : Owner) → j.entry.owner ≡ o → owned_count o m ≡ counted o (items_of (number_of o) pre)
      count_agree (Queue cpu) own = let k = a.many cpu (queue_declared pre rest j cpu e own) in omega arith
      count_agree (Lane l) own = refl
      count_agree Publisher own =
          let k = ap length a.versions in let n = versions_length h (items_of 0 pre) in omega arith

      pub header_is : j.header ≡ h
      header_is = good.header (length pre) j (at_log closing log good.link pre rest j e)

      pub within_log : suc (length pre) ≤ length log
      within_log = let k = at_below log (length pre) j (at_log closing log good.link pre rest j e) in omega arith

      pub item_now : item log d (suc (length pre)) ≡ j
      item_now = item_is log d (length pre) j (at_log closing log good.link pre rest j e)

      -- the lane's last entry is the quoted one
      pub prev_is : j.entry.prev ≡ get_or m.last j.entry.lane 0
      prev_is =
          let t = length pre in
          let l : lane_at log d (suc t) ≡ j.entry.lane = ap (λ (x : Journal). x.entry.lane) item_now in
          let b = get_or m.last j.entry.lane 0 in
          let last =
          subst (λ (x : ℕ). IsLast (lane_at log d) (quote_at log d) x t b) (sym l)
          (a.last j.entry.lane (lane_declared pre rest j e)) in
          sym (ap (λ (x : Journal). x.entry.prev) item_now)
          ∙ quotes_last (lane_at log d) (quote_at log d) (length log) t b (quotes closing log good.link d) within_log
          last

      left_quoted : (b : ℕ) → j.entry.prev ≡ b → left_at h log d b ≡ j.course
      left_quoted zero z =
          sym
          (((good.fits pre rest j e).first z).course ∙ ap (λ (x : Header). opening_course (length x.cpus)) header_is)
      left_quoted (suc k) z =
          ap (λ (x : ℕ). (item log d x).after) (sym z)
          ∙ (quoted_at closing log good.link d (length pre) j (at_log closing log good.link pre rest j e) (omega arith)).2

      pub course_is : course_at m.courses j.entry.lane ≡ j.course
      course_is =
          a.course j.entry.lane (lane_declared pre rest j e) ∙ ap (left_at h log d) (sym prev_is)
          ∙ left_quoted j.entry.prev refl

      pub sight_is : sight m j.entry ≡ sight_in (items_of (number_of j.entry.owner) pre) j
      unfolding sight sight_in
      sight_is =
          let f = good.fits pre rest j e in
          let hd : m.header ≡ j.header = a.header ∙ sym header_is in
          let c = course_is in
          let q : owned_queue j.entry.owner m ≡ owned_replay j.header j.entry.owner (items_of (number_of j.entry.owner) pre) =
          queue_agree j.entry.owner refl
          ∙ ap (λ (x : Header). owned_replay x j.entry.owner (items_of (number_of j.entry.owner) pre)) (sym header_is)
          in
          let n = count_agree j.entry.owner refl in
          let k = masks_agree j.entry.what h log pre rest j m e a.versions f.masks (good.masks pre rest j e) in
          let g = figs_agree j.entry.what f.figs (good.figures pre rest j e) in
          λ i. record { header = hd i; course = c i; queue = q i; count = n i; masks = k i; figs = g i }
