-- The machine still agrees with the lists after the next item of the log.
-- For the lemmas of `Bridge`, `Merging` and other files, and so for the laws `merge_is_run`, `uses_stay` and others.
use Rattle.std.proofs.Common.{◌≡◌, ◌⊎◌, ℕ, zero, suc, ◌+◌, ◌<◌, ◌≤◌, Bool, true, eqb, Option, Some, None, List, [], ◌∷◌, ◌++◌, length, get_or, set, map, take, refl, sym, ◌∙◌, ap, subst, arith, inl, inr, eq-eqb, ne_eqb, get_or-set_same, get_or-set_other}
use Rattle.std.proofs.lemmas.Bool.{cases_eq, cases_lt, eqb-true, and_from}
use Rattle.std.proofs.lemmas.List.{length-set, map-append, take_all, get_or_push, get_or_append_left, length_push, set_past, length-map}
use Rattle.lb_base.specs.declared.mask.Mask.{Mask}
use Rattle.lb_base.specs.declared.figure.Fig.{Fig}
use Rattle.lb_base.specs.Figures.{no_fig}
use Rattle.lb_queue.specs.Queue.{QueueState}
use Rattle.lb_queue.specs.Figures.{figure}
use Rattle.lb_trace.specs.declared.trace.Command.{Command}
use Rattle.lb_trace.specs.declared.trace.Command.TheVariants.{Tick, Rebuild}
use Rattle.lb_trace.specs.declared.trace.Header.{Header}
use Rattle.lb_trace.specs.Accepted.{IsHeader}
use Rattle.lb_core.specs.declared.course.Course.{Course}
use Rattle.lb_core.specs.declared.course.Form.{Form}
use Rattle.lb_core.specs.declared.course.Form.TheVariants.{Rest, Asked, Ended}
use Rattle.lb_core.specs.declared.entry.Owner.{Owner}
use Rattle.lb_core.specs.declared.entry.Owner.TheVariants.{Publisher, Lane, Queue}
use Rattle.lb_core.specs.declared.entry.What.{What}
use Rattle.lb_core.specs.declared.entry.What.TheVariants.{Row, Adopt, Look, Scan, End, Out, Pub}
use Rattle.lb_core.specs.declared.entry.Entry.{Entry}
use Rattle.lb_core.specs.Course.{is_rebuild}
use Rattle.lb_core.specs.Sight.{Sight}
use Rattle.lb_core.specs.Stage.{draws, is_owner, queue_due}
use Rattle.lb_core.specs.QueueAfter.{queue_after}
use Rattle.lb_core.specs.CourseAfter.{course_after, course_by, drew, cpu_of}
use Rattle.lb_core.specs.Machine.{MachineState, queue_at, course_at, figures_at, no_queue, no_course, sight}
use Rattle.lb_core.specs.Step.{after, queues_after, figures_after, versions_after, ticked_after, closing_after, ended_after}
use Rattle.lb_journal.specs.Journal.{Journal, number_of, sight_in, owned_replay, counted, item_sight, replay}
use Rattle.lb_journal.specs.Merge.{closing_out, is_out_at_rest, is_end, ticked_by, figure_after, versions_of, parts_of}
use Rattle.lb_journal.proofs.Chain.{IsLast, last_own, last_other}
use Rattle.lb_journal.proofs.Good.{items_of, queue_items, Good, queue_in}
use Rattle.lb_journal.proofs.Lanes.{lane_at, quote_at, quotes, at_mid, at_front, Staged, staged}
use Rattle.lb_journal.proofs.Items.{items_snoc, added_own, added_other, replay_snoc, figure_front, publisher_number}
use Rattle.lb_journal.proofs.Agreement.{Agrees, left_at, Some-at, TickedBy, lane_declared, is_queues, sight_is, course_is, header_is, item_now, within_log, prev_is}

-- ---- the queue and the figures of an owner
queues_length : (o : Owner) (q : QueueState) (qs : List QueueState) → length (queues_after o q qs) ≡ length qs
queues_length (Queue cpu) q qs = length-set qs cpu q
queues_length (Lane l) q qs = refl
queues_length Publisher q qs = refl

queue_other : (o : Owner) (q : QueueState) (qs : List QueueState) (cpu : ℕ) → (o ≡ Queue cpu → ⊥) →
    queue_at (queues_after o q qs) cpu ≡ queue_at qs cpu
queue_other (Queue u) q qs cpu n = get_or-set_other qs u cpu q no_queue (λ e. n (ap Queue (sym e)))
queue_other (Lane l) q qs cpu n = refl
queue_other Publisher q qs cpu n = refl

figures_length : (o : Owner) (t : ℕ) (q : QueueState) (figs : List (List Fig)) →
    length (figures_after o t q figs) ≡ length figs
figures_length (Queue cpu) t q figs = length-set figs cpu _
figures_length (Lane l) t q figs = refl
figures_length Publisher t q figs = refl

figures_other : (o : Owner) (t : ℕ) (q : QueueState) (figs : List (List Fig)) (cpu : ℕ) → (o ≡ Queue cpu → ⊥) →
    figures_at (figures_after o t q figs) cpu ≡ figures_at figs cpu
figures_other (Queue u) t q figs cpu n = get_or-set_other figs u cpu _ [] (λ e. n (ap Queue (sym e)))
figures_other (Lane l) t q figs cpu n = refl
figures_other Publisher t q figs cpu n = refl

figures_own : (t : ℕ) (q : QueueState) (figs : List (List Fig)) (cpu : ℕ) → cpu < length figs →
    figures_at (figures_after (Queue cpu) t q figs) cpu ≡ figures_at figs cpu ++ figure q (length (figures_at figs cpu))
    t ∷ []
figures_own t q figs cpu lt = get_or-set_same figs cpu _ [] lt

pub last_figure : (h : Header) (cpu n t : ℕ) (j : Journal) (items : List (ℕ × Journal)) → n ≡ suc (length items) →
    figure_after h cpu (items ++ (t, j) ∷ []) n ≡ figure (replay h cpu (items ++ (t, j) ∷ [])) n t
last_figure h cpu zero t j items e = absurd (omega arith)
last_figure h cpu (suc n) t j items e =
    let l = length_push items (t, j) in
    let f : ℕ × Journal → ℕ = λ x. x.0 in
    let all : take (suc n) (items ++ (t, j) ∷ []) ≡ items ++ (t, j) ∷ [] =
    take_all (suc n) (items ++ (t, j) ∷ []) (omega arith) in
    let last : get_or (map f (items ++ (t, j) ∷ [])) n 0 ≡ t =
    ap (λ (l : List ℕ). get_or l n 0) (map-append f items ((t, j) ∷ []))
    ∙ get_or_push (map f items) t 0 n (let k = length-map items f in omega arith) in
    λ i. figure (replay h cpu (all i)) (suc n) (last i)

-- ---- the versions
not_publisher : (w : What) (lane : ℕ) (due : Option ℕ) → is_owner w lane due Publisher ≡ true → (v : ℕ) × (w ≡ Pub v)
not_publisher (Pub v) lane due e = (v, refl)
not_publisher (Row n at command) lane due e = absurd (let q : ⊥ = cc in q)
not_publisher (Adopt v kind cpu) lane due e = absurd (let q : ⊥ = cc in q)
not_publisher (Look p x fs d) lane due e = absurd (let q : ⊥ = cc in q)
not_publisher (Scan fs t) lane due e = absurd (let q : ⊥ = cc in q)
not_publisher (End unserved) lane due e = absurd (let q : ⊥ = cc in q)
not_publisher w lane (Some cpu) e = absurd (let q : ⊥ = cc in q)
not_publisher w lane None e = absurd (let q : ⊥ = cc in q)

rebuilt : (v : ℕ) (command : Option Command) (versions : List (List Mask)) → is_rebuild command ≡ true →
    versions_after (Pub v) command versions ≡ versions ++ parts_of command ∷ []
rebuilt v (Some (Rebuild parts)) versions e = refl
rebuilt v command versions e = absurd (let q : ⊥ = cc in q)

draws_pub : (f : Form) (h : Header) (c : Course) (q : QueueState) (lane v : ℕ) → draws f h c q lane (Pub v) ≡ true →
    is_rebuild c.command ≡ true
unfolding draws
draws_pub Asked h c q lane v e = e
draws_pub f h c q lane v e = absurd (let q : ⊥ = cc in q)

publisher_owns : (v lane : ℕ) (due : Option ℕ) (o : Owner) → is_owner (Pub v) lane due o ≡ true → o ≡ Publisher
publisher_owns v lane due Publisher e = refl
publisher_owns v lane due o e = absurd (let q : ⊥ = cc in q)

other_versions : (w : What) (command : Option Command) (versions : List (List Mask)) → ((v : ℕ) → w ≡ Pub v → ⊥) →
    versions_after w command versions ≡ versions
other_versions (Pub v) command versions n = absurd (n v refl)
other_versions w command versions n = refl

-- ---- ticks, the closing and the end
-- a row ticks a CPU, or nothing changes
tick_cases : (w : What) (lane : ℕ) (ticked : List (Option ℕ)) →
    ((cpu : ℕ) × (ticked_by w ≡ Some cpu) × (ticked_after w lane ticked ≡ set ticked cpu (Some lane)))
    ⊎ (ticked_after w lane ticked ≡ ticked)
tick_cases (Row n at (Tick cpu)) lane ticked = inl (cpu, refl, refl)
tick_cases (Row n at command) lane ticked = inr refl
tick_cases w lane ticked = inr refl

closing_cases : (w : What) (f : Form) (closing : Bool) →
    (is_out_at_rest w f ≡ true) ⊎ (closing_after w f closing ≡ closing)
closing_cases (Out cause to tasks) Rest closing = inl refl
closing_cases (Out cause to tasks) f closing = inr refl
closing_cases w f closing = inr refl

end_cases : (w : What) (ended : Bool) → (is_end w ≡ true) ⊎ (ended_after w ended ≡ ended)
end_cases (End unserved) ended = inl refl
end_cases w ended = inr refl

-- lane 0 alone draws these at rest
out_lane : (w : What) (f : Form) (h : Header) (c : Course) (q : QueueState) (lane : ℕ) → is_out_at_rest w f ≡ true →
    draws f h c q lane w ≡ true → eqb lane 0 ≡ true
unfolding draws
out_lane (Out cause to tasks) Rest h c q lane o e = e
out_lane (Out cause to tasks) f h c q lane o e = absurd (let q : ⊥ = cc in q)
out_lane w f h c q lane o e = absurd (let q : ⊥ = cc in q)

pub end_lane : (w : What) (f : Form) (h : Header) (c : Course) (q : QueueState) (lane : ℕ) → is_end w ≡ true →
    draws f h c q lane w ≡ true → eqb lane 0 ≡ true
unfolding draws
end_lane (End unserved) Rest h c q lane o e = e
end_lane (End unserved) f h c q lane o e = absurd (let q : ⊥ = cc in q)
end_lane w f h c q lane o e = absurd (let q : ⊥ = cc in q)

pub ended_draws : (w : What) (f : Form) (h : Header) (c : Course) (q : QueueState) (lane : ℕ) → f ≡ Ended →
    draws f h c q lane w ≡ true → ⊥
unfolding draws
ended_draws w Ended h c q lane o e = let q : ⊥ = cc in q
ended_draws w f h c q lane o e = let q : ⊥ = cc in q

drew_form : (o : Owner) (n : ℕ) (c : Course) → (drew o n c).form ≡ c.form
drew_form (Queue cpu) n c = refl
drew_form (Lane l) n c = refl
drew_form Publisher n c = refl

end_form : (w : What) (s : Sight) (cpu : ℕ) (q : QueueState) → is_end w ≡ true → (course_by w s cpu q).form ≡ Ended
end_form (End unserved) s cpu q e = refl
end_form w s cpu q e = absurd (let q : ⊥ = cc in q)

course_end : (s : Sight) (e : Entry) → is_end e.what ≡ true → (course_after s e).form ≡ Ended
unfolding course_after
course_end s e k =
    drew_form e.owner (s.count + 1) (course_by e.what s (cpu_of e.owner) (queue_after s e))
    ∙ end_form e.what s (cpu_of e.owner) (queue_after s e) k

more_some : (pre rest : List Journal) (p : Journal → Bool) → Some-at pre p → Some-at (pre ++ rest) p
more_some pre rest p s = record {
  place = s.place;
  item = s.item;
  there = at_front pre rest s.place s.item s.there;
  has = s.has;
}

more_ticked : (pre rest : List Journal) (cpu lane : ℕ) → TickedBy pre cpu lane → TickedBy (pre ++ rest) cpu lane
more_ticked pre rest cpu lane s = record {
  place = s.place;
  item = s.item;
  there = at_front pre rest s.place s.item s.there;
  cpu_is = s.cpu_is;
  lane_is = s.lane_is;
}

module _ (h : Header) (closing : Journal → Bool) (log : List Journal) (good : Good h closing log) (ok : IsHeader h)
    (d : Journal) (pre rest : List Journal) (j : Journal) (e : log ≡ pre ++ j ∷ rest) (m : MachineState)
    (a : Agrees h log d pre m) where
  now : List Journal
  now = pre ++ j ∷ []

  new_queue : QueueState
  new_queue = queue_after (sight m j.entry) j.entry

  -- the queue of the entry's owner
  queue_new : (cpu : ℕ) → j.entry.owner ≡ Queue cpu → new_queue ≡ queue_in h (pre ++ j ∷ []) cpu
  unfolding new_queue sight_in
  queue_new cpu own =
      let g : Owner → Sight =
      λ o.
      item_sight (owned_replay j.header o (items_of (number_of o) pre)) (counted o (items_of (number_of o) pre))
      j in
      let s = sight_is h closing log good ok d pre rest j e m a in
      let items = queue_items cpu pre in
      let t = 1 + length pre in
      let n : eqb (number_of j.entry.owner) (number_of (Queue cpu)) ≡ true =
      eq-eqb (number_of j.entry.owner) (number_of (Queue cpu)) (ap number_of own) in
      ap (λ (x : Sight). queue_after x j.entry) s
      ∙ ap (λ (o : Owner). queue_after (g o) j.entry) own
      ∙ ap (λ (x : Header). queue_after (item_sight (replay x cpu items) (length items) j) j.entry)
      (header_is h closing log good ok d pre rest j e m a)
      ∙ sym (replay_snoc h cpu items t j)
      ∙ ap (replay h cpu)
      (sym (items_snoc (number_of (Queue cpu)) pre j ∙ added_own (number_of (Queue cpu)) t j items n))

  course_new : course_after (sight m j.entry) j.entry ≡ j.after
  course_new =
      ap (λ (x : Sight). course_after x j.entry) (sight_is h closing log good ok d pre rest j e m a)
      ∙ sym (good.fits pre rest j e).after

  owner_cases : (cpu : ℕ) → (j.entry.owner ≡ Queue cpu) ⊎ (j.entry.owner ≡ Queue cpu → ⊥)
  owner_cases cpu = elim (cases_eq (number_of j.entry.owner) (number_of (Queue cpu))) [
    | inl n ↦ inl (is_queues h closing log good ok d pre rest j cpu e n)
    | inr n ↦ inr (λ own. n (ap number_of own))
  ]

  items_own : (cpu : ℕ) → j.entry.owner ≡ Queue cpu →
      queue_items cpu (pre ++ j ∷ []) ≡ queue_items cpu pre ++ (1 + length pre, j) ∷ []
  items_own cpu own =
      let k = number_of (Queue cpu) in
      items_snoc k pre j
      ∙ added_own k (1 + length pre) j (items_of k pre) (eq-eqb (number_of j.entry.owner) k (ap number_of own))

  items_other : (cpu : ℕ) → (j.entry.owner ≡ Queue cpu → ⊥) → queue_items cpu (pre ++ j ∷ []) ≡ queue_items cpu pre
  items_other cpu n =
      let k = number_of (Queue cpu) in
      items_snoc k pre j ∙ added_other k (1 + length pre) j (items_of k pre)
      (ne_eqb (number_of j.entry.owner) k (λ x. n (is_queues h closing log good ok d pre rest j cpu e x)))

  queue_step : (cpu : ℕ) → cpu < length h.cpus →
      queue_at (queues_after j.entry.owner new_queue m.queues) cpu ≡ queue_in h (pre ++ j ∷ []) cpu
  queue_step cpu lt = elim (owner_cases cpu) [
    | inl own ↦
        ap (λ (o : Owner). queue_at (queues_after o new_queue m.queues) cpu) own
        ∙ get_or-set_same m.queues cpu new_queue no_queue (let k = a.cpus in omega arith)
        ∙ queue_new cpu own
    | inr n ↦ queue_other j.entry.owner new_queue m.queues cpu n ∙ a.queue cpu lt
        ∙ ap (replay h cpu) (sym (items_other cpu n))
  ]

  new_figures : List (List Fig)
  new_figures = figures_after j.entry.owner (m.ticket + 1) new_queue m.figures

  figures_own_is : (cpu : ℕ) → cpu < length h.cpus → j.entry.owner ≡ Queue cpu →
      figures_at new_figures cpu ≡ figures_at m.figures cpu ++ figure new_queue (length (figures_at m.figures cpu))
      (m.ticket + 1) ∷ []
  unfolding new_figures
  figures_own_is cpu lt own =
      ap (λ (o : Owner). figures_at (figures_after o (m.ticket + 1) new_queue m.figures) cpu) own
      ∙ figures_own (m.ticket + 1) new_queue m.figures cpu (let k = a.figs in omega arith)

  many_step : (cpu : ℕ) → cpu < length h.cpus →
      length (figures_at new_figures cpu) ≡ 1 + length (queue_items cpu (pre ++ j ∷ []))
  unfolding new_figures
  many_step cpu lt = elim (owner_cases cpu) [
    | inl own ↦
        let f = ap length (figures_own_is cpu lt own) in
        let g = ap length (items_own cpu own) in
        let l =
        length_push (figures_at m.figures cpu)
        (figure new_queue (length (figures_at m.figures cpu)) (m.ticket + 1)) in
        let k = length_push (queue_items cpu pre) (1 + length pre, j) in
        let old = a.many cpu lt in
        f ∙ l ∙ (omega arith)
    | inr n ↦ ap length (figures_other j.entry.owner (m.ticket + 1) new_queue m.figures cpu n) ∙ a.many cpu lt
        ∙ ap (λ (l : List (ℕ × Journal)). 1 + length l) (sym (items_other cpu n))
  ]

  figures_none : (cpu : ℕ) → (j.entry.owner ≡ Queue cpu → ⊥) → figures_at new_figures cpu ≡ figures_at m.figures cpu
  unfolding new_figures
  figures_none cpu n = figures_other j.entry.owner (m.ticket + 1) new_queue m.figures cpu n

  figure_step : (cpu n : ℕ) → cpu < length h.cpus → n ≤ length (queue_items cpu (pre ++ j ∷ [])) →
      get_or (figures_at new_figures cpu) n no_fig ≡ figure_after h cpu (queue_items cpu (pre ++ j ∷ [])) n
  figure_step cpu n lt le = elim (owner_cases cpu) [
    | inl own ↦
        let items = queue_items cpu pre in
        let figs = figures_at m.figures cpu in
        let t = 1 + length pre in
        let x = figure new_queue (length figs) (m.ticket + 1) in
        let many = a.many cpu lt in
        let size = ap length (items_own cpu own) in
        let pushed = length_push items (t, j) in
        let own_is = ap (λ (l : List Fig). get_or l n no_fig) (figures_own_is cpu lt own) in
        elim (cases_lt n (length figs)) [
          | inl old ↦
              own_is ∙ get_or_append_left figs (x ∷ []) no_fig n old ∙ a.figure cpu n lt (omega arith)
              ∙ sym (figure_front h cpu items ((t, j) ∷ []) n (omega arith))
              ∙ ap (λ (l : List (ℕ × Journal)). figure_after h cpu l n) (sym (items_own cpu own))
          | inr new ↦
              let at_end : length figs ≡ n = omega arith in
              let queue = queue_new cpu own ∙ ap (replay h cpu) (items_own cpu own) in
              let ticket : m.ticket + 1 ≡ t = let k = a.ticket in omega arith in
              let fig : x ≡ figure (replay h cpu (items ++ (t, j) ∷ [])) n t =
              λ i. figure (queue i) (at_end i) (ticket i) in
              own_is ∙ get_or_push figs x no_fig n at_end ∙ fig
              ∙ sym (last_figure h cpu n t j items (omega arith))
              ∙ ap (λ (l : List (ℕ × Journal)). figure_after h cpu l n) (sym (items_own cpu own))
        ]
    | inr o ↦
        let same = items_other cpu o in
        ap (λ (l : List Fig). get_or l n no_fig) (figures_none cpu o)
        ∙ a.figure cpu n lt (let k = ap length same in omega arith)
        ∙ ap (λ (l : List (ℕ × Journal)). figure_after h cpu l n) (sym same)
  ]

  -- ---- versions
  stage : Staged (items_of (number_of j.entry.owner) pre) j
  stage = staged (items_of (number_of j.entry.owner) pre) j (good.fits pre rest j e)

  pub is_pub : (v : ℕ) → j.entry.what ≡ Pub v → (j.entry.owner ≡ Publisher) × (is_rebuild j.course.command ≡ true)
  is_pub v w =
      let s = stage in (
        publisher_owns v j.entry.lane (queue_due j.course.form j.course) j.entry.owner
            (subst (λ (x : What). is_owner x j.entry.lane (queue_due j.course.form j.course) j.entry.owner ≡ true) w
            s.owner),
        draws_pub j.course.form j.header j.course (sight_in (items_of (number_of j.entry.owner) pre) j).queue
            j.entry.lane v
            (subst
            (λ (x : What).
            draws j.course.form j.header j.course (sight_in (items_of (number_of j.entry.owner) pre) j).queue
            j.entry.lane x ≡ true)
            w s.draws),
      )

  versions_step : versions_after j.entry.what j.course.command m.versions ≡ versions_of h (items_of 0 (pre ++ j ∷ []))
  versions_step = elim (cases_eq (number_of j.entry.owner) 0) [
    | inl z ↦
        let own = publisher_number j.entry.owner z in
        let p =
        not_publisher j.entry.what j.entry.lane (queue_due j.course.form j.course)
        (subst (λ (o : Owner). is_owner j.entry.what j.entry.lane (queue_due j.course.form j.course) o ≡ true) own
        stage.owner)
        in
        let items =
        items_snoc 0 pre j
        ∙ added_own 0 (1 + length pre) j (items_of 0 pre) (eq-eqb (number_of j.entry.owner) 0 z) in
        let f : ℕ × Journal → List Mask = λ x. parts_of x.1.course.command in
        ap (λ (w : What). versions_after w j.course.command m.versions) p.1
        ∙ rebuilt p.0 j.course.command m.versions (is_pub p.0 p.1).1
        ∙ ap (λ (l : List (List Mask)). l ++ parts_of j.course.command ∷ []) a.versions
        ∙ ap (λ (l : List (List Mask)). h.parts ∷ l) (sym (map-append f (items_of 0 pre) ((1 + length pre, j) ∷ [])))
        ∙ ap (versions_of h) (sym items)
    | inr n ↦
        let items =
        items_snoc 0 pre j
        ∙ added_other 0 (1 + length pre) j (items_of 0 pre) (ne_eqb (number_of j.entry.owner) 0 n) in
        other_versions j.entry.what j.course.command m.versions (λ v w. n (ap number_of (is_pub v w).0))
        ∙ a.versions ∙ ap (versions_of h) (sym items)
  ]

  -- ---- lanes
  lane_there : j.entry.lane < h.lanes
  lane_there = lane_declared h closing log good ok d pre rest j e

  new_last : List ℕ
  new_last = set m.last j.entry.lane (m.ticket + 1)

  last_same : get_or new_last j.entry.lane 0 ≡ suc (length pre)
  unfolding new_last
  last_same =
      get_or-set_same m.last j.entry.lane (m.ticket + 1) 0 (let k = a.lasts in let t = lane_there in omega arith)
      ∙ (let k = a.ticket in omega arith)

  last_step : (l : ℕ) → l < h.lanes →
      IsLast (lane_at log d) (quote_at log d) l (length (pre ++ j ∷ [])) (get_or new_last l 0)
  unfolding new_last
  last_step l lt =
      let t = length pre in
      let long : length (pre ++ j ∷ []) ≡ suc t = let k = length_push pre j in omega arith in
      let now = item_now h closing log good ok d pre rest j e m a in
      let old = a.last l lt in
      elim (cases_eq l j.entry.lane) [
        | inl same ↦
            let own : lane_at log d (suc t) ≡ l = ap (λ (x : Journal). x.entry.lane) now ∙ sym same in
            let quotes_it : quote_at log d (suc t) ≡ get_or m.last l 0 =
            ap (λ (x : Journal). x.entry.prev) now ∙ prev_is h closing log good ok d pre rest j e m a
            ∙ ap (λ (x : ℕ). get_or m.last x 0) (sym same) in
            let next =
            last_own (lane_at log d) (quote_at log d) (length log) t (get_or m.last l 0) l
            (quotes closing log good.link d) (within_log h closing log good ok d pre rest j e m a) own old
            quotes_it in
            let b : get_or new_last l 0 ≡ suc t = ap (λ (x : ℕ). get_or new_last x 0) same ∙ last_same in
            subst (λ (x : ℕ). IsLast (lane_at log d) (quote_at log d) l x (get_or new_last l 0)) (sym long)
            (subst (λ (x : ℕ). IsLast (lane_at log d) (quote_at log d) l (suc t) x) (sym b) next)
        | inr other ↦
            let next =
            last_other (lane_at log d) (quote_at log d) t (get_or m.last l 0) l
            (λ x. other (sym x ∙ ap (λ (y : Journal). y.entry.lane) now)) old in
            let b : get_or new_last l 0 ≡ get_or m.last l 0 =
            get_or-set_other m.last j.entry.lane l (m.ticket + 1) 0 other in
            subst (λ (x : ℕ). IsLast (lane_at log d) (quote_at log d) l x (get_or new_last l 0)) (sym long)
            (subst (λ (x : ℕ). IsLast (lane_at log d) (quote_at log d) l (suc t) x) (sym b) next)
      ]

  new_courses : List Course
  new_courses = set m.courses j.entry.lane (course_after (sight m j.entry) j.entry)

  course_same : course_at new_courses j.entry.lane ≡ j.after
  unfolding new_courses
  course_same =
      get_or-set_same m.courses j.entry.lane (course_after (sight m j.entry) j.entry) no_course
      (let k = a.lanes in let t = lane_there in omega arith) ∙ course_new

  course_other : (l : ℕ) → (l ≡ j.entry.lane → ⊥) → course_at new_courses l ≡ course_at m.courses l
  unfolding new_courses
  course_other l n = get_or-set_other m.courses j.entry.lane l (course_after (sight m j.entry) j.entry) no_course n

  course_step : (l : ℕ) → l < h.lanes → course_at new_courses l ≡ left_at h log d (get_or new_last l 0)
  unfolding new_last
  course_step l lt = elim (cases_eq l j.entry.lane) [
    | inl same ↦
        let now = item_now h closing log good ok d pre rest j e m a in
        ap (course_at new_courses) same ∙ course_same ∙ sym (ap (λ (x : Journal). x.after) now)
        ∙ ap (left_at h log d) (sym (ap (λ (x : ℕ). get_or new_last x 0) same ∙ last_same))
    | inr other ↦
        let b : get_or new_last l 0 ≡ get_or m.last l 0 =
        get_or-set_other m.last j.entry.lane l (m.ticket + 1) 0 other in
        course_other l other ∙ a.course l lt ∙ ap (left_at h log d) (sym b)
  ]

  -- ---- ticks
  ticked_step : (cpu l : ℕ) → get_or (ticked_after j.entry.what j.entry.lane m.ticked) cpu None ≡ Some l →
      TickedBy (pre ++ j ∷ []) cpu l
  ticked_step cpu l g = elim (tick_cases j.entry.what j.entry.lane m.ticked) [
    | inl t ↦
        let here : get_or (set m.ticked t.0 (Some j.entry.lane)) cpu None ≡ Some l =
        ap (λ (x : List (Option ℕ)). get_or x cpu None) (sym t.2) ∙ g in
        elim (cases_eq cpu t.0) [
          | inl same ↦ elim (cases_lt t.0 (length m.ticked)) [
            | inl lt ↦
                let k : Some j.entry.lane ≡ Some l =
                sym
                (ap (λ (x : ℕ). get_or (set m.ticked t.0 (Some j.entry.lane)) x None) same
                ∙ get_or-set_same m.ticked t.0 (Some j.entry.lane) None lt)
                ∙ here in
                record {
                  place = length pre;
                  item = j;
                  there = at_mid pre [] j;
                  cpu_is = t.1 ∙ ap Some (sym same);
                  lane_is = (let q : j.entry.lane ≡ l = cc in q);
                }
            | inr ge ↦ more_ticked pre (j ∷ []) cpu l
                (a.ticked cpu l
                (ap (λ (x : List (Option ℕ)). get_or x cpu None)
                (sym (set_past m.ticked t.0 (Some j.entry.lane) ge)) ∙ here))
          ]
          | inr other ↦ more_ticked pre (j ∷ []) cpu l
              (a.ticked cpu l (sym (get_or-set_other m.ticked t.0 cpu (Some j.entry.lane) None other) ∙ here))
        ]
    | inr t ↦ more_ticked pre (j ∷ []) cpu l
        (a.ticked cpu l (ap (λ (x : List (Option ℕ)). get_or x cpu None) (sym t) ∙ g))
  ]

  ticked_length : length (ticked_after j.entry.what j.entry.lane m.ticked) ≡ length h.cpus
  ticked_length = elim (tick_cases j.entry.what j.entry.lane m.ticked) [
    | inl t ↦ ap length t.2 ∙ length-set m.ticked t.0 (Some j.entry.lane) ∙ a.ticks
    | inr t ↦ ap length t ∙ a.ticks
  ]

  -- ---- the closing and the end
  pub out_closes_here : is_out_at_rest j.entry.what j.course.form ≡ true → closing_out j ≡ true
  out_closes_here o =
      and_from _ _ o
      (out_lane j.entry.what j.course.form j.header j.course
      (sight_in (items_of (number_of j.entry.owner) pre) j).queue j.entry.lane o stage.draws)

  pub end_of_lane : is_end j.entry.what ≡ true → j.entry.lane ≡ 0
  end_of_lane o =
      eqb-true j.entry.lane 0
      (end_lane j.entry.what j.course.form j.header j.course
      (sight_in (items_of (number_of j.entry.owner) pre) j).queue j.entry.lane o stage.draws)

  closing_step : closing_after j.entry.what j.course.form m.closing ≡ true → Some-at (pre ++ j ∷ []) closing_out
  closing_step c = elim (closing_cases j.entry.what j.course.form m.closing) [
    | inl o ↦ record { place = length pre; item = j; there = at_mid pre [] j; has = out_closes_here o }
    | inr same ↦ more_some pre (j ∷ []) closing_out (a.closing (sym same ∙ c))
  ]

  -- after the end the lane draws nothing
  pub not_ended : m.ended ≡ true → j.entry.lane ≡ 0 → ⊥
  not_ended o z =
      let f : j.course.form ≡ Ended =
      ap (λ (c : Course). c.form)
      (sym (course_is h closing log good ok d pre rest j e m a) ∙ ap (course_at m.courses) z) ∙ (a.over o).0 in
      ended_draws j.entry.what j.course.form j.header j.course
      (sight_in (items_of (number_of j.entry.owner) pre) j).queue j.entry.lane f stage.draws

  over_step : ended_after j.entry.what m.ended ≡ true →
      ((course_at new_courses 0).form ≡ Ended) × Some-at (pre ++ j ∷ []) (λ i. is_end i.entry.what)
  over_step o = elim (end_cases j.entry.what m.ended) [
    | inl k ↦
        let z = end_of_lane k in
        let s = sight m j.entry in
        let f : (course_after s j.entry).form ≡ Ended = course_end s j.entry k in (
          ap (λ (c : Course). c.form) (ap (course_at new_courses) (sym z) ∙ course_same ∙ sym course_new) ∙ f,
          record { place = length pre; item = j; there = at_mid pre [] j; has = k },
        )
    | inr same ↦
        let old = a.over (sym same ∙ o) in (
          ap (λ (c : Course). c.form) (course_other 0 (λ z. not_ended (sym same ∙ o) (sym z))) ∙ old.0,
          more_some pre (j ∷ []) (λ i. is_end i.entry.what) old.1,
        )
  ]

  pub agrees_step : Agrees h log d (pre ++ j ∷ []) (after m j.entry)
  unfolding after new_queue new_figures new_last new_courses sight
  agrees_step =
      let c : course_at m.courses j.entry.lane ≡ j.course = course_is h closing log good ok d pre rest j e m a in
      let t = lane_there in record {
        header = a.header;
        ticket = (let k = a.ticket in let l = length_push pre j in omega arith);
        cpus = queues_length j.entry.owner new_queue m.queues ∙ a.cpus;
        figs = figures_length j.entry.owner (m.ticket + 1) new_queue m.figures ∙ a.figs;
        lanes = length-set m.courses j.entry.lane _ ∙ a.lanes;
        lasts = length-set m.last j.entry.lane (m.ticket + 1) ∙ a.lasts;
        ticks = ticked_length;
        queue = queue_step;
        many = many_step;
        figure = figure_step;
        versions = ap (λ (x : Course). versions_after j.entry.what x.command m.versions) c ∙ versions_step;
        last = last_step;
        course = course_step;
        ticked = ticked_step;
        closing = λ x. closing_step (ap (λ (y : Course). closing_after j.entry.what y.form m.closing) (sym c) ∙ x);
        over = over_step;
      }
