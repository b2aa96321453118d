-- What the rest of the machine asks of the next item of the log: that its lane and its queue are
-- declared, that it quotes the lane's last entry, what holds where a lane is at rest, rows, versions,
-- figures and the end.
-- For the lemmas of `Merging` and `Using`, and so for the laws `merge_is_run`, `closing_is_last` and others.
use Rattle.std.proofs.Common.{◌≡◌, ℕ, zero, suc, ◌<◌, ◌≤◌, Bool, true, false, eqb, ltb, leb, not, ◌&&◌, ◌||◌, Option, Some, None, is_some, find, List, [], ◌∷◌, ◌++◌, length, get_or, refl, sym, ◌∙◌, ap, subst, arith, inl, inr, eq-eqb}
use Rattle.std.specs.List.{range_with_len, list_any, list_all}
use Rattle.std.proofs.lemmas.Bool.{cases_eq, cases_lt, and_from, or_parts, or_from, lt-ltb, le-ltb, leb-true, not-false, not_from_true, cases_Bool, both_ways, false_from_ne_true}
use Rattle.std.proofs.lemmas.List.{get_or_past}
use Rattle.lb_base.specs.declared.mask.Mask.{Mask}
use Rattle.lb_base.specs.Sets.{mask_where}
use Rattle.lb_queue.specs.Queue.{QueueState}
use Rattle.lb_queue.specs.Requests.{has_pending}
use Rattle.lb_trace.specs.declared.trace.Command.TheVariants.{Tick}
use Rattle.lb_trace.specs.declared.trace.Header.{Header}
use Rattle.lb_trace.specs.Accepted.{IsHeader}
use Rattle.lb_core.specs.declared.course.Course.{Course}
use Rattle.lb_core.specs.declared.course.Form.{Form}
use Rattle.lb_core.specs.declared.course.Form.TheVariants.{Rest}
use Rattle.lb_core.specs.declared.entry.FigName.{FigName}
use Rattle.lb_core.specs.declared.entry.Owner.{Owner}
use Rattle.lb_core.specs.declared.entry.Owner.TheVariants.{Publisher, Lane, Queue}
use Rattle.lb_core.specs.declared.entry.What.{What}
use Rattle.lb_core.specs.declared.entry.What.TheVariants.{Row, Adopt, Look, Scan, End, Out}
use Rattle.lb_core.specs.Same.{same_mask}
use Rattle.lb_core.specs.Stage.{is_owner, is_queue, queue_due}
use Rattle.lb_core.specs.Machine.{MachineState, queue_at, course_at, entries_at, no_queue, no_course, opening_queue}
use Rattle.lb_core.specs.Elsewhere.{is_undeclared_lane, is_undeclared_owner, is_rest, all_rest, first_pending, is_first_pending, stage_at_rest, is_another, ticked_elsewhere, version_unpublished, figure_unpublished, unserved, end_is_wrong}
use Rattle.lb_journal.specs.Journal.{Journal, number_of, replay}
use Rattle.lb_journal.specs.Merge.{is_out_at_rest, is_end, ticked_by, both_tick, are_one}
use Rattle.lb_ticket.proofs.Logs.{at_below}
use Rattle.lb_journal.proofs.Chain.{IsLast}
use Rattle.lb_journal.proofs.Good.{items_of, queue_items, At, Good, queue_in, pending_in, unserved_in, ClosesIn, CarriesIn, VersionIn, may_close}
use Rattle.lb_journal.proofs.Lanes.{item, lane_at, quote_at, item_is, item_there, at_log, at_whole, Staged, staged}
use Rattle.lb_journal.proofs.Agreement.{Agrees, left_at, lane_declared, queue_declared, course_is, prev_is, absent}
use Rattle.lb_journal.proofs.Stepping.{out_closes_here, not_ended}

list_all_from : {A : Type 0} (p : A → Bool) (xs : List A) (d : A) →
    ((k : ℕ) → k < length xs → p (get_or xs k d) ≡ true) →
    list_all p xs ≡ true
list_all_from p [] d h = refl
list_all_from p (x ∷ xs) d h =
    and_from (p x) (list_all p xs) (h 0 (omega arith)) (list_all_from p xs d (λ k lt. h (suc k) (omega arith)))

nobody_pending : (h : Header) (cpu : ℕ) → has_pending no_queue ≡ has_pending (opening_queue h cpu)
unfolding has_pending opening_queue
nobody_pending h cpu = refl

nothing_active : (h : Header) (cpu : ℕ) → no_queue.active ≡ (opening_queue h cpu).active
unfolding opening_queue
nothing_active h cpu = refl

no_lane : (due : Option ℕ) (l : ℕ) → is_queue (Lane l) due ≡ true → ⊥
no_lane None l e = let q : ⊥ = cc in q
no_lane (Some cpu) l e = let q : ⊥ = cc in q

no_publisher : (due : Option ℕ) → is_queue Publisher due ≡ true → ⊥
no_publisher None e = let q : ⊥ = cc in q
no_publisher (Some cpu) e = let q : ⊥ = cc in q

module _ (h : Header) (closing : Journal → Bool) (log : List Journal) (good : Good h closing log) (ok : IsHeader h)
    (d : Journal) (pre rest : List Journal) (j : Journal) (e : log ≡ pre ++ j ∷ rest) (m : MachineState)
    (a : Agrees h log d pre m) where
  stage : Staged (items_of (number_of j.entry.owner) pre) j
  stage = staged (items_of (number_of j.entry.owner) pre) j (good.fits pre rest j e)

  at_j : At log (length pre) j
  at_j = at_log closing log good.link pre rest j e

  -- ---- declared, and quoted
  pub quotes_right : not (eqb j.entry.prev (get_or m.last j.entry.lane 0)) ≡ false
  quotes_right =
      not_from_true _
      (eq-eqb j.entry.prev (get_or m.last j.entry.lane 0) (prev_is h closing log good ok d pre rest j e m a))

  pub lane_right : is_undeclared_lane m j.entry.lane ≡ false
  lane_right =
      not_from_true _
      (lt-ltb j.entry.lane (length m.courses)
      (let k = lane_declared h closing log good ok d pre rest j e in let l = a.lanes in omega arith))

  owner_by : (o : Owner) → j.entry.owner ≡ o → is_undeclared_owner m o ≡ false
  owner_by (Queue cpu) own =
      not_from_true _
      (lt-ltb cpu (length m.queues)
      (let k = queue_declared h closing log good ok d pre rest j cpu e own in let l = a.cpus in omega arith))
  owner_by (Lane l) own = refl
  owner_by Publisher own = refl

  pub owner_right : is_undeclared_owner m j.entry.owner ≡ false
  owner_right = owner_by j.entry.owner refl

  -- ---- the closing
  -- after a closing item all items close
  closes_after : (k : ℕ) (i : Journal) → At pre k i → closing i ≡ true → closing j ≡ true
  closes_after k i there c = elim (cases_Bool (closing j)) [
    | inl y ↦ y
    | inr n ↦ absurd
        (let lt = good.closing_last (length pre) k j i at_j (at_whole closing log good.link pre (j ∷ rest) k i e there) n c in
        let low = at_below pre k i there in
        omega arith)
  ]

  -- the last entry of another lane left it at rest
  rests_after : closing j ≡ true → (l b : ℕ) → (l ≡ 0 → ⊥) → get_or m.last l 0 ≡ b → l < h.lanes →
      (left_at h log d b).form ≡ Rest
  rests_after c l zero n eb lt = refl
  rests_after c l (suc k) n eb lt =
      let last : IsLast (lane_at log d) (quote_at log d) l (length pre) (suc k) =
      subst (λ (x : ℕ). IsLast (lane_at log d) (quote_at log d) l (length pre) x) eb (a.last l lt) in
      let within = last.within in
      let end = at_below log (length pre) j at_j in
      let i = item log d (suc k) in
      let there : At log k i = item_there log d k (omega arith) in
      let own : i.entry.lane ≡ l = last.own (omega arith) in
      let open_ : closing i ≡ false =
      false_from_ne_true (closing i) (λ y. n (sym own ∙ good.closing_lane k i there y)) in
      good.at_rest k i there open_
      (λ s x ax ox lx. elim (cases_lt k s) [
        | inl after ↦ absurd (elim (cases_lt s (length pre)) [
          | inl before ↦ last.none (suc s) (omega arith) (omega arith)
              (ap (λ (y : Journal). y.entry.lane) (item_is log d s x ax) ∙ lx ∙ own)
          | inr past ↦ let w =
              good.closing_last s (length pre) x j ax at_j ox c in let q : ⊥ = absurd (omega arith) in q
        ])
        | inr le ↦ le
      ])

  rests_at : closing j ≡ true → j.course.form ≡ Rest → (l : ℕ) → l < h.lanes → (course_at m.courses l).form ≡ Rest
  rests_at c f l lt = elim (cases_eq l j.entry.lane) [
    | inl same ↦ ap (λ (x : Course). x.form)
        (ap (course_at m.courses) same ∙ course_is h closing log good ok d pre rest j e m a) ∙ f
    | inr other ↦ ap (λ (x : Course). x.form) (a.course l lt)
        ∙ rests_after c l (get_or m.last l 0) (λ z. other (z ∙ sym (good.closing_lane (length pre) j at_j c))) refl lt
  ]

  all_at_rest : closing j ≡ true → j.course.form ≡ Rest → all_rest m ≡ true
  all_at_rest c f =
      list_all_from (λ (x : Course). is_rest x.form) m.courses no_course
      (λ k lt. ap is_rest (rests_at c f k (let l = a.lanes in omega arith)))

  -- ---- the queues and their requests
  pending_is : (cpu : ℕ) → has_pending (queue_at m.queues cpu) ≡ has_pending (queue_in h pre cpu)
  pending_is cpu = elim (cases_lt cpu (length h.cpus)) [
    | inl lt ↦ ap has_pending (a.queue cpu lt)
    | inr ge ↦
        ap has_pending (get_or_past m.queues cpu no_queue (let l = a.cpus in omega arith)) ∙ nobody_pending h cpu
        ∙ ap (λ (l : List (ℕ × Journal)). has_pending (replay h cpu l))
        (sym (absent h closing log good ok d pre (j ∷ rest) cpu e ge))
  ]

  active_is : (cpu : ℕ) → (queue_at m.queues cpu).active ≡ (queue_in h pre cpu).active
  active_is cpu = elim (cases_lt cpu (length h.cpus)) [
    | inl lt ↦ ap (λ (q : QueueState). q.active) (a.queue cpu lt)
    | inr ge ↦
        ap (λ (q : QueueState). q.active) (get_or_past m.queues cpu no_queue (let l = a.cpus in omega arith))
        ∙ nothing_active h cpu
        ∙ ap (λ (l : List (ℕ × Journal)). (replay h cpu l).active)
        (sym (absent h closing log good ok d pre (j ∷ rest) cpu e ge))
  ]

  first_pending_is : first_pending m ≡ pending_in h pre
  unfolding first_pending
  first_pending_is = let n = a.cpus in λ i. find (λ cpu. pending_is cpu i) (range_with_len 0 (n i))

  unserved_is : unserved m ≡ unserved_in h pre
  unfolding unserved
  unserved_is = let n = a.cpus in λ i. mask_where (λ cpu. ltb cpu (n i) && is_some (active_is cpu i))

  -- ---- at rest
  closes_what : closing j ≡ true → (w : What) (o : Owner) → j.entry.what ≡ w → j.entry.owner ≡ o → ClosesIn h pre w o
  closes_what c w o ew eo =
      subst (λ (x : What). ClosesIn h pre x o) ew
      (subst (λ (x : Owner). ClosesIn h pre j.entry.what x) eo (good.closes pre rest j e c))

  owns : (w : What) (o : Owner) → j.entry.what ≡ w → j.entry.owner ≡ o →
      is_owner w j.entry.lane (queue_due j.course.form j.course) o ≡ true
  owns w o ew eo =
      subst (λ (x : What). is_owner x j.entry.lane (queue_due j.course.form j.course) o ≡ true) ew
      (subst (λ (x : Owner). is_owner j.entry.what j.entry.lane (queue_due j.course.form j.course) x ≡ true) eo
      stage.owner)

  out_closing : (w : What) → j.entry.what ≡ w → j.course.form ≡ Rest → is_out_at_rest w Rest ≡ true → closing j ≡ true
  out_closing w ew f o =
      good.out_closes j (out_closes_here h closing log good ok d pre rest j e m a
      (subst (λ (x : What). is_out_at_rest x j.course.form ≡ true) (sym ew)
      (subst (λ (x : Form). is_out_at_rest w x ≡ true) (sym f) o)))

  end_closing : (w : What) → j.entry.what ≡ w → is_end w ≡ true → closing j ≡ true
  end_closing w ew o = good.end_closes j (subst (λ (x : What). is_end x ≡ true) (sym ew) o)

  -- no row comes once the closing has begun
  no_row : (w : What) → j.entry.what ≡ w → may_close w ≡ false → m.closing ≡ false
  no_row w ew n =
      false_from_ne_true m.closing
      (λ c. let s = a.closing c in
      let k = good.closing_kind j (closes_after s.place s.item s.there (good.out_closes s.item s.has)) in
      both_ways (may_close w) n (subst (λ (x : What). may_close x ≡ true) ew k))

  first_is : (o : Owner) (cpu : ℕ) → o ≡ Queue cpu → pending_in h pre ≡ Some cpu →
      is_first_pending (first_pending m) o ≡ true
  first_is o cpu eo p =
      ap (λ (x : Option ℕ). is_first_pending x o) (first_pending_is ∙ p) ∙ ap (is_first_pending (Some cpu)) eo
      ∙ eq-eqb cpu cpu refl

  out_at_rest : (w : What) (o : Owner) → j.entry.what ≡ w → j.entry.owner ≡ o → j.course.form ≡ Rest →
      is_out_at_rest w Rest ≡ true → (not (all_rest m) || not (is_first_pending (first_pending m) o)) ≡ false
  out_at_rest (Out cause to tasks) (Queue cpu) ew eo f r =
      let c = out_closing (Out cause to tasks) ew f refl in
      let p : pending_in h pre ≡ Some cpu = closes_what c (Out cause to tasks) (Queue cpu) ew eo in
      or_from _ _ (not_from_true _ (all_at_rest c f)) (not_from_true _ (first_is (Queue cpu) cpu refl p))
  out_at_rest (Out cause to tasks) (Lane l) ew eo f r =
      absurd (no_lane (queue_due j.course.form j.course) l (owns (Out cause to tasks) (Lane l) ew eo))
  out_at_rest (Out cause to tasks) Publisher ew eo f r =
      absurd (no_publisher (queue_due j.course.form j.course) (owns (Out cause to tasks) Publisher ew eo))
  out_at_rest w o ew eo f r = absurd (let q : ⊥ = cc in q)

  rest_by : (f : Form) (w : What) (o : Owner) → j.course.form ≡ f → j.entry.what ≡ w → j.entry.owner ≡ o →
      stage_at_rest f m o w ≡ false
  rest_by Rest (Row n at command) o ef ew eo = no_row (Row n at command) ew refl
  rest_by Rest (Out cause to tasks) o ef ew eo = out_at_rest (Out cause to tasks) o ew eo ef refl
  rest_by Rest (End unserved) o ef ew eo = not_from_true _ (all_at_rest (end_closing (End unserved) ew refl) ef)
  rest_by f w o ef ew eo = refl

  pub rest_right : stage_at_rest (course_at m.courses j.entry.lane).form m j.entry.owner j.entry.what ≡ false
  rest_right =
      ap (λ (c : Course). stage_at_rest c.form m j.entry.owner j.entry.what)
      (course_is h closing log good ok d pre rest j e m a)
      ∙ rest_by j.course.form j.entry.what j.entry.owner refl refl refl

  -- ---- rows
  other_lane : (o : Option ℕ) (cpu : ℕ) → get_or m.ticked cpu None ≡ o → ticked_by j.entry.what ≡ Some cpu →
      is_another o j.entry.lane ≡ false
  other_lane None cpu g t = refl
  other_lane (Some l) cpu g t =
      let b = a.ticked cpu l g in
      let both : both_tick b.item j ≡ true =
      ap (λ (x : Option ℕ). are_one x (ticked_by j.entry.what)) b.cpu_is ∙ ap (are_one (Some cpu)) t
      ∙ eq-eqb cpu cpu refl in
      let same =
      good.ticks b.place (length pre) b.item j
      (at_whole closing log good.link pre (j ∷ rest) b.place b.item e b.there) at_j both in
      not_from_true _ (eq-eqb l j.entry.lane (sym b.lane_is ∙ same))

  row_by : (w : What) → j.entry.what ≡ w → ticked_elsewhere m j.entry.lane w ≡ false
  row_by (Row n at (Tick cpu)) ew = other_lane (get_or m.ticked cpu None) cpu refl (ap ticked_by ew)
  row_by (Row n at command) ew = refl
  row_by w ew = refl

  pub row_right : ticked_elsewhere m j.entry.lane j.entry.what ≡ false
  row_right = row_by j.entry.what refl

  -- ---- versions and figures
  version_by : (w : What) → VersionIn h log pre j w → version_unpublished m w ≡ false
  version_by (Adopt v kind cpu) r =
      le-ltb (length m.versions) v (let k = r.earlier in let l = ap length a.versions in omega arith)
  version_by w r = refl

  pub version_right : version_unpublished m j.entry.what ≡ false
  version_right = version_by j.entry.what (good.masks pre rest j e)

  published_is : (cpu n : ℕ) → n ≤ length (queue_items cpu pre) → n ≤ entries_at m cpu
  published_is cpu n le = elim (cases_lt cpu (length h.cpus)) [
    | inl lt ↦ let k = a.many cpu lt in omega arith
    | inr ge ↦ let k = ap length (absent h closing log good ok d pre (j ∷ rest) cpu e ge) in omega arith
  ]

  none_missing : (names : List FigName) → list_any (λ f. not (leb f.n (length (queue_items f.cpu pre)))) names ≡ false →
      list_any (λ f. ltb (entries_at m f.cpu) f.n) names ≡ false
  none_missing [] n = refl
  none_missing (f ∷ names) n =
      let s = or_parts (not (leb f.n (length (queue_items f.cpu pre)))) _ n in
      let le = leb-true f.n (length (queue_items f.cpu pre)) (not-false _ s.0) in
      let k = published_is f.cpu f.n le in
      or_from (ltb (entries_at m f.cpu) f.n) _ (le-ltb (entries_at m f.cpu) f.n k) (none_missing names s.1)

  figure_by : (w : What) → CarriesIn h log pre j w → figure_unpublished m w ≡ false
  figure_by (Look p x names t) r = none_missing names r.earlier
  figure_by (Scan names t) r = none_missing names r.earlier
  figure_by w r = refl

  pub figure_right : figure_unpublished m j.entry.what ≡ false
  figure_right = figure_by j.entry.what (good.figures pre rest j e)

  -- ---- the end
  pub ended_right : m.ended ≡ false
  ended_right =
      false_from_ne_true m.ended
      (λ c. let s = (a.over c).1 in
      let k = closes_after s.place s.item s.there (good.end_closes s.item s.has) in
      not_ended h closing log good ok d pre rest j e m a c (good.closing_lane (length pre) j at_j k))

  end_by : (w : What) → j.entry.what ≡ w → end_is_wrong m w ≡ false
  end_by (End cpus) ew =
      let c : ClosesIn h pre (End cpus) j.entry.owner =
      closes_what (end_closing (End cpus) ew refl) (End cpus) j.entry.owner ew refl in
      not_from_true _ (ap (same_mask cpus) unserved_is ∙ c.1)
  end_by w ew = refl

  pub end_right : end_is_wrong m j.entry.what ≡ false
  end_right = end_by j.entry.what refl

  pub none_owed : (cpus : Mask) → j.entry.what ≡ End cpus → is_some (first_pending m) ≡ false
  none_owed cpus ew =
      let c : ClosesIn h pre (End cpus) j.entry.owner =
      closes_what (end_closing (End cpus) ew refl) (End cpus) j.entry.owner ew refl in
      ap is_some (first_pending_is ∙ c.0)
