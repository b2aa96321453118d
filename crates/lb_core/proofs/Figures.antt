-- Each published figure is that of its queue after the entry that it is named for, at that entry's
-- ticket.
-- For the lemmas of `Passing`, and so for the law `permitted`.
use Rattle.std.proofs.Common.{◌≡◌, ◌⊎◌, ℕ, zero, suc, ◌+◌, ◌<◌, ◌≤◌, Bool, true, false, cond, eqb, List, [], ◌∷◌, ◌++◌, length, get_or, set, refl, sym, ◌∙◌, ap, arith, subst, inl, inr, get_or-set_same, get_or-set_other}
use Rattle.std.proofs.lemmas.Bool.{cases_eq, eq-eqb, ne_eqb}
use Rattle.std.proofs.lemmas.List.{length-set, length-append, get_or_append_left, get_or_push}
use Rattle.std.proofs.lemmas.List.FromFn.{get_or-map-range_with_len, length-map-range_with_len}
use Rattle.lb_base.specs.declared.figure.Fig.{Fig}
use Rattle.lb_base.specs.Figures.{no_fig}
use Rattle.lb_queue.specs.Queue.{QueueState}
use Rattle.lb_queue.specs.Figures.{figure}
use Rattle.lb_trace.specs.declared.trace.Header.{Header}
use Rattle.lb_core.specs.declared.entry.FigName.{FigName}
use Rattle.lb_core.specs.declared.entry.Owner.{Owner}
use Rattle.lb_core.specs.declared.entry.Owner.TheVariants.{Publisher, Lane, Queue}
use Rattle.lb_core.specs.declared.entry.What.{What}
use Rattle.lb_core.specs.declared.entry.Entry.{Entry}
use Rattle.lb_core.specs.Same.{same_owner}
use Rattle.lb_core.specs.QueueAfter.{queue_after}
use Rattle.lb_core.specs.Machine.{MachineState, no_queue, queue_at, figures_at, entries_at, opening_queue, start, sight}
use Rattle.lb_core.specs.Step.{after}
use Rattle.lb_core.specs.Legal.{MayBeAdded, run, MayFollow}
use Rattle.lb_core.specs.Passes.{drawn_at, up_to, IsFigureOf}
use Rattle.lb_core.proofs.Placing.{entry, cpu_there}
use Rattle.lb_core.proofs.Opening.{opening_at, past}

-- the figures of a CPU so far
abbrev figs : MachineState → ℕ → List Fig
figs m cpu = figures_at m.figures cpu

-- ---- one entry
-- there are as many lists of figures as queues
abbrev pub Even : MachineState → Type 0
Even m = length m.figures ≡ length m.queues

even_kept : (m : MachineState) (o : Owner) (lane prev : ℕ) (w : What) → Even m → Even (after m (entry o lane prev w))
unfolding after
even_kept m (Queue u) lane prev w h = length-set m.figures u _ ∙ h ∙ sym (length-set m.queues u _)
even_kept m o lane prev w h = h

size_kept : (m : MachineState) (o : Owner) (lane prev : ℕ) (w : What)
    → length (after m (entry o lane prev w)).queues ≡ length m.queues
unfolding after
size_kept m (Queue u) lane prev w = length-set m.queues u _
size_kept m o lane prev w = refl

-- a queue's figure joins its list, and the other lists stay
abbrev Joins : Bool → MachineState → MachineState → ℕ → Type 0
Joins true m m' cpu = figs m' cpu ≡ figs m cpu ++ figure (queue_at m'.queues cpu) (length (figs m cpu)) (m.ticket + 1) ∷ []
Joins false m m' cpu = figs m' cpu ≡ figs m cpu

joins : (m : MachineState) (o : Owner) (lane prev cpu : ℕ) (w : What) → Even m → MayBeAdded m (entry o lane prev w)
    → Joins (same_owner o (Queue cpu)) m (after m (entry o lane prev w)) cpu
unfolding after
joins m (Queue u) lane prev cpu w h a =
    let e = entry (Queue u) lane prev w in
    let q = queue_after (sight m e) e in
    let fs : List Fig = figs m u ++ figure q (length (figs m u)) (m.ticket + 1) ∷ [] in
    elim (cases_eq u cpu) [
      | inl same ↦
          let there = cpu_there m u lane prev w a in
          let own : set m.figures u fs ≡ set m.figures u fs = refl in
          let f : get_or (set m.figures u fs) u [] ≡ fs = get_or-set_same m.figures u fs [] (omega (arith, there, h)) in
          let g : queue_at (set m.queues u q) u ≡ q = get_or-set_same m.queues u q no_queue there in
          subst (λ (c : ℕ). Joins (eqb u c) m (after m e) c) same (rw (eq-eqb u u refl, g) f)
      | inr other ↦ rw (ne_eqb u cpu other) (get_or-set_other m.figures u cpu fs [] (λ x. other (sym x)))
    ]
joins m (Lane l) lane prev cpu w h a = refl
joins m Publisher lane prev cpu w h a = refl

-- ---- many entries
-- a figure stays in its place
stays : (es : List Entry) (m : MachineState) (cpu i : ℕ) → Even m → MayFollow es m → i < length (figs m cpu)
    → get_or (figs (run es m) cpu) i no_fig ≡ get_or (figs m cpu) i no_fig
stays [] m cpu i h l lt = refl
stays (e ∷ es) m cpu i h l lt = by_owner (same_owner e.owner (Queue cpu))
    (joins m e.owner e.lane e.prev cpu e.what h l.0) (stays es (after m e) cpu i (even_kept m e.owner e.lane e.prev e.what h) l.1)
  where
    by_owner : (b : Bool) → Joins b m (after m e) cpu
        → (i < length (figs (after m e) cpu) → get_or (figs (run es (after m e)) cpu) i no_fig ≡ get_or
        (figs (after m e) cpu) i no_fig) → get_or (figs (run es (after m e)) cpu) i no_fig ≡ get_or (figs m cpu) i no_fig
    by_owner true j more = let s = length-append (figs m cpu)
        (figure (queue_at (after m e).queues cpu) (length (figs m cpu)) (m.ticket + 1) ∷ []) in let k = ap length j in
        more (omega arith) ∙ ap (λ (x : List Fig). get_or x i no_fig) j ∙ get_or_append_left (figs m cpu) _ no_fig i lt
    by_owner false j more = more (let k = ap length j in omega arith) ∙ ap (λ (x : List Fig). get_or x i no_fig) j

-- one comes for each entry of the queue
counts : (es : List Entry) (m : MachineState) (cpu : ℕ) → Even m → MayFollow es m
    → length (figs (run es m) cpu) ≡ length (figs m cpu) + drawn_at cpu es
counts [] m cpu h l = omega arith
counts (e ∷ es) m cpu h l = by_owner (same_owner e.owner (Queue cpu)) (joins m e.owner e.lane e.prev cpu e.what h l.0)
    (counts es (after m e) cpu (even_kept m e.owner e.lane e.prev e.what h) l.1)
  where
    by_owner : (b : Bool) → Joins b m (after m e) cpu
        → length (figs (run es (after m e)) cpu) ≡ length (figs (after m e) cpu) + drawn_at cpu es
        → length (figs (run es (after m e)) cpu) ≡ length (figs m cpu) + (cond b 1 0 + drawn_at cpu es)
    by_owner true j more = let s = length-append (figs m cpu)
        (figure (queue_at (after m e).queues cpu) (length (figs m cpu)) (m.ticket + 1) ∷ []) in let k = ap length j in omega arith
    by_owner false j more = let k = ap length j in omega arith

moved : (q : QueueState) (fs : List Fig) (i i' t t' : ℕ) → i ≡ i' → t ≡ t' → get_or fs i no_fig ≡ figure q i t
    → get_or fs i' no_fig ≡ figure q i' t'
moved q fs i i' t t' a b h = rw (sym a, sym b) h

-- the figure of the n-th entry from now on, where those so far are k
abbrev IsAfter : ℕ → ℕ → ℕ → List Entry → MachineState → MachineState → Type 0
IsAfter cpu k n front m end = get_or (figs end cpu) (k + n) no_fig ≡ figure (queue_at (run front m).queues cpu)
    (k + n) (m.ticket + length front)

nth : (es : List Entry) (m : MachineState) (cpu n : ℕ) → Even m → MayFollow es m → suc n ≤ drawn_at cpu es
    → IsAfter cpu (length (figs m cpu)) n (up_to cpu (suc n) es) m (run es m)
unfolding after
nth [] m cpu n h l le = absurd (omega arith)
nth (e ∷ es) m cpu n h l le = by_owner (same_owner e.owner (Queue cpu)) n le (joins m e.owner e.lane e.prev cpu e.what h l.0)
    (stays es (after m e) cpu (length (figs m cpu)) (even_kept m e.owner e.lane e.prev e.what h) l.1)
    (λ k. nth es (after m e) cpu k (even_kept m e.owner e.lane e.prev e.what h) l.1)
  where
    by_owner : (b : Bool) (n : ℕ) → suc n ≤ cond b 1 0 + drawn_at cpu es → Joins b m (after m e) cpu →
        (length (figs m cpu) < length (figs (after m e) cpu)
        → get_or (figs (run es (after m e)) cpu) (length (figs m cpu)) no_fig ≡ get_or (figs (after m e) cpu)
        (length (figs m cpu)) no_fig) →
        ((k : ℕ) → suc k ≤ drawn_at cpu es
        → IsAfter cpu (length (figs (after m e) cpu)) k (up_to cpu (suc k) es) (after m e) (run es (after m e))) →
        IsAfter cpu (length (figs m cpu)) n (e ∷ up_to cpu (cond b n (suc n)) es) m (run es (after m e))
    by_owner true zero le j still more =
        let here = figure (queue_at (after m e).queues cpu) (length (figs m cpu)) (m.ticket + 1) in
        let s = length-append (figs m cpu) (here ∷ []) in
        let k = ap length j in
        moved _ _ (length (figs m cpu)) (length (figs m cpu) + 0) (m.ticket + 1) (m.ticket + 1) (omega arith) refl
        (still (omega arith) ∙ ap (λ (x : List Fig). get_or x (length (figs m cpu)) no_fig) j
        ∙ get_or_push (figs m cpu) here no_fig (length (figs m cpu)) refl)
    by_owner true (suc n) le j still more =
        let s = length-append (figs m cpu) (figure (queue_at (after m e).queues cpu) (length (figs m cpu)) (m.ticket + 1) ∷ []) in
        let k = ap length j in
        moved _ _ (length (figs (after m e) cpu) + n) _ (m.ticket + 1 + length (up_to cpu (suc n) es)) _ (omega arith)
        (omega arith) (more n (omega arith))
    by_owner false n le j still more = let k = ap length j in
        moved _ _ (length (figs (after m e) cpu) + n) _ (m.ticket + 1 + length (up_to cpu (suc n) es)) _ (omega arith)
        (omega arith) (more n (omega arith))

-- ---- from the opening state
even_start : (h : Header) → Even (start h)
unfolding start
even_start h = length-map-range_with_len _ 0 (length h.cpus) ∙ sym (length-map-range_with_len (opening_queue h) 0 (length h.cpus))

-- a declared CPU has its opening figure, and another one none
opening_figures : (h : Header) (cpu : ℕ)
    → (figs (start h) cpu ≡ figure (queue_at (start h).queues cpu) 0 0 ∷ [])
    ⊎ (queue_at (start h).queues cpu ≡ no_queue) × (length (start h).queues ≤ cpu)
unfolding start
opening_figures h cpu =
    let n = length h.cpus in
    elim (opening_at h cpu) [
      | inl a ↦ inl (get_or-map-range_with_len (λ c. figure (opening_queue h c) 0 0 ∷ []) 0 n cpu cpu [] a.1
          (omega arith) ∙ ap (λ (q : QueueState). figure q 0 0 ∷ []) (sym a.0))
      | inr b ↦ inr (b.0, let e = length-map-range_with_len (opening_queue h) 0 n in let k = b.1 in omega arith)
    ]

none_come : (es : List Entry) (m : MachineState) (cpu : ℕ) → Even m → length m.queues ≤ cpu → MayFollow es m
    → figs (run es m) cpu ≡ []
none_come [] m cpu h ge l = past m.figures cpu [] (omega arith)
none_come (e ∷ es) m cpu h ge l = none_come es (after m e) cpu (even_kept m e.owner e.lane e.prev e.what h)
    (let k = size_kept m e.owner e.lane e.prev e.what in omega arith) l.1

nobodys : no_fig ≡ figure no_queue 0 0
unfolding figure
nobodys = refl

named_by : (h : Header) (pre : List Entry) (cpu n : ℕ) → MayFollow pre (start h)
    → figs (start h) cpu ≡ figure (queue_at (start h).queues cpu) 0 0 ∷ [] → n ≤ drawn_at cpu pre →
    get_or (figs (run pre (start h)) cpu) n no_fig ≡ figure (queue_at (run (up_to cpu n pre) (start h)).queues cpu) n
    (length (up_to cpu n pre))
unfolding start
named_by h pre cpu zero l a le = stays pre (start h) cpu 0 (even_start h) l (let k = ap length a in omega arith)
    ∙ ap (λ (x : List Fig). get_or x 0 no_fig) a
named_by h pre cpu (suc n) l a le = let k = ap length a in
    moved _ _ (length (figs (start h) cpu) + n) (suc n) (0 + length (up_to cpu (suc n) pre)) _ (omega arith)
    (omega arith) (nth pre (start h) cpu n (even_start h) l le)

pub named : (h : Header) (pre : List Entry) (name : FigName) → MayFollow pre (start h)
    → name.n ≤ entries_at (run pre (start h)) name.cpu
    → IsFigureOf h pre name (get_or (figs (run pre (start h)) name.cpu) name.n no_fig)
named h pre name l le = elim (opening_figures h name.cpu) [
  | inl a ↦
      let c = counts pre (start h) name.cpu (even_start h) l in
      let one = ap length a in
      let few : name.n ≤ drawn_at name.cpu pre = omega arith in
      record { earlier = few; value = named_by h pre name.cpu name.n l a few }
  | inr b ↦
      let none = none_come pre (start h) name.cpu (even_start h) b.1 l in
      let zero_is : name.n ≡ 0 = let k = ap length none in omega arith in
      record {
        earlier = omega arith;
        value = rw (zero_is, none, b.0) nobodys;
      }
]
