-- What is said of the figures that items carry, and of closing entries, stays true as the lists grow.
-- For the laws `closes_now` and `growth_keeps`.
use Rattle.std.proofs.Common.{◌≡◌, ℕ, ◌+◌, ◌<◌, ◌≤◌, ltb, ◌&&◌, Some, is_some, find, List, [], ◌∷◌, ◌++◌, length, get_or, map, refl, sym, ◌∙◌, ap, subst, arith, All, inl, inr, append-nil}
use Rattle.std.specs.Prelude.{slice_get}
use Rattle.std.specs.List.{range_with_len}
use Rattle.std.proofs.lemmas.Bool.{cases_lt, lt-ltb, le-ltb}
use Rattle.std.proofs.lemmas.List.{length-append, map-append, get_or_past}
use Rattle.std.proofs.lemmas.List.Elements.{All-head, All-tail, filter-append}
use Rattle.std.proofs.lemmas.List.FromFn.{length-map-range_with_len, get_or-map-range_with_len}
use Rattle.std.proofs.lemmas.Option.{slice_get-get_or, slice_get_within, get_or_from_slice_get}
use Rattle.lb_base.specs.Sets.{mask_where}
use Rattle.lb_base.specs.declared.figure.Fig.{Fig}
use Rattle.lb_queue.specs.Requests.{has_pending}
use Rattle.lb_trace.specs.declared.trace.Header.{Header}
use Rattle.lb_core.specs.declared.entry.Owner.{Owner}
use Rattle.lb_core.specs.declared.entry.Owner.TheVariants.{Queue}
use Rattle.lb_core.specs.declared.entry.What.{What}
use Rattle.lb_core.specs.declared.entry.What.TheVariants.{Out, End}
use Rattle.lb_core.specs.Same.{same_mask}
use Rattle.lb_ticket.specs.declared.item.Drawn.{Drawn}
use Rattle.lb_ticket.specs.Tickets.{Among, InLists, pair}
use Rattle.lb_ticket.proofs.Members.{has_either}
use Rattle.lb_journal.specs.Journal.{Journal, number_of, replay}
use Rattle.lb_journal.specs.Merge.{list_of, queue_list, below, figure_after, pending_before, unserved_before, ClosesBy}
use Rattle.lb_journal.specs.Owners.{ClosesAs, published, ListGrows, ListsGrow, GrowthKeeps, ClosesNow}
use Rattle.lb_journal.proofs.Items.{figure_front}
use Rattle.lb_journal.proofs.Known.{list_in, in_place}

-- ---- figures
published_front : (h : Header) (cpu : ℕ) (xs ys : List (ℕ × Journal)) (n : ℕ) (fig : Fig) →
    slice_get (published h cpu xs) n ≡ Some fig → slice_get (published h cpu (xs ++ ys)) n ≡ Some fig
published_front h cpu xs ys n fig is =
    let f = figure_after h cpu xs in
    let g = figure_after h cpu (xs ++ ys) in
    let a = length xs + 1 in
    let b = length (xs ++ ys) + 1 in
    let l = length-append xs ys in
    let long = length-map-range_with_len f 0 a in
    let wide = length-map-range_with_len g 0 b in
    let lt = slice_get_within (published h cpu xs) n fig is in
    slice_get-get_or (published h cpu (xs ++ ys)) n fig (omega arith)
    ∙ ap Some
    (get_or-map-range_with_len g 0 b n n fig (omega arith) (omega arith)
    ∙ figure_front h cpu xs ys n (omega arith)
    ∙ sym (get_or-map-range_with_len f 0 a n n fig (omega arith) (omega arith))
    ∙ get_or_from_slice_get (published h cpu xs) n fig fig is)

-- ---- what is below a ticket
none_below : (t : ℕ) (ds : List (Drawn Journal)) → All (λ (d : Drawn Journal). t ≤ d.ticket) ds →
    below t (map pair ds) ≡ []
none_below t [] late = refl
none_below t (d ∷ ds) late =
    rw (le-ltb d.ticket t (All-head (λ (d : Drawn Journal). t ≤ d.ticket) d ds late))
    (none_below t ds (All-tail (λ (d : Drawn Journal). t ≤ d.ticket) d ds late))

all_below : (t : ℕ) (ds : List (Drawn Journal)) → All (λ (d : Drawn Journal). d.ticket < t) ds →
    below t (map pair ds) ≡ map pair ds
all_below t [] early = refl
all_below t (d ∷ ds) early =
    rw (lt-ltb d.ticket t (All-head (λ (d : Drawn Journal). d.ticket < t) d ds early))
    (ap (λ (l : List (ℕ × Journal)). pair d ∷ l)
    (all_below t ds (All-tail (λ (d : Drawn Journal). d.ticket < t) d ds early)))

below_grown : (t ticket : ℕ) (ds more : List (Drawn Journal)) → ticket ≤ t → ListGrows t ds more →
    below ticket (map pair more) ≡ below ticket (map pair ds)
below_grown t ticket ds more le g =
    ap (λ (l : List (Drawn Journal)). below ticket (map pair l)) g.is
    ∙ ap (below ticket) (map-append pair ds g.rest)
    ∙ filter-append (λ (d : ℕ × Journal). ltb d.0 ticket) (map pair ds) (map pair g.rest)
    ∙ ap (λ (l : List (ℕ × Journal)). below ticket (map pair ds) ++ l)
    (none_below ticket g.rest (λ k d lt. let h = g.late k d lt in omega arith))
    ∙ append-nil (below ticket (map pair ds))

-- queues that are one before a ticket
same_pending : (h : Header) (lists more : List (List (Drawn Journal))) (ticket : ℕ) →
    ((k : ℕ) → below ticket (list_of more k) ≡ below ticket (list_of lists k)) →
    pending_before h more ticket ≡ pending_before h lists ticket
unfolding pending_before
same_pending h lists more ticket e =
    λ i. find (λ cpu. has_pending (replay h cpu (e (number_of (Queue cpu)) i))) (range_with_len 0 (length h.cpus))

same_unserved : (h : Header) (lists more : List (List (Drawn Journal))) (ticket : ℕ) →
    ((k : ℕ) → below ticket (list_of more k) ≡ below ticket (list_of lists k)) →
    unserved_before h more ticket ≡ unserved_before h lists ticket
unfolding unserved_before
same_unserved h lists more ticket e =
    λ i. mask_where (λ cpu. ltb cpu (length h.cpus) && is_some (replay h cpu (e (number_of (Queue cpu)) i)).active)

closes_more : (h : Header) (lists more : List (List (Drawn Journal))) (ticket : ℕ) →
    ((k : ℕ) → below ticket (list_of more k) ≡ below ticket (list_of lists k)) → (w : What) (o : Owner) →
    ClosesBy h lists ticket w o → ClosesBy h more ticket w o
closes_more h lists more ticket e (Out cause to tasks) (Queue cpu) c = same_pending h lists more ticket e ∙ c
closes_more h lists more ticket e (End unserved) o c =
    (same_pending h lists more ticket e ∙ c.0, ap (same_mask unserved) (same_unserved h lists more ticket e) ∙ c.1)
closes_more h lists more ticket e w o c = tt

more_lists : (t : ℕ) (lists more : List (List (Drawn Journal))) → ListsGrow t lists more → (d : Drawn Journal) →
    InLists d lists → InLists d more
more_lists t lists more grows d h =
    let p = list_in d lists h in
    let g = grows p.0 in
    in_place more p.0 d (subst (Among d) (sym g.is) (has_either (get_or lists p.0 []) g.rest d (inl p.1)))

pub closes_still : (t : ℕ) (lists more : List (List (Drawn Journal))) → ListsGrow t lists more → (j : Journal) →
    ClosesAs lists j → ClosesAs more j
closes_still t lists more grows j (inl o) = inl o
closes_still t lists more grows j (inr (inl e)) = inr (inl e)
closes_still t lists more grows j (inr (inr q)) = inr (inr (record {
  landing = q.landing;
  out = q.out;
  there = more_lists t lists more grows q.out q.there;
  ticket = q.ticket;
  closes = q.closes;
}))

pub closes_grown : (h : Header) (lists more : List (List (Drawn Journal))) (t : ℕ) → ListsGrow t lists more →
    (ticket : ℕ) (w : What) (o : Owner) → ticket ≤ t → ClosesBy h lists ticket w o → ClosesBy h more ticket w o
closes_grown h lists more t grows ticket w o le c =
    closes_more h lists more ticket (λ k. below_grown t ticket _ _ le (grows k)) w o c

pub growth_keeps : GrowthKeeps
growth_keeps h lists more t grows = (
  (λ d reads k f lt.
      let r = reads k f lt in
      let fig = get_or d.item.figs k f in
      let g = grows (number_of (Queue fig.cpu)) in
      let items : list_of more (number_of (Queue fig.cpu)) ≡ queue_list lists fig.cpu ++ map pair g.rest =
      ap (map pair) g.is ∙ map-append pair _ g.rest in
      record {
        is =
            ap (λ (l : List (ℕ × Journal)). slice_get (published h fig.cpu l) fig.fig.n) items
            ∙ published_front h fig.cpu (queue_list lists fig.cpu) (map pair g.rest) fig.fig.n fig.fig r.is;
        before = r.before;
      }),
  closes_still t lists more grows,
  closes_grown h lists more t grows,
)

pub closes_now : ClosesNow
unfolding pending_before unserved_before
closes_now h lists t early = (
  (λ i. find (λ cpu. has_pending (replay h cpu (all (number_of (Queue cpu)) i))) (range_with_len 0 (length h.cpus))),
  (λ i. mask_where (λ cpu. ltb cpu (length h.cpus) && is_some (replay h cpu (all (number_of (Queue cpu)) i)).active)),
)
  where
    all : (k : ℕ) → below t (list_of lists k) ≡ list_of lists k
    all k = elim (cases_lt k (length lists)) [
      | inl lt ↦ all_below t (get_or lists k []) (early k [] lt)
      | inr ge ↦ rw (get_or_past lists k [] ge) refl
    ]
