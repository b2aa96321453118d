-- The figure after an entry is the next that its queue publishes.
-- For `draw_at`.
use Rattle.std.proofs.Common.{ℕ, ◌≡◌, ◌+◌, ◌<◌, List, [], ◌∷◌, ◌++◌, length, map, ap, refl, ◌∙◌, arith}
use Rattle.std.proofs.lemmas.List.{length-append, length-map}
use Rattle.std.proofs.lemmas.List.FromFn.{length-map-range_with_len}
use Rattle.lb_base.specs.declared.figure.Fig.{Fig}
use Rattle.lb_queue.specs.Queue.{QueueState}
use Rattle.lb_queue.specs.Figures.{figure}
use Rattle.lb_trace.specs.declared.trace.Header.{Header}
use Rattle.lb_ticket.specs.declared.item.Drawn.{Drawn}
use Rattle.lb_ticket.specs.Tickets.{pair}
use Rattle.lb_journal.specs.Journal.{Journal}
use Rattle.lb_journal.specs.Merge.{figure_after}
use Rattle.lb_journal.specs.Owners.{published}

number_is : (q : QueueState) (n ticket : ℕ) → (figure q n ticket).n ≡ n
unfolding figure
number_is q n ticket = refl

pub next_figure : (q : QueueState) (h : Header) (cpu n ticket : ℕ) (list new : List (Drawn Journal)) (d : Drawn Journal)
    (fig : Fig) (figs : List Fig) → fig ≡ figure q n ticket → n ≡ length new → new ≡ list ++ d ∷ []
    → figs ≡ published h cpu (map pair list) → length list + 1 < 1099511627776
    → (fig.n ≡ length figs) × (fig.n < 1099511627776)
next_figure q h cpu n ticket list new d fig figs is at grown kept short =
    let long : length new ≡ length list + 1 = ap length grown ∙ length-append list (d ∷ []) in
    let number : fig.n ≡ n = ap (λ f. f.n) is ∙ number_is q n ticket in
    let many : length figs ≡ length (map pair list) + 1 =
    ap length kept ∙ length-map-range_with_len (figure_after h cpu (map pair list)) 0 (length (map pair list) + 1) in
    let same : length (map pair list) ≡ length list = length-map list pair in
    (omega arith, omega arith)
