-- What a lane saw stays seen, and is what the queues published.
-- For the laws `saw_is_read`, `look_sees_more` and `saw_stays`.
use Rattle.std.proofs.Common.{ℕ, ◌≡◌, [], get_or, sym, subst, ap, ◌∙◌}
use Rattle.std.proofs.lemmas.List.{get_or-set_other}
use mathlib.Core.List.{IsPrefix}
use mathlib.Core.Logic.{dite}
use native.Mathlib.Decide.{ℕ_discrete}
use Rattle.lb_core.specs.declared.entry.CpuFig.{CpuFig}
use Rattle.lb_ticket.specs.declared.item.Drawn.{Drawn}
use Rattle.lb_journal.specs.Journal.{Journal}
use Rattle.lb_journal.specs.Merge.{queue_list}
use Rattle.lb_journal.specs.Owners.{published}
use Rattle.lb_board.specs.Board.{Sight, seen_at}
use Rattle.lb_seen.proofs.Beginnings.{prefix_self, prefix_get}
use Rattle.lb_cell.specs.Reads.{Saw, LookSeesMore, SawStays, SawIsRead}

pub look_more : LookSeesMore
look_more s t cpu is more k =
    dite (ℕ_discrete k cpu)
    (λ (e : k ≡ cpu). subst (λ (i : ℕ). IsPrefix (seen_at s i) (seen_at t i)) (sym e) more)
    (λ ne.
    let same : seen_at t k ≡ seen_at s k =
    ap (λ (x : Sight). seen_at x k) is ∙ get_or-set_other s.seen cpu k (seen_at t cpu) [] ne in
    subst (λ l. IsPrefix (seen_at s k) l) (sym same) (prefix_self (seen_at s k)))

pub stays : SawStays
stays s t list more all = λ k d lt. λ i f lt'.
    let e : Drawn Journal = get_or list k d in
    let g : CpuFig = get_or e.item.figs i f in
    let x : Saw s e.ticket g = all k d lt i f lt' in
    record { is = prefix_get (seen_at s g.cpu) (seen_at t g.cpu) g.fig.n g.fig (more g.cpu) x.is; before = x.before }

pub is_read : SawIsRead
is_read h lists s list front all = λ k d lt. λ i f lt'.
    let e : Drawn Journal = get_or list k d in
    let g : CpuFig = get_or e.item.figs i f in
    let x : Saw s e.ticket g = all k d lt i f lt' in
    record {
      is = prefix_get (seen_at s g.cpu) (published h g.cpu (queue_list lists g.cpu)) g.fig.n g.fig (front g.cpu) x.is;
      before = x.before;
    }
