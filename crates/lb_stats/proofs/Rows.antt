-- The statistics of groups in a row: those of one group more, written at its place.
use Rattle.std.proofs.Common.{◌≡◌, ℕ, ◌+◌, ◌<◌, List, [], ◌∷◌, ◌++◌, length, take, get_or, refl, sym, ◌∙◌, ap}
use Rattle.std.specs.Prelude.{map, slice_set}
use Rattle.std.proofs.lemmas.List.{map-append}
use Rattle.std.proofs.lemmas.Grind.{take_at_read, take-set_at}
use Rattle.lb_base.specs.declared.mask.Mask.{Mask}
use Rattle.lb_base.specs.declared.figure.Fig.{Fig}
use Rattle.lb_base.specs.declared.group.Stats.{Stats}
use Rattle.lb_base.specs.Mask.{without}
use Rattle.lb_stats.specs.Statistics.{stats_of, stats_of_groups}

pub one_group_more : (figs : List Fig) (groups : List Mask) (excluded : Mask) (position pct : ℕ) (row : List Stats)
    (i : ℕ) (g w : Mask) (s : Stats) → i < length groups → i < length row → g ≡ get_or groups i g
    → w ≡ without g excluded → s ≡ stats_of figs w position pct
    → take i row ≡ stats_of_groups figs (take i groups) excluded position pct
    → take (i + 1) (slice_set row i s) ≡ stats_of_groups figs (take (i + 1) groups) excluded position pct
one_group_more figs groups excluded position pct row i g w s lt fits r e q h =
    let left : take (i + 1) (slice_set row i s) ≡ take i row ++ s ∷ [] = take-set_at row i (i + 1) s refl fits in
    let right : take (i + 1) groups ≡ take i groups ++ g ∷ [] =
    (take_at_read groups i g lt).1 ∙ ap (λ (x : Mask). take i groups ++ x ∷ []) (sym r) in
    let F : Mask → Stats = λ g. stats_of figs (without g excluded) position pct in
    let last : s ≡ F g = q ∙ ap (λ (x : Mask). stats_of figs x position pct) e in
    left ∙ ap (λ (x : List Stats). x ++ s ∷ []) h ∙ ap (λ (x : Stats). map F (take i groups) ++ x ∷ []) last
    ∙ sym (ap (map F) right ∙ map-append F (take i groups) (g ∷ []))
