-- What is counted over a list of CPUs: nothing over none, and at one more CPU its own part more.
-- For `sums_of`.
use Rattle.std.proofs.Common.{◌≡◌, ℕ, ◌+◌, ◌≤◌, Bool, true, false, ◌||◌, cond, List, [], ◌∷◌, ◌++◌, refl, sym, ◌∙◌, ap, arith}
use Rattle.std.specs.Prelude.{sum_by, count_by}
use Rattle.std.specs.List.{list_any}
use Rattle.std.proofs.lemmas.List.Sums.{sum_by_push}
use Rattle.std.proofs.lemmas.List.Folds.{list_any-append}
use Rattle.lb_base.specs.declared.mask.Mask.{Mask}
use Rattle.lb_base.specs.declared.figure.Fig.{Fig}
use Rattle.lb_base.specs.Mask.{members, members_below}
use Rattle.lb_base.specs.Figures.{fig_at, total}
use Rattle.lb_base.proofs.Members.{sum_members_fits}
use Rattle.lb_stats.specs.declared.statistics.Sums.{Sums}
use Rattle.lb_stats.specs.Statistics.{is_idle, is_marked, idle_count, any_marked}
use Rattle.lb_base.proofs.Walks.{IsAt}

pub record IsSumOver (position : ℕ) (figs : List Fig) (cpus : List ℕ) (s : Sums) : Type 0 where
  pub nr : s.nr ≡ sum_by (λ cpu. (fig_at figs cpu).nr) cpus
  pub load : s.load ≡ sum_by (λ cpu. (fig_at figs cpu).load) cpus
  pub util : s.util ≡ sum_by (λ cpu. (fig_at figs cpu).util) cpus
  pub runnable : s.runnable ≡ sum_by (λ cpu. (fig_at figs cpu).runnable) cpus
  pub idle : s.idle ≡ count_by (λ cpu. is_idle (fig_at figs cpu)) cpus
  pub marked : s.marked ≡ list_any (λ cpu. is_marked position (fig_at figs cpu)) cpus

-- what one more figure makes of the sums
pub record Adds (position : ℕ) (fig : Fig) (s t : Sums) : Type 0 where
  pub nr : t.nr ≡ s.nr + fig.nr
  pub load : t.load ≡ s.load + fig.load
  pub util : t.util ≡ s.util + fig.util
  pub runnable : t.runnable ≡ s.runnable + fig.runnable
  pub idle : t.idle ≡ s.idle + cond (is_idle fig) 1 0
  pub marked : t.marked ≡ (s.marked || is_marked position fig)

one_more : (f : ℕ → ℕ) (cpus : List ℕ) (c s t : ℕ) → s ≡ sum_by f cpus → t ≡ s + f c → t ≡ sum_by f (cpus ++ c ∷ [])
one_more f cpus c s t e step = step ∙ ap (λ (n : ℕ). n + f c) e ∙ sym (sum_by_push f cpus c)

pub one_at_most : (b : Bool) → cond b 1 0 ≤ 1
one_at_most true = omega arith
one_at_most false = omega arith

or_nothing : (b : Bool) → (b || false) ≡ b
or_nothing true = refl
or_nothing false = refl

one_more_test : (p : ℕ → Bool) (cpus : List ℕ) (c : ℕ) (s t : Bool) → s ≡ list_any p cpus → t ≡ (s || p c)
    → t ≡ list_any p (cpus ++ c ∷ [])
one_more_test p cpus c s t e step =
    step ∙ ap (λ (b : Bool). b || p c) e
    ∙ sym (list_any-append p cpus (c ∷ []) ∙ ap (λ (b : Bool). list_any p cpus || b) (or_nothing (p c)))

pub sums_more : (position : ℕ) (figs : List Fig) (cpus : List ℕ) (c : ℕ) (s t : Sums) → IsSumOver position figs cpus s
    → Adds position (fig_at figs c) s t → IsSumOver position figs (cpus ++ c ∷ []) t
sums_more position figs cpus c s t so_far adds = record {
  nr = one_more (λ cpu. (fig_at figs cpu).nr) cpus c s.nr t.nr so_far.nr adds.nr;
  load = one_more (λ cpu. (fig_at figs cpu).load) cpus c s.load t.load so_far.load adds.load;
  util = one_more (λ cpu. (fig_at figs cpu).util) cpus c s.util t.util so_far.util adds.util;
  runnable = one_more (λ cpu. (fig_at figs cpu).runnable) cpus c s.runnable t.runnable so_far.runnable adds.runnable;
  idle = one_more (λ cpu. cond (is_idle (fig_at figs cpu)) 1 0) cpus c s.idle t.idle so_far.idle adds.idle;
  marked = one_more_test (λ cpu. is_marked position (fig_at figs cpu)) cpus c s.marked t.marked so_far.marked adds.marked;
}

-- the CPUs before one of the group, and that one, are no more than all
pub fits : (f : Fig → ℕ) (figs : List Fig) (group : Mask) (c n : ℕ) → IsAt group c
    → n ≡ sum_by (λ cpu. f (fig_at figs cpu)) (members_below group c) → n + f (fig_at figs c) ≤ total f figs group
unfolding total
fits f figs group c n at e = rw e (sum_members_fits (λ cpu. f (fig_at figs cpu)) group c at.there at.in_range)

-- the sums over all CPUs of the group
pub record AreTotals (position : ℕ) (figs : List Fig) (group : Mask) (s : Sums) : Type 0 where
  pub nr : s.nr ≡ total (λ fig. fig.nr) figs group
  pub load : s.load ≡ total (λ fig. fig.load) figs group
  pub util : s.util ≡ total (λ fig. fig.util) figs group
  pub runnable : s.runnable ≡ total (λ fig. fig.runnable) figs group
  pub idle : s.idle ≡ idle_count figs group
  pub marked : s.marked ≡ any_marked position figs group

pub all_summed : (position : ℕ) (figs : List Fig) (group : Mask) (s : Sums)
    → IsSumOver position figs (members group) s → AreTotals position figs group s
unfolding total idle_count any_marked
all_summed position figs group s sums = record {
  nr = sums.nr;
  load = sums.load;
  util = sums.util;
  runnable = sums.runnable;
  idle = sums.idle;
  marked = sums.marked;
}
