-- The source queue of a pull: of the CPUs of a group that have something to give, the least of
-- those with the greatest value. What is compared, and who has something to give, go by what is to
-- move.
-- Cited by the law `source_queue`, and `source`, `with_cpu` and others; also by `lb_imbalance`, `lb_journal_rows` and
-- other crates.
use Rattle.std.specs.Prelude.{ℕ, ◌==◌, nat_lt, Bool, true, not, ◌&&◌, Option, List}
use Rattle.lb_base.specs.declared.mask.Mask.{Mask}
use Rattle.lb_base.specs.declared.mask.TheConstants.{MAX_CPUS}
use Rattle.lb_base.specs.declared.figure.Fig.{Fig}
use Rattle.lb_base.specs.declared.view.MoveKind.{MoveKind}
use Rattle.lb_base.specs.declared.view.MoveKind.TheVariants.{Load, Util, Tasks}
use Rattle.lb_base.specs.Mask.{has}
use Rattle.lb_base.specs.Figures.{fig_at}
use Rattle.lb_base.specs.Greatest.{Picks, first_greatest}

-- how much a CPU has of what is to move
abbrev pub value_of : MoveKind → Fig → ℕ
value_of Load fig = fig.load
value_of Util fig = fig.util
value_of Tasks fig = fig.nr

-- a CPU with tasks has something to give: not a lone task whose load is above the imbalance, nor
-- the utilisation of a lone task
abbrev pub can_give : MoveKind → ℕ → Fig → Bool
can_give Load imbalance fig = nat_lt 0 fig.load && not (fig.nr == 1 && nat_lt imbalance fig.load)
can_give Util imbalance fig = nat_lt 1 fig.nr && nat_lt 0 fig.util
can_give Tasks imbalance fig = true

-- the CPU is of the group, has tasks, and has something to give
unfoldable pub may_be_source : List Fig → Mask → MoveKind → ℕ → ℕ → Bool
may_be_source figs group kind imbalance cpu =
    has group cpu && nat_lt 0 (fig_at figs cpu).nr && can_give kind imbalance (fig_at figs cpu)

-- CPU i has more than CPU j
unfoldable pub has_more : List Fig → MoveKind → ℕ → ℕ → Bool
has_more figs kind i j = nat_lt (value_of kind (fig_at figs j)) (value_of kind (fig_at figs i))

-- the answer is the source queue, or none where no CPU may be it
abbrev pub AnswersSource : List Fig → Mask → MoveKind → ℕ → Option ℕ → Type 0
AnswersSource figs group kind imbalance o = Picks (may_be_source figs group kind imbalance) (has_more figs kind) MAX_CPUS o

-- the source queue, or none where no CPU may be it
unfoldable pub source_of : List Fig → Mask → MoveKind → ℕ → Option ℕ
source_of figs group kind imbalance = first_greatest (may_be_source figs group kind imbalance) (has_more figs kind) MAX_CPUS
