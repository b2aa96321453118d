-- A sight is all that the step of one entry reads of its own: the header, the course of its lane,
-- its owner's queue and how many entries its owner drew, and the masks or figures that it names.
-- What an entry needs of the rest of the machine is no part of it.
-- For the definitions of `CourseAfter`, `Leaving` and others, and so for the laws `permitted`, `choices` and others;
-- cited by `lb_cell`, `lb_course` and other crates.
use Rattle.std.specs.Prelude.{ℕ, ◌==◌, Option, Some, None, List, map, find}
use Rattle.std.specs.List.{range_with_len}
use Rattle.lb_base.specs.declared.mask.Mask.{Mask}
use Rattle.lb_base.specs.declared.mask.TheConstants.{MAX_CPUS}
use Rattle.lb_base.specs.declared.figure.Fig.{Fig}
use Rattle.lb_base.specs.Mask.{first_cpus}
use Rattle.lb_base.specs.Figures.{no_fig}
use Rattle.lb_nohz.specs.Kick.{tickless_cpus}
use Rattle.lb_queue.specs.Queue.{QueueState}
use Rattle.lb_trace.specs.declared.trace.Header.{Header}
use Rattle.lb_core.specs.declared.course.Course.{Course}
use Rattle.lb_core.specs.declared.entry.CpuFig.{CpuFig}

-- `queue` is the queue that owns the entry, and `count` how many entries its owner drew before (a
-- queue) or how many versions it published after the first (the publisher); `masks` are those of the
-- version that a `use` names, `figs` the figures that a look or a scan names
pub record Sight : Type 0 where
  pub header : Header
  pub course : Course
  pub queue : QueueState
  pub count : ℕ
  pub masks : List Mask
  pub figs : List CpuFig

-- ---- named figures by CPU
abbrev pub fig_or_none : Option CpuFig → Fig
fig_or_none None = no_fig
fig_or_none (Some f) = f.fig

-- one figure for each CPU, from CPU 0; a CPU that is not named has none
unfoldable pub by_cpu : List CpuFig → List Fig
by_cpu figs = map (λ cpu. fig_or_none (find (λ f. f.cpu == cpu) figs)) (range_with_len 0 MAX_CPUS)

-- the CPUs that the figures show tickless
unfoldable pub tickless_in : List CpuFig → Mask
tickless_in figs = tickless_cpus (by_cpu figs) (first_cpus MAX_CPUS)
