-- The figures that a look or a scan reads, one of each CPU that is due, and their numbers.
-- Cited by the contracts of `enter_above`, `read_all`, `mark_above_all` and others.
use Rattle.std.specs.Prelude.{ℕ, ◌≡◌, ◌+◌, ◌<◌, ◌≤◌, List, [], Some, length, map, slice_get, All}
use Rattle.lb_base.specs.declared.figure.Fig.{Fig}
use Rattle.lb_base.specs.declared.mask.Mask.{Mask}
use Rattle.lb_base.specs.Mask.{members}
use Rattle.lb_trace.specs.declared.trace.Header.{Header}
use Rattle.lb_core.specs.declared.entry.CpuFig.{CpuFig}
use Rattle.lb_core.specs.declared.entry.What.{What}
use Rattle.lb_board.specs.Board.{Sight, seen_at}
use Rattle.lb_cell.specs.Cells.{LaneIs as SideIs}
use Rattle.lb_cell.specs.Reads.{SeesMore}
use Rattle.lb_lane.specs.Own.{Drew}
use Rattle.lb_lane.specs.declared.sums.Number.{Number}
use Rattle.lb_lane.specs.declared.sums.Number.TheVariants.{Nr, Load, Util, Runnable}

-- a number of a figure
abbrev pub number_of : Number → Fig → ℕ
number_of Nr fig = fig.nr
number_of Load fig = fig.load
number_of Util fig = fig.util
number_of Runnable fig = fig.runnable

-- the figure was seen under its number, and is none before those that were seen already
pub record IsRead (before now : Sight) (f : CpuFig) : Type 0 where
  pub is : slice_get (seen_at now f.cpu) f.fig.n ≡ Some f.fig
  pub later : length (seen_at before f.cpu) ≤ f.fig.n + 1

-- one of each of these CPUs, in their order
pub record AreOf (before now : Sight) (cpus : List ℕ) (figs : List CpuFig) : Type 0 where
  pub cpus_are : map (λ f. f.cpu) figs ≡ cpus
  pub read : All (IsRead before now) figs

-- their tickets are below this one
abbrev pub AllEarlier : ℕ → List CpuFig → Type 0
AllEarlier ticket figs = All (λ f. f.fig.ticket < ticket) figs

-- the figures of these CPUs of a machine were read in this call, and the entry that names them was drawn above their
-- tickets
pub record DrewAbove (h : Header) (cpus : ℕ) (due : Mask) (l l' : SideIs) (what : List CpuFig → What) : Type 0 where
  pub figs : List CpuFig
  pub inside : All (λ f. f.cpu < cpus) figs
  pub ticket : ℕ
  pub drew : Drew h l l' (what figs) [] figs ticket
  pub read : AreOf l.known.reader l'.known.reader (members due) figs
  pub earlier : AllEarlier ticket figs
  pub sees : SeesMore l.known.reader l'.known.reader

-- of a lane only what it has seen is other
pub record OnlySees (l l' : SideIs) : Type 0 where
  pub seat : l'.seat ≡ l.seat
  pub course : l'.course ≡ l.course
  pub number : l'.number ≡ l.number
  pub ticket : l'.known.ticket ≡ l.known.ticket
  pub landing : l'.landing ≡ l.landing

-- so, and what it has seen of each CPU is as much or more
abbrev pub Sees : SideIs → SideIs → Type 0
Sees l l' = OnlySees l l' × SeesMore l.known.reader l'.known.reader
