-- What contracts see of a board, of a writer and of a reader: which figures were published, and which of them were
-- seen. A figure's number is its place among those of its CPU, from 0 for the opening one.
-- Cited by the contracts of `Board::new`, `look`, `look_told` and others; also by `lb_cell`, `lb_cpu` and other
-- crates.
use Rattle.std.specs.Prelude.{◌≡◌, ℕ, ◌+◌, ◌<◌, ◌≤◌, ◌^◌, true, List, [], ◌∷◌, ◌++◌, length, Some, slice_get, slice_set, map}
use Rattle.std.specs.List.{slice_index_or}
use mathlib.Core.List.{IsPrefix}
use Rattle.atomic_table.specs.Seated.{TableId}
use Rattle.atomic_table.specs.declared.shared.Seat.{Seat}
use Rattle.crossbeam_utils.specs.declared.atomic.seq_cell.Doing.{Doing}
use Rattle.crossbeam_utils.specs.Seq.{cell_view}
use Rattle.lb_base.specs.declared.figure.Fig.{Fig}
use Rattle.lb_seen.specs.declared.view.View.{View}
use Rattle.lb_board.specs.declared.posted.Posted.{Posted}

-- ---- figures
-- the figure is the last of these, and its number is its place
abbrev pub Ends : Fig → List Fig → Type 0
Ends fig figures = (slice_get figures fig.n ≡ Some fig) × (length figures ≡ fig.n + 1)

-- what stands in a cell, by all figures that were published there
abbrev pub Posts : Posted → List Fig → Type 0
Posts p figures = Ends p.fig figures

-- no task has a signal yet
abbrev pub opening : Fig
opening = record { n = 0; ticket = 0; nr = 0; load = 0; util = 0; runnable = 0; flags = 0 }

-- ---- a writer
-- its CPU, that CPU's cell, and all figures that were published there
pub record WriterIs : Type 0 where
  pub cpu : ℕ
  pub cell : TableId
  pub figures : List Fig

-- the writer is that of its CPU on the board
abbrev pub IsOfBoard : List TableId → WriterIs → Type 0
IsOfBoard board w = slice_get board w.cpu ≡ Some w.cell

abbrev pub add_figure : WriterIs → Fig → WriterIs
add_figure w fig = record { cpu = w.cpu; cell = w.cell; figures = w.figures ++ fig ∷ [] }

-- ---- a reader
-- the cells of all CPUs, and the figures of each CPU that were seen
pub record Sight : Type 0 where
  pub cells : List TableId
  pub seen : List (List Fig)

abbrev pub seen_at : Sight → ℕ → List Fig
seen_at s cpu = slice_index_or s.seen cpu []

-- of one CPU these were seen, and of the others what was seen before
abbrev pub see : Sight → ℕ → List Fig → Sight
see s cpu figures = record { cells = s.cells; seen = slice_set s.seen cpu figures }

-- ---- the holders of a cell, which writers and readers are made of
abbrev pub Holder : Type 0
Holder = Seat Posted (Doing Posted (View Fig))

abbrev pub cell_of : Holder → TableId
cell_of p = p.table_id

abbrev pub seen_by : Holder → List Fig
seen_by p = (cell_view p).seen

-- one holder for each CPU
abbrev pub sight_of : List Holder → Sight
sight_of ps = record { cells = map cell_of ps; seen = map seen_by ps }

-- it writes, and there are few enough figures for their numbers
abbrev pub IsWriting : Holder → Type 0
IsWriting p = ((cell_view p).writes ≡ true) × (length (seen_by p) ≤ 2 ^ 40)

-- ---- a new board
-- the opening figure alone was published
abbrev pub first_writer : ℕ → TableId → WriterIs
first_writer cpu cell = record { cpu = cpu; cell = cell; figures = opening ∷ [] }

-- one for each cell, from CPU k on
abbrev pub first_writers : ℕ → List TableId → List WriterIs
first_writers k [] = []
first_writers k (t ∷ ts) = first_writer k t ∷ first_writers (k + 1) ts

-- all that these writers published was seen
abbrev pub sight_of_all : List WriterIs → Sight
sight_of_all ws = record { cells = map (λ w. w.cell) ws; seen = map (λ w. w.figures) ws }

-- ---- the end of a board
-- of each of the first n CPUs, what was seen is a beginning of what was published
abbrev pub Witnesses : ℕ → List WriterIs → Sight → Type 0
Witnesses n ws s = (k : ℕ) (w : WriterIs) → k < n → slice_get ws k ≡ Some w → IsPrefix (seen_at s k) w.figures
