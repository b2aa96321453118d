-- What all threads share: one header, one ticket book and one board.
-- What contracts see of the type `Shared`.
use Rattle.std.specs.Prelude.{◌≡◌, ◌≤◌, List, length}
use Rattle.atomic_table.specs.Seated.{TableId}
use Rattle.lb_base.specs.declared.mask.TheConstants.{MAX_CPUS}
use Rattle.lb_trace.specs.declared.trace.Header.{Header}

pub record SharedIs : Type 0 where
  pub header : Header
  pub book : TableId
  pub board : List TableId

-- they are those that are named, of a machine of few CPUs
pub record IsShared (h : Header) (book : TableId) (board : List TableId) (s : SharedIs) : Type 0 where
  pub header_is : s.header ≡ h
  pub book_is : s.book ≡ book
  pub board_is : s.board ≡ board
  pub few : length h.cpus ≤ MAX_CPUS
