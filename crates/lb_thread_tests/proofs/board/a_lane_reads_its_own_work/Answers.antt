-- For `a_lane_reads_its_own_work` of src/board.rt.
use Rattle.std.proofs.Common.{◌≡◌, ℕ, zero, suc, ◌<◌, List, [], ◌∷◌, length, map, replicate, get_or, slice_get, set, refl, ap, sym, subst, arith, ◌∙◌}
use Rattle.atomic_table.specs.Seated.{TableId}
use Rattle.lb_board.specs.Board.{IsOfBoard, Sight, WriterIs, first_writer, first_writers, sight_of_all}
use Rattle.lb_thread_tests.proofs.board.a_lane_reads_its_own_work.Goals as goal

-- a board of one CPU: its cell and its writer
record Single (board : List TableId) (writers : List WriterIs) : Type 0 where
  cell : TableId
  board_is : board ≡ cell ∷ []
  writers_is : writers ≡ first_writer 0 cell ∷ []

single : (ts : List TableId) (ws : List WriterIs) → length ts ≡ 1 → ws ≡ first_writers 0 ts → Single ts ws
single [] ws e is = absurd (omega (arith, e))
single (t ∷ []) ws e is = record { cell = t; board_is = refl; writers_is = is }
single (t ∷ u ∷ ts) ws e is = absurd (omega (arith, e))

-- its writer and its reader
module _ (ts : List TableId) (ws : List WriterIs) (one : Single ts ws) where
  first_is : (w : WriterIs) → w ≡ get_or ws 0 w → w ≡ first_writer 0 one.cell
  first_is w e = e ∙ ap (λ l. get_or l 0 w) one.writers_is

  first_of_board : (w : WriterIs) → w ≡ get_or ws 0 w → IsOfBoard ts w
  first_of_board w e = subst (IsOfBoard ts) (sym (first_is w e)) (ap (λ l. slice_get l 0) one.board_is)

  cells_are : (rs : List Sight) (r : Sight) → rs ≡ replicate 1 (sight_of_all ws) → r ≡ get_or rs 0 r → r.cells ≡ ts
  cells_are rs r is e = ap (λ s. s.cells) (e ∙ ap (λ l. get_or l 0 r) is)
      ∙ (ap (λ l. map (λ v. v.cell) l) one.writers_is ∙ sym one.board_is)

all_one : (xs : List Sight) (s : Sight) (board : List TableId) → xs ≡ s ∷ [] → s.cells ≡ board → (k : ℕ) (d : Sight)
    → k < length xs → (get_or xs k d).cells ≡ board
all_one [] s board e at k d lt = absurd (omega arith)
all_one (x ∷ xs) s board e at zero d lt = ap (λ l. (get_or l 0 d).cells) e ∙ at
all_one (x ∷ xs) s board e at (suc k) d lt = absurd (omega (arith, ap length e))

pub index_mut-requires : goal.index_mut-requires
index_mut-requires g c =
    let one = single c.in_ok-board.board c.in_ok-board.writers.items c.in_ok-board.ensures.board c.in_ok-board.ensures.writers in
    omega (arith, c.in_ok-board.writers.ok.0, ap length one.writers_is)

pub index_mut-requires-3 : goal.index_mut-requires-3
index_mut-requires-3 g c =
    let one = single c.in_ok-board.board c.in_ok-board.writers.items c.in_ok-board.ensures.board c.in_ok-board.ensures.writers in
    omega (arith, c.in_ok-board.writers.ok.0, ap length one.writers_is)

pub publish-requires-clause-board : goal.publish-requires-clause-board
publish-requires-clause-board g c = first_of_board c.in_ok-board.board c.in_ok-board.writers.items
    (single c.in_ok-board.board c.in_ok-board.writers.items c.in_ok-board.ensures.board c.in_ok-board.ensures.writers)
    c.index_mut.result.now c.index_mut.ensures.value

pub publish-requires-clause-next : goal.publish-requires-clause-next
publish-requires-clause-next g c =
    let is = first_is c.in_ok-board.board c.in_ok-board.writers.items
    (single c.in_ok-board.board c.in_ok-board.writers.items c.in_ok-board.ensures.board
    c.in_ok-board.ensures.writers) c.index_mut.result.now c.index_mut.ensures.value in
    (ap (λ v. length v.figures) (sym is), omega arith)

pub told-requires : goal.told-requires
told-requires g c =
    let one = single c.in_ok-board.board c.in_ok-board.writers.items c.in_ok-board.ensures.board c.in_ok-board.ensures.writers in
    let w : WriterIs = c.index_mut-3.result.now in
    let is : w ≡ c.publish.new.self = c.index_mut-3.ensures.value
    ∙ ap (λ l. get_or (set l 0 c.publish.new.self) 0 w) one.writers_is in
    record {
      board = (
        cells_are c.in_ok-board.board c.in_ok-board.writers.items one c.in_ok-board.readers.items
            c.index_mut-2.result.now c.in_ok-board.ensures.readers c.index_mut-2.ensures.value,
        subst (IsOfBoard c.in_ok-board.board) (sym (is ∙ c.publish.ensures))
            (first_of_board c.in_ok-board.board c.in_ok-board.writers.items one c.index_mut.result.now c.index_mut.ensures.value),
      );
    }

pub read-requires : goal.read-requires
read-requires g c =
    let r : Sight = c.index_mut-4.result.now in
    let is : r ≡ c.told.new.self = c.index_mut-4.ensures.value
    ∙ ap (λ l. get_or (set l 0 c.told.new.self) 0 r) c.in_ok-board.ensures.readers in
    record {
      board = (
        ap (λ s. s.cells) (is ∙ c.told.ensures.others)
            ∙ cells_are c.in_ok-board.board c.in_ok-board.writers.items
            (single c.in_ok-board.board c.in_ok-board.writers.items c.in_ok-board.ensures.board
            c.in_ok-board.ensures.writers) c.in_ok-board.readers.items c.index_mut-2.result.now
            c.in_ok-board.ensures.readers c.index_mut-2.ensures.value,
        omega (arith, c.in_ok-board.ensures.board),
      );
    }

pub gather-requires-clause-writers : goal.gather-requires-clause-writers
gather-requires-clause-writers g c =
    let one = single c.in_ok-board.board c.in_ok-board.writers.items c.in_ok-board.ensures.board c.in_ok-board.ensures.writers in
    let w : WriterIs = c.index_mut-3.result.now in
    let is : w ≡ c.publish.new.self = c.index_mut-3.ensures.value
    ∙ ap (λ l. get_or (set l 0 c.publish.new.self) 0 w) one.writers_is in
    let first = first_is c.in_ok-board.board c.in_ok-board.writers.items one c.index_mut.result.now c.index_mut.ensures.value in
    ap (λ l. map (λ v. v.cell) (set (set l 0 c.publish.new.self) 0 c.told.new.writer)) one.writers_is
    ∙ (ap (λ v. v.cell ∷ []) (c.told.ensures.writer ∙ (is ∙ c.publish.ensures))
    ∙ (ap (λ v. v.cell ∷ []) first ∙ sym one.board_is))

pub gather-requires-clause-readers : goal.gather-requires-clause-readers
gather-requires-clause-readers g c =
    let r : Sight = c.index_mut-4.result.now in
    let is : r ≡ c.told.new.self = c.index_mut-4.ensures.value
    ∙ ap (λ l. get_or (set l 0 c.told.new.self) 0 r) c.in_ok-board.ensures.readers in
    all_one (set (set c.in_ok-board.readers.items 0 c.told.new.self) 0 c.read.new.self) c.read.new.self
    c.in_ok-board.board (ap (λ l. set (set l 0 c.told.new.self) 0 c.read.new.self) c.in_ok-board.ensures.readers)
    (ap (λ s. s.cells) c.read.ensures.others
    ∙ (ap (λ s. s.cells) (is ∙ c.told.ensures.others)
    ∙ cells_are c.in_ok-board.board c.in_ok-board.writers.items
    (single c.in_ok-board.board c.in_ok-board.writers.items c.in_ok-board.ensures.board
    c.in_ok-board.ensures.writers) c.in_ok-board.readers.items c.index_mut-2.result.now
    c.in_ok-board.ensures.readers c.index_mut-2.ensures.value))
