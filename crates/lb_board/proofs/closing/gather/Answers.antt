-- For `gather` of src/closing.rt: spends the board, its writers and its readers, and answers how many figures
-- were published, the opening ones not counted.
use Rattle.std.proofs.Common.{rules, ◌≡◌, ℕ, length, ap, sym, subst, get_or, arith, ◌∙◌}
use Rattle.std.proofs.lemmas.List.{length-map}
use mathlib.Core.Logic.{dite}
use native.Mathlib.Decide.{ℕ_discrete}
use Rattle.lb_board.specs.Board.{Sight, Witnesses}
use Rattle.lb_board.proofs.Sights.{any_default, put_back, set_back}
use Rattle.lb_board.proofs.closing.gather.Goals as goal

pub loop-j-preserved : goal.loop-j-preserved
loop-j-preserved g c =
    let j = c.loop-j.j in
    let p : Sight = c.index_mut.result.now in
    let ws = c.args.writers.items in
    let rs = c.args.readers.items in
    let n : length c.as_slice.result.now ≡ length c.args.board = ap length c.as_slice.ensures.value
    ∙ (sym (length-map c.board.inside.cells.items (λ t. t.table.shared.table_id)) ∙ ap length c.board.view_is) in
    let seen : Witnesses (length c.args.board) ws p =
    subst (λ (m : ℕ). Witnesses m ws p) n
    (subst (λ w. Witnesses (length c.as_slice.result.now) w p)
    (c.as_mut_slice.ensures.value ∙ c.loop-j.invariant.0) c.check_reader.ensures.seen) in
    let here : p ≡ get_or rs j p = c.index_mut.ensures.value ∙ ap (λ l. get_or l j p) c.loop-j.invariant.1 in (
      put_back c.loop-j.writers.items c.check_reader.new.writers c.loop-j.writers.len
          (c.check_reader.ensures.writers ∙ c.as_mut_slice.ensures.value) (search rules) ∙ c.loop-j.invariant.0,
      set_back c.loop-j.readers.items j c.check_reader.new.reader p
          (c.check_reader.ensures.reader ∙ c.index_mut.ensures.value) ∙ c.loop-j.invariant.1,
      λ k d lt. dite (ℕ_discrete k j)
          (λ (e : k ≡ j). subst (λ (i : ℕ). Witnesses (length c.args.board) ws (get_or rs i d)) (sym e)
          (subst (Witnesses (length c.args.board) ws) (here ∙ any_default rs j p d (search rules)) seen))
          (λ ne. c.loop-j.invariant.2 k d (omega (arith, ne))),
    )
