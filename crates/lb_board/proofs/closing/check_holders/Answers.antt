-- For `check_holders` of src/closing.rt: the same for each CPU.
use Rattle.std.proofs.Common.{rules, ◌≡◌, map, ap, sym, subst, get_or, ◌∙◌}
use mathlib.Core.List.{IsPrefix}
use Rattle.lb_board.specs.Board.{cell_of, seen_by, seen_at, sight_of}
use Rattle.lb_board.proofs.Sights.{same_get, within_both, seen_was, set_back, sight_same, witness_more}
use Rattle.lb_board.proofs.closing.check_holders.Goals as goal

pub check_holder-requires : goal.check_holder-requires
check_holder-requires g c = record {
  cell = (
    same_get c.loop-i.writers c.args.cells.now (λ w. w.cell)
        (λ t. t.table.shared.table_id) c.loop-i.i c.index-writers-i.result c.index-cells-i.result
        (ap (map (λ w. w.cell)) c.loop-i.invariant.0 ∙ c.requires.writers) (search rules)
        c.index-cells-i.is,
    ap cell_of c.index_mut.ensures.value
        ∙ same_get c.loop-i.passes.items c.args.cells.now cell_of
        (λ t. t.table.shared.table_id) c.loop-i.i c.index_mut.result.now c.index-cells-i.result
        (ap (λ s. s.cells) c.loop-i.invariant.1 ∙ c.requires.passes) (search rules)
        c.index-cells-i.is,
  );
}

pub loop-i-preserved : goal.loop-i-preserved
loop-i-preserved g c =
    let i = c.loop-i.i in
    let ps = c.loop-i.passes.items in
    let p = c.index_mut.result.now in
    let lt = within_both ps cell_of c.args.cells.now (λ t. t.table.shared.table_id) i
    (ap (λ s. s.cells) c.loop-i.invariant.1 ∙ c.requires.passes) (search rules) in
    let s = sight_of c.args.passes.now.items in
    let was : seen_at s i ≡ seen_by p = seen_was s ps i p p (sym c.loop-i.invariant.1) lt c.index_mut.ensures.value in (
      set_back c.loop-i.writers i c.check_holder.new.writer c.index-writers-i.result c.check_holder.ensures.writer
          ∙ c.loop-i.invariant.0,
      sight_same ps i p c.check_holder.new.pass c.index_mut.ensures.value c.check_holder.ensures.pass.0
          c.check_holder.ensures.pass.1 ∙ c.loop-i.invariant.1,
      witness_more i c.args.writers.now s c.index-writers-i.result c.loop-i.invariant.2
          (subst (λ l. IsPrefix l (get_or c.args.writers.now i c.index-writers-i.result).figures) (sym was)
          (subst (λ ws. IsPrefix (seen_by p) (get_or ws i c.index-writers-i.result).figures) c.loop-i.invariant.0
          c.check_holder.ensures.seen)),
    )
