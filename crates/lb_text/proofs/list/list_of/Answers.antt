-- For `list_of` of src/list.rt: the CPUs that a list names: none where it is empty, else those of its items,
-- which are split by `;`.
use Rattle.std.proofs.Common.{◌≡◌, List, ℕ, length, subst, sym, arith, rules}
use Rattle.std.proofs.lemmas.Bool.{eqb-true, eqb-false}
use Rattle.lb_text.proofs.Taken.{IsReading, bad_list, list_fits, reading_none, reading_more, reading_ends, list_of_none}
use Rattle.lb_text.proofs.list.list_of.Goals as goal

pub returns-then-is_empty-clause-list : goal.returns-then-is_empty-clause-list
returns-then-is_empty-clause-list c = list_of_none c.args.text.now c.none-mask.result
    (eqb-true (length c.args.text.now) 0 (sym c.if-is_empty.ensures)) c.none-mask.ensures.value

pub loop-item-init : goal.loop-item-init
loop-item-init c =
    let some : length c.args.text.now ≡ 0 → ⊥ = eqb-false (length c.args.text.now) 0 (sym c.if-is_empty.ensures) in
    rw c.new-items.ensures (reading_none c.args.text.now c.none-mask.result (omega (arith, some)) (search rules)
    c.none-mask.ensures.cpus)

pub overflow_add-result : goal.overflow_add-result
overflow_add-result c =
    let r = subst (λ (ps : List (List ℕ)). IsReading c.args.text.now ps c.loop-item.start c.loop-item.mask)
    c.in-Some.ensures c.loop-item.invariant in
    let fits = list_fits c.args.text.now c.next_piece.new.self c.loop-item.start c.loop-item.mask c.in-Some.item.now r in
    let within = c.in-Err.ensures.place.within in
    search rules

pub returns-in-Err-clause-refused : goal.returns-in-Err-clause-refused
returns-in-Err-clause-refused c =
    let r = subst (λ (ps : List (List ℕ)). IsReading c.args.text.now ps c.loop-item.start c.loop-item.mask)
    c.in-Some.ensures c.loop-item.invariant in
    let e = c.in-Err.ensures in
    (bad_list c.args.text.now c.next_piece.new.self c.loop-item.start c.loop-item.mask c.in-Some.item.now
    c.in-Err.bad.at r (e.refused, e.place)).0

pub returns-in-Err-clause-place : goal.returns-in-Err-clause-place
returns-in-Err-clause-place c =
    let r = subst (λ (ps : List (List ℕ)). IsReading c.args.text.now ps c.loop-item.start c.loop-item.mask)
    c.in-Some.ensures c.loop-item.invariant in
    let e = c.in-Err.ensures in
    (bad_list c.args.text.now c.next_piece.new.self c.loop-item.start c.loop-item.mask c.in-Some.item.now
    c.in-Err.bad.at r (e.refused, e.place)).1

pub overflow_add-start-in-Some : goal.overflow_add-start-in-Some
overflow_add-start-in-Some c =
    let r = subst (λ (ps : List (List ℕ)). IsReading c.args.text.now ps c.loop-item.start c.loop-item.mask)
    c.in-Some.ensures c.loop-item.invariant in
    let fits = list_fits c.args.text.now c.next_piece.new.self c.loop-item.start c.loop-item.mask c.in-Some.item.now r in
    search rules

pub loop-item-preserved : goal.loop-item-preserved
loop-item-preserved c =
    let r = subst (λ (ps : List (List ℕ)). IsReading c.args.text.now ps c.loop-item.start c.loop-item.mask)
    c.in-Some.ensures c.loop-item.invariant in
    reading_more c.args.text.now c.next_piece.new.self c.loop-item.start c.in-Ok.run'.0 c.in-Ok.run'.1 c.loop-item.mask
    c.run_of.result c.or-mask.result c.in-Some.item.now r c.in-Ok.ensures.item c.run_of.ensures (search rules)
    c.or-mask.ensures.cpus

pub returns-clause-list : goal.returns-clause-list
returns-clause-list c =
    let r = subst (λ (ps : List (List ℕ)). IsReading c.args.text.now ps c.loop-item.start c.loop-item.mask)
    c.in_default.ensures.0 c.loop-item.invariant in
    reading_ends c.args.text.now c.loop-item.start c.loop-item.mask r
