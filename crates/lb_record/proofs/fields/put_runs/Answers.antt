-- For `put_runs` of src/fields.rt: the CPUs of a mask behind a comma, as a line of a trace has them: nothing
-- where there are none.
use Rattle.std.proofs.Common.{◌≡◌, ◌∷◌, ◌++◌, [], List, ℕ, false, refl, sym, ap, ◌∙◌, append_assoc}
use Rattle.std.specs.Prelude.{is_none}
use Rattle.lb_base.specs.Sets.{least}
use Rattle.lb_text.specs.Runs.{runs_text}
use Rattle.lb_record.proofs.Empty.{runs_none, list_some}
use Rattle.lb_record.proofs.fields.put_runs.Goals as goal

pub returns-in-None-clause-ok : goal.returns-in-None-clause-ok
returns-in-None-clause-ok c =
    c.in_ok-extend_from_slice.ensures.items
    ∙ ap (λ (t : List ℕ). c.args.to.now.items ++ 44 ∷ t) (sym (runs_none c.args.mask (sym c.first.ensures.value ∙ c.in-None.is)))

pub returns-in-Some-clause-ok : goal.returns-in-Some-clause-ok
returns-in-Some-clause-ok c =
    let some : is_none (least c.args.mask) ≡ false = rw (← c.first.ensures.value, c.in-Some.is) refl in
    rw (
      c.in_ok-extend_from_slice.ensures.items,
      list_some c.args.mask some,
      append_assoc c.args.to.now.items
          (44 ∷ []) (runs_text c.args.mask),
    ) at c.put_list.ensures.ok
