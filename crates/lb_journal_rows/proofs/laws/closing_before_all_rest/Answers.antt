-- For `closing_before_all_rest` of src/laws.rt: what the premise `at_rest` is for.
use Rattle.std.proofs.Common.{◌≡◌, ◌∙◌, ap, refl, arith}
use Rattle.lb_core.specs.Legal.{Fault, first_fault}
use Rattle.lb_core.specs.declared.rule.Rule.TheVariants.{Stage}
use Rattle.lb_core.specs.Machine.{start}
use Rattle.lb_rows.specs.Lanes.{closing_before_all_rest_history}
use Rattle.lb_journal_rows.specs.Lists.{by_owner, merged}
use Rattle.lb_journal_rows.specs.Missing.{early_closing_history, after_the_stop}
use Rattle.lb_journal_rows.proofs.Missing.{not_at_rest, closing_meets}
use Rattle.lb_journal_rows.proofs.Premises.{fault_stays}
use Rattle.lb_journal_rows.proofs.ClosedStop.{closed}
use Rattle.lb_journal_rows.proofs.laws.closing_before_all_rest.Goals as goal

pub returns-clause-misses : goal.returns-clause-misses
returns-clause-misses c = not_at_rest

pub returns-clause-closed : goal.returns-clause-closed
returns-clause-closed c = closed

pub returns-clause-others : goal.returns-clause-others
returns-clause-others c = closing_meets

pub returns-clause-breaks : goal.returns-clause-breaks
returns-clause-breaks c =
    let h = early_closing_history.header in
    let fault : Fault = record { ticket = 6; rule = Stage } in
    let back : merged (by_owner early_closing_history) ≡ early_closing_history.entries = refl in
    ap (first_fault h) back
    ∙ fault_stays 1 closing_before_all_rest_history.entries after_the_stop (start h) fault
    c.closing_before_all_rest.ensures (omega arith)
