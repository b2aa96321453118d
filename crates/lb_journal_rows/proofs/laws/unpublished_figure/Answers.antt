-- For `unpublished_figure` of src/laws.rt: what the premise `figures` is for.
use Rattle.std.proofs.Common.{◌≡◌, ◌∙◌, ap, refl, arith}
use Rattle.lb_core.specs.Legal.{Fault, first_fault}
use Rattle.lb_core.specs.declared.rule.Rule.TheVariants.{Figure}
use Rattle.lb_core.specs.Machine.{start}
use Rattle.lb_rows.specs.Faults.{unpublished_figure_history}
use Rattle.lb_journal_rows.specs.Lists.{merged}
use Rattle.lb_journal_rows.specs.Missing.{early_look_history, early_look_lists, after_the_look}
use Rattle.lb_journal_rows.proofs.Missing.{unpublished, look_meets}
use Rattle.lb_journal_rows.proofs.Premises.{fault_stays}
use Rattle.lb_journal_rows.proofs.ClosedLook.{closed}
use Rattle.lb_journal_rows.proofs.laws.unpublished_figure.Goals as goal

pub returns-clause-misses : goal.returns-clause-misses
returns-clause-misses c = unpublished

pub returns-clause-closed : goal.returns-clause-closed
returns-clause-closed c = closed

pub returns-clause-others : goal.returns-clause-others
returns-clause-others c = look_meets

pub returns-clause-breaks : goal.returns-clause-breaks
returns-clause-breaks c =
    let h = early_look_history.header in
    let fault : Fault = record { ticket = 5; rule = Figure } in
    let back : merged early_look_lists ≡ early_look_history.entries = refl in
    ap (first_fault h) back
    ∙ fault_stays 1 unpublished_figure_history.entries after_the_look (start h) fault c.unpublished_figure.ensures (omega arith)
