-- For `row_item` of src/journal.rt: lane 0 takes up its first row.
use Rattle.std.proofs.Common.{rules, ◌≡◌, [], sym, subst}
use Rattle.lb_journal.specs.Journal.{Fits}
use Rattle.lb_thread_tests.proofs.Drawing.{row_of, row_fits}
use Rattle.lb_thread_tests.proofs.journal.row_item.Goals as goal

pub returns-clause-fits : goal.returns-clause-fits
returns-clause-fits c =
    let is : c.new.result ≡ row_of c.args.header.now = search rules in
    subst (Fits []) (sym is) (row_fits c.args.header.now c.requires.lanes)
