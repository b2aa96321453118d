-- For `pub_item` of src/journal.rt: the publisher answers it.
use Rattle.std.proofs.Common.{rules, ◌≡◌, [], sym, subst}
use Rattle.lb_journal.specs.Journal.{Fits}
use Rattle.lb_thread_tests.proofs.Drawing.{pub_of, pub_fits}
use Rattle.lb_thread_tests.proofs.journal.pub_item.Goals as goal

pub returns-clause-fits : goal.returns-clause-fits
returns-clause-fits c =
    let is : c.new.result ≡ pub_of c.args.header.now c.args.row = search rules in
    subst (Fits []) (sym is) (pub_fits c.args.header.now c.args.row c.requires.lanes c.requires.row)
