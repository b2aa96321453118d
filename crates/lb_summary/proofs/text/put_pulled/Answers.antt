-- For `put_pulled` of src/text.rt: appends the lines of what was pulled.
use Rattle.lb_summary.specs.Text.{pulled_text}
use Rattle.lb_summary.proofs.Texts.{followed}
use Rattle.lb_summary.proofs.text.put_pulled.Goals as goal

pub returns : goal.returns
unfolding pulled_text
returns c =
    let two = followed _ _ _ _ _ c.in_ok-put_count.ensures c.in_ok-put_count-2.ensures in
    let three = followed _ _ _ _ _ two c.in_ok-put_count-3.ensures in
    followed _ _ _ _ _ three c.in_ok-put_count-4.ensures
