-- For `put_summary` of src/text.rt: appends the lines of a summary.
use Rattle.lb_summary.specs.Text.{text_of}
use Rattle.lb_summary.proofs.Texts.{followed}
use Rattle.lb_summary.proofs.text.put_summary.Goals as goal

pub returns : goal.returns
unfolding text_of
returns c =
    let two = followed _ _ _ _ _ c.in_ok-put_count.ensures c.in_ok-put_count-2.ensures in
    let three = followed _ _ _ _ _ two c.in_ok-put_pulled.ensures in
    let four = followed _ _ _ _ _ three c.in_ok-put_count-3.ensures in
    followed _ _ _ _ _ four c.in_ok-put_count-4.ensures
