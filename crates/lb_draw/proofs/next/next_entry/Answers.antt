-- For `next_entry` of src/next.rt: the entry that a lane draws next with the newest version and figures.
use Rattle.std.proofs.Common.{◌∙◌}
use Rattle.std.proofs.lemmas.Result.{IfOk-weaker}
use Rattle.lb_draw.proofs.Coming.{drawn_serial, own_row}
use Rattle.lb_draw.proofs.next.next_entry.Goals as goal

pub returns-clause-drawn : goal.returns-clause-drawn
returns-clause-drawn c =
    IfOk-weaker c.next_of.result _ _
    (λ drawn h. drawn_serial c.next_entries.ensures.serial c.args.engine.now.machine c.args.lane _ drawn
    c.requires.ready (own_row c.args.row c.args.lane c.requires.own) h)
    c.next_of.ensures

pub returns-clause-all : goal.returns-clause-all
returns-clause-all c =
    IfOk-weaker c.next_of.result _ _
    (λ drawn h e s. h ∙ c.next_entries.ensures.all c.args.engine.now.machine c.args.lane _ e c.requires.ready
    (own_row c.args.row c.args.lane c.requires.own) s)
    c.next_of.ensures
