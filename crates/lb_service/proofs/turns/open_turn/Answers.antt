-- For `open_turn` of src/turns.rt: opens a turn; true where it is open, and false where none is: another is,
-- or a push has to come first.
use Rattle.std.proofs.Common.{◌≡◌, subst, ◌∙◌, ap}
use Rattle.lb_lane.specs.declared.turns.Began.{Began}
use Rattle.lb_lane.specs.declared.turns.Began.TheVariants.{Turn}
use Rattle.lb_cpu.specs.Turns.{BeganThere}
use Rattle.lb_queue.specs.declared.answers.TurnReply.TheVariants.{Opened, TurnOpen}
use Rattle.lb_journal.specs.contracts.journal.Journal.{the_row}
use Rattle.lb_service.proofs.Entries.{serving_empty_handed, turning_empty_handed}
use Rattle.lb_service.proofs.Turning.{began_open, began_push, began_shut, due_kicks, push_same, turn_same}
use Rattle.lb_service.proofs.turns.open_turn.Goals as goal

pub returns-in-Turn-Opened-clause-began : goal.returns-in-Turn-Opened-clause-began
returns-in-Turn-Opened-clause-began g c =
    let n = g.N.Names in
    let l = c.args.lane.now in
    let i = c.in-Turn-Opened in
    began_open n.header n.book n.board the_row.coded l c.turn.new.lane c.args.kind c.args.cpu i.field-0-0 c.requires.declared
    (due_kicks n.header l.side.course c.args.kind c.args.cpu c.requires.serving c.requires.due)
    (subst (λ (b : Began). BeganThere n.header n.book n.board the_row.coded c.args.lane.now c.turn.new.lane c.args.kind
    c.args.cpu b)
    (c.in-Turn-Opened.is ∙ ap Turn c.in-Turn-Opened.field-0-is) c.in_ok-turn.ensures.ok)

pub returns-in-Turn-Opened-clause-rows : goal.returns-in-Turn-Opened-clause-rows
returns-in-Turn-Opened-clause-rows g c =
    let n = g.N.Names in
    let i = c.in-Turn-Opened in
    turn_same n.header n.book n.board the_row.coded c.args.lane.now c.turn.new.lane c.args.kind c.args.cpu (Opened i.field-0-0)
    (subst (λ (b : Began). BeganThere n.header n.book n.board the_row.coded c.args.lane.now c.turn.new.lane c.args.kind
    c.args.cpu b)
    (c.in-Turn-Opened.is ∙ ap Turn c.in-Turn-Opened.field-0-is) c.in_ok-turn.ensures.ok)

pub returns-in-Turn-Opened-clause-empty_handed : goal.returns-in-Turn-Opened-clause-empty_handed
returns-in-Turn-Opened-clause-empty_handed g c =
    turning_empty_handed g.N.Names.header c.turn.new.lane.side.course (returns-in-Turn-Opened-clause-began g c)

pub returns-in-Turn-TurnOpen-clause-began : goal.returns-in-Turn-TurnOpen-clause-began
returns-in-Turn-TurnOpen-clause-began g c =
    let n = g.N.Names in
    let l = c.args.lane.now in
    began_shut n.header n.book n.board the_row.coded l c.turn.new.lane c.args.kind c.args.cpu
    (due_kicks n.header l.side.course c.args.kind c.args.cpu c.requires.serving c.requires.due)
    (subst (λ (b : Began). BeganThere n.header n.book n.board the_row.coded c.args.lane.now c.turn.new.lane c.args.kind
    c.args.cpu b)
    (c.in-Turn-TurnOpen.is ∙ ap Turn c.in-Turn-TurnOpen.field-0-is) c.in_ok-turn.ensures.ok)

pub returns-in-Turn-TurnOpen-clause-rows : goal.returns-in-Turn-TurnOpen-clause-rows
returns-in-Turn-TurnOpen-clause-rows g c =
    let n = g.N.Names in
    turn_same n.header n.book n.board the_row.coded c.args.lane.now c.turn.new.lane c.args.kind c.args.cpu TurnOpen
    (subst (λ (b : Began). BeganThere n.header n.book n.board the_row.coded c.args.lane.now c.turn.new.lane c.args.kind
    c.args.cpu b)
    (c.in-Turn-TurnOpen.is ∙ ap Turn c.in-Turn-TurnOpen.field-0-is) c.in_ok-turn.ensures.ok)

pub returns-in-Turn-TurnOpen-clause-empty_handed : goal.returns-in-Turn-TurnOpen-clause-empty_handed
returns-in-Turn-TurnOpen-clause-empty_handed g c =
    serving_empty_handed g.N.Names.header c.turn.new.lane.side.course (returns-in-Turn-TurnOpen-clause-began g c)

pub returns-in-PushFirst-clause-began : goal.returns-in-PushFirst-clause-began
returns-in-PushFirst-clause-began g c =
    let n = g.N.Names in
    began_push n.header n.book n.board the_row.coded c.args.lane.now c.turn.new.lane c.args.kind c.args.cpu c.in-PushFirst.field-0
    c.requires.serving (subst (λ (b : Began). BeganThere n.header n.book n.board the_row.coded c.args.lane.now
    c.turn.new.lane c.args.kind c.args.cpu b)
    c.in-PushFirst.is c.in_ok-turn.ensures.ok)

pub returns-in-PushFirst-clause-rows : goal.returns-in-PushFirst-clause-rows
returns-in-PushFirst-clause-rows g c =
    let n = g.N.Names in
    push_same n.header n.book n.board the_row.coded c.args.lane.now c.turn.new.lane c.args.kind c.args.cpu c.in-PushFirst.field-0
    (subst (λ (b : Began). BeganThere n.header n.book n.board the_row.coded c.args.lane.now c.turn.new.lane c.args.kind
    c.args.cpu b)
    c.in-PushFirst.is c.in_ok-turn.ensures.ok)

pub returns-in-PushFirst-clause-empty_handed : goal.returns-in-PushFirst-clause-empty_handed
returns-in-PushFirst-clause-empty_handed g c =
    serving_empty_handed g.N.Names.header c.turn.new.lane.side.course (returns-in-PushFirst-clause-began g c)
