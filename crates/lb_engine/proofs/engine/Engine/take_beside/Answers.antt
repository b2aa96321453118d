-- For `Engine::take_beside` of src/engine/take.rt: the step of an entry of a lane or the publisher, but for
-- the last tickets.
use Rattle.std.proofs.Common.{◌≡◌, OnOk, List, ap, sym, subst, ◌∙◌}
use Rattle.lb_core.specs.declared.entry.FigName.{FigName}
use Rattle.lb_core.specs.declared.entry.What.{What}
use Rattle.lb_core.specs.declared.entry.What.TheVariants as what
use Rattle.lb_core.specs.Machine.{MachineState}
use Rattle.lb_engine.specs.Steps.{becomes, entry_of, of_lane, stepped}
use Rattle.lb_engine.proofs.Beside.{row_beside, use_beside, look_beside, scan_beside, end_beside, pub_beside}
use Rattle.lb_engine.proofs.engine.Engine.take_beside.Goals as goal

pub returns-in-Row-clause-ok : goal.returns-in-Row-clause-ok
returns-in-Row-clause-ok c =
    let m = c.args.self.now.machine in
    let e = row_beside c.args.owner m c.args.lane c.in-Row.number c.in-Row.at c.in-Row.command c.requires.owner
    ∙ ap (λ (w : What). stepped m (entry_of c.args.owner c.args.lane w)) (sym c.in-Row.is) in
    let P : MachineState → Type 0 = λ x. OnOk c.take_row.result (c.take_row.new.self ≡ becomes x c.args.self.now) in
    subst P e c.take_row.ensures.ok

pub returns-in-Adopt-clause-ok : goal.returns-in-Adopt-clause-ok
returns-in-Adopt-clause-ok c =
    let m = c.args.self.now.machine in
    let e = use_beside c.args.owner m c.args.lane c.in-Adopt.version c.in-Adopt.kind c.in-Adopt.cpu c.requires.owner
    ∙ ap (λ (w : What). stepped m (entry_of c.args.owner c.args.lane w)) (sym c.in-Adopt.is) in
    let P : MachineState → Type 0 = λ x. OnOk c.take_use.result (c.take_use.new.self ≡ becomes x c.args.self.now) in
    subst P e c.take_use.ensures.ok

pub returns-in-Look-clause-ok : goal.returns-in-Look-clause-ok
returns-in-Look-clause-ok c =
    let m = c.args.self.now.machine in
    let e = ap (λ (fs : List FigName). stepped m
    (of_lane c.args.lane (what.Look c.in-Look.position c.in-Look.excluded fs c.in-Look.decision)))
    c.as_slice.ensures ∙ look_beside c.args.owner m c.args.lane c.in-Look.position c.in-Look.excluded
    c.in-Look.figures c.in-Look.decision c.requires.owner
    ∙ ap (λ (w : What). stepped m (entry_of c.args.owner c.args.lane w)) (sym c.in-Look.is) in
    let P : MachineState → Type 0 = λ x. OnOk c.take_look.result (c.take_look.new.self ≡ becomes x c.args.self.now) in
    subst P e (c.take_look.ensures.ok c.in-Look.position c.in-Look.excluded)

pub returns-in-Scan-clause-ok : goal.returns-in-Scan-clause-ok
returns-in-Scan-clause-ok c =
    let m = c.args.self.now.machine in
    let e = ap (λ (fs : List FigName). stepped m (of_lane c.args.lane (what.Scan fs c.in-Scan.target)))
    c.as_slice-in-Scan.ensures ∙ scan_beside c.args.owner m c.args.lane c.in-Scan.figures c.in-Scan.target
    c.requires.owner ∙ ap (λ (w : What). stepped m (entry_of c.args.owner c.args.lane w)) (sym c.in-Scan.is) in
    let P : MachineState → Type 0 = λ x. OnOk c.take_scan.result (c.take_scan.new.self ≡ becomes x c.args.self.now) in
    subst P e c.take_scan.ensures.ok

pub returns-in-Pub-clause-ok : goal.returns-in-Pub-clause-ok
returns-in-Pub-clause-ok c =
    let m = c.args.self.now.machine in
    let e = pub_beside c.args.owner m c.args.lane c.in-Pub.version c.requires.owner
    ∙ ap (λ (w : What). stepped m (entry_of c.args.owner c.args.lane w)) (sym c.in-Pub.is) in
    let P : MachineState → Type 0 = λ x. OnOk c.take_version.result (c.take_version.new.self ≡ becomes x c.args.self.now) in
    subst P e c.take_version.ensures.ok

pub returns-in-End-clause-ok : goal.returns-in-End-clause-ok
returns-in-End-clause-ok c =
    let m = c.args.self.now.machine in
    let e = end_beside c.args.owner m c.args.lane c.in-End.unserved c.requires.owner
    ∙ ap (λ (w : What). stepped m (entry_of c.args.owner c.args.lane w)) (sym c.in-End.is) in
    c.take_end.ensures c.in-End.unserved ∙ ap (λ (x : MachineState). becomes x c.args.self.now) e
