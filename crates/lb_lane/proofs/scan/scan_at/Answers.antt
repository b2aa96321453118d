-- For `scan_at` of src/scan.rt: the scan, of the lane's side alone.
use Rattle.std.proofs.Common.{rules, ◌≡◌, ◌∙◌, ◌<◌, All, length, [], true, sym, ap, subst, arith}
use Rattle.std.proofs.lemmas.Bool.{and_parts}
use Rattle.lb_base.specs.declared.mask.Mask.{Mask}
use Rattle.lb_base.specs.Mask.{has, members, without}
use Rattle.lb_core.specs.declared.entry.FigName.{FigName}
use Rattle.lb_core.specs.declared.entry.What.{What}
use Rattle.lb_core.specs.declared.entry.What.TheVariants.{Scan}
use Rattle.lb_core.specs.declared.course.Course.{Course}
use Rattle.lb_journal.specs.Journal.{Journal, names_of}
use Rattle.lb_ticket.specs.Seats.{SeatIs}
use Rattle.lb_board.specs.Board.{Sight}
use Rattle.lb_cell.specs.Cells.{IsInRange}
use Rattle.lb_cell.specs.Reads.{SeesMore}
use Rattle.lb_lane.specs.Figures.{AreOf}
use Rattle.lb_lane.specs.Own.{Drew, Unmoved}
use Rattle.lb_lane.specs.Scans.{scanned_at, scan_of, target_among}
use Rattle.lb_lane.proofs.Drawing.{drew_since}
use Rattle.lb_lane.proofs.Naming.{names_inside}
use Rattle.lb_lane.proofs.Ranging.{scan_in_range}
use Rattle.lb_lane.proofs.Refusing.{on_err, unmoved_since}
use Rattle.lb_lane.proofs.Scanning.{scan_allowed}
use Rattle.lb_lane.proofs.scan.scan_at.Goals as goal

pub read_all-requires : goal.read_all-requires
read_all-requires g c = λ k here.
    c.requires.may.inside k
    (subst (λ (m : Mask). has m k ≡ true) c.requires.span (and_parts _ _ (sym (c.without-due.ensures.cpus k) ∙ here)).0)

pub enter_above-requires-clause-asks : goal.enter_above-requires-clause-asks
enter_above-requires-clause-asks g c =
    let may = c.requires.may in
    let named : c.in_ok-figures.figures ≡ names_of c.in_ok-figs.figs = search rules in
    subst (λ (t : Type 0). t)
    (λ i. All (λ (f : FigName). f.cpu < length (sym c.read_all.ensures.sees.0.course i).named) (sym named i))
    (names_inside _ c.args.side.now.course.named c.in_ok-figs.figs may.named c.in_ok-figs.ensures.inside)

pub enter_above-requires-clause-allowed : goal.enter_above-requires-clause-allowed
enter_above-requires-clause-allowed g c = λ rule.
    let may = c.requires.may in
    let h = g.N.Names.header in
    let l = c.args.side.now in
    let m = c.read_all.new.side in
    let figs = c.in_ok-figs.figs in
    let due : c.without-due.result ≡ scanned_at h l.course =
    c.without-due.ensures.value ∙ (λ i. without (c.requires.span i) (c.course.ensures i).excluded) in
    let are : AreOf l.known.reader m.known.reader (members (scanned_at h l.course)) figs =
    subst (λ (x : Mask). AreOf l.known.reader m.known.reader (members x) figs) due c.in_ok-figs.ensures.figs in
    let target : c.first-target.result ≡ target_among figs = search rules in
    scan_allowed h l m l.known.reader m.known.reader _ c.in_ok-figures.figures c.first-target.result figs
    c.read_all.ensures.sees.0.course may.due may.numbers c.in_ok-figs.ensures.inside are (search rules) target rule

pub enter_above-requires-clause-range : goal.enter_above-requires-clause-range
enter_above-requires-clause-range g c =
    let m = c.read_all.new.side in
    scan_in_range g.N.Names.header m c.in_ok-figures.figures c.first-target.result [] c.in_ok-figs.figs
    (subst (λ (x : Course). IsInRange x) (sym c.read_all.ensures.sees.0.course) c.keeps.ensures.range)

pub returns-in_err-enter_above-clause-refused : goal.returns-in_err-enter_above-clause-refused
returns-in_err-enter_above-clause-refused g c =
    let l = c.args.side.now in
    let n = c.enter_above.new.side in
    on_err c.from_residual-in_err-enter_above.result (Unmoved l n)
    (unmoved_since l c.read_all.new.side n c.read_all.ensures.sees c.in_err-enter_above.ensures.refused)

pub returns-clause-ok : goal.returns-clause-ok
returns-clause-ok g c =
    let l = c.args.side.now in
    let r = c.read_all.new.side in
    let n = c.enter_above.new.side in
    let h = g.N.Names.header in
    let figs = c.in_ok-figs.figs in
    let ticket = c.in_ok-enter_above.field-0 in
    let s = c.read_all.ensures.sees.0 in
    let due : c.without-due.result ≡ scanned_at h l.course =
    c.without-due.ensures.value ∙ (λ i. without (c.requires.span i) (c.course.ensures i).excluded) in
    let are : AreOf l.known.reader r.known.reader (members (scanned_at h l.course)) figs =
    subst (λ (x : Mask). AreOf l.known.reader r.known.reader (members x) figs) due c.in_ok-figs.ensures.figs in
    let reader : r.known.reader ≡ n.known.reader = sym c.enter_above.ensures.reader in
    let target : c.first-target.result ≡ target_among figs = search rules in
    let named : c.in_ok-figures.figures ≡ names_of figs = search rules in
    let what : Scan c.in_ok-figures.figures c.first-target.result ≡ scan_of figs = (λ i. Scan (named i) (target i)) in
    let next : l.seat.next ≡ r.seat.next = ap (λ (x : SeatIs Journal). x.next) (sym s.seat) in
    let drawn : Drew h r n (scan_of figs) [] figs ticket =
    subst (λ (w : What). Drew h r n w [] figs ticket) what c.in_ok-enter_above.ensures.drew in
    record {
      drew = record {
        figs = figs;
        inside = c.in_ok-figs.ensures.inside;
        ticket = ticket;
        drew =
            drew_since h l r n (scan_of figs) [] figs ticket (ap (λ x. x.list) s.seat) s.course s.number s.ticket s.landing
            (ap (λ x. x.read) s.seat) (omega (arith, next)) drawn;
        read = subst (λ (x : Sight). AreOf l.known.reader x (members (scanned_at h l.course)) figs) reader are;
        earlier = c.in_ok-enter_above.ensures.above;
        sees = subst (λ (x : Sight). SeesMore l.known.reader x) reader c.read_all.ensures.sees.1;
      };
      answer = target;
    }
