-- For `look_at` of src/look.rt: the look, of the lane's side alone.
use Rattle.std.proofs.Common.{rules, ◌≡◌, ◌∙◌, [], true, false, sym, ap, subst, arith}
use Rattle.lb_base.specs.Mask.{has, members}
use Rattle.lb_domain.specs.declared.domain.Domain.{Domain}
use Rattle.lb_core.specs.declared.entry.What.{What}
use Rattle.lb_core.specs.declared.entry.What.TheVariants.{Look}
use Rattle.lb_core.specs.declared.course.Course.{Course}
use Rattle.lb_core.specs.Course.{turn_domain}
use Rattle.lb_core.specs.Rules.{breaks_here}
use Rattle.lb_journal.specs.Journal.{Journal, names_of}
use Rattle.lb_ticket.specs.Seats.{SeatIs}
use Rattle.lb_board.specs.Board.{Sight}
use Rattle.lb_cell.specs.Cells.{IsInRange}
use Rattle.lb_cell.specs.Own.{sight_own, entry_own}
use Rattle.lb_cell.specs.Reads.{SeesMore}
use Rattle.lb_lane.specs.Figures.{AreOf}
use Rattle.lb_lane.specs.Looks.{decides, look_of, looked_at}
use Rattle.lb_lane.specs.Own.{Drew, Unmoved}
use Rattle.lb_lane.proofs.Drawing.{drew_since}
use Rattle.lb_lane.proofs.Ranging.{look_in_range}
use Rattle.lb_lane.proofs.Deciding.{look_asks, look_allowed}
use Rattle.lb_lane.proofs.Refusing.{on_err, unmoved_since}
use Rattle.lb_lane.proofs.look.look_at.Goals as goal

pub read_small-requires : goal.read_small-requires
read_small-requires g c = λ k here.
    c.requires.may.domain.inside k (subst (λ (d : Domain). has d.shape.span k ≡ true) c.requires.domain here)

pub enter_above-requires-clause-asks : goal.enter_above-requires-clause-asks
enter_above-requires-clause-asks g c =
    let may = c.requires.may in
    look_asks c.args.side.now c.read_small.new.side _ c.in_ok-figures.figures c.decide_on-decision.result
    c.course-2.result.now.position c.course-3.result.now.excluded c.in_ok-figs.figs c.read_small.ensures.sees.0.course
    may.domain.machine may.domain.cpu may.named c.in_ok-figs.ensures.inside (search rules)

pub enter_above-requires-clause-allowed : goal.enter_above-requires-clause-allowed
enter_above-requires-clause-allowed g c = λ rule.
    let may = c.requires.may in
    let l = c.args.side.now in
    let m = c.read_small.new.side in
    let figs = c.in_ok-figs.figs in
    let same : m.course ≡ l.course = c.read_small.ensures.sees.0.course in
    let d = turn_domain g.N.Names.header l.course in
    let are : AreOf l.known.reader m.known.reader (members (looked_at d l.course)) figs =
    subst (λ (x : Domain). AreOf l.known.reader m.known.reader (members (looked_at x l.course)) figs) c.requires.domain
    c.in_ok-figs.ensures.figs in
    let decided : c.decide_on-decision.result ≡ decides d l.course figs =
    c.decide_on-decision.ensures
    ∙ (λ i. decides (c.requires.domain i) ((c.course.ensures ∙ same) i) (c.as_slice-2.ensures i)) in
    subst (λ (w : What). breaks_here rule (sight_own g.N.Names.header m [] figs) (entry_own m w) ≡ false)
    (λ i. Look ((sym c.course-2.ensures) i).position ((sym c.course-3.ensures) i).excluded c.in_ok-figures.figures
    c.decide_on-decision.result)
    (look_allowed g.N.Names.header l m l.known.reader m.known.reader _ c.in_ok-figures.figures c.decide_on-decision.result figs
    same may.due may.numbers c.in_ok-figs.ensures.inside are (search rules) decided rule)

pub enter_above-requires-clause-range : goal.enter_above-requires-clause-range
enter_above-requires-clause-range g c =
    let m = c.read_small.new.side in
    let same : m.course ≡ c.args.side.now.course = c.read_small.ensures.sees.0.course in
    let d = c.args.domain.now in
    let course = c.course.result.now in
    let figs = c.in_ok-figs.figs in
    let decided : c.decide_on-decision.result ≡ decides d course figs =
    c.decide_on-decision.ensures ∙ (λ i. decides d course (c.as_slice-2.ensures i)) in
    look_in_range g.N.Names.header m c.course-2.result.now.position c.course-3.result.now.excluded c.in_ok-figures.figures
    c.decide_on-decision.result [] figs d course c.decision_is_the_choice.ensures.holds decided
    (subst (λ (x : Course). IsInRange x) (sym same) c.keeps.ensures.range)

pub returns-in_err-enter_above-clause-refused : goal.returns-in_err-enter_above-clause-refused
returns-in_err-enter_above-clause-refused g c =
    let l = c.args.side.now in
    let n = c.enter_above.new.side in
    on_err c.from_residual-in_err-enter_above.result (Unmoved l n)
    (unmoved_since l c.read_small.new.side n c.read_small.ensures.sees c.in_err-enter_above.ensures.refused)

pub returns-clause-ok : goal.returns-clause-ok
returns-clause-ok g c =
    let l = c.args.side.now in
    let r = c.read_small.new.side in
    let n = c.enter_above.new.side in
    let h = g.N.Names.header in
    let figs = c.in_ok-figs.figs in
    let ticket = c.in_ok-enter_above.field-0 in
    let s = c.read_small.ensures.sees.0 in
    let d = turn_domain h l.course in
    let are : AreOf l.known.reader r.known.reader (members (looked_at d l.course)) figs =
    subst (λ (x : Domain). AreOf l.known.reader r.known.reader (members (looked_at x l.course)) figs) c.requires.domain
    c.in_ok-figs.ensures.figs in
    let reader : r.known.reader ≡ n.known.reader = sym c.enter_above.ensures.reader in
    let decided : c.decide_on-decision.result ≡ decides d l.course figs =
    c.decide_on-decision.ensures
    ∙ (λ i. decides (c.requires.domain i) ((c.course.ensures ∙ s.course) i) (c.as_slice-2.ensures i)) in
    let named : c.in_ok-figures.figures ≡ names_of figs = search rules in
    let what : Look c.course-2.result.now.position c.course-3.result.now.excluded c.in_ok-figures.figures
    c.decide_on-decision.result ≡ look_of d l.course figs =
    (λ i. Look ((c.course-2.ensures ∙ s.course) i).position ((c.course-3.ensures ∙ s.course) i).excluded (named i) (decided i)) in
    let next : l.seat.next ≡ r.seat.next = ap (λ (x : SeatIs Journal). x.next) (sym s.seat) in
    let drawn : Drew h r n (look_of d l.course figs) [] figs ticket =
    subst (λ (w : What). Drew h r n w [] figs ticket) what c.in_ok-enter_above.ensures.drew in
    record {
      drew = record {
        figs = figs;
        inside = c.in_ok-figs.ensures.inside;
        ticket = ticket;
        drew =
            drew_since h l r n (look_of d l.course figs) [] figs ticket (ap (λ x. x.list) s.seat) s.course s.number s.ticket
            s.landing
            (ap (λ x. x.read) s.seat) (omega (arith, next)) drawn;
        read = subst (λ (x : Sight). AreOf l.known.reader x (members (looked_at d l.course)) figs) reader are;
        earlier = c.in_ok-enter_above.ensures.above;
        sees = subst (λ (x : Sight). SeesMore l.known.reader x) reader c.read_small.ensures.sees.1;
      };
      answer = decided;
    }
