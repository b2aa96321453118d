-- For `read_small` of src/look.rt: the figures of a domain without the excluded CPUs, read again until their
-- sums are small enough to decide on.
use Rattle.std.proofs.Common.{rules, ◌∙◌, sym, ap, subst}
use Rattle.std.proofs.lemmas.Bool.{and_parts}
use Rattle.lb_base.specs.Mask.{members, without}
use Rattle.lb_core.specs.declared.course.Course.{Course}
use Rattle.lb_lane.specs.Figures.{AreOf}
use Rattle.lb_lane.proofs.Looking.{sees_on, read_since}
use Rattle.lb_lane.proofs.look.read_small.Goals as goal

pub read_all-requires : goal.read_all-requires
read_all-requires g c = λ k here.
    c.requires k (and_parts _ _ (sym (c.without-due.ensures.cpus k) ∙ here)).0

pub returns-in_err-figs-clause-sees : goal.returns-in_err-figs-clause-sees
returns-in_err-figs-clause-sees g c =
    sees_on c.args.side.now c.loop.side c.read_all.new.side c.loop.invariant.2 c.read_all.ensures.sees

pub returns-then-are_small-clause-sees : goal.returns-then-are_small-clause-sees
returns-then-are_small-clause-sees g c =
    sees_on c.args.side.now c.loop.side c.read_all.new.side c.loop.invariant.2 c.read_all.ensures.sees

pub returns-then-are_small-clause-figs : goal.returns-then-are_small-clause-figs
returns-then-are_small-clause-figs g c =
    read_since c.args.side.now.known.reader c.loop.side.known.reader c.read_all.new.side.known.reader
    (members (without c.args.domain.now.shape.span c.args.side.now.course.excluded)) c.in_ok-figs.figs c.loop.invariant.2.1
    (subst (λ m. AreOf c.loop.side.known.reader c.read_all.new.side.known.reader (members m) c.in_ok-figs.figs)
    (c.without-due.ensures.value ∙ ap (λ (x : Course). without c.args.domain.now.shape.span x.excluded) c.course.ensures)
    c.in_ok-figs.ensures.figs)

pub loop-preserved : goal.loop-preserved
loop-preserved g c = (
  search rules,
  search rules,
  sees_on c.args.side.now c.loop.side c.read_all.new.side c.loop.invariant.2 c.read_all.ensures.sees,
)
