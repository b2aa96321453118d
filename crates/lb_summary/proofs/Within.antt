-- The domain of a pull is one within the version that its lane took up.
-- For the law `pulls_are_within`.
use Rattle.std.proofs.Common.{ℕ, ◌<◌, List, length, ap, subst}
use Rattle.lb_base.specs.declared.mask.Mask.{Mask}
use Rattle.lb_domain.specs.declared.domain.Domain.{Domain}
use Rattle.lb_domain.specs.Domains.{domains_of}
use Rattle.lb_queue.specs.declared.answers.OutCause.TheVariants.{Pull}
use Rattle.lb_core.specs.declared.course.Course.{Course}
use Rattle.lb_core.specs.declared.entry.Owner.{Owner}
use Rattle.lb_core.specs.declared.entry.What.{What}
use Rattle.lb_core.specs.declared.entry.What.TheVariants.{Out}
use Rattle.lb_core.specs.Course.{domain_at}
use Rattle.lb_core.specs.Leaving.{leaving}
use Rattle.lb_core.specs.Legal.{run, MayBeAdded}
use Rattle.lb_core.specs.Machine.{MachineState, course_at, sight, start}
use Rattle.lb_core.specs.OpenTurns.{IsAtPosition, KeepsTurn, TurnsStayOpen}
use Rattle.lb_core.proofs.Placing.{entry}
use Rattle.lb_summary.specs.Laws.{IsWithin, PullsAreWithin}
use Rattle.lb_summary.proofs.Leaving.{due_of, pull_at}

at_position : (m : MachineState) (o : Owner) (lane prev to : ℕ) (ids : List ℕ) → KeepsTurn m lane (course_at m.courses lane)
    → MayBeAdded m (entry o lane prev (Out Pull to ids)) → IsAtPosition m lane (course_at m.courses lane)
unfolding sight leaving
at_position m o lane prev to ids keeps h =
    let d = due_of m o lane prev Pull to ids h in
    pull_at (course_at m.courses lane).form m lane _ d.out d.same_cause d.due keeps

abbrev domains : MachineState → Course → List Mask → List Domain
domains m c masks = domains_of m.header.cpus m.header.distances masks c.cpu

within : (m : MachineState) (lane : ℕ) → IsAtPosition m lane (course_at m.courses lane)
    → IsWithin m lane (course_at m.courses lane)
within m lane k =
    let c = course_at m.courses lane in
    let v = k.0.taken_up in
    record {
      from_first = v.from_first;
      published = v.published;
      inside = subst (λ (masks : List Mask). c.position < length (domains m c masks))
          v.masks_are (k.0.inside c.position k.1);
      level = ap (λ (masks : List Mask). (domain_at (domains m c masks) c.position).shape.name)
          v.masks_are;
    }

pub pulls_are_within : TurnsStayOpen → PullsAreWithin
pulls_are_within stay h es e to ids legal may is =
    let m = run es (start h) in
    within m e.lane (at_position m e.owner e.lane e.prev to ids (stay h es e.lane legal)
    (subst (λ (w : What). MayBeAdded m (entry e.owner e.lane e.prev w)) is may))
