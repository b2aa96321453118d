-- For `Turn::new` of src/turn.rt: the turn of a course, over the topology of the version that it took up.
use Rattle.std.proofs.Common.{List, length, arith, ap, ◌∙◌}
use Rattle.lb_domain.specs.declared.domain.Domain.{Domain}
use Rattle.lb_domain.specs.Domains.{domains_at}
use Rattle.lb_domain.proofs.Sizes.{topology_at, length-topology_of}
use Rattle.lb_turn.proofs.turn.Turn.new.Goals as goal

pub domains-requires : goal.domains-requires
domains-requires c =
    let h = c.args.header.now in
    omega (arith, c.requires.turned, ap length c.requires.all, length-topology_of h.cpus h.distances c.args.course.now.masks)

pub invariant_of-result : goal.invariant_of-result
invariant_of-result c =
    let h = c.args.header.now in
    let course = c.args.course.now in
    record {
      domains =
          c.domains.ensures.domains
          ∙ ap (λ (all : List (List Domain)). domains_at all course.cpu) c.requires.all
          ∙ topology_at h.cpus h.distances course.masks course.cpu c.requires.turned;
      few = c.domains.ensures.few;
    }
