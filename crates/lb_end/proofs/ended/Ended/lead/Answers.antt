-- For `Ended::lead` of src/steps.rt: lane 0's seat follows all others, and so stands above all that was
-- drawn: the publisher's follows lane 0's before, for what lane 0 drew itself.
use Rattle.std.proofs.Common.{ℕ, ◌≡◌, ◌<◌, List, [], get_or, sym, subst, ap, All}
use Rattle.lb_ticket.specs.declared.item.Drawn.{Drawn}
use Rattle.lb_journal.specs.Journal.{Journal}
use Rattle.lb_end.specs.Seats.{next_at}
use Rattle.lb_end.proofs.Chaining.{stands_above}
use Rattle.lb_end.proofs.ended.Ended.lead.Goals as goal

pub returns-clause-above : goal.returns-clause-above
returns-clause-above g c =
    let last = c.follow_others.new.self.seats in
    stands_above c.args.self.now.seats c.follow.new.self.seats c.follow-2.new.self.seats last c.follow.ensures.seats
    c.follow-2.ensures.seats c.follow_others.ensures.lists c.follow_others.ensures.later
    (λ k two. c.follow_others.ensures.above k two)
