-- For `Ended::arrive` of src/serving.rt: it lands by an `in` above all that was drawn.
use Rattle.std.proofs.Common.{ℕ, ◌≡◌, ◌+◌, ◌≤◌, ◌<◌, Some, true, ◌&&◌, List, [], refl, sym, subst, ap, ◌∙◌, arith, inl, inr}
use Rattle.lb_queue.specs.declared.answers.OutCause.TheVariants as cause
use Rattle.lb_core.specs.declared.course.Course.{Course}
use Rattle.lb_core.specs.declared.course.Form.{Form}
use Rattle.lb_core.specs.declared.entry.Owner.TheVariants as owner
use Rattle.lb_core.specs.declared.entry.What.TheVariants as what
use Rattle.lb_journal.specs.Journal.{Journal}
use Rattle.lb_journal.specs.Merge.{closing_out, is_out_at_rest}
use Rattle.lb_journal.specs.declared.journal.Journal.{the_code}
use Rattle.lb_journal.specs.contracts.journal.Left.{the_row}
use Rattle.lb_end.specs.Ends.{EndedIs}
use Rattle.lb_end.specs.Drawing.{first_course, first_ticket, item_of}
use Rattle.lb_end.proofs.Ongoing.{on}
use Rattle.lb_end.proofs.Parts.{empty_first}
use Rattle.lb_end.proofs.ended.Ended.arrive.Goals as goal

pub returns-clause-on : goal.returns-clause-on
returns-clause-on g c =
    let out = c.requires.left in
    on c.closing_goes_on.ensures g.N.Names.header
    (let lanes = c.keeps.ensures.accepted.most_lanes in omega (arith, lanes)) (17 + c.args.cpu)
    (item_of g.N.Names.header (owner.Queue c.args.cpu) (first_course c.follow.new.self) (first_course c.land.new.self)
    (first_ticket c.follow.new.self) (what.Landed c.args.landing)) c.args.self.now c.follow.new.self c.land.new.self
    c.follow-2.new.self (omega arith) c.follow.ensures.seats (ap first_ticket c.follow.ensures.same) c.land.ensures.drew
    c.follow-2.ensures.seats (ap first_ticket c.follow-2.ensures.same) refl
    (λ above. tt)
    (inr (inr (record {
      landing = refl;
      out = out.out;
      there = out.there;
      ticket = out.ticket ∙ sym (ap first_ticket c.follow.ensures.same);
      closes = out.closes;
    })))
    (λ z.
    empty_first g.N.Names.header g.N.Names.book the_code the_row.coded c.args.self.now c.keeps.ensures
    (sym (ap first_ticket c.follow.ensures.same) ∙ z))
