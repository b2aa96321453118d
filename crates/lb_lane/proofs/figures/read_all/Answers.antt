-- For `read_all` of src/figures.rt: a figure of each CPU of a mask.
use Rattle.std.proofs.Common.{ℕ, ◌+◌, ◌<◌, List, length, sym, subst, All}
use Rattle.std.proofs.lemmas.List.Elements.{All-nil, All-push}
use Rattle.lb_base.specs.Mask.{members_below}
use Rattle.lb_base.proofs.Members.{members_all}
use Rattle.lb_base.proofs.Walks.{stands, walk_starts, walk_steps, IsAt}
use Rattle.lb_lane.specs.Figures.{AreOf}
use Rattle.lb_lane.proofs.Looking.{sees_self, sees_on, none_read, one_more}
use Rattle.lb_lane.proofs.figures.read_all.Goals as goal

pub loop-next-init : goal.loop-next-init
loop-next-init g c =
    let s = c.args.side.now in
    record {
      at = stands c.args.due 0 c.first-next.result c.first-next.ensures.cpus;
      sees = sees_self s;
      so_far =
          none_read s.known.reader s.known.reader _ c.new-figs.result
          (walk_starts c.args.due c.first-next.result c.first-next.ensures.cpus) c.new-figs.ensures;
      inside =
          subst (All (λ f. f.cpu < length g.N.Names.board)) (sym c.new-figs.ensures)
          (All-nil (λ f. f.cpu < length g.N.Names.board));
    }

pub returns-in_err-push-clause-sees : goal.returns-in_err-push-clause-sees
returns-in_err-push-clause-sees g c =
    sees_on c.args.side.now c.loop-next.side c.read_one.new.side c.loop-next.invariant.sees c.read_one.ensures.sees

pub loop-next-preserved : goal.loop-next-preserved
loop-next-preserved g c =
    let a = c.args.side.now in
    let b = c.loop-next.side in
    let d = c.read_one.new.side in
    let cpu = c.in-Some.cpu in
    let here : IsAt c.args.due cpu = rw c.in-Some.is at c.loop-next.invariant.at in
    let so_far : AreOf a.known.reader b.known.reader (members_below c.args.due cpu) c.loop-next.figs =
    rw c.in-Some.is at c.loop-next.invariant.so_far in
    record {
      at = stands c.args.due (cpu + 1) c.next_after-next.result c.next_after-next.ensures.cpus;
      sees = sees_on a b d c.loop-next.invariant.sees c.read_one.ensures.sees;
      so_far =
          one_more a.known.reader b.known.reader d.known.reader (members_below c.args.due cpu) _ c.loop-next.figs c.push.new.self
          c.read_one.result cpu c.loop-next.invariant.sees.1 c.read_one.ensures.sees.1 so_far c.read_one.ensures.read
          c.read_one.ensures.cpu (walk_steps c.args.due cpu c.next_after-next.result here c.next_after-next.ensures.cpus)
          c.in_ok-push.ensures.ok;
      inside =
          subst (All (λ f. f.cpu < length g.N.Names.board)) (sym c.in_ok-push.ensures.ok)
          (All-push (λ f. f.cpu < length g.N.Names.board) c.loop-next.figs c.read_one.result c.loop-next.invariant.inside
          (subst (λ k. k < length g.N.Names.board) (sym c.read_one.ensures.cpu) (c.requires cpu here.there)));
    }

pub returns-clause-figs : goal.returns-clause-figs
returns-clause-figs g c =
    let so_far : AreOf c.args.side.now.known.reader c.loop-next.side.known.reader (members_below c.args.due 64) c.loop-next.figs =
    rw c.in_default.is at c.loop-next.invariant.so_far in
    subst (λ (l : List ℕ). AreOf c.args.side.now.known.reader c.loop-next.side.known.reader l c.loop-next.figs)
    (sym (members_all c.args.due)) so_far
