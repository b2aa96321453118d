-- For `newest` of src/figures.rt: the names of the last figures that are due.
use Rattle.std.proofs.Common.{◌≡◌, ◌+◌, ℕ, List, [], ◌∷◌, ◌++◌, sym, ◌∙◌, ap}
use Rattle.std.proofs.lemmas.List.{map-append}
use Rattle.lb_base.specs.Mask.{members_below}
use Rattle.lb_base.proofs.Members.{members_all}
use Rattle.lb_base.proofs.Walks.{stands, walk_starts, walk_steps, IsAt}
use Rattle.lb_core.specs.declared.entry.FigName.{FigName}
use Rattle.lb_core.specs.Machine.{entries_at}
use Rattle.lb_ready.specs.Next.{newest}
use Rattle.lb_due.proofs.figures.newest.Goals as goal

pub loop-next-init : goal.loop-next-init
loop-next-init c = record {
  at = stands c.args.mask 0 c.first-next.result c.first-next.ensures.cpus;
  so_far = c.new-names.ensures ∙ ap (newest c.args.engine.now.machine)
      (sym (walk_starts c.args.mask c.first-next.result c.first-next.ensures.cpus));
}

pub loop-next-preserved : goal.loop-next-preserved
loop-next-preserved c =
    let m = c.args.engine.now.machine in
    let cpu = c.in-Some.cpu in
    let here : IsAt c.args.mask cpu = rw c.in-Some.is at c.loop-next.invariant.at in
    let so_far : c.loop-next.names ≡ newest m (members_below c.args.mask cpu) = rw c.in-Some.is at c.loop-next.invariant.so_far in
    let name = λ (k : ℕ). let f : FigName = record { cpu = k; n = entries_at m k } in f in
    record {
      at = stands c.args.mask (cpu + 1) c.next_after-next.result c.next_after-next.ensures.cpus;
      so_far =
          c.in_ok-push.ensures.ok
          ∙ ap (λ (n : ℕ). c.loop-next.names ++ (let f : FigName = record { cpu = cpu; n = n } in f) ∷ []) c.entries_at.ensures
          ∙ ap (λ (l : List FigName). l ++ name cpu ∷ []) so_far
          ∙ sym (map-append name (members_below c.args.mask cpu) (cpu ∷ []))
          ∙ ap (newest m) (sym (walk_steps c.args.mask cpu c.next_after-next.result here c.next_after-next.ensures.cpus));
    }

pub returns : goal.returns
returns c =
    let so_far : c.loop-next.names ≡ newest c.args.engine.now.machine (members_below c.args.mask 64) =
    rw c.in_default.is at c.loop-next.invariant.so_far in
    so_far ∙ ap (newest c.args.engine.now.machine) (sym (members_all c.args.mask))
