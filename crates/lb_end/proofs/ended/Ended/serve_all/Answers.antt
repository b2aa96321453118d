-- For `Ended::serve_all` of src/requests.rt: serves every pending stop request, CPUs rising and, at a CPU,
-- tasks rising.
use Rattle.std.proofs.Common.{ℕ, ◌<◌, length, sym, ◌∙◌}
use Rattle.lb_base.proofs.Ranges.{found_at}
use Rattle.lb_queue.specs.Requests.{has_pending}
use Rattle.lb_end.specs.Drawing.{state_at}
use Rattle.lb_end.proofs.Ongoing.{closes_through}
use Rattle.lb_end.proofs.ended.Ended.serve_all.Goals as goal

pub serve-requires-clause-cpu : goal.serve-requires-clause-cpu
serve-requires-clause-cpu g c =
    let h = g.N.Names.header in
    (found_at (λ (cpu : ℕ). has_pending (state_at h c.loop.self cpu)) (length h.cpus) c.in-Some-first_pending.cpu
    (sym c.first_pending.ensures ∙ c.in-Some-first_pending.is)).0

pub loop-preserved : goal.loop-preserved
loop-preserved g c = (
  tt,
  tt,
  closes_through g.N.Names.header c.args.self.now c.loop.self c.serve.new.self c.loop.invariant.2
      c.in_ok-serve-in-Some-first_pending.ensures.on,
  c.serve.ensures.rest,
)
