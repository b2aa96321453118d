-- For `Known::begins` of src/history.rt: of two beginnings of one list the shorter begins the longer.
use Rattle.std.proofs.Common.{◌≤◌, List, length, ap, subst, arith}
use mathlib.Core.List.{IsPrefix}
use Rattle.lb_domain.specs.Topologies.{DomainsWithin}
use Rattle.lb_seen.proofs.Beginnings.{prefix_shorter}
use Rattle.lb_topub.proofs.history.Known.begins.Goals as goal

pub returns : goal.returns
returns c =
    let both = c.learn.new.self.log in
    let this : IsPrefix c.self.inside.seen.log both = subst (λ (l : List DomainsWithin). IsPrefix l both)
    (ap (λ s. s.log) c.again-both.ensures) c.learn.ensures.2 in
    let shorter : length c.self.inside.seen.log ≤ length c.other.inside.seen.log = omega (
      arith,
      c.requires.shorter,
      ap (λ k. length k.topologies) c.self.view_is,
      ap
          (λ k. length k.topologies) c.other.view_is,
    ) in
    rw (← c.self.view_is, ← c.other.view_is)
    (prefix_shorter c.self.inside.seen.log c.other.inside.seen.log both this c.learn.ensures.3 shorter)
