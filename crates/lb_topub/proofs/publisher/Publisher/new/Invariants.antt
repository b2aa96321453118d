-- The loops of `Publisher::new` of src/publisher.rt: a publisher of a first topology, which is version 1, and
-- so many lookers, which have seen that version.
use Rattle.std.proofs.Common.{◌≡◌, ◌≤◌, replicate, vec_capacity}
use Rattle.left_right.specs.Sides.{view}
use Rattle.lb_topub.specs.Shown.{Knows}
use Rattle.lb_topub.proofs.publisher.Publisher.new.Given as goal

abbrev pub invariant-loop-looker : goal.invariant-loop-looker
invariant-loop-looker g l =
    (l.made.items ≡ replicate l.looker l.known) × (l.fn.lookers ≤ vec_capacity l.made) × (l.known ≡ l.initial.known)
    × Knows l.known.book (view l.copies.desk.place) × (l.copies.desk.shown.value.known ≡ l.known)
