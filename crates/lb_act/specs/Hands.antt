-- The hand in which a lane has tasks, as its course tells of it.
-- Cited by the contract of `arrive`; also by `lb_cell`, `lb_cpu` and other crates.
use Rattle.std.specs.Prelude.{◌≡◌}
use Rattle.lb_queue.specs.Hands.{HandState}
use Rattle.lb_core.specs.declared.course.Course.{Course}

-- the hand is that of the course: where its tasks go, when they left, and which they are
pub record IsLoaded (hand : HandState) (c : Course) : Type 0 where
  pub to : hand.to ≡ c.to
  pub moment : hand.moment ≡ c.moment
  pub tasks : hand.tasks ≡ c.hand
