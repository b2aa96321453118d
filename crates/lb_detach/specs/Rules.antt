-- When a pull leaves a task where it is, and what taking it moves: its mask lacks the destination, it
-- is running, it is cache-hot, or it is more than what is left to move.
-- Cited by the contracts of `is_refused`, `amount` and `examine`; also by `lb_journal_rows` and `lb_rows`.
use Rattle.std.specs.Prelude.{ℕ, ◌/◌, ◌^◌, min, max, nat_lt, nat_le, Bool, false, not, ◌&&◌, ◌||◌}
use Rattle.lb_base.specs.declared.view.TaskView.{TaskView}
use Rattle.lb_base.specs.declared.view.MoveKind.{MoveKind}
use Rattle.lb_base.specs.declared.view.MoveKind.TheVariants.{Load, Util, Tasks}
use Rattle.lb_base.specs.Mask.{has}
use Rattle.lb_detach.specs.declared.Env.{Env}

-- the task may not run at the destination
abbrev pub fails_mask : Env → TaskView → Bool
fails_mask env t = not (has t.mask env.to)

-- what taking the task moves
abbrev pub amount_of : MoveKind → TaskView → ℕ
amount_of Load t = max t.load 1
amount_of Util t = t.util
amount_of Tasks t = 1

-- the task is more than what is left to move; a load counts half as much after each failure
abbrev pub exceeds : MoveKind → ℕ → TaskView → ℕ → Bool
exceeds Load failures t left = nat_lt left (max t.load 1 / 2 ^ min failures 63)
exceeds Util failures t left = nat_lt left t.util
exceeds Tasks failures t left = false

-- the task stays, with so much left to move
unfoldable pub refuses : Env → TaskView → ℕ → Bool
refuses env t left =
    fails_mask env t || t.running || (t.hot && nat_le env.failures env.tries)
    || exceeds env.kind env.failures t left
