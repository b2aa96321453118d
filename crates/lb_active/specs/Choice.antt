-- The choices of stop requests and of active balance: when a failing turn asks the source to push,
-- and which task the source pushes.
-- Cited by the contracts of `wants_active` and `active_pick`; also by `lb_core`, `lb_due` and `lb_queue`.
use Rattle.std.specs.Prelude.{ℕ, ◌+◌, nat_lt, Bool, false, Option, None, option_map, List, filter}
use Rattle.std.specs.List.{last_or}
use Rattle.lb_base.specs.declared.shape.Kind.{Kind}
use Rattle.lb_base.specs.declared.shape.Kind.TheVariants.{Idle}
use Rattle.lb_base.specs.declared.view.TaskView.{TaskView}
use Rattle.lb_base.specs.Mask.{has}

-- whether a turn of this kind with so many failures asks the source to push; a newly-idle turn never
-- does
abbrev pub is_wanted : ℕ → ℕ → Kind → Bool
is_wanted failures tries Idle = false
is_wanted failures tries kind = nat_lt (tries + 2) failures

-- the task nearest the back whose mask has the CPU; the list runs from the front to the back
abbrev pub nearest_back : List TaskView → ℕ → Option TaskView
nearest_back list to = last_or None (filter (λ t. has t.mask to) list)

-- its id
abbrev pub pick_of : List TaskView → ℕ → Option ℕ
pick_of list to = option_map (λ t. t.id) (nearest_back list to)
