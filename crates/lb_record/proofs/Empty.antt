-- The list of a mask without CPUs: nothing in a line of a trace.
-- For `put_runs`; cited by `lb_read` too.
use Rattle.std.proofs.Common.{◌≡◌, ℕ, Bool, false, Some, None, List, [], ◌∷◌, refl, ap, inl, inr}
use Rattle.std.specs.Prelude.{is_none, find, filter, map}
use Rattle.std.specs.List.{range_with_len, join_with_byte}
use Rattle.std.proofs.lemmas.Bool.{cases_Bool}
use Rattle.lb_base.specs.declared.mask.Mask.{Mask}
use Rattle.lb_base.specs.declared.mask.TheConstants.{MAX_CPUS}
use Rattle.lb_base.specs.Mask.{has, members, members_below}
use Rattle.lb_base.specs.Sets.{least}
use Rattle.lb_text.specs.Runs.{run_text, runs_of, runs_text, list_text}

none_passes : (p : ℕ → Bool) (xs : List ℕ) → find p xs ≡ None → filter p xs ≡ []
none_passes p [] e = refl
none_passes p (x ∷ xs) e = elim (cases_Bool (p x)) [
  | inl passes ↦ absurd (let some : Some x ≡ None = rw passes at e in cc)
  | inr fails ↦ rw fails (none_passes p xs (rw fails at e))
]

-- without CPUs there is no run
pub runs_none : (mask : Mask) → least mask ≡ None → runs_text mask ≡ []
unfolding least members members_below runs_text
runs_none mask e = ap (λ (cpus : List ℕ). join_with_byte 59 (map run_text (runs_of cpus)))
    (none_passes (has mask) (range_with_len 0 MAX_CPUS) e)

-- with CPUs the list is its runs
pub list_some : (mask : Mask) → is_none (least mask) ≡ false → list_text mask ≡ runs_text mask
unfolding list_text
list_some mask e = rw e refl
