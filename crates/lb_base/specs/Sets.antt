-- Questions about sets of CPUs that can be computed: the least CPU, emptiness, masks without a CPU
-- in common, and the mask of the CPUs that pass a test.
-- Cited by the law `mask_of_a_test`, and `Mask::first` and `Mask::next_after`; also by `lb_act`, `lb_active` and
-- other crates.
use Rattle.std.specs.Prelude.{ℕ, ◌^◌, nat_lt, Bool, true, not, ◌&&◌, if◌then◌else◌, Option, is_none, List, [], ◌∷◌, find, sum_by}
use Rattle.std.specs.List.{range_with_len, list_all}
use Rattle.lb_base.specs.declared.mask.Mask.{Mask}
use Rattle.lb_base.specs.declared.mask.TheConstants.{MAX_CPUS}
use Rattle.lb_base.specs.Mask.{has, members}

-- the least CPU of the mask
unfoldable pub least : Mask → Option ℕ
least m = find (has m) (range_with_len 0 MAX_CPUS)

-- the least CPU of the mask above a CPU
unfoldable pub least_above : Mask → ℕ → Option ℕ
least_above m cpu = find (λ k. nat_lt cpu k && has m k) (range_with_len 0 MAX_CPUS)

-- the mask has no CPU
abbrev pub is_empty : Mask → Bool
is_empty m = is_none (least m)

-- the mask has no CPU from n on
unfoldable pub is_below : Mask → ℕ → Bool
is_below m n = list_all (λ k. nat_lt k n) (members m)

-- the masks share no CPU
unfoldable pub are_apart : Mask → Mask → Bool
are_apart a b = list_all (λ k. not (has b k)) (members a)

-- no two masks of the list share a CPU
abbrev pub are_disjoint : List Mask → Bool
are_disjoint [] = true
are_disjoint (m ∷ ms) = list_all (are_apart m) ms && are_disjoint ms

-- the CPUs that pass a test
unfoldable pub mask_where : (ℕ → Bool) → Mask
mask_where p = record { bits = sum_by (λ k. if p k then 2 ^ k else 0) (range_with_len 0 MAX_CPUS) }
