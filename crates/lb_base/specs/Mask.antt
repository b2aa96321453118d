-- A mask as a set of CPUs: whether it has a CPU, the list of its CPUs in rising order, and the set
-- operations on masks.
-- Cited by the law `mask_of_a_test`, and `Mask::none`, `Mask::all` and others; also by `lb_active`, `lb_busiest` and
-- other crates.
use Rattle.std.specs.Prelude.{bit_and, bit_or, ◌-◌, ◌^◌, ◌≡◌, ℕ, ◌<◌, ◌≤◌, ◌==◌, Bool, true, false, List, filter}
use Rattle.std.specs.Int.{bit_at}
use Rattle.std.specs.List.{range_with_len}
use Rattle.lb_base.specs.declared.mask.Mask.{Mask}
use Rattle.lb_base.specs.declared.mask.TheConstants.{MAX_CPUS}

-- whether the mask has CPU k
unfoldable pub has : Mask → ℕ → Bool
has m k = bit_at m.bits k == 1

-- the CPUs of the mask below n, rising
unfoldable pub members_below : Mask → ℕ → List ℕ
members_below m n = filter (has m) (range_with_len 0 n)

-- the CPUs of the mask, rising
unfoldable pub members : Mask → List ℕ
members m = members_below m MAX_CPUS

-- the mask has no CPU from n on
abbrev pub HasNoneFrom : Mask → ℕ → Type 0
HasNoneFrom m n = (k : ℕ) → n ≤ k → has m k ≡ false

-- c is the least CPU of the mask from n on
pub record IsFirstFrom (m : Mask) (n c : ℕ) : Type 0 where
  pub from : n ≤ c
  pub in_range : c < MAX_CPUS
  pub there : has m c ≡ true
  pub least : (k : ℕ) → n ≤ k → k < c → has m k ≡ false

-- every CPU of a is in b
abbrev pub IsSubset : Mask → Mask → Type 0
IsSubset a b = (k : ℕ) → has a k ≡ true → has b k ≡ true

-- no CPU
abbrev pub no_cpus : Mask
no_cpus = record { bits = 0 }

-- the CPUs below n
unfoldable pub first_cpus : ℕ → Mask
first_cpus n = record { bits = 2 ^ n - 1 }

-- one CPU
unfoldable pub only : ℕ → Mask
only cpu = record { bits = 2 ^ cpu }

-- the CPUs of a and of b
unfoldable pub both : Mask → Mask → Mask
both a b = record { bits = bit_and a.bits b.bits }

-- the CPUs of a or of b
unfoldable pub either : Mask → Mask → Mask
either a b = record { bits = bit_or a.bits b.bits }

-- the CPUs of a that b lacks
unfoldable pub without : Mask → Mask → Mask
without a b = record { bits = bit_and a.bits (2 ^ MAX_CPUS - 1 - b.bits) }
