-- No weight is above the first. For callers too.
-- For `Task::value`; cited by `lb_ready` too.
use Rattle.std.proofs.Common.{◌≡◌, ℕ, ℤ, zero, suc, ◌≤◌, nat_le, true, List, [], ◌∷◌, refl, arith}
use Rattle.std.specs.Prelude.{slice_index, pos, ◌+ℤ◌, unsigned_abs}
use Rattle.std.specs.List.{list_all}
use Rattle.std.proofs.lemmas.Bool.{and_parts, leb-true}
use Rattle.lb_base.specs.Weight.{weights, weight_of}

index_bound : (b : ℕ) (xs : List ℕ) (k : ℕ) → list_all (λ w. nat_le w b) xs ≡ true → slice_index xs k ≤ b
index_bound b [] k h = omega arith
index_bound b (x ∷ xs) zero h = leb-true x b ((and_parts (nat_le x b) _ h).0)
index_bound b (x ∷ xs) (suc k) h = index_bound b xs k ((and_parts (nat_le x b) _ h).1)

all_bounded : list_all (λ w. nat_le w 88761) weights ≡ true
unfolding weights
all_bounded = refl

pub weight_of_bound : (nice : ℤ) → weight_of nice ≤ 88761
unfolding weight_of
weight_of_bound nice = index_bound 88761 weights (unsigned_abs (nice +ℤ pos 20)) all_bounded
