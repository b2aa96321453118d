-- The CPUs of a mask that a walk over them has ahead, and how names of figures follow it.
-- For `are_of`.
use Rattle.std.proofs.Common.{◌≡◌, ℕ, zero, suc, ◌+◌, ◌-◌, ◌<◌, ◌≤◌, ◌==◌, ◌&&◌, Bool, true, false, cond, List, [], ◌∷◌, Option, Some, None, not, is_some, length, map, drop, get_or, subst, refl, sym, ◌∙◌, ap, arith}
use Rattle.std.specs.Prelude.{filter}
use Rattle.std.specs.List.{range_with_len}
use Rattle.std.specs.Option.{option_eq}
use Rattle.std.proofs.lemmas.Bool.{ne_eqb, eq-eqb, eqb-true}
use Rattle.lb_base.specs.declared.mask.Mask.{Mask}
use Rattle.lb_base.specs.Mask.{has, members_below, members}
use Rattle.lb_base.proofs.Walks.{Finds, IsAt, Stands}
use Rattle.lb_core.specs.declared.entry.FigName.{FigName}
use Rattle.lb_core.specs.Same.{same_numbers}
use Rattle.lb_judge.proofs.Lists.{cut}

-- the CPUs of the mask among so many from one on
abbrev pub from : Mask → ℕ → ℕ → List ℕ
from m n k = filter (has m) (range_with_len n k)

-- those that are ahead of a walk that stands there
abbrev pub ahead : Mask → Option ℕ → List ℕ
ahead m None = []
ahead m (Some c) = from m c (64 - c)

from_no : (m : Mask) (n k : ℕ) → has m n ≡ false → from m n (suc k) ≡ from m (n + 1) k
from_no m n k h = ap (λ (b : Bool). cond b (n ∷ from m (n + 1) k) (from m (n + 1) k)) h

from_yes : (m : Mask) (n k : ℕ) → has m n ≡ true → from m n (suc k) ≡ n ∷ from m (n + 1) k
from_yes m n k h = ap (λ (b : Bool). cond b (n ∷ from m (n + 1) k) (from m (n + 1) k)) h

-- a stretch without members
from_gap : (m : Mask) (n k j : ℕ) → ((i : ℕ) → n ≤ i → i < n + k → has m i ≡ false) → from m n (k + j) ≡ from m (n + k) j
from_gap m n zero j h =
    let z : zero + j ≡ j = omega arith in
    let y : n ≡ n + zero = omega arith in
    ap (from m n) z ∙ ap (λ (x : ℕ). from m x j) y
from_gap m n (suc k) j h =
    let z : suc k + j ≡ suc (k + j) = omega arith in
    let y : (n + 1) + k ≡ n + suc k = omega arith in
    ap (from m n) z ∙ from_no m n (k + j) (h n (omega arith) (omega arith))
    ∙ from_gap m (n + 1) k j (λ i lo hi. h i (omega (arith, lo)) (omega (arith, hi))) ∙ ap (λ (x : ℕ). from m x j) y

finds_ahead : (m : Mask) (n : ℕ) (o : Option ℕ) → n ≤ 64 → Finds m n o → from m n (64 - n) ≡ ahead m o
finds_ahead m n None room none =
    let z : 64 - n ≡ (64 - n) + 0 = omega arith in
    ap (from m n) z ∙ from_gap m n (64 - n) 0 (λ i lo hi. none i lo)
finds_ahead m n (Some c) room found =
    let above = found.from in
    let in_range = found.in_range in
    let z : 64 - n ≡ (c - n) + (64 - c) = omega arith in
    let y : n + (c - n) ≡ c = omega arith in
    ap (from m n) z ∙ from_gap m n (c - n) (64 - c) (λ i lo hi. found.least i lo (omega (arith, hi, y)))
    ∙ ap (λ (x : ℕ). from m x (64 - c)) y

pub all_ahead : (m : Mask) (o : Option ℕ) → Finds m 0 o → members m ≡ ahead m o
unfolding members members_below
all_ahead m o found = finds_ahead m 0 o (omega arith) found

stands_ahead : (m : Mask) (c : ℕ) → IsAt m c → ahead m (Some c) ≡ c ∷ from m (c + 1) (64 - (c + 1))
stands_ahead m c at =
    let lt = at.in_range in
    let z : 64 - c ≡ suc (64 - (c + 1)) = omega arith in
    ap (from m c) z ∙ from_yes m c (64 - (c + 1)) at.there

-- a step of the walk
one_ahead : (m : Mask) (c : ℕ) (o : Option ℕ) → IsAt m c → Finds m (c + 1) o → ahead m (Some c) ≡ c ∷ ahead m o
one_ahead m c o at found =
    let lt = at.in_range in
    stands_ahead m c at ∙ ap (λ (l : List ℕ). c ∷ l) (finds_ahead m (c + 1) o (omega arith) found)

-- a name of a CPU where the walk does not stand
other_ahead : (m : Mask) (o : Option ℕ) (n : ℕ) (ns : List ℕ) → Stands m o → option_eq ◌==◌ o (Some n) ≡ false
    → same_numbers (n ∷ ns) (ahead m o) ≡ false
other_ahead m None n ns at differ = refl
other_ahead m (Some c) n ns at differ =
    let e : (n == c) ≡ false = ne_eqb n c
    (λ s. let t : true ≡ false = sym (eq-eqb c n (sym s)) ∙ differ in let y : ⊥ = cc in y) in
    ap (same_numbers (n ∷ ns)) (stands_ahead m c at) ∙ ap (λ (b : Bool). b && same_numbers ns (from m (c + 1) (64 - (c + 1)))) e

stands_there : (o : Option ℕ) (n : ℕ) → option_eq ◌==◌ o (Some n) ≡ true → o ≡ Some n
stands_there None n h = absurd (let y : ⊥ = cc in y)
stands_there (Some c) n h = ap (λ (x : ℕ). Some x) (eqb-true c n h)

-- no name more
pub none_ahead : (m : Mask) (o : Option ℕ) → Stands m o → same_numbers [] (ahead m o) ≡ not (is_some o)
none_ahead m None at = refl
none_ahead m (Some c) at = ap (same_numbers []) (stands_ahead m c at)

-- the names from a place on, one of which is named where the walk stands, or elsewhere
abbrev pub cpus_from : ℕ → List FigName → List ℕ
cpus_from i names = map (λ f. f.cpu) (drop i names)

pub same_ahead : (m : Mask) (names : List FigName) (i : ℕ) (d : FigName) (o next : Option ℕ) → i < length names → Stands m o →
    option_eq ◌==◌ o (Some (get_or names i d).cpu) ≡ true → Finds m ((get_or names i d).cpu + 1) next →
    same_numbers (cpus_from i names) (ahead m o) ≡ same_numbers (cpus_from (i + 1) names) (ahead m next)
same_ahead m names i d o next lt at same found =
    let n = (get_or names i d).cpu in
    let k : o ≡ Some n = stands_there o n same in
    let here : IsAt m n = subst (λ (x : Option ℕ). Stands m x) k at in
    ap (λ (l : List FigName). same_numbers (map (λ f. f.cpu) l) (ahead m o)) (cut names i d lt)
    ∙ ap (λ (x : Option ℕ). same_numbers (n ∷ cpus_from (i + 1) names) (ahead m x)) k
    ∙ ap (same_numbers (n ∷ cpus_from (i + 1) names)) (one_ahead m n next here found)
    ∙ ap (λ (b : Bool). b && same_numbers (cpus_from (i + 1) names) (ahead m next)) (eq-eqb n n refl)

pub differs_ahead : (m : Mask) (names : List FigName) (i : ℕ) (d : FigName) (o : Option ℕ) → i < length names → Stands m o →
    option_eq ◌==◌ o (Some (get_or names i d).cpu) ≡ false → same_numbers (cpus_from i names) (ahead m o) ≡ false
differs_ahead m names i d o lt at differ =
    ap (λ (l : List FigName). same_numbers (map (λ f. f.cpu) l) (ahead m o)) (cut names i d lt)
    ∙ other_ahead m o (get_or names i d).cpu (cpus_from (i + 1) names) at differ
