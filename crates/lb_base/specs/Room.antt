-- A list and how many more items there is room for.
-- What contracts see of the type `Buffer`; cited by `lb_engine`.
use Rattle.std.specs.Prelude.{ℕ, List, refl}
use Rattle.std.specs.Coded.{Coded, code_by, coded×, coded_list, coded_ℕ}

pub record WithRoom (X : Type 0) : Type 0 where
  pub items : List X
  pub spare : ℕ

-- it is stored as the pair of its fields
abbrev pub with_room_code : {X : Type 0} → Coded X → Coded (WithRoom X)
with_room_code {X = X} item =
    code_by (List X × ℕ) (coded× (coded_list item) coded_ℕ) (λ b. (b.items, b.spare)) (λ p. record { items = p.0; spare = p.1 }) (λ _. refl)
