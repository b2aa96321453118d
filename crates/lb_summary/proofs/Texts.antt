-- A text to which one text after another is appended.
-- For `put_summary` and `put_pulled`.
use Rattle.std.proofs.Common.{◌≡◌, ℕ, List, ◌++◌, ◌∙◌, ap, append_assoc}

pub followed : (a b c x y : List ℕ) → b ≡ a ++ x → c ≡ b ++ y → c ≡ a ++ (x ++ y)
followed a b c x y first second = second ∙ ap (λ (z : List ℕ). z ++ y) first ∙ append_assoc a x y
