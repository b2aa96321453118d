-- The rows of two lanes that have one each.
-- For the test `two_lanes_draw_each_ticket_once`.
use Rattle.std.proofs.Common.{ℕ, ◌≡◌, ◌≤◌, ◌<◌, List, [], ◌∷◌, length, map, get_or, refl, sym, subst, ap, ◌∙◌, arith}
use Rattle.std.specs.List.{range_with_len}
use Rattle.lb_trace.specs.declared.trace.Row.{Row}
use Rattle.lb_core.specs.OfTrace.{of_lane}

two_items : {A : Type 0} (xs : List A) (a b : A) → length xs ≡ 2 → a ≡ get_or xs 0 a → b ≡ get_or xs 1 b → xs ≡ a ∷ b ∷ []
two_items [] a b len first second = absurd (omega (arith, len))
two_items (x ∷ []) a b len first second = absurd (omega (arith, len))
two_items (x ∷ y ∷ []) a b len first second = subst (λ (z : _). x ∷ y ∷ [] ≡ z ∷ b ∷ []) (sym first)
    (subst (λ (z : _). x ∷ y ∷ [] ≡ x ∷ z ∷ []) (sym second) refl)
two_items (x ∷ y ∷ z ∷ zs) a b len first second = absurd (omega (arith, len))

own_rows : (a b : Row) → a.lane ≡ 0 → b.lane ≡ 1
    → map (λ lane. of_lane lane (a ∷ b ∷ [])) (range_with_len 0 2) ≡ (a ∷ []) ∷ (b ∷ []) ∷ []
own_rows a b first second = grind (arith, first, second)

pub rows_of_two : (rows : List Row) (a b : Row) (lanes : ℕ) → length rows ≡ 2 → a ≡ get_or rows 0 a → b ≡ get_or rows 1 b
    → lanes ≡ 2 → a.lane ≡ 0 → b.lane ≡ 1
    → map (λ lane. of_lane lane rows) (range_with_len 0 lanes) ≡ (a ∷ []) ∷ (b ∷ []) ∷ []
rows_of_two rows a b lanes len first second two one other =
    subst (λ (n : ℕ). map (λ lane. of_lane lane rows) (range_with_len 0 n) ≡ (a ∷ []) ∷ (b ∷ []) ∷ []) (sym two)
    (subst (λ (rs : List Row). map (λ lane. of_lane lane rs) (range_with_len 0 2) ≡ (a ∷ []) ∷ (b ∷ []) ∷ [])
    (sym (two_items rows a b len first second)) (own_rows a b one other))
