-- A lane that goes through the rows of the trace, and serves its own.
-- For `serve_rows`.
use Rattle.std.proofs.Common.{ℕ, zero, suc, ◌≡◌, ◌<◌, ◌==◌, Bool, true, false, cond, List, [], ◌∷◌, Some, length, filter, take, slice_get, get_or, sym, ap, refl, ◌∙◌, arith}
use Rattle.std.proofs.lemmas.Bool.{false≢true}
use Rattle.lb_trace.specs.declared.trace.Row.{Row}
use Rattle.lb_core.specs.declared.course.Form.TheVariants.{Rest}
use Rattle.lb_core.specs.OfTrace.{of_lane}
use Rattle.lb_lane.specs.Lanes.{LaneIs}

-- of the first so many rows the lane has served its own, and is at rest
pub record HasServed (rows : List Row) (passed : ℕ) (l l' : LaneIs) : Type 0 where
  pub number : l'.side.number ≡ l.side.number
  pub own : l'.rows ≡ of_lane l.side.number rows
  pub rest : l'.side.course.form ≡ Rest
  pub taken_up : l'.side.course.rows ≡ length (of_lane l.side.number (take passed rows))

-- ---- the next row
module _ {A : Type 0} (p : A → Bool) where
  behind : (b : Bool) (y : A) (xs ys : List A) → slice_get (cond b (y ∷ ys) ys)
      (length (cond b (y ∷ xs) xs)) ≡ slice_get ys (length xs)
  behind true y xs ys = refl
  behind false y xs ys = refl

  in_front : (b : Bool) (y : A) (ys : List A) → b ≡ true → slice_get (cond b (y ∷ ys) ys) 0 ≡ Some y
  in_front true y ys e = refl
  in_front false y ys e = absurd (false≢true e)

  -- an item that passes stands behind those before it that pass
  passes_at : (xs : List A) (i : ℕ) (x : A) → i < length xs → x ≡ get_or xs i x → p x ≡ true
      → slice_get (filter p xs) (length (filter p (take i xs))) ≡ Some x
  passes_at [] i x lt e h = absurd (omega arith)
  passes_at (y ∷ ys) zero x lt e h = in_front (p y) y (filter p ys) (ap p (sym e) ∙ h) ∙ ap Some (sym e)
  passes_at (y ∷ ys) (suc i) x lt e h = behind (p y) y (filter p (take i ys)) (filter p ys) ∙ passes_at ys i x (omega arith) e h

pub next_row : (rows : List Row) (i : ℕ) (l l' : LaneIs) (row : Row) → HasServed rows i l l' → i < length rows
    → row ≡ get_or rows i row → row.lane ≡ l.side.number → slice_get l'.rows l'.side.course.rows ≡ Some row
next_row rows i l l' row served lt is mine =
    let own : LaneIs → List Row → List Row = λ x rs. of_lane x.side.number rs in
    ap (λ (rs : List Row). slice_get rs l'.side.course.rows) served.own
    ∙ ap (λ (n : ℕ). slice_get (own l rows) n) served.taken_up
    ∙ passes_at (λ r. r.lane == l.side.number) rows i row lt is (grind arith)
