-- Numbers that are drawn one after the other: each draw goes from a state of 64 bits to the next one,
-- and gives that state's upper 31 bits modulo the number of choices.
-- Cited by the contracts of `Draws::draw`, `Draws::row`, `Draws::rebuild` and others.
use Rattle.std.specs.Prelude.{◌≡◌, ℕ, ◌+◌, ◌*◌, ◌/◌, ◌%◌, ◌^◌}

-- the state after a draw
unfoldable pub next_state : ℕ → ℕ
next_state x = (x * 6364136223846793005 + 1442695040888963407) % 2 ^ 64

-- a value that was drawn, and the state behind its draws
pub record Drawn (A : Type 0) : Type 0 where
  pub value : A
  pub state : ℕ

-- a number below k, drawn at a state
unfoldable pub draw : ℕ → ℕ → Drawn ℕ
draw k x = record { value = (next_state x / 2 ^ 33) % k; state = next_state x }

-- what is made of a value that was drawn, and of the state behind it
abbrev pub with_drawn : {A B : Type 0} → Drawn A → (A → B) → Drawn B
with_drawn d f = record { value = f d.value; state = d.state }

-- this value was drawn, and this is the state behind it
abbrev pub IsDrawn : {A : Type 0} → Drawn A → A → ℕ → Type 0
IsDrawn d value state = (d.value ≡ value) × (d.state ≡ state)
