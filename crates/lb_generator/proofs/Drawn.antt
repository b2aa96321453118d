-- What a drawn row asks for is declared, and what was drawn is below the number of choices.
-- For the lemmas of `HeaderLines`, `RowLines` and `Values`, and so for the laws `are_accepted` and
-- `moments_are_small`.
use Rattle.std.proofs.Common.{◌≡◌, ℕ, ◌*◌, ◌<◌, ℤ, pos, negsuc, ◌≤ℤ◌, true, eqb, ltb, List, [], ◌∷◌, refl, arith, inl, inr}
use Rattle.std.specs.Prelude.{◌⊎◌, ◌-ℤ◌}
use Rattle.std.proofs.lemmas.Bool.{cases_Bool, le-leb}
use Rattle.std.proofs.lemmas.Int.{ints}
use Rattle.lb_base.specs.declared.mask.Mask.{Mask}
use Rattle.lb_trace.specs.declared.trace.Command.{Command}
use Rattle.lb_trace.specs.declared.trace.Command.TheVariants as commands
use Rattle.lb_trace.specs.declared.trace.Row.{Row}
use Rattle.lb_trace.specs.Accepted.{is_nice_value}
use Rattle.lb_generator.specs.Draws.{draw}
use Rattle.lb_generator.specs.Generator.{lower_cpus, upper_cpus, all_cpus, mask_numbered, rebuild_drawn, change_drawn, command_drawn, lane_of, row_drawn}

-- one of the three masks
abbrev pub IsOneMask : Mask → Type 0
IsOneMask mask = (mask ≡ all_cpus) ⊎ ((mask ≡ lower_cpus) ⊎ (mask ≡ upper_cpus))

-- one of the two partitions
abbrev pub IsOnePartition : List Mask → Type 0
IsOnePartition parts = (parts ≡ lower_cpus ∷ upper_cpus ∷ []) ⊎ (parts ≡ all_cpus ∷ [])

-- what a row asks for may be drawn
abbrev pub MayBeDrawn : Command → Type 0
MayBeDrawn (commands.Wake task) = task < 200
MayBeDrawn (commands.Sleep task) = task < 200
MayBeDrawn (commands.Exit task) = ⊥
MayBeDrawn (commands.SetMask task mask) = (task < 200) × IsOneMask mask
MayBeDrawn (commands.Nice task nice) = (task < 200) × (is_nice_value nice ≡ true)
MayBeDrawn (commands.Tick cpu) = cpu < 16
MayBeDrawn (commands.Rebuild parts) = IsOnePartition parts

below : (k x : ℕ) → 0 < k → (draw k x).value < k
unfolding draw
below k x lt = omega arith

one_mask : (n : ℕ) → IsOneMask (mask_numbered n)
one_mask n = elim (cases_Bool (eqb n 0)) [
  | inl e ↦ rw e (inl refl)
  | inr e ↦ rw e (elim (cases_Bool (eqb n 1)) [ inl f ↦ rw f (inr (inl refl)) | inr f ↦ rw f (inr (inr refl)) ])
]

rebuilt : (x : ℕ) → MayBeDrawn (rebuild_drawn x).value
unfolding rebuild_drawn
rebuilt x = elim (cases_Bool (eqb (draw 2 x).value 0)) [ inl e ↦ rw e (inl refl) | inr e ↦ rw e (inr refl) ]

-- from -20 to 19
pub nice_in_range : (z : ℤ) → negsuc 19 ≤ℤ z → z ≤ℤ pos 19 → is_nice_value z ≡ true
nice_in_range (pos n) low high = le-leb n 19 (omega (arith, ints, high))
nice_in_range (negsuc n) low high = le-leb n 19 (omega (arith, ints, low))

nice_fits : (n : ℕ) → n < 40 → is_nice_value (pos n -ℤ pos 20) ≡ true
nice_fits n lt = nice_in_range (pos n -ℤ pos 20) (omega (arith, ints, lt)) (omega (arith, ints, lt))

changed : (x : ℕ) → MayBeDrawn (change_drawn x).value
unfolding change_drawn
changed x = elim (cases_Bool (eqb (draw 8 x).value 0)) [
  | inl e ↦ rw e (rebuilt (draw 8 x).state)
  | inr e ↦ rw e (elim (cases_Bool (ltb (draw 8 x).value 4)) [
    | inl f ↦
        let task = draw 200 (draw 8 x).state in
        rw f (below 200 (draw 8 x).state (omega arith), one_mask (draw 3 task.state).value)
    | inr f ↦
        let task = draw 200 (draw 8 x).state in
        rw f (below 200 (draw 8 x).state (omega arith), nice_fits (draw 40 task.state).value (below 40 task.state (omega arith)))
  ])
]

commanded : (x : ℕ) → MayBeDrawn (command_drawn x).value
unfolding command_drawn
commanded x = elim (cases_Bool (ltb (draw 10 x).value 4)) [
  | inl e ↦ rw e (below 200 (draw 10 x).state (omega arith))
  | inr e ↦ rw e (elim (cases_Bool (ltb (draw 10 x).value 6)) [
    | inl f ↦ rw f (below 200 (draw 10 x).state (omega arith))
    | inr f ↦ rw f (elim (cases_Bool (ltb (draw 10 x).value 9)) [
      | inl g ↦ rw g (below 16 (draw 10 x).state (omega arith))
      | inr g ↦ rw g (changed (draw 10 x).state)
    ])
  ])
]

-- what holds of row r
pub record IsRowAt (r : ℕ) (row : Row) : Type 0 where
  pub lane : row.lane ≡ lane_of r row.command
  pub at : row.at ≡ 50000 * r
  pub command : MayBeDrawn row.command

pub drawn_row : (r x : ℕ) → IsRowAt r (row_drawn r x).value
unfolding row_drawn
drawn_row r x = record { lane = refl; at = refl; command = commanded x }
