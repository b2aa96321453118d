-- Readers of lists of fields, put together from readers of one field, and what it says that a reader
-- is exact for a spelling.
-- Cited by the contracts of `decision_in`, `next_long`, `next_short` and others.
use Rattle.std.specs.Prelude.{◌≡◌, ℕ, ◌==◌, Bool, true, List, [], ◌∷◌, ◌++◌, Option, Some, None, option_and_then, if◌then◌else◌}
use Rattle.std.specs.Option.{option_map}
use Rattle.std.specs.List.{slice_split}
use Rattle.std.specs.Str.{bytes_eq}

-- the value of the first field, and the other fields
unfoldable pub take_field : {A : Type 0} → (List ℕ → Option A) → List (List ℕ) → Option (A × List (List ℕ))
take_field read [] = None
take_field read (field ∷ fields) = option_map (λ a. (a, fields)) (read field)

-- one head after the other
abbrev pub next_to : {A B : Type 0} → (List (List ℕ) → Option (A × List (List ℕ))) → (List (List ℕ) → Option (B × List (List ℕ)))
    → List (List ℕ) → Option ((A × B) × List (List ℕ))
next_to first second fields = option_and_then (λ a. option_map (λ b. ((a.0, b.0), b.1)) (second a.1)) (first fields)

-- a head, and then all the rest
abbrev pub ending : {A B : Type 0} → (List (List ℕ) → Option (A × List (List ℕ))) → (List (List ℕ) → Option B)
    → List (List ℕ) → Option (A × B)
ending first rest fields = option_and_then (λ a. option_map (λ b. (a.0, b)) (rest a.1)) (first fields)

-- a value, where no field is left
abbrev pub if_none_left : {A : Type 0} → A → List (List ℕ) → Option A
if_none_left a [] = Some a
if_none_left a (field ∷ fields) = None

-- a head that is all there is
abbrev pub whole : {A : Type 0} → (List (List ℕ) → Option (A × List (List ℕ))) → List (List ℕ) → Option A
whole first fields = option_and_then (λ a. if_none_left a.0 a.1) (first fields)

-- the values of all parts, where each has one
abbrev pub each : {A : Type 0} → (List ℕ → Option A) → List (List ℕ) → Option (List A)
each read [] = Some []
each read (part ∷ parts) = option_and_then (λ a. option_map (λ more. a ∷ more) (each read parts)) (read part)

-- what a reader of fields reads between marks
abbrev pub split_at : {A : Type 0} → ℕ → (List (List ℕ) → Option A) → List ℕ → Option A
split_at mark read text = read (slice_split (λ b. b == mark) text)

-- what stands beside a word
abbrev pub named : {A : Type 0} → List (List ℕ × A) → List ℕ → Option A
named [] word = None
named (w ∷ ws) word = if bytes_eq word w.0 then Some w.1 else named ws word

-- the fields behind a word, by what the word says
abbrev pub by_word : {K A : Type 0} → List (List ℕ × K) → (K → List (List ℕ) → Option A) → List (List ℕ) → Option A
by_word table rest fields = option_and_then (λ k. rest k.0 k.1) (take_field (named table) fields)

-- ---- exact readers
-- a reader gives a value exactly where the text is the value's spelling and the value is in range
pub record IsExact {X A : Type 0} (read : X → Option A) (write : A → X) (fits : A → Bool) : Type 0 where
  pub sound : (x : X) (a : A) → read x ≡ Some a → (x ≡ write a) × (fits a ≡ true)
  pub complete : (a : A) → fits a ≡ true → read (write a) ≡ Some a

-- the same, of a reader of the head
pub record TakesExactly {A : Type 0} (take : List (List ℕ) → Option (A × List (List ℕ))) (write : A → List (List ℕ))
    (fits : A → Bool) : Type 0 where
  pub sound : (fields : List (List ℕ)) (a : A) (rest : List (List ℕ)) → take fields ≡ Some (a, rest)
      → (fields ≡ write a ++ rest) × (fits a ≡ true)
  pub complete : (a : A) (rest : List (List ℕ)) → fits a ≡ true → take (write a ++ rest) ≡ Some (a, rest)
