-- The reader of an entry's line is exact: a line reads as an entry just where it is that entry's line.
-- For the lemmas of `WholeComplete` and `WholeSound`, and so for the laws `texts_read_once`, `headers_read_back` and
-- `histories_read_back`.
use Rattle.std.proofs.Common.{◌≡◌, ℕ, ◌+◌, true, eqb, cond, List, [], ◌∷◌, ◌++◌, map, length, Option, Some, None, Result, Ok, Err, refl, sym, ap, ◌∙◌, inl, inr, arith}
use Rattle.std.specs.List.{list_all}
use Rattle.std.proofs.lemmas.Bool.{cases_Bool, eqb-true}
use Rattle.lb_read.specs.declared.written.WrittenEntry.{WrittenEntry}
use Rattle.lb_read.specs.Entries.{line_in}
use Rattle.lb_read.specs.Written.{written_line, written_fits}
use Rattle.lb_read.specs.Texts.{onto_entries, entry_then, entries_in}
use Rattle.lb_read.proofs.Common.{same_ok, ok_err}
use Rattle.lb_read.proofs.ExactFacts.{both_true}
use Rattle.lb_read.proofs.KindsExact.{line_exact}

-- lines are those of entries in range, and nothing stands behind the last
abbrev pub IsEntries : List (List ℕ) → List WrittenEntry → Type 0
IsEntries lines entries = (lines ≡ map written_line entries ++ [] ∷ []) × (list_all written_fits entries ≡ true)

last_sound : (n : ℕ) (last : List ℕ) (ws : List WrittenEntry) → cond (eqb (length last) 0) (Ok []) (Err n) ≡ Ok ws
    → IsEntries (last ∷ []) ws
last_sound n [] ws e =
    let none = same_ok [] ws e in (ap (λ vs. map written_line vs ++ [] ∷ []) none, ap (list_all written_fits) (sym none))
last_sound n (b ∷ last) ws e = elim (cases_Bool (eqb (length (b ∷ last)) 0)) [
  | inl is ↦ absurd (let z : length (b ∷ last) ≡ 0 = eqb-true (length (b ∷ last)) 0 is in omega (arith, z))
  | inr not_is ↦ absurd (ok_err ws n (rw not_is at e))
]

more_sound : (n : ℕ) (line : List ℕ) (lines : List (List ℕ)) (ws : List WrittenEntry) (o : Option WrittenEntry)
    (given : Result (List WrittenEntry) ℕ)
    → line_in line ≡ o → ((vs : List WrittenEntry) → given ≡ Ok vs → IsEntries lines vs) → entry_then n o given ≡ Ok ws
    → IsEntries (line ∷ lines) ws
more_sound n line lines ws None given o_is rest e = absurd (ok_err ws n e)
more_sound n line lines ws (Some w) (Err m) o_is rest e = absurd (ok_err ws m e)
more_sound n line lines ws (Some w) (Ok vs) o_is rest e =
    let is : w ∷ vs ≡ ws = same_ok (w ∷ vs) ws e in
    let s = line_exact.sound line w o_is in
    let r = rest vs refl in (
      ap (λ l. l ∷ lines) s.0 ∙ ap (λ ls. written_line w ∷ ls) r.0
          ∙ ap (λ us. map written_line us ++ [] ∷ []) is,
      sym (ap (list_all written_fits) is) ∙ rw (s.1, r.1) refl,
    )

pub entries_sound : (n : ℕ) (lines : List (List ℕ)) (ws : List WrittenEntry) → entries_in n lines ≡ Ok ws → IsEntries lines ws
unfolding entries_in
entries_sound n [] ws e = absurd (ok_err ws n e)
entries_sound n (last ∷ []) ws e = last_sound n last ws e
entries_sound n (line ∷ next ∷ more) ws e =
    more_sound n line (next ∷ more) ws (line_in line) (entries_in (n + 1) (next ∷ more)) refl
    (λ vs h. entries_sound (n + 1) (next ∷ more) vs h) e

some_behind : (n : ℕ) (w : WrittenEntry) (lines : List (List ℕ)) (last : List ℕ)
    → entries_in n (written_line w ∷ (lines ++ last ∷ [])) ≡ entry_then n (line_in (written_line w))
    (entries_in (n + 1) (lines ++ last ∷ []))
unfolding entries_in
some_behind n w [] last = refl
some_behind n w (line ∷ lines) last = refl

none_left : (n : ℕ) → entries_in n ([] ∷ []) ≡ Ok []
unfolding entries_in
none_left n = refl

pub entries_complete : (n : ℕ) (ws : List WrittenEntry) → list_all written_fits ws ≡ true
    → entries_in n (map written_line ws ++ [] ∷ []) ≡ Ok ws
entries_complete n [] f = none_left n
entries_complete n (w ∷ ws) f =
    let h = both_true (written_fits w) (list_all written_fits ws) f in
    some_behind n w (map written_line ws) []
    ∙ ap (λ o. entry_then n o (entries_in (n + 1) (map written_line ws ++ [] ∷ []))) (line_exact.complete w h.0)
    ∙ ap (onto_entries w) (entries_complete (n + 1) ws h.1)
