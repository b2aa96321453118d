-- A line that is spelled from fields which pass every test of a trace is read as what they say.
-- For the lemmas of `HeaderLines` and `RowLines`, and so for the laws `are_accepted` and `moments_are_small`.
use Rattle.std.proofs.Common.{◌≡◌, ℕ, true, false, eqb, List, [], ◌∷◌, ◌++◌, Some, Ok, refl, ap}
use Rattle.std.specs.List.{list_all, slice_split}
use Rattle.lb_fields.specs.Pieces.{is_plain}
use Rattle.lb_trace.specs.declared.kind.LineKind.{LineKind}
use Rattle.lb_trace.specs.declared.reading.Reading.{Reading}
use Rattle.lb_trace.specs.Kinds.{line_kind}
use Rattle.lb_trace.specs.Places.{is_first}
use Rattle.lb_trace.specs.Tests.{Tests, unless_bad, byte_tests, place_tests, value_tests, kind_tests, line_tests}
use Rattle.lb_trace.specs.Grammar.{◌>>=◌, after, line_at, on_line, lines_from}
use Rattle.lb_trace.specs.FirstBad.{is_bad}
use Rattle.lb_trace.proofs.GoodLine.{IsGood}
use Rattle.lb_generator.specs.Text.{line_of}
use Rattle.lb_generator.proofs.Fields.{is_field, cut, line_plain}

all_pass : {A : Type 0} (tests : Tests) (a : A) → is_bad tests ≡ false → unless_bad tests a ≡ Ok a
all_pass [] a good = refl
all_pass ((true, code) ∷ tests) a good = absurd (let z : ⊥ = cc in z)
all_pass ((false, code) ∷ tests) a good = all_pass tests a good

none_bad : (r : Reading) (kind : LineKind) (fields : List (List ℕ)) → IsGood r kind fields
    → is_bad (kind_tests r (Some kind) fields) ≡ false
unfolding kind_tests place_tests value_tests
none_bad r kind fields g =
    rw (g.stands, g.room, g.size, g.numbers, g.lists, g.names, g.cpu, g.placed, g.nested, g.cpus, g.apart, g.mask, g.ticks) refl

pub good_is_read : (r : Reading) (kind : LineKind) (word : List ℕ) (fields : List (List ℕ)) → is_first r ≡ false
    → line_kind (word ∷ fields) ≡ Some kind → list_all is_field (word ∷ fields) ≡ true → IsGood r kind (word ∷ fields)
    → line_at r false (line_of word fields) ≡ Ok (after r kind (word ∷ fields))
unfolding line_at line_tests byte_tests
good_is_read r kind word fields first is e good =
    let parted : slice_split (λ b. eqb b 44) (line_of word fields) ≡ word ∷ fields = cut word fields e in
    let plain : is_plain (line_of word fields) ≡ true = line_plain word fields e in
    rw (parted, is, plain, first)
    (all_pass (kind_tests r (Some kind) (word ∷ fields)) (after r kind (word ∷ fields)) (none_bad r kind (word ∷ fields) good))

-- a line that is read, and others behind it
pub step_on : (r s : Reading) (line : List ℕ) (more : List (List ℕ)) → line_at r false line ≡ Ok s
    → lines_from r (line ∷ (more ++ [] ∷ [])) ≡ lines_from s (more ++ [] ∷ [])
unfolding lines_from
step_on r s line [] e = ap (λ o. on_line r.line o >>= λ t. lines_from t ([] ∷ [])) e
step_on r s line (next ∷ more) e = ap (λ o. on_line r.line o >>= λ t. lines_from t (next ∷ (more ++ [] ∷ []))) e
