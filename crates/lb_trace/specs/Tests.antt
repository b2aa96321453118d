-- The tests that a line has to pass, each with the code of a line that fails it, in the order in which
-- the codes are tried: the first test that holds gives the line's code.
-- Cited by the contracts of `Reading::cpu_line`, `Reading::dist_line`, `Reading::parts_line` and others; also by
-- `lb_generator` and `lb_read`.
use Rattle.std.specs.Prelude.{ℕ, Bool, true, not, ◌&&◌, List, [], ◌∷◌, ◌++◌, length, codes, if◌then◌else◌, Option, Some, None, is_none, Result, Ok, Err}
use Rattle.std.specs.Str.{bytes_eq}
use Rattle.lb_text.specs.declared.marks.TheConstants.{COMMA}
use Rattle.lb_fields.specs.Pieces.{pieces, is_plain}
use Rattle.lb_trace.specs.declared.trace.Code.{Code}
use Rattle.lb_trace.specs.declared.trace.Code.TheVariants as bad
use Rattle.lb_trace.specs.declared.kind.LineKind.{LineKind}
use Rattle.lb_trace.specs.declared.reading.Reading.{Reading}
use Rattle.lb_trace.specs.Kinds.{line_kind}
use Rattle.lb_trace.specs.Places.{is_first, can_stand, is_past_rows, has_fields}
use Rattle.lb_trace.specs.Spelling.{misspells_number, misspells_list}
use Rattle.lb_trace.specs.Naming.{misnames, names_no_cpu, overlaps, masks_badly, ticks_badly}
use Rattle.lb_trace.specs.Machine.{clashes_above, misplaces, is_not_nested}

-- each test with its code
abbrev pub Tests : Type 0
Tests = List (Bool × Code)

-- the code of the first test that holds, or where none does the value
abbrev pub unless_bad : {A : Type 0} → Tests → A → Result A Code
unless_bad [] a = Ok a
unless_bad (t ∷ ts) a = if t.0 then Err t.1 else unless_bad ts a

-- by the bytes of a line, which may be the last and without its line feed
unfoldable pub byte_tests : Reading → Bool → List ℕ → Tests
byte_tests r cut line =
    (not (is_plain line), bad.Byte)
    ∷ (cut, bad.Cut)
    ∷ (is_first r && not (bytes_eq line (codes "lbtrace,1")), bad.Header)
    ∷ []

-- by the place of a line of this kind
unfoldable pub place_tests : Reading → LineKind → List (List ℕ) → Tests
place_tests r kind fields =
    (not (can_stand r kind), bad.Order)
    ∷ (is_past_rows r kind, bad.Many)
    ∷ (not (has_fields r kind (length fields)), bad.Fields)
    ∷ []

-- by what its fields say
unfoldable pub value_tests : Reading → LineKind → List (List ℕ) → Tests
value_tests r kind fields =
    (misspells_number kind fields, bad.Number)
    ∷ (misspells_list kind fields, bad.List)
    ∷ (misnames r kind fields, bad.Id)
    ∷ (clashes_above r kind fields, bad.Cpu)
    ∷ (misplaces r kind fields, bad.Dist)
    ∷ (is_not_nested r kind fields, bad.Nested)
    ∷ (names_no_cpu r kind fields, bad.NoCpu)
    ∷ (overlaps kind fields, bad.Overlap)
    ∷ (masks_badly r kind fields, bad.Mask)
    ∷ (ticks_badly r kind fields, bad.Ticks)
    ∷ []

-- by its kind, where it has one, and its fields
unfoldable pub kind_tests : Reading → Option LineKind → List (List ℕ) → Tests
kind_tests r None fields = (true, bad.Kind) ∷ []
kind_tests r (Some kind) fields = place_tests r kind fields ++ value_tests r kind fields

-- all of a line's tests
unfoldable pub line_tests : Reading → Bool → List ℕ → Tests
line_tests r cut line = byte_tests r cut line ++ kind_tests r (line_kind (pieces COMMA line)) (pieces COMMA line)

-- those of a text that ends here
unfoldable pub end_tests : Reading → Tests
end_tests r = (is_first r, bad.Header) ∷ (is_none r.lanes, bad.Order) ∷ []
