-- A text as the pieces between its marks: lines between line feeds, fields between commas. There is
-- one piece more than there are marks. A line is plain where each of its bytes may stand in a trace.
-- Cited by the contracts of `start`, `next_fields` and `is_plain`; also by `lb_generator`, `lb_read` and `lb_trace`.
use Rattle.std.specs.Prelude.{ℕ, Bool, List, ◌||◌, ◌==◌}
use Rattle.std.specs.Char.{is_ascii_digit, is_ascii_lowercase}
use Rattle.std.specs.List.{list_all, slice_split}
use Rattle.lb_text.specs.declared.marks.TheConstants.{COMMA, SEMICOLON, MINUS}

-- the pieces of a text between the bytes that are this mark
abbrev pub pieces : ℕ → List ℕ → List (List ℕ)
pieces mark text = slice_split (λ byte. byte == mark) text

-- a digit, a letter from `a` to `z`, a comma, `;` or `-`
abbrev pub is_plain_byte : ℕ → Bool
is_plain_byte byte = is_ascii_digit byte || is_ascii_lowercase byte || byte == COMMA || byte == SEMICOLON || byte == MINUS

abbrev pub is_plain : List ℕ → Bool
is_plain line = list_all is_plain_byte line
