-- A text is refused at the line where going over its lines stops.
-- For the law `texts_read_once`, and `read_history`.
use Rattle.std.proofs.Common.{◌≡◌, ℕ, suc, ◌+◌, ◌-◌, ◌≤◌, Bool, true, false, ◌&&◌, ◌||◌, eqb, leb, cond, List, [], ◌∷◌, ◌++◌, ◌==◌, length, drop, Option, Some, None, Result, Ok, Err, refl, sym, ap, subst, ◌∙◌, ◌⊎◌, inl, inr, arith, length-append}
use Rattle.std.specs.Prelude.{codes, is_ok, is_some, not, IfOk, IfErr}
use Rattle.std.specs.List.{slice_split, All}
use Rattle.std.specs.Str.{bytes_eq}
use Rattle.std.proofs.lemmas.Bool.{cases_Bool, both_ways, leb-true, le-leb, and_parts}
use Rattle.lb_trace.specs.declared.trace.TheConstants.{MAX_BYTES}
use Rattle.lb_trace.specs.declared.trace.Code.{Code}
use Rattle.lb_trace.specs.declared.trace.Code.TheVariants as bad
use Rattle.lb_trace.specs.declared.trace.Header.{Header}
use Rattle.lb_trace.specs.declared.reading.Reading.{Reading}
use Rattle.lb_trace.specs.Grammar.{◌>>=◌, line_at, ended, on_line, lines_from, nothing_read, trace_of, reading_of}
use Rattle.lb_trace.proofs.FirstBadLines.{line_next}
use Rattle.lb_text.specs.Lines.{lines_text}
use Rattle.lb_read.specs.declared.written.WrittenEntry.{WrittenEntry}
use Rattle.lb_read.specs.declared.written.Read.{Read}
use Rattle.lb_read.specs.declared.written.RecordError.{RecordError}
use Rattle.lb_read.specs.declared.written.RecordError.TheVariants as errors
use Rattle.lb_read.specs.Entries.{line_in}
use Rattle.lb_read.specs.Repeats.{is_repeated, can_repeat, is_parts, Head, none_of, in_head, has_room, head_of}
use Rattle.lb_read.specs.Texts.{lines_of, onto_entries, entry_then, entries_in, trace_text, version_line, room, line_after, head_behind, header_from, header_in, read_from, read_after, read_behind, read_lines, read_of, Gives}
use Rattle.lb_read.specs.FirstBad.{Place, version_read, after_body, entry_next, place_next, may_end, IsFirstBadLine, IsRefusal}
use Rattle.lb_read.specs.FirstBad.Place.{AtStart, InHeader, InEntries}
use Rattle.lb_read.specs.Whole.{ReadsAs}
use Rattle.lb_read.specs.Laws.{ReadOnce, ReadOrBad, NoneIsBad, OneIsFirst}
use Rattle.lb_read.proofs.Common.{same_ok}
use Rattle.lb_read.proofs.ExactFacts.{EachFree}
use Rattle.lb_read.proofs.HeaderSteps.{some_more, version_is_read}
use Rattle.lb_read.proofs.WholeSound.{head_sound, bodies_free, cut_free, split_free, texts_are_read}
use Rattle.lb_read.proofs.WholeComplete.{reads_texts}
use Rattle.lb_read.proofs.TextFacts.{some_lines}
use Rattle.lb_read.proofs.Walks.{walk_on, walk, stops_at_first, no_bad, one_first_bad}

-- the line that reading stops at
abbrev pub bad_of : {A : Type 0} → Result A ℕ → Option ℕ
bad_of (Ok a) = None
bad_of (Err n) = Some n

-- ---- entries
onto_same : (w : WrittenEntry) (given : Result (List WrittenEntry) ℕ) → bad_of (onto_entries w given) ≡ bad_of given
onto_same w (Ok ws) = refl
onto_same w (Err n) = refl

entry_walk : (n : ℕ) (o : Option WrittenEntry) (given : Result (List WrittenEntry) ℕ) (rest : Place → Option ℕ)
    → bad_of given ≡ rest InEntries
    → bad_of (entry_then n o given) ≡ walk_on n (cond (is_some o) (Some InEntries) None) rest
entry_walk n None given rest e = refl
entry_walk n (Some w) given rest e = onto_same w given ∙ e

last_walk : (n : ℕ) (last : List ℕ) → bad_of {A = List WrittenEntry} (cond (length last == 0) (Ok []) (Err n)) ≡ cond
    (length last == 0) None (Some n)
last_walk n last = elim (cases_Bool (length last == 0)) [
  | inl is ↦ rw is refl
  | inr not_is ↦ rw not_is refl
]

entries_walk : (n : ℕ) (line : List ℕ) (lines : List (List ℕ))
    → bad_of (entries_in n (line ∷ lines)) ≡ walk InEntries n (line ∷ lines)
unfolding entries_in walk place_next may_end
entries_walk n last [] = last_walk n last
entries_walk n line (next ∷ more) =
    entry_walk n (line_in line) (entries_in (n + 1) (next ∷ more)) (λ q. walk q (n + 1) (next ∷ more))
    (entries_walk (n + 1) next more)

-- ---- the header
-- the line that reading stops at behind a head, whose trace was read so; n is the line after the head
abbrev read_on : ℕ → Head → Result Reading (ℕ × Code) → Option ℕ
read_on n head (Err bad) = Some bad.0
read_on n head (Ok reading) = cond head.stopped (Some n) (bad_of (entries_in n head.rest))

read_last : (n : ℕ) (last : List ℕ) (o : Result Reading Code)
    → read_on n (none_of false (last ∷ [])) (on_line n o) ≡ cond (is_ok o && length last == 0) None (Some n)
unfolding entries_in
read_last n last (Err code) = refl
read_last n last (Ok reading) = last_walk n last

read_other : (n : ℕ) (line next : List ℕ) (more : List (List ℕ)) (o : Result Reading Code)
    → read_on n (none_of false (line ∷ next ∷ more)) (on_line n o) ≡ walk_on n (cond (is_ok o) (entry_next line) None)
    (λ q. walk q (n + 1) (next ∷ more))
unfolding walk place_next
read_other n line next more (Err code) = refl
read_other n line next more (Ok reading) = entries_walk n line (next ∷ more)

read_stopped : (n : ℕ) (lines : List (List ℕ)) (o : Result Reading Code) → read_on n (none_of true lines) (on_line n o) ≡ Some n
read_stopped n lines (Err code) = refl
read_stopped n lines (Ok reading) = refl

ended_read : (r : Reading) → lines_from r ([] ∷ []) ≡ on_line r.line (ended r)
unfolding lines_from
ended_read r = refl

-- the lines behind a line of the header are gone over as they are read
abbrev GoesOn : ℕ → Head → (Place → Option ℕ) → Bool → ℕ → ℕ → Type 0
GoesOn n head rest parted left k =
    (s : Reading) → k ≡ s.line → n ≡ s.line + length head.bodies
    → read_on n head (lines_from s (head.bodies ++ [] ∷ [])) ≡ rest (InHeader s parted left)

read_body : (n : ℕ) (head : Head) (r : Reading) (body : List ℕ) (parted : Bool) (left : ℕ) (rest : Place → Option ℕ)
    (o : Result Reading Code)
    → line_at r false body ≡ o
    → n ≡ r.line + 1 + length head.bodies → GoesOn n head rest parted left (r.line + 1)
    → read_on n (in_head body head) (on_line r.line o >>= λ s. lines_from s (head.bodies ++ [] ∷ [])) ≡ walk_on
    r.line (after_body parted left o) rest
read_body n head r body parted left rest (Err code) at number goes = refl
read_body n head r body parted left rest (Ok s) at number goes =
    let next = line_next r s body at in goes s (sym next) (omega (arith, next, number))

one_line : (n : ℕ) (head : Head) (r : Reading) (parted : Bool) (left : ℕ) (line next : List ℕ) (more : List (List ℕ)) (f : Head)
    → f ≡ cond (not (is_repeated line)) (none_of false (line ∷ next ∷ more))
    (cond (can_repeat parted (drop 2 line) && has_room left (drop 2 line)) (in_head (drop 2 line) head)
    (none_of true (line ∷ next ∷ more)))
    → n ≡ r.line + length f.bodies
    → GoesOn n head (λ q. walk q (r.line + 1) (next ∷ more)) (parted || is_parts (drop 2 line))
    (left - (length (drop 2 line) + 1)) (r.line + 1)
    → read_on n f (lines_from r (f.bodies ++ [] ∷ [])) ≡ walk_on r.line (place_next (InHeader r parted left) line)
    (λ q. walk q (r.line + 1) (next ∷ more))
unfolding place_next
one_line n head r parted left line next more f f_is number goes = elim (cases_Bool (is_repeated line)) [
  | inr other ↦
      let none : f ≡ none_of false (line ∷ next ∷ more) = rw other at f_is in
      let same : n ≡ r.line = let len : length f.bodies ≡ 0 = ap (λ g. length g.bodies) none in omega (arith, number, len) in
      rw other
      (ap (λ g. read_on n g (lines_from r (g.bodies ++ [] ∷ []))) none ∙ ap
      (read_on n (none_of false (line ∷ next ∷ more))) (ended_read r)
      ∙ ap (λ k. read_on k (none_of false (line ∷ next ∷ more)) (on_line r.line (ended r))) same
      ∙ read_other r.line line next more (ended r))
  | inl rep ↦ elim (cases_Bool (can_repeat parted (drop 2 line) && has_room left (drop 2 line))) [
    | inr cannot ↦
        let none : f ≡ none_of true (line ∷ next ∷ more) = rw (rep, cannot) at f_is in
        let same : n ≡ r.line = let len : length f.bodies ≡ 0 = ap (λ g. length g.bodies) none in omega (arith, number, len) in
        rw (rep, cannot)
        (ap (λ g. read_on n g (lines_from r (g.bodies ++ [] ∷ []))) none ∙ ap
        (read_on n (none_of true (line ∷ next ∷ more))) (ended_read r)
        ∙ ap (λ k. read_on k (none_of true (line ∷ next ∷ more)) (on_line r.line (ended r))) same
        ∙ read_stopped r.line (line ∷ next ∷ more) (ended r))
    | inl can ↦
        let more_is : f ≡ in_head (drop 2 line) head = rw (rep, can) at f_is in
        let len : length f.bodies ≡ suc (length head.bodies) = ap (λ g. length g.bodies) more_is in
        rw (rep, can)
        (ap (λ g. read_on n g (lines_from r (g.bodies ++ [] ∷ []))) more_is
        ∙ ap (read_on n (in_head (drop 2 line) head)) (some_more r (drop 2 line) head.bodies [])
        ∙ read_body n head r (drop 2 line) (parted || is_parts (drop 2 line)) (left - (length (drop 2 line) + 1))
        (λ q. walk q (r.line + 1) (next ∷ more))
        (line_at r false (drop 2 line)) refl (omega (arith, number, len)) goes)
  ]
]

header_walk : (n : ℕ) (r : Reading) (parted : Bool) (left : ℕ) (line : List ℕ) (lines : List (List ℕ)) (k : ℕ) → k ≡ r.line
    → n ≡ r.line + length (head_of left parted (line ∷ lines)).bodies
    → read_on n (head_of left parted (line ∷ lines))
    (lines_from r ((head_of left parted (line ∷ lines)).bodies ++ [] ∷ [])) ≡ walk (InHeader r parted left) k (line ∷ lines)
unfolding head_of walk may_end
header_walk n r parted left last [] k at number =
    ap (read_on n (none_of false (last ∷ []))) (ended_read r)
    ∙ ap (λ m. read_on m (none_of false (last ∷ [])) (on_line r.line (ended r))) (omega (arith, number))
    ∙ read_last r.line last (ended r)
    ∙ ap (λ m. cond (is_ok (ended r) && length last == 0) None (Some m)) (sym at)
header_walk n r parted left line (next ∷ more) k at number =
    let head = head_of (left - (length (drop 2 line) + 1)) (parted || is_parts (drop 2 line)) (next ∷ more) in
    one_line n head r parted left line next more _ refl number
    (λ s up e. header_walk n s (parted || is_parts (drop 2 line)) (left - (length (drop 2 line) + 1)) next more (r.line + 1) up e)
    ∙ ap (λ m. walk_on m (place_next (InHeader r parted left) line) (λ q. walk q (m + 1) (next ∷ more))) (sym at)

-- ---- the trace of the header
head_fits : (n : ℕ) (parted : Bool) (lines : List (List ℕ)) → length (lines_text (head_of n parted lines).bodies) ≤ n
unfolding head_of
head_fits n parted [] = omega arith
head_fits n parted (last ∷ []) = omega arith
head_fits n parted (line ∷ next ∷ more) = elim (cases_Bool (is_repeated line)) [
  | inr other ↦ rw other (omega arith)
  | inl rep ↦ elim (cases_Bool (can_repeat parted (drop 2 line) && has_room n (drop 2 line))) [
    | inr cannot ↦ rw (rep, cannot) (omega arith)
    | inl can ↦
        let body = drop 2 line in
        let head = head_of (n - (length body + 1)) (parted || is_parts body) (next ∷ more) in
        let fits : length body + 1 ≤ n =
        leb-true (length body + 1) n (and_parts (can_repeat parted body) (has_room n body) can).1 in
        let rest : length (lines_text head.bodies) ≤ n - (length body + 1) =
        head_fits (n - (length body + 1)) (parted || is_parts body) (next ∷ more) in
        let len : length (lines_text (body ∷ head.bodies)) ≡ length body + 1 + length (lines_text head.bodies) =
        length-append (body ++ 10 ∷ []) (lines_text head.bodies)
        ∙ ap (λ k. k + length (lines_text head.bodies)) (length-append body (10 ∷ [])) in
        rw (rep, can) (omega (arith, fits, rest, len))
  ]
]

-- the trace of lines behind the first
trace_read : (bodies : List (List ℕ)) → EachFree 10 bodies → length (lines_text bodies) ≤ room
    → reading_of (trace_text bodies) ≡ (lines_from version_read (bodies ++ [] ∷ []) >>= λ r. Ok (trace_of r))
unfolding reading_of
trace_read bodies free fits =
    let version_free : All (λ b. eqb b 10 ≡ false) (codes "lbtrace,1") = (split_free 10 (codes "lbtrace,1")).0 in
    let cut = cut_free (codes "lbtrace,1" ∷ bodies) (version_free, free) in
    let len : length (trace_text bodies) ≡ 10 + length (lines_text bodies) =
    length-append (codes "lbtrace,1" ++ 10 ∷ []) (lines_text bodies) in
    let le : leb (length (trace_text bodies)) MAX_BYTES ≡ true =
    le-leb (length (trace_text bodies)) MAX_BYTES (omega (arith, len, fits)) in
    ap
    (λ b. cond b (lines_from nothing_read (slice_split (λ b. eqb b 10) (trace_text bodies)) >>= λ r. Ok (trace_of r))
    (Err (0, bad.TooLong))) le
    ∙ ap (λ ls. lines_from nothing_read ls >>= λ r. Ok (trace_of r)) cut
    ∙ ap (λ o. o >>= λ r. Ok (trace_of r))
    (some_more nothing_read (codes "lbtrace,1") bodies [] ∙ ap
    (λ o. on_line 1 o >>= λ t. lines_from t (bodies ++ [] ∷ [])) version_is_read)

from_walk : (header : Header) (o : Result (List WrittenEntry) ℕ) → bad_of (read_from header o) ≡ bad_of o
from_walk header (Ok ws) = refl
from_walk header (Err n) = refl

after_walk : (head : Head) (o : Result Reading (ℕ × Code))
    → bad_of (read_after head (header_from head (o >>= λ r. Ok (trace_of r)))) ≡ read_on (line_after head.bodies) head o
after_walk head (Err bad) = refl
after_walk head (Ok reading) = elim (cases_Bool head.stopped) [
  | inl stopped ↦ rw stopped refl
  | inr going ↦ rw going (from_walk (trace_of reading).header (entries_in (line_after head.bodies) head.rest))
]

behind_walk : (line : List ℕ) (lines : List (List ℕ)) → EachFree 10 (line ∷ lines)
    → bad_of (read_behind (line ∷ lines)) ≡ walk (InHeader version_read false room) 2 (line ∷ lines)
unfolding read_behind header_in
behind_walk line lines free =
    let head = head_behind (line ∷ lines) in
    let f = head_sound room false (line ∷ lines) (omega arith) in
    ap (λ o. bad_of (read_after head (header_from head o)))
    (trace_read head.bodies (bodies_free head.bodies head.rest (subst (EachFree 10) f.0 free))
    (head_fits room false (line ∷ lines)))
    ∙ after_walk head (lines_from version_read (head.bodies ++ [] ∷ []))
    ∙ header_walk (line_after head.bodies) version_read false room line lines 2 refl (omega arith)

-- ---- the whole text
lines_walk : (lines : List (List ℕ)) → (lines ≡ [] → ⊥) → EachFree 10 lines → bad_of (read_lines lines) ≡ walk AtStart 1 lines
unfolding read_lines walk place_next may_end
lines_walk [] some free = absurd (some refl)
lines_walk (last ∷ []) some free = refl
lines_walk (line ∷ next ∷ more) some free = elim (cases_Bool (bytes_eq line version_line)) [
  | inr other ↦ rw other refl
  | inl same ↦ rw same (behind_walk next more free.1)
]

text_walk : (text : List ℕ) → bad_of (read_of text) ≡ walk AtStart 1 (lines_of text)
text_walk text = lines_walk (lines_of text) (some_lines text) (split_free 10 text)

pub refused_at_first : (text : List ℕ) (n : ℕ) → read_of text ≡ Err n → IsFirstBadLine (lines_of text) n
refused_at_first text n e = stops_at_first (lines_of text) n (sym (text_walk text) ∙ ap (bad_of {A = Read}) e)

-- ---- a text is read or has a bad line, and not both
pub one_is_first : OneIsFirst
one_is_first text n m first second = one_first_bad (lines_of text) n m first second

pub none_is_bad : NoneIsBad
none_is_bad text read n r bad =
    let walked : walk AtStart 1 (lines_of text) ≡ None =
    sym (text_walk text) ∙ ap (bad_of {A = Read}) (reads_texts text read r) in
    both_ways _ (no_bad (lines_of text) walked bad.k bad.within) bad.here

read_or_refused : (text : List ℕ) (o : Result Read ℕ) → read_of text ≡ o
    → ((read : Read) × ReadsAs text read) ⊎ ((n : ℕ) × IsFirstBadLine (lines_of text) n)
read_or_refused text (Ok read) e = inl (read, texts_are_read text read e)
read_or_refused text (Err n) e = inr (n, refused_at_first text n e)

pub read_or_bad : ReadOrBad
read_or_bad text = read_or_refused text (read_of text) refl

pub read_once : ReadOnce
read_once text a b of_a of_b = same_ok a b (sym (reads_texts text a of_a) ∙ reads_texts text b of_b)

-- ---- answers of the code
pub gives_read : (text : List ℕ) (o : Result Read RecordError) → Gives o (read_of text) → IfOk o (λ read. ReadsAs text read)
gives_read text (Ok read) e = texts_are_read text read e
gives_read text (Err error) e = tt

pub gives_bad : (text : List ℕ) (o : Result Read RecordError) → Gives o (read_of text) → IfErr o (λ error. IsRefusal error text)
gives_bad text (Ok read) e = tt
gives_bad text (Err (errors.BadLine line)) e = refused_at_first text line e
gives_bad text (Err errors.NoMemory) e = tt
