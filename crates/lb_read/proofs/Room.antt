-- The lines of the header of an accepted text are no longer than the text.
-- For the law `headers_read_back`.
use Rattle.std.proofs.Common.{◌≡◌, ℕ, ◌+◌, ◌≤◌, Bool, true, false, not, eqb, cond, List, [], ◌∷◌, ◌++◌, map, length, Option, Some, None, Ok, refl, sym, ap, subst, ◌∙◌, inl, inr, arith}
use Rattle.std.specs.Prelude.{codes, is_some, unwrap_or, decimal}
use Rattle.std.specs.Fmt.{signed_decimal}
use Rattle.std.specs.Str.{bytes_eq}
use Rattle.std.specs.List.{list_all, slice_split, join_with_byte}
use Rattle.std.proofs.Common.{length-append}
use Rattle.std.proofs.lemmas.Bool.{cases_Bool, and_parts, or_parts, eqb-true, not-false, both_ways}
use Rattle.std.proofs.lemmas.List.Splits.{join_with_byte-slice_split}
use Rattle.std.proofs.lemmas.Slice.Eq.{bytes_eq-Decides}
use Rattle.csv.specs.Records.{field_at}
use Rattle.lb_base.specs.declared.mask.Mask.{Mask}
use Rattle.lb_levels.specs.declared.cpu_row.CpuRow.{CpuRow}
use Rattle.lb_text.specs.Lists.{list_of, is_list}
use Rattle.lb_text.specs.Runs.{runs_text}
use Rattle.lb_trace.specs.declared.trace.TaskRow.{TaskRow}
use Rattle.lb_trace.specs.declared.kind.LineKind.{LineKind}
use Rattle.lb_trace.specs.declared.kind.LineKind.TheVariants as kinds
use Rattle.lb_trace.specs.declared.kind.RowKind.TheVariants as rows
use Rattle.lb_fields.specs.Pieces.{is_plain}
use Rattle.lb_trace.specs.declared.reading.Reading.{Reading}
use Rattle.lb_trace.specs.Kinds.{kind_beside, line_kind}
use Rattle.lb_trace.specs.Values.{number, list, number_at, nice_at, list_at, id_in, cpu_of, distances_in, task_of}
use Rattle.lb_trace.specs.Tests.{byte_tests, kind_tests, line_tests, end_tests}
use Rattle.lb_trace.specs.Grammar.{after_line, line_at, ended, lines_from, nothing_read, trace_of, reading_of}
use Rattle.lb_trace.specs.FirstBad.{is_bad}
use Rattle.lb_trace.proofs.FirstCode.{passes}
use Rattle.lb_trace.proofs.GoodLine.{IsGood, both_good, good_line}
use Rattle.lb_text.specs.Lines.{joined, marked, lines_text, numbered}
use Rattle.lb_read.proofs.FieldsExact.{joined_is}
use Rattle.lb_read.proofs.HeaderValues.{number_field, nice_field}
use Rattle.lb_read.proofs.HeaderSound.{bodies, cpu_body, distances_body, parts_body, lanes_body, task_body, cpu_text, distances_text, lanes_text, four_fields}
use Rattle.lb_base.specs.Mask.{first_cpus}
use Rattle.lb_trace.specs.declared.trace.TheConstants.{MAX_BYTES}
use Rattle.lb_trace.specs.declared.trace.Trace.{Trace}
use Rattle.lb_trace.specs.Accepted.{IsTrace}
use Rattle.lb_trace.proofs.AcceptedFacts.{reading_is_trace}
use Rattle.lb_trace.proofs.FirstBadLines.{line_good}
use Rattle.lb_read.specs.Texts.{trace_text}
use Rattle.lb_read.specs.Whole.{trace_lines}
use Rattle.lb_read.proofs.WholeSound.{reading_part}
use Rattle.lb_read.proofs.WholeComplete.{within_limit}
use Rattle.lb_read.specs.Laws.{HeadersReadBack}
use Rattle.lb_read.proofs.HeaderSteps.{on_ok, split_on, version_is_read}
use Rattle.lb_read.proofs.Common.{some_from, same_ok}
use Rattle.lb_read.proofs.Declared.{so_far, with_cpus, lines_are, declared_where_it_fits}
use Rattle.lb_read.proofs.Sizes.{text_append, line_length, headers_have_room}
use Rattle.lb_read.proofs.Shortest.{lists_are_short}

-- ---- how long the lines are of what was read
abbrev parts_size : Option (List Mask) → ℕ
parts_size None = 0
parts_size (Some parts) = length (parts_body parts) + 1

abbrev lanes_size : Option ℕ → ℕ
lanes_size None = 0
lanes_size (Some lanes) = length (lanes_body lanes) + 1

abbrev pub size : Reading → ℕ
size r =
    length (lines_text (numbered cpu_body 0 r.cpus)) +
    (length (lines_text (map distances_body r.distances)) +
    (parts_size r.parts + (lanes_size r.lanes + length (lines_text (numbered task_body 0 r.tasks)))))

numbered_more : {A : Type 0} (line : ℕ → A → List ℕ) (n : ℕ) (xs : List A) (x : A)
    → length (lines_text (numbered line n (xs ++ x ∷ []))) ≡ length (lines_text (numbered line n xs)) +
    (length (line (n + length xs) x) + 1)
numbered_more line n [] x =
    let l = line_length (line n x) [] in let z : n ≡ n + 0 = omega arith in
    let e : length (line n x) ≡ length (line (n + 0) x) = ap (λ k. length (line k x)) z in omega (arith, l, e)
numbered_more line n (y ∷ ys) x =
    let more = numbered_more line (n + 1) ys x in
    let a = line_length (line n y) (numbered line (n + 1) (ys ++ x ∷ [])) in
    let b = line_length (line n y) (numbered line (n + 1) ys) in
    let z : n + 1 + length ys ≡ n + length (y ∷ ys) = omega arith in
    let e : length (line (n + 1 + length ys) x) ≡ length (line (n + length (y ∷ ys)) x) = ap (λ k. length (line k x)) z in
    omega (arith, more, a, b, e)

from_zero : {A : Type 0} (line : ℕ → A → List ℕ) (xs : List A) (x : A)
    → length (lines_text (numbered line 0 (xs ++ x ∷ []))) ≡ length
    (lines_text (numbered line 0 xs)) + (length (line (length xs) x) + 1)
from_zero line xs x =
    let m = numbered_more line 0 xs x in let z : 0 + length xs ≡ length xs = omega arith in
    let e : length (line (0 + length xs) x) ≡ length (line (length xs) x) = ap (λ k. length (line k x)) z in omega (arith, m, e)

map_more : (table : List (List ℕ)) (row : List ℕ)
    → length (lines_text (map distances_body (table ++ row ∷ []))) ≡ length (lines_text (map distances_body table)) +
    (length (distances_body row) + 1)
map_more [] row = let l = line_length (distances_body row) [] in omega (arith, l)
map_more (first ∷ table) row =
    let more = map_more table row in
    let a = line_length (distances_body first) (map distances_body (table ++ row ∷ [])) in
    let b = line_length (distances_body first) (map distances_body table) in
    omega (arith, more, a, b)

-- ---- lists of a line
short_list : (field : List ℕ) → is_list field ≡ true → length (runs_text (list (list_of field))) ≤ length field
short_list field there = by_value (list_of field) refl there
  where
    by_value : (o : Option Mask) → list_of field ≡ o → is_some o ≡ true → length (runs_text (list o)) ≤ length field
    by_value None e some = absurd (let z : ⊥ = cc in z)
    by_value (Some mask) e some = lists_are_short field mask e

short_lists : (fields : List (List ℕ)) → list_all is_list fields ≡ true
    → length (marked 44 (map runs_text (map (λ field. list (list_of field)) fields))) ≤ length (marked 44 fields)
short_lists [] all = omega arith
short_lists (field ∷ fields) all =
    let p = and_parts (is_list field) _ all in
    let one = short_list field p.0 in
    let more = short_lists fields p.1 in
    let a = length-append (44 ∷ field) (marked 44 fields) in
    let b =
    length-append (44 ∷ runs_text (list (list_of field))) (marked 44 (map runs_text (map (λ f. list (list_of f)) fields))) in
    omega (arith, one, more, a, b)

task_four : (r : Reading) (a b c d : List ℕ) → IsGood r kinds.Task (codes "task" ∷ a ∷ b ∷ c ∷ d ∷ [])
    → length (task_body (length r.tasks) (task_of (codes "task" ∷ a ∷ b ∷ c ∷ d ∷ []))) ≤ length
    (joined 44 (codes "task" ∷ a ∷ b ∷ c ∷ d ∷ []))
unfolding number_at nice_at list_at field_at
task_four r a b c d good =
    let fields = codes "task" ∷ a ∷ b ∷ c ∷ d ∷ [] in
    let task = task_of fields in
    let home = or_parts _ _ good.numbers in
    let nice_there = or_parts _ _ home.0 in
    let names = or_parts _ _ good.names in
    let id_is : number (id_in fields) ≡ length r.tasks = eqb-true _ _ (not-false _ names.0) in
    let ea = ap length (number_field 0 18446744073709551615 a (omega arith) nice_there.0 ∙ ap decimal id_is) in
    let eb = ap length (nice_field b nice_there.1) in
    let ec = ap length (number_field 0 18446744073709551615 c (omega arith) home.1) in
    let ed = short_list d (some_from (list_of d) good.lists) in
    let w = length-append (codes "task") (marked 44 (a ∷ b ∷ c ∷ d ∷ [])) in
    let wa = length-append (44 ∷ a) (marked 44 (b ∷ c ∷ d ∷ [])) in
    let wb = length-append (44 ∷ b) (marked 44 (c ∷ d ∷ [])) in
    let wc = length-append (44 ∷ c) (marked 44 (d ∷ [])) in
    let wd = length-append (44 ∷ d) [] in
    let x =
    length-append (codes "task")
    (marked 44 (decimal (length r.tasks) ∷ signed_decimal task.nice ∷ decimal task.home ∷ runs_text task.mask ∷ [])) in
    let xa =
    length-append (44 ∷ decimal (length r.tasks))
    (marked 44 (signed_decimal task.nice ∷ decimal task.home ∷ runs_text task.mask ∷ [])) in
    let xb = length-append (44 ∷ signed_decimal task.nice) (marked 44 (decimal task.home ∷ runs_text task.mask ∷ [])) in
    let xc = length-append (44 ∷ decimal task.home) (marked 44 (runs_text task.mask ∷ [])) in
    let xd = length-append (44 ∷ runs_text task.mask) [] in
    omega (arith, ea, eb, ec, ed, w, wa, wb, wc, wd, x, xa, xb, xc, xd)

pub task_short : (r : Reading) (rest : List (List ℕ)) → IsGood r kinds.Task (codes "task" ∷ rest)
    → length (task_body (length r.tasks) (task_of (codes "task" ∷ rest))) ≤ length (joined 44 (codes "task" ∷ rest))
task_short r rest good =
    let len : length (codes "task" ∷ rest) ≡ 5 = eqb-true _ 5 good.size in
    let f = four_fields rest (omega (arith, len)) in
    let P : List (List ℕ) → Type 0 =
    λ fs. IsGood r kinds.Task (codes "task" ∷ fs)
    → length (task_body (length r.tasks) (task_of (codes "task" ∷ fs))) ≤ length (joined 44 (codes "task" ∷ fs)) in
    let all : P rest = subst P (sym f.4) (task_four r f.0 f.1 f.2 f.3) in
    all good

-- ---- one line
abbrev Grows : Reading → Reading → List (List ℕ) → Type 0
Grows r s fields = size s ≤ size r + (length (joined 44 fields) + 1)

abbrev Tested : Reading → List (List ℕ) → Type 0
Tested r fields = is_bad (kind_tests r (line_kind fields) fields) ≡ false

on_cpu : (r : Reading) (rest : List (List ℕ)) → Tested r (codes "cpu" ∷ rest)
    → Grows r (after_line r (line_kind (codes "cpu" ∷ rest)) (codes "cpu" ∷ rest)) (codes "cpu" ∷ rest)
unfolding line_kind field_at
on_cpu r rest t =
    let e = ap length (cpu_text r rest (good_line r kinds.Cpu (codes "cpu" ∷ rest) t)) in
    let m = from_zero cpu_body r.cpus (cpu_of (codes "cpu" ∷ rest)) in
    omega (arith, e, m)

on_dist : (r : Reading) (rest : List (List ℕ)) → Tested r (codes "dist" ∷ rest)
    → Grows r (after_line r (line_kind (codes "dist" ∷ rest)) (codes "dist" ∷ rest)) (codes "dist" ∷ rest)
unfolding line_kind field_at
on_dist r rest t =
    let e = ap length (distances_text r rest (good_line r kinds.Dist (codes "dist" ∷ rest) t)) in
    let m = map_more r.distances (distances_in (codes "dist" ∷ rest)) in
    omega (arith, e, m)

on_parts : (r : Reading) (rest : List (List ℕ)) → Tested r (codes "parts" ∷ rest)
    → Grows r (after_line r (line_kind (codes "parts" ∷ rest)) (codes "parts" ∷ rest)) (codes "parts" ∷ rest)
unfolding line_kind field_at
on_parts r rest t =
    let good = good_line r kinds.Parts (codes "parts" ∷ rest) t in
    let short = short_lists rest (not-false _ good.lists) in
    let a = length-append (codes "parts") (marked 44 rest) in
    let b = length-append (codes "parts") (marked 44 (map runs_text (map (λ f. list (list_of f)) rest))) in
    omega (arith, short, a, b)

on_lanes : (r : Reading) (rest : List (List ℕ)) → Tested r (codes "lanes" ∷ rest)
    → Grows r (after_line r (line_kind (codes "lanes" ∷ rest)) (codes "lanes" ∷ rest)) (codes "lanes" ∷ rest)
unfolding line_kind field_at
on_lanes r rest t = let e = ap length (lanes_text r rest (good_line r kinds.Lanes (codes "lanes" ∷ rest) t)) in omega (arith, e)

on_task : (r : Reading) (rest : List (List ℕ)) → Tested r (codes "task" ∷ rest)
    → Grows r (after_line r (line_kind (codes "task" ∷ rest)) (codes "task" ∷ rest)) (codes "task" ∷ rest)
unfolding line_kind field_at
on_task r rest t =
    let e = task_short r rest (good_line r kinds.Task (codes "task" ∷ rest) t) in
    let m = from_zero task_body r.tasks (task_of (codes "task" ∷ rest)) in
    omega (arith, e, m)

-- other lines add nothing
adds_none : Option LineKind → Bool
adds_none None = true
adds_none (Some kinds.Version) = true
adds_none (Some (kinds.Row kind)) = true
adds_none (Some kind) = false

same_size : (r : Reading) (fields : List (List ℕ)) (k : Option LineKind) → adds_none k ≡ true
    → size (after_line r k fields) ≡ size r
unfolding adds_none
same_size r fields None e = refl
same_size r fields (Some kinds.Version) e = refl
same_size r fields (Some (kinds.Row kind)) e = refl
same_size r fields (Some kind) e = absurd (let z : ⊥ = cc in z)

beside_none : (word : List ℕ) (ws : List (List ℕ × LineKind)) → list_all (λ w. adds_none (Some w.1)) ws ≡ true
    → adds_none (kind_beside word ws) ≡ true
unfolding adds_none
beside_none word [] all = refl
beside_none word (w ∷ ws) all =
    let p = and_parts (adds_none (Some w.1)) _ all in
    elim (cases_Bool (bytes_eq word w.0)) [ inl is ↦ rw is p.0 | inr not_it ↦ rw not_it (beside_none word ws p.1) ]

at_word : (r : Reading) (word other : List ℕ) (rest : List (List ℕ)) → bytes_eq word other ≡ true
    → (Tested r (other ∷ rest) → Grows r (after_line r (line_kind (other ∷ rest)) (other ∷ rest)) (other ∷ rest))
    → Tested r (word ∷ rest) → Grows r (after_line r (line_kind (word ∷ rest)) (word ∷ rest)) (word ∷ rest)
at_word r word other rest e f =
    subst (λ (w : List ℕ). Tested r (w ∷ rest) → Grows r (after_line r (line_kind (w ∷ rest)) (w ∷ rest)) (w ∷ rest))
    (sym ((bytes_eq-Decides word other).0 e)) f

other_kind : (word : List ℕ) (rest : List (List ℕ)) → bytes_eq word (codes "parts") ≡ false → bytes_eq word (codes "task") ≡ false
    → bytes_eq word (codes "lanes") ≡ false → bytes_eq word (codes "cpu") ≡ false → bytes_eq word (codes "dist") ≡ false
    → adds_none (line_kind (word ∷ rest)) ≡ true
unfolding line_kind field_at adds_none
other_kind word rest p t l c d = elim (cases_Bool (bytes_eq word (codes "lbtrace"))) [
  | inl is ↦ rw is refl
  | inr not_it ↦ rw (not_it, c, d, p, l, t) (beside_none word
      ((codes "wake", kinds.Row rows.Wake) ∷ (codes "sleep", kinds.Row rows.Sleep) ∷
      (codes "exit", kinds.Row rows.Exit) ∷ (codes "mask", kinds.Row rows.Mask) ∷
      (codes "nice", kinds.Row rows.Nice) ∷ (codes "tick", kinds.Row rows.Tick) ∷
      (codes "rebuild", kinds.Row rows.Rebuild) ∷ []) refl)
]

grows : (r : Reading) (fields : List (List ℕ)) → Tested r fields → Grows r (after_line r (line_kind fields) fields) fields
unfolding line_kind field_at
grows r [] t = omega arith
grows r (word ∷ rest) t = elim (cases_Bool (bytes_eq word (codes "parts"))) [
  | inl is ↦ at_word r word (codes "parts") rest is (on_parts r rest) t
  | inr not_parts ↦ elim (cases_Bool (bytes_eq word (codes "task"))) [
    | inl is ↦ at_word r word (codes "task") rest is (on_task r rest) t
    | inr not_task ↦ elim (cases_Bool (bytes_eq word (codes "lanes"))) [
      | inl is ↦ at_word r word (codes "lanes") rest is (on_lanes r rest) t
      | inr not_lanes ↦ elim (cases_Bool (bytes_eq word (codes "cpu"))) [
        | inl is ↦ at_word r word (codes "cpu") rest is (on_cpu r rest) t
        | inr not_cpu ↦ elim (cases_Bool (bytes_eq word (codes "dist"))) [
          | inl is ↦ at_word r word (codes "dist") rest is (on_dist r rest) t
          | inr not_dist ↦ let e = same_size r (word ∷ rest) (line_kind (word ∷ rest))
              (other_kind word rest not_parts not_task not_lanes not_cpu not_dist) in omega (arith, e)
        ]
      ]
    ]
  ]
]

line_grows : (r s : Reading) (line : List ℕ) → line_at r false line ≡ Ok s → size s ≤ size r + (length line + 1)
unfolding line_at line_tests
line_grows r s line e =
    let fields = slice_split (λ b. eqb b 44) line in
    let passed = passes (line_tests r false line) (after_line r (line_kind fields) fields) s e in
    let good = (both_good (byte_tests r false line) (kind_tests r (line_kind fields) fields) passed.good).1 in
    let whole : joined 44 fields ≡ line = joined_is 44 fields ∙ join_with_byte-slice_split 44 line in
    let g = grows r fields good in
    let a = ap size passed.same in
    let b = ap length whole in
    omega (arith, g, a, b)

-- ---- all lines
never_cut : (r s : Reading) (last : List ℕ) → line_at r true last ≡ Ok s → ⊥
unfolding line_tests byte_tests
never_cut r s last e = both_ways true (or_parts (not (is_plain last)) true (line_good r s true last e)).1 refl

ended_same : (r s : Reading) → ended r ≡ Ok s → s ≡ r
unfolding ended
ended_same r s e = (passes (end_tests r) r s e).same

pub lines_grow : (r s : Reading) (lines : List (List ℕ)) → lines_from r lines ≡ Ok s
    → size s ≤ size r + length (join_with_byte 10 lines)
unfolding lines_from
lines_grow r s [] e = let same : r ≡ s = cc in let z = ap size same in omega (arith, z)
lines_grow r s (last ∷ []) e = by_last (eqb (length last) 0) (on_ok r.line _ s e)
  where
    by_last : (b : Bool) → cond b (ended r) (line_at r true last) ≡ Ok s → size s ≤ size r + length last
    by_last true f = let same = ap size (ended_same r s f) in omega (arith, same)
    by_last false f = absurd (never_cut r s last f)
lines_grow r s (line ∷ next ∷ more) e =
    let t = split_on r.line (line_at r false line) (λ t. lines_from t (next ∷ more)) s e in
    let one = line_grows r t.0 line t.1 in
    let rest = lines_grow t.0 s (next ∷ more) t.2 in
    let l = length-append line (10 ∷ join_with_byte 10 (next ∷ more)) in
    omega (arith, one, rest, l)

-- ---- the first line
is_version : (r : Reading) (line : List ℕ) → line_at nothing_read false line ≡ Ok r → line ≡ codes "lbtrace,1"
unfolding line_tests byte_tests
is_version r line e =
    let good = line_good nothing_read r false line e in
    let later = or_parts false _ (or_parts (not (is_plain line)) _ good).1 in
    let third = (or_parts (not (bytes_eq line (codes "lbtrace,1"))) _ later.1).0 in
    (bytes_eq-Decides line (codes "lbtrace,1")).0 (not-false _ third)

first_grows : (s : Reading) (lines : List (List ℕ)) → lines_from nothing_read lines ≡ Ok s → is_some s.lanes ≡ true
    → size s + 10 ≤ length (join_with_byte 10 lines)
unfolding lines_from
first_grows s [] e some =
    absurd (let same : nothing_read ≡ s = cc in let z = ap (λ (r : Reading). is_some r.lanes) same ∙ some in let w : ⊥ = cc in w)
first_grows s (last ∷ []) e some = by_last (eqb (length last) 0) (on_ok 1 _ s e)
  where
    by_last : (b : Bool) → cond b (ended nothing_read) (line_at nothing_read true last) ≡ Ok s → size s + 10 ≤ length last
    by_last true f =
        absurd (let z = ap (λ (r : Reading). is_some r.lanes) (sym (ended_same nothing_read s f)) ∙ some in let w : ⊥ = cc in w)
    by_last false f = absurd (never_cut nothing_read s last f)
first_grows s (line ∷ next ∷ more) e some =
    let t = split_on 1 (line_at nothing_read false line) (λ t. lines_from t (next ∷ more)) s e in
    let word = is_version t.0 line t.1 in
    let read : with_cpus 2 [] ≡ t.0 =
    same_ok (with_cpus 2 []) t.0 (sym version_is_read ∙ ap (line_at nothing_read false) (sym word) ∙ t.1) in
    let none : size t.0 ≡ 0 = ap size (sym read) in
    let rest = lines_grow t.0 s (next ∷ more) t.2 in
    let l = length-append line (10 ∷ join_with_byte 10 (next ∷ more)) in
    let w = ap length word in
    omega (arith, none, rest, l, w)

-- ---- the header
whole_size : (cpus : List CpuRow) (table : List (List ℕ)) (parts : List Mask) (lanes : ℕ) (tasks : List TaskRow)
    → length (trace_text (bodies cpus table (Some parts) (Some lanes) tasks)) ≡ 10 + size
    (so_far 2 cpus table (Some parts) (Some lanes) tasks)
whole_size cpus table parts lanes tasks =
    let tail = parts_body parts ∷ lanes_body lanes ∷ numbered task_body 0 tasks in
    let a = line_length (lanes_body lanes) (numbered task_body 0 tasks) in
    let b = line_length (parts_body parts) (lanes_body lanes ∷ numbered task_body 0 tasks) in
    let c = text_append (map distances_body table) tail in
    let d = text_append (numbered cpu_body 0 cpus) (map distances_body table ++ tail) in
    let f = line_length (codes "lbtrace,1") (bodies cpus table (Some parts) (Some lanes) tasks) in
    omega (arith, a, b, c, d, f)

header_fits : (n : ℕ) (s : Reading) (p : Option (List Mask)) (l : Option ℕ) → s.parts ≡ p → s.lanes ≡ l
    → (is_some s.lanes ≡ true → size s + 10 ≤ n) → n ≤ MAX_BYTES → IsTrace (trace_of s)
    → length (trace_text (trace_lines (trace_of s).header)) ≤ MAX_BYTES
unfolding trace_of
header_fits n s None l p_is l_is grown fits a =
    let one = ap (λ (o : Option (List Mask)). length (unwrap_or o (first_cpus (length s.cpus) ∷ []))) p_is in
    headers_have_room (trace_of s).header a.header (omega (arith, one))
header_fits n s (Some parts) None p_is l_is grown fits a =
    let none = ap (λ (o : Option ℕ). unwrap_or o 0) l_is in
    let some = a.header.some_lane in
    absurd (omega (arith, none, some))
header_fits n s (Some parts) (Some lanes) p_is l_is grown fits a =
    let more = grown (ap (λ (o : Option ℕ). is_some o) l_is) in
    let whole = whole_size s.cpus s.distances parts lanes s.tasks in
    let ps = ap parts_size p_is in
    let ls = ap lanes_size l_is in
    let lines = ap (λ bs. length (trace_text bs)) (lines_are (trace_of s).header) in
    let same =
    ap
    (λ (o : Option (List Mask)). length (trace_text
    (bodies s.cpus s.distances (Some (unwrap_or o (first_cpus (length s.cpus) ∷ []))) (Some (unwrap_or s.lanes 0))
    s.tasks))) p_is in
    let also =
    ap (λ (o : Option ℕ). length (trace_text (bodies s.cpus s.distances (Some parts) (Some (unwrap_or o 0)) s.tasks))) l_is in
    omega (arith, more, whole, ps, ls, lines, same, also, fits)

headers_fit : (text : List ℕ) (t : Trace) → reading_of text ≡ Ok t → length (trace_text (trace_lines t.header)) ≤ MAX_BYTES
headers_fit text t e =
    let p = reading_part text t e in
    let a = reading_is_trace text t e in
    let fits = within_limit text t e in
    let long = ap length (join_with_byte-slice_split 10 text) in
    subst (λ (u : Trace). length (trace_text (trace_lines u.header)) ≤ MAX_BYTES) p.2
    (header_fits (length text) p.0 p.0.parts p.0.lanes refl refl
    (λ some. let g = first_grows p.0 (slice_split (λ b. eqb b 10) text) p.1 some in omega (arith, g, long)) fits
    (subst IsTrace (sym p.2) a))

-- so the header reads back
pub headers_read_back : HeadersReadBack
headers_read_back text t e = declared_where_it_fits t.header (reading_is_trace text t e).header (headers_fit text t e)
