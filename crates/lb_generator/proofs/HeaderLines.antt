-- The lines of a drawn trace's header are good ones, and read as that header.
-- For the lemmas of `Accepted` and `RowLines`, and so for the laws `are_accepted` and `moments_are_small`.
use Rattle.std.proofs.Common.{◌≡◌, ℕ, zero, suc, ◌+◌, ◌%◌, ◌<◌, pos, true, false, eqb, List, [], ◌∷◌, ◌++◌, map, length, Some, None, Result, Ok, refl, sym, ap, ◌∙◌, append_assoc, arith, inl, inr}
use Rattle.std.specs.Prelude.{codes, decimal, ◌-ℤ◌}
use Rattle.std.specs.Fmt.{digits, signed_decimal}
use Rattle.std.specs.List.{list_all, range_with_len}
use Rattle.std.proofs.lemmas.Bool.{cases_Bool, and_from, eq-eqb, ne_eqb, lt-ltb}
use Rattle.std.proofs.lemmas.Int.{ints}
use Rattle.std.proofs.lemmas.List.Folds.{list_all-append}
use Rattle.std.proofs.lemmas.List.FromFn.{length-map-range_with_len}
use Rattle.csv.specs.Records.{field_at}
use Rattle.lb_base.specs.Mask.{has, members_below, members, first_cpus}
use Rattle.lb_base.specs.Sets.{is_empty, is_below, least}
use Rattle.lb_levels.specs.Rows.{cpu_clashes, is_bad_distance, distances_of, is_inside, is_apart, is_nested_at, first_not_nested}
use Rattle.lb_base.proofs.Ranges.{map_range_more}
use Rattle.lb_text.specs.Numbers.{number_within}
use Rattle.lb_text.specs.Runs.{list_text}
use Rattle.lb_trace.specs.declared.trace.Code.{Code}
use Rattle.lb_trace.specs.declared.trace.TaskRow.{TaskRow}
use Rattle.lb_trace.specs.declared.kind.LineKind.TheVariants as kinds
use Rattle.lb_trace.specs.declared.reading.Reading.{Reading}
use Rattle.lb_trace.specs.Accepted.{is_nice_value}
use Rattle.lb_trace.specs.Kinds.{line_kind}
use Rattle.lb_trace.specs.Values.{number_at, nice_at, list_at, task_of}
use Rattle.lb_trace.specs.Tests.{byte_tests, place_tests, value_tests, kind_tests, line_tests}
use Rattle.lb_trace.specs.Grammar.{line_at, lines_from, nothing_read}
use Rattle.lb_trace.proofs.GoodLine.{IsGood}
use Rattle.lb_generator.specs.Generator.{task_at, first_rows, first_tasks, distances}
use Rattle.lb_generator.specs.Text.{task_line, lanes_line, cpu_lines, task_lines, distances_lines, header_lines}
use Rattle.lb_generator.proofs.Fields.{is_field, is_short_line, number_field, nice_field, short_line}
use Rattle.lb_generator.proofs.Good.{good_is_read, step_on}
use Rattle.lb_generator.proofs.Drawn.{IsOneMask, nice_in_range}
use Rattle.lb_generator.proofs.Values.{number_back, nice_back, one_listed}

-- what was read of the header with so many tasks
abbrev pub with_tasks : ℕ → Reading
with_tasks k =
    record {
      line = 21 + k;
      cpus = first_rows 16;
      distances = distances;
      parts = None;
      lanes = Some 4;
      tasks = first_tasks k;
      rows = [];
    }

-- the same, at a line and with tasks
abbrev read : ℕ → List TaskRow → Result Reading Code
read n tasks = Ok (record (with_tasks 0) { line = n; tasks = tasks })

-- the lines before the tasks
abbrev front_lines : List (List ℕ)
front_lines = codes "lbtrace,1" ∷ (cpu_lines 16 ++ (distances_lines ++ lanes_line 4 ∷ []))

front_read : (next : List ℕ) (more : List (List ℕ))
    → lines_from nothing_read (front_lines ++ next ∷ more) ≡ lines_from (with_tasks 0) (next ∷ more)
unfolding lines_from line_at line_tests byte_tests kind_tests place_tests value_tests line_kind field_at number_at number_within
    cpu_clashes is_bad_distance distances_of is_inside is_apart is_nested_at first_not_nested digits
    cpu_lines first_rows first_tasks
front_read next more = refl

front_short : list_all is_short_line front_lines ≡ true
unfolding cpu_lines digits
front_short = refl

-- ---- tasks
pub rows_count : length (first_rows 16) ≡ 16
unfolding first_rows
rows_count = refl

pub tasks_count : (k : ℕ) → length (first_tasks k) ≡ k
unfolding first_tasks
tasks_count k = length-map-range_with_len task_at 0 k

tasks_more : (k : ℕ) → first_tasks k ++ task_at k ∷ [] ≡ first_tasks (k + 1)
unfolding first_tasks
tasks_more k = sym (map_range_more task_at k)

mask_of_task : (k : ℕ) → IsOneMask (task_at k).mask
mask_of_task k = elim (cases_Bool (eqb (k % 10) 9)) [ inl e ↦ rw e (inr (inl refl)) | inr e ↦ rw e (inl refl) ]

-- the mask has a CPU, and none past the machine
can_run : (k : ℕ) → (is_empty (task_at k).mask ≡ false) × (is_below (task_at k).mask 16 ≡ true)
unfolding has members_below members first_cpus least is_below
can_run k = elim (cases_Bool (eqb (k % 10) 9)) [ inl e ↦ rw e (refl, refl) | inr e ↦ rw e (refl, refl) ]

nice_fits : (k : ℕ) → is_nice_value (task_at k).nice ≡ true
nice_fits k = nice_in_range (pos (k % 7) -ℤ pos 3) (omega (arith, ints)) (omega (arith, ints))

abbrev task_fields : ℕ → List (List ℕ)
task_fields k =
    decimal k ∷ signed_decimal (task_at k).nice ∷ decimal (k % 16) ∷ list_text (task_at k).mask ∷ []

are_fields : (k : ℕ) → k < 200 → list_all is_field (codes "task" ∷ task_fields k) ≡ true
are_fields k lt =
    let nice = nice_field (task_at k).nice (nice_fits k) in
    let mask = (one_listed (task_at k).mask (mask_of_task k)).field in
    rw (number_field k (omega (arith, lt)), nice, number_field (k % 16) (omega arith), mask) refl

task_step : (k : ℕ) → k < 200 → line_at (with_tasks k) false (task_line k (task_at k)) ≡ Ok (with_tasks (k + 1))
unfolding line_kind field_at number_at nice_at list_at
task_step k lt =
    let r = with_tasks k in
    let fields = task_fields k in
    let count = tasks_count k in
    let cpus = rows_count in
    let id = number_back 0 18446744073709551615 k (omega arith) (omega (arith, lt)) (omega arith) in
    let home = number_back 0 18446744073709551615 (k % 16) (omega arith) (omega arith) (omega arith) in
    let home_in = lt-ltb (k % 16) 16 (omega arith) in
    let nice = nice_back (task_at k).nice (nice_fits k) in
    let mask = (one_listed (task_at k).mask (mask_of_task k)).back in
    let run = can_run k in
    let same : task_of (codes "task" ∷ fields) ≡ task_at k = rw (nice, home, mask) refl in
    let first : eqb (21 + k) 1 ≡ false = ne_eqb (21 + k) 1 (λ z. omega (arith, z)) in
    let good : IsGood r kinds.Task (codes "task" ∷ fields) = record {
      stands = rw count (lt-ltb k 4096 (omega (arith, lt)));
      room = refl;
      size = refl;
      numbers = rw (id, nice, home) refl;
      lists = rw mask refl;
      names = rw (id, home, count, cpus, eq-eqb k k refl, home_in) refl;
      cpu = refl;
      placed = refl;
      nested = refl;
      cpus = refl;
      apart = refl;
      mask = rw (mask, cpus, run.0, run.1) refl;
      ticks = refl;
    } in
    let line : 21 + k + 1 ≡ 21 + (k + 1) = omega arith in
    good_is_read r kinds.Task (codes "task") fields first refl (are_fields k lt) good
    ∙ ap (λ (t : TaskRow). read (21 + k + 1) (first_tasks k ++ t ∷ [])) same
    ∙ ap (λ (ts : List TaskRow). read (21 + k + 1) ts) (tasks_more k)
    ∙ ap (λ (n : ℕ). read n (first_tasks (k + 1))) line

abbrev tasks_from : ℕ → ℕ → List (List ℕ)
tasks_from k m = map (λ i. task_line i (task_at i)) (range_with_len k m)

tasks_read : (m k : ℕ) (more : List (List ℕ)) → k + m ≡ 200
    → lines_from (with_tasks k) ((tasks_from k m ++ more) ++ [] ∷ []) ≡ lines_from (with_tasks 200) (more ++ [] ∷ [])
tasks_read zero k more whole = let e : k ≡ 200 = omega (arith, whole) in rw e refl
tasks_read (suc m) k more whole =
    step_on (with_tasks k) (with_tasks (k + 1)) (task_line k (task_at k)) (tasks_from (k + 1) m ++ more)
    (task_step k (omega (arith, whole)))
    ∙ tasks_read m (k + 1) more (omega (arith, whole))

tasks_short : (m k : ℕ) → k + m ≡ 200 → list_all is_short_line (tasks_from k m) ≡ true
tasks_short zero k whole = refl
tasks_short (suc m) k whole =
    and_from (is_short_line (task_line k (task_at k))) _
    (short_line (codes "task") (task_fields k) (are_fields k (omega (arith, whole))) (omega arith))
    (tasks_short m (k + 1) (omega (arith, whole)))

-- ---- the whole header
lines_are : header_lines ≡ front_lines ++ tasks_from 0 200
unfolding header_lines task_lines
lines_are = sym (append_assoc (codes "lbtrace,1" ∷ cpu_lines 16) (distances_lines ++ lanes_line 4 ∷ []) (tasks_from 0 200))

pub header_read : (more : List (List ℕ))
    → lines_from nothing_read ((header_lines ++ more) ++ [] ∷ []) ≡ lines_from (with_tasks 200) (more ++ [] ∷ [])
header_read more =
    let first = task_line 0 (task_at 0) in
    let others = tasks_from 1 199 in
    ap (λ (ls : List (List ℕ)). lines_from nothing_read ((ls ++ more) ++ [] ∷ [])) lines_are
    ∙ ap (λ (ls : List (List ℕ)). lines_from nothing_read (ls ++ [] ∷ [])) (append_assoc front_lines (tasks_from 0 200) more)
    ∙ ap (lines_from nothing_read) (append_assoc front_lines (tasks_from 0 200 ++ more) ([] ∷ []))
    ∙ front_read first ((others ++ more) ++ [] ∷ [])
    ∙ tasks_read 200 0 more refl

pub header_short : list_all is_short_line header_lines ≡ true
header_short =
    ap (list_all is_short_line) lines_are ∙ list_all-append is_short_line front_lines (tasks_from 0 200)
    ∙ and_from _ _ front_short (tasks_short 200 0 refl)

pub header_count : length header_lines ≡ 220
unfolding header_lines cpu_lines task_lines
header_count = refl
