-- The lines of an accepted header, behind the version's line, are an accepted trace with this header.
-- For the lemmas of `Room` and `Sizes`, and so for the law `headers_read_back`.
use Rattle.std.proofs.Common.{◌≡◌, ℕ, zero, suc, ◌+◌, ◌^◌, ◌<◌, ◌≤◌, Bool, true, false, not, ◌&&◌, eqb, leb, List, [], ◌∷◌, ◌++◌, map, length, take, drop, get_or, Option, Some, None, Result, Ok, refl, sym, ap, subst, ◌∙◌, arith, append_assoc}
use Rattle.std.specs.Prelude.{codes, decimal}
use Rattle.std.specs.Fmt.{signed_decimal}
use Rattle.std.specs.List.{list_all, slice_split}
use Rattle.std.proofs.lemmas.Bool.{and_from, and_parts, eq-eqb, ne_eqb, eqb-true, lt-ltb, le-leb, leb-true, ltb-true, not-true}
use Rattle.std.proofs.lemmas.List.{nil_from_length, append-nil, length-map, length_push, take_at}
use Rattle.std.proofs.Math.Seq.{get_or-append_seam}
use Rattle.std.proofs.Common.{length-append}
use Rattle.csv.specs.Records.{field_at}
use Rattle.lb_base.specs.declared.mask.Mask.{Mask}
use Rattle.lb_base.specs.Sets.{is_empty, is_below, are_disjoint}
use Rattle.lb_fields.specs.Pieces.{is_plain}
use Rattle.lb_levels.specs.declared.cpu_row.CpuRow.{CpuRow}
use Rattle.lb_levels.specs.Rows.{no_row, cpu_clashes, is_bad_distance, is_nested, IsSquare}
use Rattle.lb_levels.specs.Faults.{nodes_of, ArePartition}
use Rattle.lb_levels.proofs.NoFault.{machine_from_no_fault, partition_from_no_fault}
use Rattle.lb_text.specs.Numbers.{number_within, is_number, nice_of}
use Rattle.lb_text.specs.Lists.{list_of, is_list}
use Rattle.lb_text.specs.Runs.{runs_text}
use Rattle.lb_text.proofs.Digits.{number_decimal}
use Rattle.lb_text.proofs.RoundTrip.{reads_back}
use Rattle.lb_trace.specs.declared.trace.TheConstants.{MAX_BYTES, MAX_ID}
use Rattle.lb_trace.specs.declared.trace.Code.{Code}
use Rattle.lb_trace.specs.declared.trace.TaskRow.{TaskRow}
use Rattle.lb_trace.specs.declared.trace.Header.{Header}
use Rattle.lb_trace.specs.declared.kind.LineKind.{LineKind}
use Rattle.lb_trace.specs.declared.kind.LineKind.TheVariants as kinds
use Rattle.lb_trace.specs.declared.reading.Reading.{Reading}
use Rattle.lb_trace.specs.Kinds.{line_kind}
use Rattle.lb_trace.specs.Values.{number, list, number_at, nice_at, list_at, cpu_of, task_of}
use Rattle.lb_trace.specs.Places.{is_first, has_machine}
use Rattle.lb_trace.specs.Tests.{Tests, unless_bad, byte_tests, place_tests, value_tests, kind_tests, line_tests, end_tests}
use Rattle.lb_trace.specs.Grammar.{◌>>=◌, after, line_at, ended, on_line, lines_from, nothing_read, trace_of, reading_of}
use Rattle.lb_trace.specs.FirstBad.{is_bad}
use Rattle.lb_trace.specs.Accepted.{is_cpu, is_distance, is_mask, is_task, IsHeader}
use Rattle.lb_trace.proofs.GoodLine.{IsGood}
use Rattle.lb_text.specs.Lines.{joined, numbered}
use Rattle.lb_record.proofs.Bytes.{over, EachOver, each_weaker, each_map, decimal_over, signed_over}
use Rattle.lb_record.proofs.Spelled.{runs_over, header_over}
use Rattle.lb_record.proofs.Cut.{cut_lines, cut_fields}
use Rattle.lb_read.specs.Texts.{trace_text}
use Rattle.lb_read.specs.Whole.{trace_lines, IsDeclared}
use Rattle.lb_read.proofs.HeaderSteps.{some_more, version_is_read}
use Rattle.lb_read.proofs.FieldsExact.{nice_exact}
use Rattle.lb_read.proofs.HeaderSound.{bodies, cpu_body, distances_body, parts_body, lanes_body, task_body}
use Rattle.lb_read.proofs.WholeSound.{header_as, drop_as}
use Rattle.lb_record.specs.Header.{header_lines}
use Rattle.lb_read.proofs.Plain.{decimal_plain, signed_plain, runs_plain, map_plain, joined_plain}

-- ---- one good line
all_pass : {A : Type 0} (tests : Tests) (a : A) → is_bad tests ≡ false → unless_bad tests a ≡ Ok a
all_pass [] a good = refl
all_pass ((true, code) ∷ tests) a good = absurd (let z : ⊥ = cc in z)
all_pass ((false, code) ∷ tests) a good = all_pass tests a good

none_bad : (r : Reading) (kind : LineKind) (fields : List (List ℕ)) → IsGood r kind fields
    → is_bad (kind_tests r (Some kind) fields) ≡ false
unfolding kind_tests place_tests value_tests
none_bad r kind fields g =
    rw (g.stands, g.room, g.size, g.numbers, g.lists, g.names, g.cpu, g.placed, g.nested, g.cpus, g.apart, g.mask, g.ticks) refl

pub good_is_read : (r : Reading) (kind : LineKind) (word : List ℕ) (fields : List (List ℕ)) → is_first r ≡ false
    → line_kind (word ∷ fields) ≡ Some kind → EachOver 44 (word ∷ fields) → is_plain (joined 44 (word ∷ fields)) ≡ true
    → IsGood r kind (word ∷ fields) →
    line_at r false (joined 44 (word ∷ fields)) ≡ Ok (after r kind (word ∷ fields))
unfolding line_at line_tests byte_tests
good_is_read r kind word fields first is over plain good =
    let cut : slice_split (λ b. eqb b 44) (joined 44 (word ∷ fields)) ≡ word ∷ fields = cut_fields 44 word fields over in
    rw (cut, is, plain, first) (all_pass (kind_tests r (Some kind) (word ∷ fields)) (after r kind (word ∷ fields))
    (none_bad r kind (word ∷ fields) good))

-- a line that is good, and others behind it
step_on : (r s : Reading) (line : List ℕ) (more : List (List ℕ)) → line_at r false line ≡ Ok s
    → lines_from r (line ∷ (more ++ [] ∷ [])) ≡ lines_from s (more ++ [] ∷ [])
step_on r s line more e = some_more r line more [] ∙ ap (λ o. on_line r.line o >>= λ t. lines_from t (more ++ [] ∷ [])) e

-- ---- values
-- a number that is written is read
read_number : (least most n : ℕ) → least ≤ n → n ≤ most → most < 2 ^ 64 → number_within least most (decimal n) ≡ Some n
read_number least most n low high small = number_decimal least most n (omega (arith, high, small)) low high

read_list : (mask : Mask) → is_mask mask ≡ true → list_of (runs_text mask) ≡ Some mask
read_list mask fits = reads_back mask (ltb-true mask.bits (2 ^ 64) fits)

number_free : (n : ℕ) → over 44 (decimal n) ≡ true
number_free n = decimal_over 44 n (omega arith)

-- what is read of a header behind the first line
abbrev pub so_far : ℕ → List CpuRow → List (List ℕ) → Option (List Mask) → Option ℕ → List TaskRow → Reading
so_far n cpus table parts lanes tasks =
    record { line = n; cpus = cpus; distances = table; parts = parts; lanes = lanes; tasks = tasks; rows = [] }

later : (n : ℕ) → 1 < n → eqb n 1 ≡ false
later n lt = ne_eqb n 1 (λ z. omega (arith, z, lt))

-- ---- CPUs
abbrev pub with_cpus : ℕ → List CpuRow → Reading
with_cpus n cpus = so_far n cpus [] None None []

cpu_step : (n : ℕ) (done : List CpuRow) (cpu : CpuRow) → 1 < n → length done < 64 → is_cpu cpu ≡ true
    → cpu_clashes done cpu ≡ false →
    line_at (with_cpus n done) false (cpu_body (length done) cpu) ≡ Ok (with_cpus (n + 1) (done ++ cpu ∷ []))
unfolding line_kind field_at number_at
cpu_step n done cpu lt few fits stands =
    let p = and_parts _ _ fits in
    let q = and_parts _ _ p.0 in
    let id = read_number 0 MAX_ID (length done) (omega arith) (omega (arith, few)) (omega arith) in
    let core = read_number 0 63 cpu.core (omega arith) (let lt = ltb-true cpu.core 64 q.0 in omega (arith, lt)) (omega arith) in
    let cache =
    read_number 0 63 cpu.cache (omega arith) (let lt = ltb-true cpu.cache 64 q.1 in omega (arith, lt)) (omega arith) in
    let node = read_number 0 15 cpu.node (omega arith) (let lt = ltb-true cpu.node 16 p.1 in omega (arith, lt)) (omega arith) in
    let fields = decimal (length done) ∷ decimal cpu.core ∷ decimal cpu.cache ∷ decimal cpu.node ∷ [] in
    let same : cpu_of (codes "cpu" ∷ fields) ≡ cpu = rw (core, cache, node) refl in
    let good : IsGood (with_cpus n done) kinds.Cpu (codes "cpu" ∷ fields) = record {
      stands = lt-ltb (length done) 64 few;
      room = refl;
      size = refl;
      numbers = rw (id, core, cache, node) refl;
      lists = refl;
      names = rw id (ap not (eq-eqb (length done) (length done) refl));
      cpu = ap (cpu_clashes done) same ∙ stands;
      placed = refl;
      nested = refl;
      cpus = refl;
      apart = refl;
      mask = refl;
      ticks = refl;
    } in
    good_is_read (with_cpus n done) kinds.Cpu (codes "cpu") fields (later n lt) refl
    (refl, (number_free (length done), (number_free cpu.core, (number_free cpu.cache, (number_free cpu.node, tt)))))
    (joined_plain (codes "cpu") fields refl
    (decimal_plain (length done), (decimal_plain cpu.core, (decimal_plain cpu.cache, (decimal_plain cpu.node, tt))))) good
    ∙ ap (λ (c : CpuRow). let o : Result Reading Code = Ok (with_cpus (n + 1) (done ++ c ∷ [])) in o) same

-- each line can stand after those before it
abbrev Stand : {X : Type 0} → (List X → X → Bool) → List X → List X → Type 0
Stand clashes done [] = Unit {0}
Stand clashes done (x ∷ xs) = (clashes done x ≡ false) × Stand clashes (done ++ x ∷ []) xs

stand_from : {X : Type 0} (clashes : List X → X → Bool) (d : X) (done xs : List X)
    → ((k : ℕ) → k < length (done ++ xs) → clashes (take k (done ++ xs)) (get_or (done ++ xs) k d) ≡ false)
    → Stand clashes done xs
stand_from clashes d done [] each = tt
stand_from clashes d done (x ∷ xs) each =
    let at = each (length done) (let l = length-append done (x ∷ xs) in omega (arith, l)) in
    let item = get_or (done ++ x ∷ xs) (length done) d in
    let here : clashes done x ≡ false =
    ap (clashes done) (sym (get_or-append_seam done x xs d))
    ∙ ap (λ head. clashes head item) (sym (take_at done (x ∷ xs) (length done) refl)) ∙ at in (
      here,
      stand_from clashes d (done ++ x ∷ []) xs
          (subst (λ (ys : List _). (k : ℕ) → k < length ys → clashes (take k ys) (get_or ys k d) ≡ false)
          (sym (append_assoc done (x ∷ []) xs)) each),
    )

cpus_read : (n : ℕ) (done cpus : List CpuRow) (more : List (List ℕ)) → 1 < n → length (done ++ cpus) ≤ 64
    → list_all is_cpu cpus ≡ true → Stand cpu_clashes done cpus →
    lines_from (with_cpus n done) ((numbered cpu_body (length done) cpus ++ more) ++ [] ∷ []) ≡ lines_from
    (with_cpus (n + length cpus) (done ++ cpus)) (more ++ [] ∷ [])
cpus_read n done [] more lt few fits stand = let e : n ≡ n + 0 = omega arith in rw (append-nil done, ← e) refl
cpus_read n done (cpu ∷ cpus) more lt few fits stand =
    let p = and_parts _ _ fits in
    let l = length-append done (cpu ∷ cpus) in
    let push = length_push done cpu in
    let line =
    step_on (with_cpus n done) (with_cpus (n + 1) (done ++ cpu ∷ [])) (cpu_body (length done) cpu)
    (numbered cpu_body (length done + 1) cpus ++ more) (cpu_step n done cpu lt (omega (arith, l, few)) p.0 stand.0) in
    let whole = append_assoc done (cpu ∷ []) cpus in
    let rest = cpus_read (n + 1) (done ++ cpu ∷ []) cpus more (omega (arith, lt)) (rw whole few) p.1 stand.1 in
    let count : n + 1 + length cpus ≡ n + length (cpu ∷ cpus) = omega arith in
    line ∙ (rw (push, whole, count) at rest)

-- ---- distances
abbrev with_table : ℕ → List CpuRow → List (List ℕ) → Reading
with_table n cpus table = so_far n cpus table None None []

distances_back : (row : List ℕ) → list_all is_distance row ≡ true
    → (map (λ field. number (number_within 1 255 field)) (map decimal row) ≡ row) ×
    (list_all (is_number 1 255) (map decimal row) ≡ true)
distances_back [] fits = (refl, refl)
distances_back (d ∷ row) fits =
    let p = and_parts (is_distance d) _ fits in
    let q = and_parts (leb 1 d) (leb d 255) p.0 in
    let back = read_number 1 255 d (leb-true 1 d q.0) (leb-true d 255 q.1) (omega arith) in
    let more = distances_back row p.1 in
    (rw back (ap (λ ds. d ∷ ds) more.0), rw back more.1)

distances_step : (n : ℕ) (cpus : List CpuRow) (done : List (List ℕ)) (row : List ℕ) → 1 < n → length done < nodes_of cpus
    → length row ≡ nodes_of cpus → list_all is_distance row ≡ true → is_bad_distance done row ≡ false →
    (length (done ++ row ∷ []) ≡ nodes_of cpus → is_nested (done ++ row ∷ []) ≡ true)
    → line_at (with_table n cpus done) false (distances_body row) ≡ Ok (with_table (n + 1) cpus (done ++ row ∷ []))
unfolding line_kind field_at
distances_step n cpus done row lt few size fits stands nested =
    let back = distances_back row fits in
    let fields = map decimal row in
    let count = length-map row decimal in
    let good : IsGood (with_table n cpus done) kinds.Dist (codes "dist" ∷ fields) = record {
      stands = lt-ltb (length done) (nodes_of cpus) few;
      room = refl;
      size = eq-eqb (suc (length fields)) (nodes_of cpus + 1) (omega (arith, count, size));
      numbers = ap not back.1;
      lists = refl;
      names = refl;
      cpu = refl;
      placed = ap (is_bad_distance done) back.0 ∙ stands;
      nested =
          ap (λ (ds : List ℕ). eqb (length (done ++ ds ∷ [])) (nodes_of cpus) && not (is_nested (done ++ ds ∷ []))) back.0
          ∙ last (eqb (length (done ++ row ∷ [])) (nodes_of cpus)) refl;
      cpus = refl;
      apart = refl;
      mask = refl;
      ticks = refl;
    } in
    good_is_read (with_table n cpus done) kinds.Dist (codes "dist") fields (later n lt) refl
    (refl, each_map 44 decimal row number_free)
    (joined_plain (codes "dist") fields refl (map_plain decimal row decimal_plain)) good
    ∙ ap (λ (ds : List ℕ). let o : Result Reading Code = Ok (with_table (n + 1) cpus (done ++ ds ∷ [])) in o) back.0
  where
    last : (b : Bool) → eqb (length (done ++ row ∷ [])) (nodes_of cpus) ≡ b → (b && not (is_nested (done ++ row ∷ []))) ≡ false
    last true e = ap not (nested (eqb-true (length (done ++ row ∷ [])) (nodes_of cpus) e))
    last false e = refl

table_read : (n : ℕ) (cpus : List CpuRow) (done rows : List (List ℕ)) (more : List (List ℕ)) → 1 < n
    → length (done ++ rows) ≡ nodes_of cpus → list_all (λ (row : List ℕ). eqb (length row) (nodes_of cpus)) rows ≡ true
    → list_all (list_all is_distance) rows ≡ true → Stand is_bad_distance done rows →
    is_nested (done ++ rows) ≡ true → lines_from (with_table n cpus done)
    ((map distances_body rows ++ more) ++ [] ∷ []) ≡ lines_from (with_table (n + length rows) cpus (done ++ rows))
    (more ++ [] ∷ [])
table_read n cpus done [] more lt whole sizes fits stand nested =
    let e : n ≡ n + 0 = omega arith in rw (append-nil done, ← e) refl
table_read n cpus done (row ∷ rows) more lt whole sizes fits stand nested =
    let p = and_parts _ _ fits in
    let q = and_parts _ _ sizes in
    let l = length-append done (row ∷ rows) in
    let push = length_push done row in
    let again = append_assoc done (row ∷ []) rows in
    let at_last : length (done ++ row ∷ []) ≡ nodes_of cpus → is_nested (done ++ row ∷ []) ≡ true = λ e.
    let none : rows ≡ [] = nil_from_length rows (omega (arith, e, l, push, whole)) in
    subst (λ (rest : List (List ℕ)). is_nested (done ++ row ∷ rest) ≡ true) none nested in
    let line =
    step_on (with_table n cpus done) (with_table (n + 1) cpus (done ++ row ∷ [])) (distances_body row)
    (map distances_body rows ++ more)
    (distances_step n cpus done row lt (omega (arith, l, whole)) (eqb-true (length row) (nodes_of cpus) q.0) p.0 stand.0
    at_last) in
    let rest =
    table_read (n + 1) cpus (done ++ row ∷ []) rows more (omega (arith, lt)) (ap length again ∙ whole) q.1 p.1 stand.1
    (ap is_nested again ∙ nested) in
    let count : n + 1 + length rows ≡ n + length (row ∷ rows) = omega arith in
    line ∙ (rw (again, count) at rest)

-- ---- partition masks
masks_back : (parts : List Mask) → list_all is_mask parts ≡ true
    → (map (λ field. list (list_of field)) (map runs_text parts) ≡ parts) × (list_all is_list (map runs_text parts) ≡ true)
masks_back [] fits = (refl, refl)
masks_back (mask ∷ parts) fits =
    let p = and_parts (is_mask mask) _ fits in
    let back = read_list mask p.0 in
    let more = masks_back parts p.1 in
    (rw back (ap (λ ms. mask ∷ ms) more.0), rw back more.1)

parts_step : (n : ℕ) (cpus : List CpuRow) (table : List (List ℕ)) (parts : List Mask) → 1 < n
    → has_machine (with_table n cpus table) ≡ true → 1 ≤ length parts → list_all is_mask parts ≡ true
    → ArePartition (length cpus) parts →
    line_at (with_table n cpus table) false (parts_body parts) ≡ Ok (so_far (n + 1) cpus table (Some parts) None [])
unfolding line_kind field_at
parts_step n cpus table parts lt machine some fits partition =
    let back = masks_back parts fits in
    let fields = map runs_text parts in
    let count = length-map parts runs_text in
    let good : IsGood (with_table n cpus table) kinds.Parts (codes "parts" ∷ fields) = record {
      stands = rw machine refl;
      room = refl;
      size = le-leb 2 (suc (length fields)) (omega (arith, count, some));
      numbers = refl;
      lists = ap not back.1;
      names = refl;
      cpu = refl;
      placed = refl;
      nested = refl;
      cpus = ap (λ (ms : List Mask). not (list_all (λ mask. is_below mask (length cpus)) ms)) back.0 ∙ ap not partition.below;
      apart = ap (λ (ms : List Mask). not (are_disjoint ms)) back.0 ∙ ap not partition.apart;
      mask = refl;
      ticks = refl;
    } in
    good_is_read (with_table n cpus table) kinds.Parts (codes "parts") fields (later n lt) refl
    (refl, each_map 44 runs_text parts runs_over)
    (joined_plain (codes "parts") fields refl (map_plain runs_text parts runs_plain)) good
    ∙ ap (λ (ms : List Mask). let o : Result Reading Code = Ok (so_far (n + 1) cpus table (Some ms) None []) in o) back.0

-- ---- the number of lanes
lanes_step : (n : ℕ) (cpus : List CpuRow) (table : List (List ℕ)) (parts : List Mask) (lanes : ℕ) → 1 < n
    → has_machine (with_table n cpus table) ≡ true → 1 ≤ lanes → lanes ≤ 16 →
    line_at (so_far n cpus table (Some parts) None []) false (lanes_body lanes) ≡ Ok
    (so_far (n + 1) cpus table (Some parts) (Some lanes) [])
unfolding line_kind field_at number_at
lanes_step n cpus table parts lanes lt machine some few =
    let back = read_number 1 16 lanes some few (omega arith) in
    let fields = decimal lanes ∷ [] in
    let good : IsGood (so_far n cpus table (Some parts) None []) kinds.Lanes (codes "lanes" ∷ fields) = record {
      stands = rw machine refl;
      room = refl;
      size = refl;
      numbers = rw back refl;
      lists = refl;
      names = refl;
      cpu = refl;
      placed = refl;
      nested = refl;
      cpus = refl;
      apart = refl;
      mask = refl;
      ticks = refl;
    } in
    good_is_read (so_far n cpus table (Some parts) None []) kinds.Lanes (codes "lanes") fields (later n lt) refl
    (refl, (number_free lanes, tt)) (joined_plain (codes "lanes") fields refl (decimal_plain lanes, tt)) good
    ∙ ap
    (λ (o : Option ℕ). let x : Result Reading Code = Ok (so_far (n + 1) cpus table (Some parts) (Some (number o)) []) in x) back

-- ---- tasks
abbrev with_tasks : ℕ → Header → List TaskRow → Reading
with_tasks n h tasks = so_far n h.cpus h.distances (Some h.parts) (Some h.lanes) tasks

task_step : (n : ℕ) (h : Header) (done : List TaskRow) (task : TaskRow) → 1 < n → length done < 4096 → length h.cpus ≤ 64
    → is_task (length h.cpus) task ≡ true →
    line_at (with_tasks n h done) false (task_body (length done) task) ≡ Ok (with_tasks (n + 1) h (done ++ task ∷ []))
unfolding line_kind field_at number_at nice_at list_at
task_step n h done task lt few most fits =
    let p = and_parts _ _ fits in
    let q = and_parts _ _ p.0 in
    let r = and_parts _ _ q.0 in
    let s = and_parts _ _ r.0 in
    let home = ltb-true task.home (length h.cpus) s.1 in
    let id = read_number 0 MAX_ID (length done) (omega arith) (omega (arith, few)) (omega arith) in
    let nice_back : nice_of (signed_decimal task.nice) ≡ Some task.nice = nice_exact.complete task.nice s.0 in
    let home_back = read_number 0 MAX_ID task.home (omega arith) (omega (arith, home, most)) (omega arith) in
    let mask_back = read_list task.mask p.1 in
    let fields = decimal (length done) ∷ signed_decimal task.nice ∷ decimal task.home ∷ runs_text task.mask ∷ [] in
    let same : task_of (codes "task" ∷ fields) ≡ task = rw (nice_back, home_back, mask_back) refl in
    let good : IsGood (with_tasks n h done) kinds.Task (codes "task" ∷ fields) = record {
      stands = lt-ltb (length done) 4096 few;
      room = refl;
      size = refl;
      numbers = rw (id, nice_back, home_back) refl;
      lists = rw mask_back refl;
      names = rw (id, home_back, eq-eqb (length done) (length done) refl, s.1) refl;
      cpu = refl;
      placed = refl;
      nested = refl;
      cpus = refl;
      apart = refl;
      mask = rw (mask_back, not-true (is_empty task.mask) r.1, q.1) refl;
      ticks = refl;
    } in
    good_is_read (with_tasks n h done) kinds.Task (codes "task") fields (later n lt) refl (
      refl,
      (
        number_free (length done),
        (
          signed_over 44 task.nice (omega arith),
          (number_free task.home, (runs_over task.mask, tt)),
        ),
      ),
    )
    (joined_plain (codes "task") fields refl
    (decimal_plain (length done), (signed_plain task.nice, (decimal_plain task.home, (runs_plain task.mask, tt))))) good
    ∙ ap (λ (t : TaskRow). let o : Result Reading Code = Ok (with_tasks (n + 1) h (done ++ t ∷ [])) in o) same

tasks_read : (n : ℕ) (h : Header) (done tasks : List TaskRow) → 1 < n → length (done ++ tasks) ≤ 4096 → length h.cpus ≤ 64
    → list_all (is_task (length h.cpus)) tasks ≡ true →
    lines_from (with_tasks n h done) (numbered task_body (length done) tasks ++ [] ∷ []) ≡ lines_from
    (with_tasks (n + length tasks) h (done ++ tasks)) ([] ∷ [])
tasks_read n h done [] lt few most fits = let e : n ≡ n + 0 = omega arith in rw (append-nil done, ← e) refl
tasks_read n h done (task ∷ tasks) lt few most fits =
    let p = and_parts _ _ fits in
    let l = length-append done (task ∷ tasks) in
    let push = length_push done task in
    let again = append_assoc done (task ∷ []) tasks in
    let line =
    step_on (with_tasks n h done) (with_tasks (n + 1) h (done ++ task ∷ [])) (task_body (length done) task)
    (numbered task_body (length done + 1) tasks) (task_step n h done task lt (omega (arith, l, few)) most p.0) in
    let rest = tasks_read (n + 1) h (done ++ task ∷ []) tasks (omega (arith, lt)) (rw again few) most p.1 in
    let count : n + 1 + length tasks ≡ n + length (task ∷ tasks) = omega arith in
    line ∙ (rw (push, again, count) at rest)

all_ended : (n : ℕ) (h : Header) → 1 < n → lines_from (with_tasks n h h.tasks) ([] ∷ []) ≡ Ok (with_tasks n h h.tasks)
unfolding lines_from ended end_tests
all_ended n h lt = rw (later n lt) refl

-- ---- the whole text
over_dropped : (k : ℕ) (line : List ℕ) → over k line ≡ true → over k (drop 2 line) ≡ true
over_dropped k [] p = refl
over_dropped k (a ∷ []) p = refl
over_dropped k (a ∷ b ∷ line) p = (and_parts _ _ (and_parts _ _ p).1).1

each_dropped : (k : ℕ) (lines : List (List ℕ)) → EachOver k lines → EachOver k (map (λ line. drop 2 line) lines)
each_dropped k [] e = tt
each_dropped k (line ∷ lines) e = (over_dropped k line e.0, each_dropped k lines e.1)

behind : (k : ℕ) (lines : List (List ℕ)) → EachOver k lines → EachOver k (drop 1 lines)
behind k [] e = tt
behind k (line ∷ lines) e = e.1

pub lines_are : (h : Header) → trace_lines h ≡ bodies h.cpus h.distances (Some h.parts) (Some h.lanes) h.tasks
lines_are h =
    let same = header_as h.cpus h.distances h.parts h.lanes h.tasks in
    ap (λ ls. map (λ line. drop 2 line) (drop 1 ls)) same
    ∙ drop_as (bodies h.cpus h.distances (Some h.parts) (Some h.lanes) h.tasks)

pub square : (table : List (List ℕ)) (nodes : ℕ) → length table ≡ nodes → IsSquare table
    → list_all (λ (row : List ℕ). eqb (length row) nodes) table ≡ true
square table nodes rows each = each_sized table (λ a lt. each a lt ∙ rows)
  where
    each_sized : (rows : List (List ℕ)) → ((a : ℕ) → a < length rows → length (get_or rows a []) ≡ nodes)
        → list_all (λ (row : List ℕ). eqb (length row) nodes) rows ≡ true
    each_sized [] f = refl
    each_sized (row ∷ rows) f =
        and_from _ _ (eq-eqb (length row) nodes (f zero (omega arith))) (each_sized rows (λ a lt. f (suc a) (omega (arith, lt))))

header_read : (h : Header) → IsHeader h
    → (n : ℕ) × (lines_from nothing_read (codes "lbtrace,1" ∷ (trace_lines h ++ [] ∷ [])) ≡ Ok (with_tasks n h h.tasks))
header_read h a =
    let tail = parts_body h.parts ∷ lanes_body h.lanes ∷ numbered task_body 0 h.tasks in
    let some = a.some_cpu in
    let machine = machine_from_no_fault h.cpus h.distances (omega (arith, some)) a.machine in
    let partition = partition_from_no_fault (length h.cpus) h.parts a.parts in
    let n = 2 + length h.cpus in
    let k = n + length h.distances in
    let sizes = square h.distances (nodes_of h.cpus) machine.rows machine.square in
    let cpus =
    cpus_read 2 [] h.cpus (map distances_body h.distances ++ tail) (omega arith) a.most_cpus a.cpus
    (stand_from cpu_clashes no_row [] h.cpus machine.cpus_stand) in
    let table =
    table_read n h.cpus [] h.distances tail (omega arith) machine.rows sizes a.distances
    (stand_from is_bad_distance [] [] h.distances machine.rows_stand) machine.nested in
    let whole : has_machine (with_table k h.cpus h.distances) ≡ true =
    and_from _ _ (ap not (ne_eqb (length h.cpus) 0 (λ z. omega (arith, z, some))))
    (eq-eqb (length h.distances) (nodes_of h.cpus) machine.rows) in
    let parts =
    step_on _ _ (parts_body h.parts) (lanes_body h.lanes ∷ numbered task_body 0 h.tasks)
    (parts_step k h.cpus h.distances h.parts (omega arith) whole a.some_part a.masks partition) in
    let lanes =
    step_on _ _ (lanes_body h.lanes) (numbered task_body 0 h.tasks)
    (lanes_step (k + 1) h.cpus h.distances h.parts h.lanes (omega arith) whole a.some_lane a.most_lanes) in
    let tasks = tasks_read (k + 1 + 1) h [] h.tasks (omega arith) a.most_tasks a.most_cpus a.tasks in (
      k + 1 + 1 + length h.tasks,
      ap (λ ls. lines_from nothing_read (codes "lbtrace,1" ∷ (ls ++ [] ∷ []))) (lines_are h)
          ∙ step_on nothing_read (with_cpus 2 []) (codes "lbtrace,1")
          (bodies h.cpus h.distances (Some h.parts) (Some h.lanes) h.tasks) version_is_read
          ∙ cpus ∙ table ∙ parts ∙ lanes ∙ tasks ∙ all_ended (k + 1 + 1 + length h.tasks) h (omega arith),
    )

-- where they are not too long for a trace
pub declared_where_it_fits : (h : Header) → IsHeader h → length (trace_text (trace_lines h)) ≤ MAX_BYTES → IsDeclared h
unfolding reading_of trace_of
declared_where_it_fits h a fits =
    let lines = codes "lbtrace,1" ∷ trace_lines h in
    let over =
    each_weaker 10 31 (trace_lines h) (omega arith)
    (each_dropped 31 (drop 1 (header_lines h)) (behind 31 (header_lines h) (header_over h))) in
    let cut : slice_split (λ b. eqb b 10) (trace_text (trace_lines h)) ≡ lines ++ [] ∷ [] = cut_lines lines (refl, over) in
    let read = header_read h a in
    rw (le-leb (length (trace_text (trace_lines h))) MAX_BYTES fits, cut, read.1) (refl, refl)
