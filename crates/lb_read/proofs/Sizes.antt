-- How long the lines of a header are at most, in bytes.
-- For the lemmas of `Room` and `Shortest`, and so for the law `headers_read_back`.
use Rattle.std.proofs.Common.{◌≡◌, ℕ, ℤ, pos, negsuc, suc, ◌+◌, ◌*◌, ◌<◌, ◌≤◌, Bool, true, false, ◌&&◌, eqb, ltb, cond, List, [], ◌∷◌, ◌++◌, map, length, Some, refl, ap, arith}
use Rattle.std.specs.Prelude.{codes, decimal}
use Rattle.std.specs.Fmt.{signed_decimal}
use Rattle.std.specs.List.{list_all, join_with_byte}
use Rattle.std.proofs.Common.{length-append}
use Rattle.std.proofs.lemmas.Bool.{and_from, and_parts, ltb-true, lt-ltb, leb-true, eqb-true}
use Rattle.std.proofs.lemmas.Fmt.{length-decimal-le}
use Rattle.lb_base.specs.declared.mask.Mask.{Mask}
use Rattle.lb_base.specs.Mask.{members}
use Rattle.lb_base.proofs.Members.{length-members_le}
use Rattle.lb_base.proofs.Sets.{all_members}
use Rattle.lb_levels.specs.declared.cpu_row.CpuRow.{CpuRow}
use Rattle.lb_levels.specs.Faults.{nodes_of}
use Rattle.lb_levels.proofs.NoFault.{machine_from_no_fault}
use Rattle.lb_levels.proofs.Nodes.{few_nodes}
use Rattle.lb_text.specs.Lists.{Run}
use Rattle.lb_text.specs.Runs.{onto_run, runs_of, run_text, runs_text}
use Rattle.lb_trace.specs.declared.trace.TaskRow.{TaskRow}
use Rattle.lb_trace.specs.declared.trace.TheConstants.{MAX_BYTES}
use Rattle.lb_trace.specs.declared.trace.Header.{Header}
use Rattle.lb_trace.specs.Accepted.{is_cpu, is_distance, is_nice_value, is_task, IsHeader}
use Rattle.lb_trace.proofs.SoundLists.{all_also}
use Rattle.lb_text.specs.Lines.{marked, lines_text, numbered}
use Rattle.lb_read.specs.Texts.{trace_text}
use Rattle.lb_read.specs.Whole.{trace_lines}
use Rattle.lb_read.proofs.HeaderSound.{bodies, cpu_body, distances_body, parts_body, lanes_body, task_body}
use Rattle.lb_read.proofs.Declared.{lines_are, square}

-- ---- lists of CPUs
abbrev pub is_low : Run → Bool
is_low run = ltb run.0 64 && ltb run.1 64

low_onto : (c : ℕ) (runs : List Run) → ltb c 64 ≡ true → list_all is_low runs ≡ true → list_all is_low (onto_run c runs) ≡ true
low_onto c [] lt low = and_from _ _ (and_from _ _ lt lt) refl
low_onto c (run ∷ runs) lt low = by_test (eqb (c + 1) run.0)
  where
    by_test : (b : Bool) → list_all is_low (cond b ((c, run.1) ∷ runs) ((c, c) ∷ run ∷ runs)) ≡ true
    by_test true = let p = and_parts (is_low run) _ low in and_from _ _ (and_from _ _ lt (and_parts _ _ p.0).1) p.1
    by_test false = and_from _ _ (and_from _ _ lt lt) low

low_runs : (cpus : List ℕ) → list_all (λ c. ltb c 64) cpus ≡ true → list_all is_low (runs_of cpus) ≡ true
low_runs [] low = refl
low_runs (c ∷ cpus) low = let p = and_parts (ltb c 64) _ low in low_onto c (runs_of cpus) p.0 (low_runs cpus p.1)

pub low_members : (mask : Mask) → list_all is_low (runs_of (members mask)) ≡ true
low_members mask = low_runs (members mask) (all_members (λ c. ltb c 64) mask (λ k lt there. lt-ltb k 64 lt))

few_onto : (c : ℕ) (runs : List Run) → length (onto_run c runs) ≤ length runs + 1
few_onto c [] = omega arith
few_onto c (run ∷ runs) = by_test (eqb (c + 1) run.0)
  where
    by_test : (b : Bool) → length (cond b ((c, run.1) ∷ runs) ((c, c) ∷ run ∷ runs)) ≤ length (run ∷ runs) + 1
    by_test true = omega arith
    by_test false = omega arith

few_runs : (cpus : List ℕ) → length (runs_of cpus) ≤ length cpus
few_runs [] = omega arith
few_runs (c ∷ cpus) = let one = few_onto c (runs_of cpus) in let more = few_runs cpus in omega (arith, one, more)

two_digits : (n : ℕ) → n < 64 → length (decimal n) ≤ 2
two_digits n lt = length-decimal-le 2 n (omega arith) (omega (arith, lt)) (omega (arith, lt))

run_length : (run : Run) → is_low run ≡ true → length (run_text run) ≤ 5
run_length run low = by_test (eqb run.0 run.1)
  where
    by_test : (b : Bool) → length (cond b (decimal run.0) (decimal run.0 ++ 45 ∷ decimal run.1)) ≤ 5
    by_test true =
        let a = two_digits run.0 (ltb-true run.0 64 (and_parts (ltb run.0 64) (ltb run.1 64) low).0) in omega (arith, a)
    by_test false =
        let q = and_parts (ltb run.0 64) (ltb run.1 64) low in
        let a = two_digits run.0 (ltb-true run.0 64 q.0) in
        let b = two_digits run.1 (ltb-true run.1 64 q.1) in
        let l = length-append (decimal run.0) (45 ∷ decimal run.1) in
        omega (arith, a, b, l)

runs_length : (runs : List Run) → list_all is_low runs ≡ true → length (join_with_byte 59 (map run_text runs)) ≤ 6 * length runs
runs_length [] low = omega arith
runs_length (run ∷ []) low = let a = run_length run (and_parts (is_low run) _ low).0 in omega (arith, a)
runs_length (run ∷ next ∷ runs) low =
    let p = and_parts (is_low run) _ low in
    let a = run_length run p.0 in
    let more = runs_length (next ∷ runs) p.1 in
    let l = length-append (run_text run) (59 ∷ join_with_byte 59 (map run_text (next ∷ runs))) in
    omega (arith, a, more, l)

list_length : (mask : Mask) → length (runs_text mask) ≤ 384
unfolding runs_text
list_length mask =
    let all = runs_length (runs_of (members mask)) (low_members mask) in
    let few = few_runs (members mask) in
    let most = length-members_le mask in
    omega (arith, all, few, most)

-- ---- lines
marked_length : {A : Type 0} (f : A → List ℕ) (b : ℕ) (xs : List A) → ((x : A) → length (f x) ≤ b)
    → length (marked 44 (map f xs)) ≤ length xs * (b + 1)
marked_length f b [] each = omega arith
marked_length f b (x ∷ xs) each =
    let one = each x in
    let more = marked_length f b xs each in
    let l = length-append (44 ∷ f x) (marked 44 (map f xs)) in
    omega (arith, one, more, l)

marked_all : {A : Type 0} (f : A → List ℕ) (p : A → Bool) (b : ℕ) (xs : List A) → list_all p xs ≡ true
    → ((x : A) → p x ≡ true → length (f x) ≤ b) → length (marked 44 (map f xs)) ≤ length xs * (b + 1)
marked_all f p b [] all each = omega arith
marked_all f p b (x ∷ xs) all each =
    let q = and_parts (p x) _ all in
    let one = each x q.0 in
    let more = marked_all f p b xs q.1 each in
    let l = length-append (44 ∷ f x) (marked 44 (map f xs)) in
    omega (arith, one, more, l)

pub text_append : (a b : List (List ℕ)) → length (lines_text (a ++ b)) ≡ length (lines_text a) + length (lines_text b)
text_append [] b = omega arith
text_append (line ∷ a) b =
    let l = length-append (line ++ 10 ∷ []) (lines_text (a ++ b)) in
    let k = length-append (line ++ 10 ∷ []) (lines_text a) in
    let more = text_append a b in
    omega (arith, l, k, more)

pub line_length : (line : List ℕ) (lines : List (List ℕ))
    → length (lines_text (line ∷ lines)) ≡ length line + 1 + length (lines_text lines)
line_length line lines =
    let l = length-append (line ++ 10 ∷ []) (lines_text lines) in
    let k = length-append line (10 ∷ []) in
    omega (arith, l, k)

numbered_length : {A : Type 0} (line : ℕ → A → List ℕ) (p : A → Bool) (b n : ℕ) (xs : List A) → n + length xs ≤ 9999
    → list_all p xs ≡ true → ((i : ℕ) (x : A) → i < 9999 → p x ≡ true → length (line i x) ≤ b)
    → length (lines_text (numbered line n xs)) ≤ length xs * (b + 1)
numbered_length line p b n [] few all each = omega arith
numbered_length line p b n (x ∷ xs) few all each =
    let q = and_parts (p x) _ all in
    let one = each n x (omega (arith, few)) q.0 in
    let more = numbered_length line p b (n + 1) xs (omega (arith, few)) q.1 each in
    let l = line_length (line n x) (numbered line (n + 1) xs) in
    omega (arith, one, more, l)

four_digits : (n : ℕ) → n < 9999 → length (decimal n) ≤ 4
four_digits n lt = length-decimal-le 4 n (omega arith) (omega (arith, lt)) (omega (arith, lt))

cpu_length : (i : ℕ) (cpu : CpuRow) → i < 9999 → is_cpu cpu ≡ true → length (cpu_body i cpu) ≤ 17
cpu_length i cpu lt fits =
    let p = and_parts _ _ fits in
    let q = and_parts _ _ p.0 in
    let a = four_digits i lt in
    let b = two_digits cpu.core (ltb-true cpu.core 64 q.0) in
    let c = two_digits cpu.cache (ltb-true cpu.cache 64 q.1) in
    let d = two_digits cpu.node (let n = ltb-true cpu.node 16 p.1 in omega (arith, n)) in
    let k = length-append (44 ∷ decimal i) (marked 44 (decimal cpu.core ∷ decimal cpu.cache ∷ decimal cpu.node ∷ [])) in
    let l = length-append (44 ∷ decimal cpu.core) (marked 44 (decimal cpu.cache ∷ decimal cpu.node ∷ [])) in
    let m = length-append (44 ∷ decimal cpu.cache) (marked 44 (decimal cpu.node ∷ [])) in
    let n = length-append (44 ∷ decimal cpu.node) [] in
    let o = length-append (codes "cpu") (marked 44 (decimal i ∷ decimal cpu.core ∷ decimal cpu.cache ∷ decimal cpu.node ∷ [])) in
    omega (arith, a, b, c, d, k, l, m, n, o)

nice_length : (n : ℤ) → is_nice_value n ≡ true → length (signed_decimal n) ≤ 3
nice_length (pos n) h = let a = two_digits n (let le = leb-true n 19 h in omega (arith, le)) in omega (arith, a)
nice_length (negsuc n) h = let a = two_digits (suc n) (let le = leb-true n 19 h in omega (arith, le)) in omega (arith, a)

task_length : (cpus i : ℕ) (task : TaskRow) → cpus ≤ 64 → i < 9999 → is_task cpus task ≡ true → length (task_body i task) ≤ 402
task_length cpus i task few lt fits =
    let p = and_parts _ _ fits in
    let q = and_parts _ _ p.0 in
    let r = and_parts _ _ q.0 in
    let s = and_parts _ _ r.0 in
    let a = four_digits i lt in
    let b = nice_length task.nice s.0 in
    let c = two_digits task.home (let n = ltb-true task.home cpus s.1 in omega (arith, n, few)) in
    let d = list_length task.mask in
    let k =
    length-append (44 ∷ decimal i) (marked 44 (signed_decimal task.nice ∷ decimal task.home ∷ runs_text task.mask ∷ [])) in
    let l = length-append (44 ∷ signed_decimal task.nice) (marked 44 (decimal task.home ∷ runs_text task.mask ∷ [])) in
    let m = length-append (44 ∷ decimal task.home) (marked 44 (runs_text task.mask ∷ [])) in
    let n = length-append (44 ∷ runs_text task.mask) [] in
    let o =
    length-append (codes "task")
    (marked 44 (decimal i ∷ signed_decimal task.nice ∷ decimal task.home ∷ runs_text task.mask ∷ [])) in
    omega (arith, a, b, c, d, k, l, m, n, o)

distance_length : (d : ℕ) → is_distance d ≡ true → length (decimal d) ≤ 3
distance_length d h =
    let le = leb-true d 255 (and_parts _ _ h).1 in length-decimal-le 3 d (omega arith) (omega (arith, le)) (omega (arith, le))

table_length : (n : ℕ) (rows : List (List ℕ)) → n ≤ 16 → list_all (λ (row : List ℕ). eqb (length row) n) rows ≡ true
    → list_all (list_all is_distance) rows ≡ true → length (lines_text (map distances_body rows)) ≤ length rows * 69
table_length n [] few sizes fits = omega arith
table_length n (row ∷ rows) few sizes fits =
    let p = and_parts _ _ sizes in
    let q = and_parts _ _ fits in
    let size = eqb-true (length row) n p.0 in
    let one = marked_all decimal is_distance 3 row q.0 distance_length in
    let o = length-append (codes "dist") (marked 44 (map decimal row)) in
    let l = line_length (distances_body row) (map distances_body rows) in
    let more = table_length n rows few p.1 q.1 in
    omega (arith, size, one, o, l, more, few)

nodes_few : (cpus : List CpuRow) → list_all is_cpu cpus ≡ true → nodes_of cpus ≤ 16
nodes_few cpus fits = few_nodes cpus (all_also is_cpu (λ row. ltb row.node 16) cpus (λ row h. (and_parts _ _ h).1) fits)

-- the lines of a header with not too many masks are not too long for a trace
pub headers_have_room : (h : Header) → IsHeader h → length h.parts ≤ 65536 → length (trace_text (trace_lines h)) ≤ MAX_BYTES
headers_have_room h a few =
    let some = a.some_cpu in
    let machine = machine_from_no_fault h.cpus h.distances (omega (arith, some)) a.machine in
    let nodes = nodes_few h.cpus a.cpus in
    let rows = machine.rows in
    let most_cpus = a.most_cpus in
    let most_tasks = a.most_tasks in
    let lanes_few = a.most_lanes in
    let cpus = numbered_length cpu_body is_cpu 17 0 h.cpus (omega (arith, most_cpus)) a.cpus cpu_length in
    let table =
    table_length (nodes_of h.cpus) h.distances nodes
    (square h.distances (nodes_of h.cpus) machine.rows machine.square) a.distances in
    let masks = marked_length runs_text 384 h.parts list_length in
    let word = length-append (codes "parts") (marked 44 (map runs_text h.parts)) in
    let number = two_digits h.lanes (omega (arith, lanes_few)) in
    let lane_field = length-append (44 ∷ decimal h.lanes) [] in
    let lane_word = length-append (codes "lanes") (marked 44 (decimal h.lanes ∷ [])) in
    let tasks =
    numbered_length task_body (is_task (length h.cpus)) 402 0 h.tasks (omega (arith, most_tasks)) a.tasks
    (λ i task lt fits. task_length (length h.cpus) i task most_cpus lt fits) in
    let tail = parts_body h.parts ∷ lanes_body h.lanes ∷ numbered task_body 0 h.tasks in
    let lane_line = line_length (lanes_body h.lanes) (numbered task_body 0 h.tasks) in
    let parts_line = line_length (parts_body h.parts) (lanes_body h.lanes ∷ numbered task_body 0 h.tasks) in
    let behind = text_append (map distances_body h.distances) tail in
    let whole = text_append (numbered cpu_body 0 h.cpus) (map distances_body h.distances ++ tail) in
    let first = line_length (codes "lbtrace,1") (bodies h.cpus h.distances (Some h.parts) (Some h.lanes) h.tasks) in
    let same : length (trace_text (trace_lines h)) ≡ length
    (trace_text (bodies h.cpus h.distances (Some h.parts) (Some h.lanes) h.tasks)) =
    ap (λ ls. length (trace_text ls)) (lines_are h) in
    omega (
      arith,
      some,
      nodes,
      rows,
      most_cpus,
      most_tasks,
      cpus,
      table,
      masks,
      word,
      number,
      lane_field,
      lane_word,
      tasks,
      lane_line,
      parts_line,
      behind,
      whole,
      first,
      same,
      few,
    )
