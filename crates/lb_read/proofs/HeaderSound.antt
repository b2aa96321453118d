-- Lines of a trace that are good and can be repeated are those that a header writes for what was read.
-- For the lemmas of `Declared`, `HeaderSteps` and other files, and so for the laws `headers_read_back`,
-- `texts_read_once` and `histories_read_back`.
use Rattle.std.proofs.Common.{◌≡◌, ℕ, ◌+◌, true, List, [], ◌∷◌, ◌++◌, map, length, drop, Option, Some, None, refl, sym, ap, subst, ◌∙◌, arith, append_assoc}
use Rattle.std.specs.Prelude.{decimal, codes}
use Rattle.std.specs.Fmt.{signed_decimal}
use Rattle.std.specs.List.{list_all}
use Rattle.std.proofs.lemmas.Bool.{eqb-true, or_parts, and_parts, not-false}
use Rattle.std.proofs.lemmas.List.{append-nil}
use Rattle.csv.specs.Records.{field_at}
use Rattle.lb_base.specs.declared.mask.Mask.{Mask}
use Rattle.lb_levels.specs.declared.cpu_row.CpuRow.{CpuRow}
use Rattle.lb_text.specs.Runs.{runs_text}
use Rattle.lb_trace.specs.declared.trace.TheConstants.{MAX_DISTANCE, MAX_LANES}
use Rattle.lb_trace.specs.declared.trace.TaskRow.{TaskRow}
use Rattle.lb_trace.specs.declared.kind.LineKind.TheVariants as kinds
use Rattle.lb_trace.specs.declared.reading.Reading.{Reading}
use Rattle.lb_trace.specs.Values.{number, number_at, nice_at, list_at, id_in, lanes_in, cpu_of, distances_in, masks_from, task_of}
use Rattle.lb_trace.proofs.GoodLine.{IsGood}
use Rattle.lb_text.specs.Lines.{joined, numbered}
use Rattle.lb_read.specs.Repeats.{is_spelled}
use Rattle.lb_read.proofs.HeaderValues.{number_field, nice_field, list_field, numbers_field, lists_field}

-- ---- the lines of a header, without `= `
abbrev pub cpu_body : ℕ → CpuRow → List ℕ
cpu_body id cpu = joined 44 (codes "cpu" ∷ decimal id ∷ decimal cpu.core ∷ decimal cpu.cache ∷ decimal cpu.node ∷ [])

abbrev pub distances_body : List ℕ → List ℕ
distances_body distances = joined 44 (codes "dist" ∷ map decimal distances)

abbrev pub parts_body : List Mask → List ℕ
parts_body parts = joined 44 (codes "parts" ∷ map runs_text parts)

abbrev pub lanes_body : ℕ → List ℕ
lanes_body lanes = joined 44 (codes "lanes" ∷ decimal lanes ∷ [])

abbrev pub task_body : ℕ → TaskRow → List ℕ
task_body id task =
    joined 44 (codes "task" ∷ decimal id ∷ signed_decimal task.nice ∷ decimal task.home ∷ runs_text task.mask ∷ [])

abbrev pub parts_bodies : Option (List Mask) → List (List ℕ)
parts_bodies None = []
parts_bodies (Some parts) = parts_body parts ∷ []

abbrev pub lanes_bodies : Option ℕ → List (List ℕ)
lanes_bodies None = []
lanes_bodies (Some lanes) = lanes_body lanes ∷ []

abbrev pub bodies : List CpuRow → List (List ℕ) → Option (List Mask) → Option ℕ → List TaskRow → List (List ℕ)
bodies cpus distances parts lanes tasks =
    numbered cpu_body 0 cpus ++ (map distances_body
    distances ++ (parts_bodies parts ++ (lanes_bodies lanes ++ numbered task_body 0 tasks)))

abbrev pub bodies_read : Reading → List (List ℕ)
bodies_read r = bodies r.cpus r.distances r.parts r.lanes r.tasks

-- ---- one more line
numbered_push : {A : Type 0} (line : ℕ → A → List ℕ) (n : ℕ) (xs : List A) (x : A)
    → numbered line n (xs ++ x ∷ []) ≡ numbered line n xs ++ line (n + length xs) x ∷ []
numbered_push line n [] x = ap (λ k. line k x ∷ []) (let z : n ≡ n + 0 = omega arith in z)
numbered_push line n (y ∷ xs) x =
    ap (λ ls. line n y ∷ ls) (numbered_push line (n + 1) xs x)
    ∙ ap (λ k. line n y ∷ (numbered line (n + 1) xs ++ line k x ∷ []))
    (let z : n + 1 + length xs ≡ n + length (y ∷ xs) = omega arith in z)

map_push : {A : Type 0} (f : A → List ℕ) (xs : List A) (x : A) → map f (xs ++ x ∷ []) ≡ map f xs ++ f x ∷ []
map_push f [] x = refl
map_push f (y ∷ xs) x = ap (λ ls. f y ∷ ls) (map_push f xs x)

zero_from : (k : ℕ) → 0 + k ≡ k
zero_from k = omega arith

pub cpu_push : (cpus : List CpuRow) (cpu : CpuRow)
    → bodies (cpus ++ cpu ∷ []) [] None None [] ≡ bodies cpus [] None None [] ++ cpu_body (length cpus) cpu ∷ []
cpu_push cpus cpu =
    append-nil (numbered cpu_body 0 (cpus ++ cpu ∷ [])) ∙ numbered_push cpu_body 0 cpus cpu
    ∙ ap (λ k. numbered cpu_body 0 cpus ++ cpu_body k cpu ∷ []) (zero_from (length cpus))
    ∙ ap (λ ls. ls ++ cpu_body (length cpus) cpu ∷ []) (sym (append-nil (numbered cpu_body 0 cpus)))

pub distances_push : (cpus : List CpuRow) (table : List (List ℕ)) (row : List ℕ)
    → bodies cpus (table ++ row ∷ []) None None [] ≡ bodies cpus table None None [] ++ distances_body row ∷ []
distances_push cpus table row =
    ap (λ ls. numbered cpu_body 0 cpus ++ ls)
    (append-nil (map distances_body (table ++ row ∷ [])) ∙ map_push distances_body table row)
    ∙ sym (append_assoc (numbered cpu_body 0 cpus) (map distances_body table) (distances_body row ∷ []))
    ∙ ap (λ ls. (numbered cpu_body 0 cpus ++ ls) ++ distances_body row ∷ []) (sym (append-nil (map distances_body table)))

-- behind three heads
push_three : (a b c d : List (List ℕ)) (x : List ℕ) → a ++ (b ++ (c ++ (d ++ x ∷ []))) ≡ (a ++ (b ++ (c ++ d))) ++ x ∷ []
push_three a b c d x =
    ap (λ ls. a ++ (b ++ ls)) (sym (append_assoc c d (x ∷ []))) ∙ ap (λ ls. a ++ ls) (sym (append_assoc b (c ++ d) (x ∷ [])))
    ∙ sym (append_assoc a (b ++ (c ++ d)) (x ∷ []))

pub parts_push : (cpus : List CpuRow) (table : List (List ℕ)) (parts : List Mask)
    → bodies cpus table (Some parts) None [] ≡ bodies cpus table None None [] ++ parts_body parts ∷ []
parts_push cpus table parts = push_three (numbered cpu_body 0 cpus) (map distances_body table) [] [] (parts_body parts)

pub lanes_push : (cpus : List CpuRow) (table : List (List ℕ)) (parts : Option (List Mask)) (lanes : ℕ)
    → bodies cpus table parts (Some lanes) [] ≡ bodies cpus table parts None [] ++ lanes_body lanes ∷ []
lanes_push cpus table parts lanes =
    push_three (numbered cpu_body 0 cpus) (map distances_body table) (parts_bodies parts) [] (lanes_body lanes)

pub task_push : (cpus : List CpuRow) (table : List (List ℕ)) (parts : Option (List Mask)) (lanes : Option ℕ)
    (tasks : List TaskRow) (task : TaskRow)
    → bodies cpus table parts lanes (tasks ++ task ∷ []) ≡ bodies cpus table parts lanes tasks ++ task_body
    (length tasks) task ∷ []
task_push cpus table parts lanes tasks task =
    ap (λ ls. numbered cpu_body 0 cpus ++ (map distances_body table ++ (parts_bodies parts ++ (lanes_bodies lanes ++ ls))))
    (numbered_push task_body 0 tasks task ∙ ap (λ k. numbered task_body 0 tasks ++ task_body k task ∷ [])
    (zero_from (length tasks)))
    ∙ ap (λ ls. numbered cpu_body 0 cpus ++ (map distances_body table ++ (parts_bodies parts ++ ls)))
    (sym (append_assoc (lanes_bodies lanes) (numbered task_body 0 tasks) (task_body (length tasks) task ∷ [])))
    ∙ push_three (numbered cpu_body 0 cpus) (map distances_body table) (parts_bodies parts)
    (lanes_bodies lanes ++ numbered task_body 0 tasks) (task_body (length tasks) task)

-- ---- what a line says
one_field : (rest : List (List ℕ)) → length rest ≡ 1 → (a : List ℕ) × (rest ≡ a ∷ [])
one_field [] e = absurd (omega (arith, e))
one_field (a ∷ []) e = (a, refl)
one_field (a ∷ b ∷ more) e = absurd (omega (arith, e))

pub four_fields : (rest : List (List ℕ)) → length rest ≡ 4
    → (a : List ℕ) × (b : List ℕ) × (c : List ℕ) × (d : List ℕ) × (rest ≡ a ∷ b ∷ c ∷ d ∷ [])
four_fields [] e = absurd (omega (arith, e))
four_fields (a ∷ []) e = absurd (omega (arith, e))
four_fields (a ∷ b ∷ []) e = absurd (omega (arith, e))
four_fields (a ∷ b ∷ c ∷ []) e = absurd (omega (arith, e))
four_fields (a ∷ b ∷ c ∷ d ∷ []) e = (a, b, c, d, refl)
four_fields (a ∷ b ∷ c ∷ d ∷ f ∷ more) e = absurd (omega (arith, e))

cpu_four : (r : Reading) (a b c d : List ℕ) → IsGood r kinds.Cpu (codes "cpu" ∷ a ∷ b ∷ c ∷ d ∷ [])
    → joined 44 (codes "cpu" ∷ a ∷ b ∷ c ∷ d ∷ []) ≡ cpu_body (length r.cpus) (cpu_of (codes "cpu" ∷ a ∷ b ∷ c ∷ d ∷ []))
unfolding number_at field_at
cpu_four r a b c d good =
    let fields = codes "cpu" ∷ a ∷ b ∷ c ∷ d ∷ [] in
    let node = or_parts _ _ good.numbers in
    let cache = or_parts _ _ node.0 in
    let core = or_parts _ _ cache.0 in
    let id_is : number (id_in fields) ≡ length r.cpus = eqb-true _ _ (not-false _ good.names) in
    let ea : a ≡ decimal (length r.cpus) = number_field 0 18446744073709551615 a (omega arith) core.0 ∙ ap decimal id_is in
    let eb : b ≡ decimal (cpu_of fields).core = number_field 0 63 b (omega arith) core.1 in
    let ec : c ≡ decimal (cpu_of fields).cache = number_field 0 63 c (omega arith) cache.1 in
    let ed : d ≡ decimal (cpu_of fields).node = number_field 0 15 d (omega arith) node.1 in
    ap (λ x. joined 44 (codes "cpu" ∷ x ∷ b ∷ c ∷ d ∷ [])) ea
    ∙ ap (λ x. joined 44 (codes "cpu" ∷ decimal (length r.cpus) ∷ x ∷ c ∷ d ∷ [])) eb
    ∙ ap (λ x. joined 44 (codes "cpu" ∷ decimal (length r.cpus) ∷ decimal (cpu_of fields).core ∷ x ∷ d ∷ [])) ec
    ∙ ap
    (λ x. joined 44 (codes "cpu" ∷ decimal (length r.cpus) ∷ decimal (cpu_of fields).core ∷ decimal
    (cpu_of fields).cache ∷ x ∷ [])) ed

pub cpu_text : (r : Reading) (rest : List (List ℕ)) → IsGood r kinds.Cpu (codes "cpu" ∷ rest)
    → joined 44 (codes "cpu" ∷ rest) ≡ cpu_body (length r.cpus) (cpu_of (codes "cpu" ∷ rest))
cpu_text r rest good =
    let len : length (codes "cpu" ∷ rest) ≡ 5 = eqb-true _ 5 good.size in
    let f = four_fields rest (omega (arith, len)) in
    let P : List (List ℕ) → Type 0 =
    λ fs. IsGood r kinds.Cpu (codes "cpu" ∷ fs) → joined 44 (codes "cpu" ∷ fs) ≡ cpu_body (length r.cpus)
    (cpu_of (codes "cpu" ∷ fs)) in
    let all : P rest = subst P (sym f.4) (cpu_four r f.0 f.1 f.2 f.3) in
    all good

pub distances_text : (r : Reading) (rest : List (List ℕ)) → IsGood r kinds.Dist (codes "dist" ∷ rest)
    → joined 44 (codes "dist" ∷ rest) ≡ distances_body (distances_in (codes "dist" ∷ rest))
distances_text r rest good =
    ap (λ fs. joined 44 (codes "dist" ∷ fs)) (numbers_field 1 MAX_DISTANCE rest (omega arith) (not-false _ good.numbers))

pub parts_text : (rest : List (List ℕ)) → list_all is_spelled rest ≡ true
    → joined 44 (codes "parts" ∷ rest) ≡ parts_body (masks_from 1 (codes "parts" ∷ rest))
parts_text rest spelled = ap (λ fs. joined 44 (codes "parts" ∷ fs)) (lists_field rest spelled)

lanes_one : (r : Reading) (a : List ℕ) → IsGood r kinds.Lanes (codes "lanes" ∷ a ∷ [])
    → joined 44 (codes "lanes" ∷ a ∷ []) ≡ lanes_body (number (lanes_in (codes "lanes" ∷ a ∷ [])))
unfolding number_at field_at
lanes_one r a good = ap (λ x. joined 44 (codes "lanes" ∷ x ∷ [])) (number_field 1 MAX_LANES a (omega arith) good.numbers)

pub lanes_text : (r : Reading) (rest : List (List ℕ)) → IsGood r kinds.Lanes (codes "lanes" ∷ rest)
    → joined 44 (codes "lanes" ∷ rest) ≡ lanes_body (number (lanes_in (codes "lanes" ∷ rest)))
lanes_text r rest good =
    let len : length (codes "lanes" ∷ rest) ≡ 2 = eqb-true _ 2 good.size in
    let f = one_field rest (omega (arith, len)) in
    let P : List (List ℕ) → Type 0 =
    λ fs. IsGood r kinds.Lanes (codes "lanes" ∷ fs)
    → joined 44 (codes "lanes" ∷ fs) ≡ lanes_body (number (lanes_in (codes "lanes" ∷ fs))) in
    let all : P rest = subst P (sym f.1) (lanes_one r f.0) in
    all good

task_four : (r : Reading) (a b c d : List ℕ) → IsGood r kinds.Task (codes "task" ∷ a ∷ b ∷ c ∷ d ∷ [])
    → list_all is_spelled (drop 3 (a ∷ b ∷ c ∷ d ∷ [])) ≡ true
    → joined 44 (codes "task" ∷ a ∷ b ∷ c ∷ d ∷ []) ≡ task_body (length r.tasks) (task_of (codes "task" ∷ a ∷ b ∷ c ∷ d ∷ []))
unfolding number_at nice_at list_at field_at
task_four r a b c d good spelled =
    let fields = codes "task" ∷ a ∷ b ∷ c ∷ d ∷ [] in
    let home = or_parts _ _ good.numbers in
    let nice_of = or_parts _ _ home.0 in
    let names = or_parts _ _ good.names in
    let id_is : number (id_in fields) ≡ length r.tasks = eqb-true _ _ (not-false _ names.0) in
    let ea : a ≡ decimal (length r.tasks) = number_field 0 18446744073709551615 a (omega arith) nice_of.0 ∙ ap decimal id_is in
    let eb : b ≡ signed_decimal (task_of fields).nice = nice_field b nice_of.1 in
    let ec : c ≡ decimal (task_of fields).home = number_field 0 18446744073709551615 c (omega arith) home.1 in
    let ed : d ≡ runs_text (task_of fields).mask = list_field d (and_parts (is_spelled d) true spelled).0 in
    ap (λ x. joined 44 (codes "task" ∷ x ∷ b ∷ c ∷ d ∷ [])) ea
    ∙ ap (λ x. joined 44 (codes "task" ∷ decimal (length r.tasks) ∷ x ∷ c ∷ d ∷ [])) eb
    ∙ ap (λ x. joined 44 (codes "task" ∷ decimal (length r.tasks) ∷ signed_decimal (task_of fields).nice ∷ x ∷ d ∷ [])) ec
    ∙ ap
    (λ x. joined 44 (codes "task" ∷ decimal (length r.tasks) ∷ signed_decimal (task_of fields).nice ∷ decimal
    (task_of fields).home ∷ x ∷ [])) ed

pub task_text : (r : Reading) (rest : List (List ℕ)) → IsGood r kinds.Task (codes "task" ∷ rest)
    → list_all is_spelled (drop 3 rest) ≡ true
    → joined 44 (codes "task" ∷ rest) ≡ task_body (length r.tasks) (task_of (codes "task" ∷ rest))
task_text r rest good spelled =
    let len : length (codes "task" ∷ rest) ≡ 5 = eqb-true _ 5 good.size in
    let f = four_fields rest (omega (arith, len)) in
    let P : List (List ℕ) → Type 0 = λ fs. IsGood r kinds.Task (codes "task" ∷ fs) → list_all is_spelled (drop 3 fs) ≡ true
    → joined 44 (codes "task" ∷ fs) ≡ task_body (length r.tasks) (task_of (codes "task" ∷ fs)) in
    let all : P rest = subst P (sym f.4) (task_four r f.0 f.1 f.2 f.3) in
    all good spelled
