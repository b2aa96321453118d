-- What good lines that can be repeated add to what a header writes, line after line.
-- For the lemmas of `Declared`, `Refusals` and other files, and so for the laws `texts_read_once`,
-- `headers_read_back` and `histories_read_back`.
use Rattle.std.proofs.Common.{◌≡◌, ℕ, zero, suc, ◌<◌, ◌≤◌, Bool, true, false, ◌||◌, eqb, List, [], ◌∷◌, ◌++◌, length, drop, Option, Some, None, Result, Ok, Err, refl, sym, ap, subst, ◌∙◌, inl, inr, arith, append_assoc}
use Rattle.std.specs.Prelude.{codes, is_none, is_some, not, IfSome}
use Rattle.std.specs.List.{list_all, slice_split}
use Rattle.std.specs.Str.{bytes_eq}
use Rattle.std.proofs.lemmas.Bool.{cases_Bool, false≢true, eqb-true, or_parts, and_parts, ltb-true}
use Rattle.std.proofs.lemmas.List.{append-nil}
use Rattle.std.proofs.lemmas.List.Splits.{join_with_byte-slice_split}
use Rattle.std.proofs.lemmas.Slice.Eq.{bytes_eq-Decides}
use Rattle.csv.specs.Records.{field_at}
use Rattle.lb_base.specs.declared.mask.Mask.{Mask}
use Rattle.lb_levels.specs.declared.cpu_row.CpuRow.{CpuRow}
use Rattle.lb_levels.specs.Faults.{nodes_of}
use Rattle.lb_levels.proofs.Nodes.{some_nodes}
use Rattle.lb_trace.specs.declared.trace.TheConstants.{MAX_BYTES}
use Rattle.lb_trace.specs.declared.trace.Code.{Code}
use Rattle.lb_trace.specs.declared.trace.TaskRow.{TaskRow}
use Rattle.lb_trace.specs.declared.kind.LineKind.TheVariants as kinds
use Rattle.lb_trace.specs.declared.reading.Reading.{Reading}
use Rattle.lb_trace.specs.Kinds.{line_kind}
use Rattle.lb_trace.specs.Values.{number, lanes_in, cpu_of, distances_in, masks_from, task_of}
use Rattle.lb_trace.specs.Places.{has_machine}
use Rattle.lb_trace.specs.Tests.{byte_tests, kind_tests, place_tests, value_tests, line_tests, end_tests}
use Rattle.lb_trace.specs.Grammar.{◌>>=◌, after, after_line, line_at, ended, on_line, lines_from, nothing_read}
use Rattle.lb_trace.specs.FirstBad.{is_bad}
use Rattle.lb_trace.specs.Sound.{AreLanes, AreParts, IsSound}
use Rattle.lb_trace.proofs.FirstCode.{passes}
use Rattle.lb_trace.proofs.GoodLine.{IsGood, both_good, good_line}
use Rattle.lb_trace.proofs.SoundFacts.{sound_start, sound_line}
use Rattle.lb_text.specs.Lines.{joined}
use Rattle.lb_read.specs.Repeats.{is_spelled, fields_declare, can_repeat, fields_part, is_parts}
use Rattle.lb_read.specs.FirstBad.{version_read}
use Rattle.lb_read.proofs.Common.{or_false, or_true, is_none_from}
use Rattle.lb_read.proofs.FieldsExact.{joined_is}
use Rattle.lb_read.proofs.HeaderSound.{cpu_body, distances_body, parts_body, lanes_body, bodies, bodies_read, cpu_push, distances_push, parts_push, lanes_push, task_push, cpu_text, distances_text, parts_text, lanes_text, task_text}

-- ---- the order of lines
no_some : {A : Type 0} (o : Option A) (P : A → Type 0) → IfSome o P → ((a : A) → P a → ⊥) → o ≡ None
no_some None P h none = refl
no_some (Some a) P h none = absurd (none a h)

none_is_some : {A : Type 0} (o : Option A) → o ≡ None → is_some o ≡ false
none_is_some o e = ap is_some e

not_zero : (n : ℕ) → not (eqb n 0) ≡ true → 0 < n
not_zero zero e = absurd (false≢true e)
not_zero (suc n) e = omega arith

zero_list : {A : Type 0} (xs : List A) → eqb (length xs) 0 ≡ true → xs ≡ []
zero_list [] e = refl
zero_list (x ∷ xs) e = absurd (let z : length (x ∷ xs) ≡ 0 = eqb-true (length (x ∷ xs)) 0 e in omega (arith, z))

-- a machine has a row of distances for each node, and there are some
machine_rows : (r : Reading) → has_machine r ≡ true → (0 < nodes_of r.cpus) × (length r.distances ≡ nodes_of r.cpus)
machine_rows r m =
    let p = and_parts (not (eqb (length r.cpus) 0)) (eqb (length r.distances) (nodes_of r.cpus)) m in
    (some_nodes r.cpus (not_zero (length r.cpus) p.0), eqb-true (length r.distances) (nodes_of r.cpus) p.1)

-- before the machine is whole there is nothing behind it
record NothingBehind (r : Reading) : Type 0 where
  parts : r.parts ≡ None
  lanes : r.lanes ≡ None
  tasks : r.tasks ≡ []

nothing_behind : (r : Reading) → IsSound r → (has_machine r ≡ true → ⊥) → NothingBehind r
nothing_behind r h no_machine =
    let lanes = no_some r.lanes (AreLanes r.cpus r.distances) h.lanes (λ n a. no_machine a.machine) in
    record {
      parts = no_some r.parts (AreParts r.cpus r.distances) h.parts (λ p a. no_machine a.machine);
      lanes = lanes;
      tasks = h.tasks.none (none_is_some r.lanes lanes);
    }

-- ---- what one line adds
record Adds (r s : Reading) (body : List ℕ) (parted : Bool) : Type 0 where
  lines : bodies_read s ≡ bodies_read r ++ body ∷ []
  rows : s.rows ≡ r.rows
  parts : is_some s.parts ≡ (is_some r.parts || parted)
  lanes : (is_some r.lanes ≡ true → is_some r.parts ≡ true) → is_some s.lanes ≡ true → is_some s.parts ≡ true

alike : (cpus : List CpuRow) (ds es : List (List ℕ)) (ps qs : Option (List Mask)) (ls ms : Option ℕ) (ts us : List TaskRow)
    → ds ≡ es → ps ≡ qs → ls ≡ ms → ts ≡ us
    → bodies cpus ds ps ls ts ≡ bodies cpus es qs ms us
alike cpus ds es ps qs ls ms ts us d p l t =
    ap (λ x. bodies cpus x ps ls ts) d ∙ ap (λ x. bodies cpus es x ls ts) p ∙ ap (λ x. bodies cpus es qs x ts) l
    ∙ ap (λ x. bodies cpus es qs ms x) t

adds_cpu : (r : Reading) (rest : List (List ℕ)) → IsGood r kinds.Cpu (codes "cpu" ∷ rest) → IsSound r
    → Adds r (after r kinds.Cpu (codes "cpu" ∷ rest)) (joined 44 (codes "cpu" ∷ rest)) false
adds_cpu r rest good h =
    let cpu = cpu_of (codes "cpu" ∷ rest) in
    let place = and_parts (eqb (length r.distances) 0) _ good.stands in
    let none : r.distances ≡ [] = zero_list r.distances place.0 in
    let len : length r.distances ≡ 0 = ap length none in
    let n = nothing_behind r h (λ m. let w = machine_rows r m in omega (arith, w.0, w.1, len)) in
    record {
      lines =
          alike (r.cpus ++ cpu ∷ []) r.distances [] r.parts None r.lanes None r.tasks [] none n.parts n.lanes n.tasks
          ∙ cpu_push r.cpus cpu
          ∙ ap (λ ls. ls ++ cpu_body (length r.cpus) cpu ∷ [])
          (sym (alike r.cpus r.distances [] r.parts None r.lanes None r.tasks [] none n.parts n.lanes n.tasks))
          ∙ ap (λ b. bodies_read r ++ b ∷ []) (sym (cpu_text r rest good));
      rows = refl;
      parts = sym (or_false (is_some r.parts));
      lanes = λ k e. k e;
    }

adds_distances : (r : Reading) (rest : List (List ℕ)) → IsGood r kinds.Dist (codes "dist" ∷ rest) → IsSound r
    → Adds r (after r kinds.Dist (codes "dist" ∷ rest)) (joined 44 (codes "dist" ∷ rest)) false
adds_distances r rest good h =
    let row = distances_in (codes "dist" ∷ rest) in
    let less : length r.distances < nodes_of r.cpus = ltb-true (length r.distances) (nodes_of r.cpus) good.stands in
    let n = nothing_behind r h (λ m. let w = machine_rows r m in omega (arith, w.1, less)) in
    record {
      lines =
          alike r.cpus (r.distances ++ row ∷ [])
          (r.distances ++ row ∷ []) r.parts None r.lanes None r.tasks [] refl n.parts n.lanes n.tasks
          ∙ distances_push r.cpus r.distances row
          ∙ ap (λ ls. ls ++ distances_body row ∷ [])
          (sym (alike r.cpus r.distances r.distances r.parts None r.lanes None r.tasks [] refl n.parts n.lanes n.tasks))
          ∙ ap (λ b. bodies_read r ++ b ∷ []) (sym (distances_text r rest good));
      rows = refl;
      parts = sym (or_false (is_some r.parts));
      lanes = λ k e. k e;
    }

adds_parts : (r : Reading) (rest : List (List ℕ)) → IsGood r kinds.Parts (codes "parts" ∷ rest) → list_all is_spelled rest ≡ true
    → IsSound r
    → Adds r (after r kinds.Parts (codes "parts" ∷ rest)) (joined 44 (codes "parts" ∷ rest)) true
adds_parts r rest good spelled h =
    let parts = masks_from 1 (codes "parts" ∷ rest) in
    let place = and_parts _ (is_none r.parts) good.stands in
    let no_parts = is_none_from r.parts place.1 in
    let no_lanes = is_none_from r.lanes (and_parts (has_machine r) (is_none r.lanes) place.0).1 in
    let no_tasks = h.tasks.none (none_is_some r.lanes no_lanes) in
    record {
      lines =
          alike r.cpus r.distances r.distances (Some parts) (Some parts) r.lanes None r.tasks [] refl refl no_lanes no_tasks
          ∙ parts_push r.cpus r.distances parts
          ∙ ap (λ ls. ls ++ parts_body parts ∷ [])
          (sym (alike r.cpus r.distances r.distances r.parts None r.lanes None r.tasks [] refl no_parts no_lanes no_tasks))
          ∙ ap (λ b. bodies_read r ++ b ∷ []) (sym (parts_text rest spelled));
      rows = refl;
      parts = sym (or_true (is_some r.parts));
      lanes = λ k e. refl;
    }

adds_lanes : (r : Reading) (rest : List (List ℕ)) → IsGood r kinds.Lanes (codes "lanes" ∷ rest) → is_some r.parts ≡ true
    → IsSound r
    → Adds r (after r kinds.Lanes (codes "lanes" ∷ rest)) (joined 44 (codes "lanes" ∷ rest)) false
adds_lanes r rest good parted h =
    let lanes = number (lanes_in (codes "lanes" ∷ rest)) in
    let no_lanes = is_none_from r.lanes (and_parts (has_machine r) (is_none r.lanes) good.stands).1 in
    let no_tasks = h.tasks.none (none_is_some r.lanes no_lanes) in
    record {
      lines =
          alike r.cpus r.distances r.distances r.parts r.parts (Some lanes) (Some lanes) r.tasks [] refl refl refl no_tasks
          ∙ lanes_push r.cpus r.distances r.parts lanes
          ∙ ap (λ ls. ls ++ lanes_body lanes ∷ [])
          (sym (alike r.cpus r.distances r.distances r.parts r.parts r.lanes None r.tasks [] refl refl no_lanes no_tasks))
          ∙ ap (λ b. bodies_read r ++ b ∷ []) (sym (lanes_text r rest good));
      rows = refl;
      parts = sym (or_false (is_some r.parts));
      lanes = λ k e. parted;
    }

adds_task : (r : Reading) (rest : List (List ℕ)) → IsGood r kinds.Task (codes "task" ∷ rest)
    → list_all is_spelled (drop 3 rest) ≡ true → IsSound r
    → Adds r (after r kinds.Task (codes "task" ∷ rest)) (joined 44 (codes "task" ∷ rest)) false
adds_task r rest good spelled h = record {
  lines =
      task_push r.cpus r.distances r.parts r.lanes r.tasks (task_of (codes "task" ∷ rest))
      ∙ ap (λ b. bodies_read r ++ b ∷ []) (sym (task_text r rest good spelled));
  rows = refl;
  parts = sym (or_false (is_some r.parts));
  lanes = λ k e. k e;
}

-- ---- by the word of the line
abbrev Tested : Reading → Reading → List (List ℕ) → Type 0
Tested r s fields = (s ≡ after_line r (line_kind fields) fields) × (is_bad (kind_tests r (line_kind fields) fields) ≡ false)

AddsFields : Reading → Reading → List (List ℕ) → Type 0
AddsFields r s fields = Adds r s (joined 44 fields) (fields_part fields)

on_cpu : (r s : Reading) (rest : List (List ℕ)) → IsSound r → Tested r s (codes "cpu" ∷ rest)
    → AddsFields r s (codes "cpu" ∷ rest)
unfolding line_kind field_at AddsFields
on_cpu r s rest h t =
    subst (λ (q : Reading). Adds r q (joined 44 (codes "cpu" ∷ rest)) false) (sym t.0)
    (adds_cpu r rest (good_line r kinds.Cpu (codes "cpu" ∷ rest) t.1) h)

on_dist : (r s : Reading) (rest : List (List ℕ)) → IsSound r → Tested r s (codes "dist" ∷ rest)
    → AddsFields r s (codes "dist" ∷ rest)
unfolding line_kind field_at AddsFields
on_dist r s rest h t =
    subst (λ (q : Reading). Adds r q (joined 44 (codes "dist" ∷ rest)) false) (sym t.0)
    (adds_distances r rest (good_line r kinds.Dist (codes "dist" ∷ rest) t.1) h)

on_parts : (r s : Reading) (rest : List (List ℕ)) → IsSound r → list_all is_spelled rest ≡ true
    → Tested r s (codes "parts" ∷ rest) → AddsFields r s (codes "parts" ∷ rest)
unfolding line_kind field_at AddsFields
on_parts r s rest h spelled t =
    subst (λ (q : Reading). Adds r q (joined 44 (codes "parts" ∷ rest)) true) (sym t.0)
    (adds_parts r rest (good_line r kinds.Parts (codes "parts" ∷ rest) t.1) spelled h)

on_lanes : (r s : Reading) (rest : List (List ℕ)) → IsSound r → is_some r.parts ≡ true → Tested r s (codes "lanes" ∷ rest)
    → AddsFields r s (codes "lanes" ∷ rest)
unfolding line_kind field_at AddsFields
on_lanes r s rest h parted t =
    subst (λ (q : Reading). Adds r q (joined 44 (codes "lanes" ∷ rest)) false) (sym t.0)
    (adds_lanes r rest (good_line r kinds.Lanes (codes "lanes" ∷ rest) t.1) parted h)

on_task : (r s : Reading) (rest : List (List ℕ)) → IsSound r → list_all is_spelled (drop 3 rest) ≡ true
    → Tested r s (codes "task" ∷ rest) → AddsFields r s (codes "task" ∷ rest)
unfolding line_kind field_at AddsFields
on_task r s rest h spelled t =
    subst (λ (q : Reading). Adds r q (joined 44 (codes "task" ∷ rest)) false) (sym t.0)
    (adds_task r rest (good_line r kinds.Task (codes "task" ∷ rest) t.1) spelled h)

-- a word that is this one
at_word : (r s : Reading) (word other : List ℕ) (rest : List (List ℕ)) → bytes_eq word other ≡ true
    → (Tested r s (other ∷ rest) → AddsFields r s (other ∷ rest)) → Tested r s (word ∷ rest) → AddsFields r s (word ∷ rest)
at_word r s word other rest e f =
    subst (λ (w : List ℕ). Tested r s (w ∷ rest) → AddsFields r s (w ∷ rest)) (sym ((bytes_eq-Decides word other).0 e)) f

adds_fields : (r s : Reading) (parted : Bool) (fields : List (List ℕ)) → IsSound r → parted ≡ is_some r.parts
    → fields_declare parted fields ≡ true → Tested r s fields → AddsFields r s fields
adds_fields r s parted [] h p d t = absurd (false≢true d)
adds_fields r s parted (word ∷ rest) h p d t = elim (cases_Bool (bytes_eq word (codes "parts"))) [
  | inl is ↦ at_word r s word (codes "parts") rest is (on_parts r s rest h (rw is at d)) t
  | inr not_parts ↦ elim (cases_Bool (bytes_eq word (codes "task"))) [
    | inl is ↦ at_word r s word (codes "task") rest is (on_task r s rest h (rw (not_parts, is) at d)) t
    | inr not_task ↦ elim (cases_Bool (bytes_eq word (codes "lanes"))) [
      | inl is ↦ at_word r s word (codes "lanes") rest is (on_lanes r s rest h (sym p ∙ (rw (not_parts, not_task, is) at d))) t
      | inr not_lanes ↦ elim (cases_Bool (bytes_eq word (codes "cpu"))) [
        | inl is ↦ at_word r s word (codes "cpu") rest is (on_cpu r s rest h) t
        | inr not_cpu ↦ at_word r s word (codes "dist") rest (rw (not_parts, not_task, not_lanes, not_cpu) at d)
            (on_dist r s rest h) t
      ]
    ]
  ]
]

adds_line : (r s : Reading) (parted : Bool) (body : List ℕ) → IsSound r → parted ≡ is_some r.parts → can_repeat parted body ≡ true
    → line_at r false body ≡ Ok s → Adds r s body (is_parts body)
unfolding line_at line_tests can_repeat is_parts AddsFields
adds_line r s parted body h p can e =
    let fields = slice_split (λ b. eqb b 44) body in
    let passed = passes (line_tests r false body) (after_line r (line_kind fields) fields) s e in
    let good = (both_good (byte_tests r false body) (kind_tests r (line_kind fields) fields) passed.good).1 in
    let whole : joined 44 fields ≡ body = joined_is 44 fields ∙ join_with_byte-slice_split 44 body in
    subst (λ (b : List ℕ). Adds r s b (fields_part fields)) whole (adds_fields r s parted fields h p can (passed.same, good))

-- ---- line after line
pub record SoFar (r : Reading) (done : List (List ℕ)) (parted : Bool) : Type 0 where
  pub lines : bodies_read r ≡ done
  pub rows : r.rows ≡ []
  pub parted_is : parted ≡ is_some r.parts
  pub lanes : is_some r.lanes ≡ true → is_some r.parts ≡ true
  pub sound : IsSound r

-- lines that can be repeated, each short enough
abbrev pub CanAll : Bool → List (List ℕ) → Type 0
CanAll parted [] = Unit {0}
CanAll parted (body ∷ more) = (can_repeat parted body ≡ true) × (length body ≤ MAX_BYTES) × CanAll (parted || is_parts body) more

pub on_ok : {A : Type 0} (n : ℕ) (o : Result A Code) (a : A) → on_line n o ≡ Ok a → o ≡ Ok a
on_ok n (Ok b) a e = cc
on_ok n (Err code) a e = absurd (cc)

-- what is read in the end
pub record IsReadAll (s : Reading) (lines : List (List ℕ)) : Type 0 where
  pub lines_are : bodies_read s ≡ lines
  pub no_rows : s.rows ≡ []
  pub has_lanes : is_none s.lanes ≡ false
  pub lanes_parted : is_some s.lanes ≡ true → is_some s.parts ≡ true

read_ends : (r s : Reading) (done : List (List ℕ)) (parted : Bool) → SoFar r done parted → lines_from r ([] ∷ []) ≡ Ok s
    → IsReadAll s done
unfolding lines_from ended end_tests
read_ends r s done parted f e =
    let passed = passes (end_tests r) r s (on_ok r.line (ended r) s e) in
    let same : r ≡ s = sym passed.same in
    let tests = or_parts _ _ passed.good in
    subst (λ (q : Reading). IsReadAll q done) same
    (record {
      lines_are = f.lines;
      no_rows = f.rows;
      has_lanes = (or_parts (is_none r.lanes) false tests.1).0;
      lanes_parted = f.lanes;
    })

-- what is read behind a line
pub split_on : {A : Type 0} (n : ℕ) (o : Result Reading Code) (rest : Reading → Result A (ℕ × Code)) (a : A)
    → (on_line n o >>= rest) ≡ Ok a
    → (t : Reading) × (o ≡ Ok t) × (rest t ≡ Ok a)
split_on n (Ok t) rest a e = (t, refl, e)
split_on n (Err code) rest a e = absurd (cc)

pub some_more : (r : Reading) (line : List ℕ) (lines : List (List ℕ)) (last : List ℕ)
    → lines_from r (line ∷ (lines ++ last ∷ [])) ≡
    (on_line r.line (line_at r false line) >>= λ t. lines_from t (lines ++ last ∷ []))
unfolding lines_from
some_more r line [] last = refl
some_more r line (next ∷ lines) last = refl

pub read_step : (r s : Reading) (line : List ℕ) (lines : List (List ℕ)) → lines_from r (line ∷ (lines ++ [] ∷ [])) ≡ Ok s
    → (t : Reading) × (line_at r false line ≡ Ok t) × (lines_from t (lines ++ [] ∷ []) ≡ Ok s)
read_step r s line lines e =
    split_on r.line (line_at r false line) (λ t. lines_from t (lines ++ [] ∷ [])) s (sym (some_more r line lines []) ∙ e)

pub read_all : (r s : Reading) (done : List (List ℕ)) (parted : Bool) (lines : List (List ℕ)) → SoFar r done parted
    → CanAll parted lines → lines_from r (lines ++ [] ∷ []) ≡ Ok s → IsReadAll s (done ++ lines)
read_all r s done parted [] f can e =
    subst (λ (ls : List (List ℕ)). IsReadAll s ls) (sym (append-nil done)) (read_ends r s done parted f e)
read_all r s done parted (body ∷ lines) f can e =
    let t = read_step r s body lines e in
    let a = adds_line r t.0 parted body f.sound f.parted_is can.0 t.1 in
    let next : SoFar t.0 (done ++ body ∷ []) (parted || is_parts body) = record {
      lines = a.lines ∙ ap (λ ls. ls ++ body ∷ []) f.lines;
      rows = a.rows ∙ f.rows;
      parted_is = ap (λ b. b || is_parts body) f.parted_is ∙ sym a.parts;
      lanes = a.lanes f.lanes;
      sound = sound_line r t.0 body can.1 f.sound t.1;
    } in
    subst (λ (ls : List (List ℕ)). IsReadAll s ls) (append_assoc done (body ∷ []) lines)
    (read_all t.0 s (done ++ body ∷ []) (parted || is_parts body) lines next can.2 t.2)

-- the first line of a trace
pub version_is_read : line_at nothing_read false (codes "lbtrace,1") ≡ Ok version_read
unfolding line_at line_tests byte_tests kind_tests place_tests value_tests line_kind field_at
version_is_read = refl

first_line : (s : Reading) → line_at nothing_read false (codes "lbtrace,1") ≡ Ok s → SoFar s [] false
unfolding line_at line_tests line_kind field_at
first_line s e =
    let fields = slice_split (λ b. eqb b 44) (codes "lbtrace,1") in
    let passed =
    passes (line_tests nothing_read false (codes "lbtrace,1")) (after_line nothing_read (line_kind fields) fields) s e in
    let sound = sound_line nothing_read s (codes "lbtrace,1") (omega arith) sound_start e in
    record {
      lines = ap bodies_read passed.same;
      rows = ap (λ r. r.rows) passed.same;
      parted_is = sym (ap (λ r. is_some r.parts) passed.same);
      lanes = λ some. absurd (false≢true (sym (ap (λ r. is_some r.lanes) passed.same) ∙ some));
      sound = sound;
    }

pub read_trace : (s : Reading) (lines : List (List ℕ)) → CanAll false lines
    → lines_from nothing_read (codes "lbtrace,1" ∷ (lines ++ [] ∷ [])) ≡ Ok s → IsReadAll s lines
read_trace s lines can e =
    let t = read_step nothing_read s (codes "lbtrace,1") lines e in read_all t.0 s [] false lines (first_line t.0 t.1) can t.2
