-- What is read of a text is a header and entries of which the text is the text.
-- For the lemmas of `Declared`, `Refusals` and `Room`, and so for the laws `texts_read_once`, `headers_read_back` and
-- `histories_read_back`.
use Rattle.std.proofs.Common.{◌≡◌, ℕ, ◌+◌, ◌-◌, ◌≤◌, Bool, true, false, ◌&&◌, ◌||◌, eqb, leb, cond, List, [], ◌∷◌, ◌++◌, map, length, take, drop, Option, Some, None, Result, Ok, Err, refl, sym, ap, subst, ◌∙◌, inl, inr, arith, append_assoc}
use Rattle.std.specs.Prelude.{codes, is_some, not, unwrap_or}
use Rattle.std.specs.List.{list_all, slice_split, onto_first, join_with_byte, All}
use Rattle.std.specs.Str.{bytes_eq}
use Rattle.std.proofs.lemmas.Bool.{cases_Bool, false≢true, leb-true, and_parts}
use Rattle.std.proofs.lemmas.List.{append-nil, take-append-drop}
use Rattle.std.proofs.lemmas.List.Elements.{All-tail, All-nil, All-cons}
use Rattle.std.proofs.lemmas.List.Splits.{join_with_byte-slice_split, slice_split_at}
use Rattle.std.proofs.lemmas.Slice.Eq.{bytes_eq-Decides}
use Rattle.lb_base.specs.declared.mask.Mask.{Mask}
use Rattle.lb_base.specs.Mask.{first_cpus}
use Rattle.lb_levels.specs.declared.cpu_row.CpuRow.{CpuRow}
use Rattle.lb_trace.specs.declared.trace.TheConstants.{MAX_BYTES}
use Rattle.lb_trace.specs.declared.trace.Code.{Code}
use Rattle.lb_trace.specs.declared.trace.TaskRow.{TaskRow}
use Rattle.lb_trace.specs.declared.trace.Header.{Header}
use Rattle.lb_trace.specs.declared.trace.Trace.{Trace}
use Rattle.lb_trace.specs.declared.reading.Reading.{Reading}
use Rattle.lb_trace.specs.Grammar.{◌>>=◌, lines_from, nothing_read, trace_of, reading_of}
use Rattle.lb_text.specs.Lines.{lines_text, numbered}
use Rattle.lb_record.specs.Header.{cpu_line, distances_line, parts_line, lanes_line, task_line, header_lines}
use Rattle.lb_read.specs.declared.written.WrittenEntry.{WrittenEntry}
use Rattle.lb_read.specs.declared.written.Read.{Read}
use Rattle.lb_read.specs.Written.{written_line, written_fits}
use Rattle.lb_read.specs.Repeats.{is_repeated, can_repeat, is_parts, Head, none_of, in_head, has_room, head_of}
use Rattle.lb_read.specs.Texts.{lines_of, entries_in, trace_text, version_line, room, line_after, head_behind, header_from, header_in, read_from, read_after, read_behind, read_lines, read_of}
use Rattle.lb_read.specs.Whole.{trace_lines, IsTraceOf, IsDeclared, ReadsAs}
use Rattle.lb_read.proofs.ExactFacts.{EachFree}
use Rattle.lb_read.proofs.Common.{some_from, same_ok, ok_err}
use Rattle.lb_read.proofs.EntriesExact.{entries_sound}
use Rattle.lb_read.proofs.HeaderSound.{cpu_body, distances_body, parts_body, lanes_body, task_body, bodies}
use Rattle.lb_read.proofs.HeaderSteps.{CanAll, IsReadAll, read_trace}

-- a line of a trace as a header repeats it
abbrev pub as_line : List ℕ → List ℕ
as_line body = codes "= " ++ body

-- ---- the lines at the head
repeated_is : (line : List ℕ) → is_repeated line ≡ true → line ≡ as_line (drop 2 line)
repeated_is line e =
    sym (take-append-drop 2 line) ∙ ap (λ t. t ++ drop 2 line) ((bytes_eq-Decides (take 2 line) (codes "= ")).0 e)

abbrev HeadOf : Bool → List (List ℕ) → Head → Type 0
HeadOf parted lines f = (lines ≡ map as_line f.bodies ++ f.rest) × CanAll parted f.bodies

head_one : (n : ℕ) (parted : Bool) (line : List ℕ) (lines : List (List ℕ)) (f : Head) → n ≤ MAX_BYTES
    → HeadOf (parted || is_parts (drop 2 line)) lines f
    → HeadOf parted (line ∷ lines) (cond (not (is_repeated line)) (none_of false (line ∷ lines))
    (cond (can_repeat parted (drop 2 line) && has_room n (drop 2 line)) (in_head (drop 2 line) f) (none_of true (line ∷ lines))))
head_one n parted line lines f few more = elim (cases_Bool (is_repeated line)) [
  | inr no_it ↦ rw no_it (refl, tt)
  | inl rep ↦ elim (cases_Bool (can_repeat parted (drop 2 line) && has_room n (drop 2 line))) [
    | inr cannot ↦ rw (rep, cannot) (refl, tt)
    | inl can ↦
        let both = and_parts (can_repeat parted (drop 2 line)) (has_room n (drop 2 line)) can in
        let fits : length (drop 2 line) + 1 ≤ n = leb-true (length (drop 2 line) + 1) n both.1 in
        rw (rep, can) (
          ap (λ l. l ∷ lines) (repeated_is line rep)
              ∙ ap (λ ls. as_line (drop 2 line) ∷ ls) more.0,
          (both.0, omega (arith, fits, few), more.1),
        )
  ]
]

pub head_sound : (n : ℕ) (parted : Bool) (lines : List (List ℕ)) → n ≤ MAX_BYTES → HeadOf parted lines (head_of n parted lines)
unfolding head_of
head_sound n parted [] few = (refl, tt)
head_sound n parted (last ∷ []) few = (refl, tt)
head_sound n parted (line ∷ next ∷ more) few =
    head_one n parted line (next ∷ more)
    (head_of (n - (length (drop 2 line) + 1)) (parted || is_parts (drop 2 line)) (next ∷ more)) few
    (head_sound (n - (length (drop 2 line) + 1)) (parted || is_parts (drop 2 line)) (next ∷ more) (omega (arith, few)))

-- ---- lines and texts
join_lines : (lines : List (List ℕ)) → join_with_byte 10 (lines ++ [] ∷ []) ≡ lines_text lines
join_lines [] = refl
join_lines (line ∷ []) = sym (append-nil (line ++ 10 ∷ []))
join_lines (line ∷ next ∷ lines) =
    ap (λ t. line ++ 10 ∷ t) (join_lines (next ∷ lines)) ∙ sym (append_assoc line (10 ∷ []) (lines_text (next ∷ lines)))

first_free : (mark b : ℕ) (parts : List (List ℕ)) → eqb b mark ≡ false → EachFree mark parts → EachFree mark (onto_first b parts)
first_free mark b [] other f = (All-cons (λ c. eqb c mark ≡ false) b [] other (All-nil (λ c. eqb c mark ≡ false)), tt)
first_free mark b (part ∷ parts) other f = (All-cons (λ c. eqb c mark ≡ false) b part other f.0, f.1)

pub split_free : (mark : ℕ) (text : List ℕ) → EachFree mark (slice_split (λ b. eqb b mark) text)
split_free mark [] = (All-nil (λ c. eqb c mark ≡ false), tt)
split_free mark (b ∷ text) = elim (cases_Bool (eqb b mark)) [
  | inl is ↦ rw is (All-nil (λ c. eqb c mark ≡ false), split_free mark text)
  | inr other ↦ rw other (first_free mark b (slice_split (λ c. eqb c mark) text) other (split_free mark text))
]

pub bodies_free : (bodies rest : List (List ℕ)) → EachFree 10 (map as_line bodies ++ rest) → EachFree 10 bodies
bodies_free [] rest f = tt
bodies_free (body ∷ bodies) rest f =
    (All-tail (λ b. eqb b 10 ≡ false) 32 body (All-tail (λ b. eqb b 10 ≡ false) 61 (32 ∷ body) f.0), bodies_free bodies rest f.1)

pub cut_free : (lines : List (List ℕ)) → EachFree 10 lines → slice_split (λ b. eqb b 10) (lines_text lines) ≡ lines ++ [] ∷ []
cut_free [] f = refl
cut_free (line ∷ lines) f =
    ap (slice_split (λ b. eqb b 10)) (append_assoc line (10 ∷ []) (lines_text lines))
    ∙ slice_split_at (λ b. eqb b 10) line 10 (lines_text lines) f.0 refl
    ∙ ap (λ (rest : List (List ℕ)). line ∷ rest) (cut_free lines f.1)

-- ---- the trace
read_part : (t : Trace) (o : Result Reading (ℕ × Code)) → (o >>= λ r. Ok (trace_of r)) ≡ Ok t
    → (s : Reading) × (o ≡ Ok s) × (trace_of s ≡ t)
read_part t (Ok s) e = (s, refl, cc)
read_part t (Err bad) e = absurd (cc)

pub reading_part : (text : List ℕ) (t : Trace) → reading_of text ≡ Ok t
    → (s : Reading) × (lines_from nothing_read (slice_split (λ b. eqb b 10) text) ≡ Ok s) × (trace_of s ≡ t)
unfolding reading_of
reading_part text t e = elim (cases_Bool (leb (length text) MAX_BYTES)) [
  | inl fits ↦ read_part t (lines_from nothing_read (slice_split (λ b. eqb b 10) text)) (rw fits at e)
  | inr past ↦ absurd (let bad = rw past at e in cc)
]

cpus_as : (n : ℕ) (cpus : List CpuRow) → numbered cpu_line n cpus ≡ map as_line (numbered cpu_body n cpus)
unfolding cpu_line
cpus_as n [] = refl
cpus_as n (cpu ∷ cpus) = ap (λ ls. cpu_line n cpu ∷ ls) (cpus_as (n + 1) cpus)

distances_as : (table : List (List ℕ)) → map distances_line table ≡ map as_line (map distances_body table)
unfolding distances_line
distances_as [] = refl
distances_as (row ∷ table) = ap (λ ls. distances_line row ∷ ls) (distances_as table)

tasks_as : (n : ℕ) (tasks : List TaskRow) → numbered task_line n tasks ≡ map as_line (numbered task_body n tasks)
unfolding task_line
tasks_as n [] = refl
tasks_as n (task ∷ tasks) = ap (λ ls. task_line n task ∷ ls) (tasks_as (n + 1) tasks)

map_append : (a b : List (List ℕ)) → map as_line (a ++ b) ≡ map as_line a ++ map as_line b
map_append [] b = refl
map_append (x ∷ a) b = ap (λ ls. as_line x ∷ ls) (map_append a b)

pub header_as : (cpus : List CpuRow) (table : List (List ℕ)) (parts : List Mask) (lanes : ℕ) (tasks : List TaskRow)
    → header_lines (record {
      cpus = cpus;
      distances = table;
      parts = parts;
      lanes = lanes;
      tasks = tasks;
    }) ≡ version_line ∷ map as_line (bodies cpus table (Some parts) (Some lanes) tasks)
unfolding header_lines parts_line lanes_line
header_as cpus table parts lanes tasks =
    let tail = parts_body parts ∷ lanes_body lanes ∷ numbered task_body 0 tasks in
    ap (λ ls. version_line ∷ ls)
    (ap (λ ls. ls ++ (map distances_line table ++ (parts_line parts ∷ lanes_line lanes ∷ numbered task_line 0 tasks)))
    (cpus_as 0 cpus)
    ∙ ap
    (λ ls. map as_line (numbered cpu_body 0 cpus) ++ (ls ++ (parts_line parts ∷ lanes_line lanes ∷ numbered task_line 0 tasks)))
    (distances_as table)
    ∙ ap
    (λ ls. map as_line (numbered cpu_body 0 cpus) ++
    (map as_line (map distances_body table) ++ (parts_line parts ∷ lanes_line lanes ∷ ls)))
    (tasks_as 0 tasks)
    ∙ ap (λ ls. map as_line (numbered cpu_body 0 cpus) ++ ls) (sym (map_append (map distances_body table) tail))
    ∙ sym (map_append (numbered cpu_body 0 cpus) (map distances_body table ++ tail)))

-- what a trace was read to be, by its partition and its lanes
record IsPrinted (s : Reading) (lines : List (List ℕ)) (t : Trace) : Type 0 where
  lines_are : header_lines t.header ≡ version_line ∷ map as_line lines
  no_rows : t.rows ≡ []

printed_some : (s : Reading) (lines : List (List ℕ)) (parts : Option (List Mask)) (lanes : Option ℕ) → s.parts ≡ parts
    → s.lanes ≡ lanes → IsReadAll s lines
    → is_some parts ≡ true → is_some lanes ≡ true → IsPrinted s lines (trace_of s)
unfolding trace_of
printed_some s lines None lanes p l a some_p some_l = absurd (false≢true some_p)
printed_some s lines (Some parts) None p l a some_p some_l = absurd (false≢true some_l)
printed_some s lines (Some parts) (Some lanes) p l a some_p some_l = record {
  lines_are =
      ap
      (λ o. header_lines (record {
        cpus = s.cpus;
        distances = s.distances;
        parts = unwrap_or o (first_cpus (length s.cpus) ∷ []);
        lanes = unwrap_or s.lanes 0;
        tasks = s.tasks;
      })) p
      ∙ ap
      (λ o. header_lines (record {
        cpus = s.cpus;
        distances = s.distances;
        parts = parts;
        lanes = unwrap_or o 0;
        tasks =
            s.tasks;
      })) l
      ∙ header_as s.cpus s.distances parts lanes s.tasks
      ∙ ap (λ o. version_line ∷ map as_line (bodies s.cpus s.distances o (Some lanes) s.tasks)) (sym p)
      ∙ ap (λ o. version_line ∷ map as_line (bodies s.cpus s.distances s.parts o s.tasks)) (sym l)
      ∙ ap (λ ls. version_line ∷ map as_line ls) a.lines_are;
  no_rows = a.no_rows;
}

printed : (s : Reading) (lines : List (List ℕ)) → IsReadAll s lines → IsPrinted s lines (trace_of s)
printed s lines a =
    let some = some_from s.lanes a.has_lanes in printed_some s lines s.parts s.lanes refl refl a (a.lanes_parted some) some

pub drop_as : (bodies : List (List ℕ)) → map (λ line. drop 2 line) (map as_line bodies) ≡ bodies
drop_as [] = refl
drop_as (body ∷ bodies) = ap (λ bs. body ∷ bs) (drop_as bodies)

-- the header at the head of lines
record IsHeaderOf (lines : List (List ℕ)) (header : Header) : Type 0 where
  declared : IsDeclared header
  lines_are : version_line ∷ lines ≡ header_lines header ++ (head_behind lines).rest

pub declares : (header : Header) (t : Trace) (o : Result Trace (ℕ × Code)) → o ≡ Ok t → t.header ≡ header → t.rows ≡ []
    → IsTraceOf header o
declares header t o e same none = subst (IsTraceOf header) (sym e) (same, none)

header_trace : (f : Head) (o : Result Trace (ℕ × Code)) (header : Header) → header_from f o ≡ Ok header
    → (t : Trace) × (o ≡ Ok t) × (t.header ≡ header)
header_trace f (Err bad) header e = absurd (ok_err header bad.0 e)
header_trace f (Ok t) header e = elim (cases_Bool f.stopped) [
  | inl stopped ↦ absurd (ok_err header (line_after f.bodies) (rw stopped at e))
  | inr going ↦ (t, refl, same_ok t.header header (rw going at e))
]

header_sound : (lines : List (List ℕ)) (header : Header) → EachFree 10 lines → header_in (head_behind lines) ≡ Ok header
    → IsHeaderOf lines header
unfolding header_in
header_sound lines header free e =
    let head = head_behind lines in
    let f = head_sound room false lines (omega arith) in
    let t = header_trace head (reading_of (trace_text head.bodies)) header e in
    let bodies_are_free = bodies_free head.bodies head.rest (subst (EachFree 10) f.0 free) in
    let r = reading_part (trace_text head.bodies) t.0 t.1 in
    let version_free : All (λ b. eqb b 10 ≡ false) (codes "lbtrace,1") = (split_free 10 (codes "lbtrace,1")).0 in
    let cut : slice_split (λ b. eqb b 10) (trace_text head.bodies) ≡ codes "lbtrace,1" ∷ (head.bodies ++ [] ∷ []) =
    cut_free (codes "lbtrace,1" ∷ head.bodies) (version_free, bodies_are_free) in
    let a = read_trace r.0 head.bodies f.1 (ap (lines_from nothing_read) (sym cut) ∙ r.1) in
    let p : IsPrinted r.0 head.bodies t.0 = subst (IsPrinted r.0 head.bodies) r.2 (printed r.0 head.bodies a) in
    let lines_are : header_lines header ≡ version_line ∷ map as_line head.bodies = ap header_lines (sym t.2) ∙ p.lines_are in
    let same : trace_lines header ≡ head.bodies =
    ap (λ ls. map (λ line. drop 2 line) (drop 1 ls)) lines_are ∙ drop_as head.bodies in
    record {
      declared =
          declares header t.0 (reading_of (trace_text (trace_lines header)))
          (ap (λ ls. reading_of (trace_text ls)) same ∙ t.1) t.2 p.no_rows;
      lines_are = ap (λ ls. version_line ∷ ls) f.0 ∙ ap (λ ls. ls ++ head.rest) (sym lines_are);
    }

-- ---- the whole
after_part : (f : Head) (o : Result Header ℕ) (read : Read) → read_after f o ≡ Ok read
    → (o ≡ Ok read.header) × (entries_in (line_after f.bodies) f.rest ≡ Ok read.entries)
after_part f (Err n) read e = absurd (ok_err read n e)
after_part f (Ok header) read e = from_part header (entries_in (line_after f.bodies) f.rest) read e
  where
    from_part : (header : Header) (o : Result (List WrittenEntry) ℕ) (read : Read) → read_from header o ≡ Ok read
        → (◌≡◌ {A = Result Header ℕ} (Ok header) (Ok read.header)) × (o ≡ Ok read.entries)
    from_part header (Err n) read e = absurd (ok_err read n e)
    from_part header (Ok ws) read e =
        let is = same_ok (record { header = header; entries = ws }) read e in
        (ap (λ r. Ok r.header) is, ap (λ r. Ok r.entries) is)

behind_sound : (lines : List (List ℕ)) (read : Read) → EachFree 10 lines → read_behind lines ≡ Ok read
    → IsDeclared read.header × (list_all written_fits read.entries ≡ true)
    × (version_line ∷ lines ≡ (header_lines read.header ++ map written_line read.entries) ++ [] ∷ [])
unfolding read_behind
behind_sound lines read free e =
    let a = after_part (head_behind lines) (header_in (head_behind lines)) read e in
    let h = header_sound lines read.header free a.0 in
    let w = entries_sound (line_after (head_behind lines).bodies) (head_behind lines).rest read.entries a.1 in (
      h.declared,
      w.1,
      h.lines_are ∙ ap (λ ls. header_lines read.header ++ ls) w.0
          ∙ sym (append_assoc (header_lines read.header) (map written_line read.entries) ([] ∷ [])),
    )

lines_sound : (lines : List (List ℕ)) (read : Read) → EachFree 10 lines → read_lines lines ≡ Ok read
    → IsDeclared read.header × (list_all written_fits read.entries ≡ true)
    × (lines ≡ (header_lines read.header ++ map written_line read.entries) ++ [] ∷ [])
unfolding read_lines
lines_sound [] read free e = absurd (ok_err read 1 e)
lines_sound (last ∷ []) read free e = absurd (ok_err read 1 e)
lines_sound (line ∷ next ∷ more) read free e = elim (cases_Bool (bytes_eq line version_line)) [
  | inr other ↦ absurd (ok_err read 1 (rw other at e))
  | inl same ↦
      let b = behind_sound (next ∷ more) read free.1 (rw same at e) in
      (b.0, b.1, ap (λ l. l ∷ next ∷ more) ((bytes_eq-Decides line version_line).0 same) ∙ b.2)
]

pub texts_are_read : (text : List ℕ) (read : Read) → read_of text ≡ Ok read → ReadsAs text read
texts_are_read text read e =
    let s = lines_sound (lines_of text) read (split_free 10 text) e in
    record {
      header = s.0;
      entries = s.1;
      text_is =
          sym (join_with_byte-slice_split 10 text) ∙ ap (join_with_byte 10) s.2
          ∙ join_lines (header_lines read.header ++ map written_line read.entries);
    }
