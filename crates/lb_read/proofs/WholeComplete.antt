-- The text of a header and entries is read as these.
-- For the lemmas of `Refusals` and `Room`, and so for the laws `texts_read_once`, `headers_read_back` and
-- `histories_read_back`.
use Rattle.std.proofs.Common.{◌≡◌, ℕ, ◌+◌, ◌-◌, ◌<◌, ◌≤◌, ◌^◌, Bool, true, false, ◌&&◌, ◌||◌, eqb, leb, List, [], ◌∷◌, ◌++◌, map, length, drop, Result, Ok, Err, refl, sym, ap, subst, ◌∙◌, inl, inr, arith, append_assoc, length-append}
use Rattle.std.specs.Prelude.{decimal, codes}
use Rattle.std.specs.Fmt.{signed_decimal}
use Rattle.std.specs.List.{list_all, slice_split, All}
use Rattle.std.specs.Str.{bytes_eq}
use Rattle.std.proofs.lemmas.Bool.{cases_Bool, le-leb, leb-true, ltb-true, and_parts}
use Rattle.std.proofs.lemmas.List.{append-nil}
use Rattle.std.proofs.lemmas.List.Elements.{All-head}
use Rattle.std.proofs.lemmas.Slice.Eq.{bytes_eq-Decides}
use Rattle.lb_base.specs.declared.mask.Mask.{Mask}
use Rattle.lb_base.specs.declared.mask.TheConstants.{MAX_CPUS}
use Rattle.lb_base.specs.Sets.{is_empty}
use Rattle.lb_levels.specs.declared.cpu_row.CpuRow.{CpuRow}
use Rattle.lb_text.specs.Lists.{list_of}
use Rattle.lb_text.specs.Runs.{runs_text}
use Rattle.lb_text.proofs.RoundTrip.{reads_back}
use Rattle.lb_trace.specs.declared.trace.TheConstants.{MAX_BYTES}
use Rattle.lb_trace.specs.declared.trace.TaskRow.{TaskRow}
use Rattle.lb_trace.specs.declared.trace.Header.{Header}
use Rattle.lb_trace.specs.declared.trace.Trace.{Trace}
use Rattle.lb_trace.specs.declared.trace.Code.{Code}
use Rattle.lb_trace.specs.Accepted.{is_mask, is_task, IsHeader}
use Rattle.lb_trace.specs.Grammar.{reading_of}
use Rattle.lb_trace.proofs.AcceptedFacts.{reading_is_trace}
use Rattle.lb_text.specs.Lines.{joined, lines_text, numbered}
use Rattle.lb_record.specs.Header.{cpu_line, distances_line, parts_line, lanes_line, task_line, header_lines}
use Rattle.lb_record.specs.Entries.{entry_line}
use Rattle.lb_record.proofs.Bytes.{over, EachOver, each_weaker, each_append, each_map, decimal_over, signed_over}
use Rattle.lb_record.proofs.Cut.{cut_lines, cut_fields}
use Rattle.lb_record.proofs.Spelled.{runs_over, line_over, header_over}
use Rattle.lb_record.proofs.Empty.{list_some}
use Rattle.lb_read.specs.declared.written.WrittenEntry.{WrittenEntry}
use Rattle.lb_read.specs.declared.written.Read.{Read}
use Rattle.lb_core.specs.Ranges.{is_long, entry_fits}
use Rattle.lb_read.specs.Written.{written_line, written_fits}
use Rattle.lb_read.specs.Repeats.{is_repeated, spells, is_spelled, declares, fields_declare, can_repeat, fields_part, is_parts, none_of, in_head, has_room, head_of}
use Rattle.lb_read.specs.Texts.{lines_of, entries_in, trace_text, version_line, room, line_after, head_behind, header_from, header_in, read_from, read_after, read_behind, read_lines, read_of}
use Rattle.lb_read.specs.Whole.{trace_lines, IsTraceOf, ReadsAs}
use Rattle.lb_read.proofs.Common.{or_false, or_true}
use Rattle.lb_read.proofs.ExactFacts.{both_true}
use Rattle.lb_read.proofs.FieldsExact.{decimal_free, empty_runs}
use Rattle.lb_read.proofs.HeadFacts.{cut_head}
use Rattle.lb_read.proofs.TextFacts.{lines_behind}
use Rattle.lb_read.proofs.EntriesExact.{entries_complete}

-- ---- lines that can be repeated
-- each line at the head, after a line `parts` or before
abbrev Repeats : Bool → List (List ℕ) → Type 0
Repeats parted [] = Unit {0}
Repeats parted (line ∷ lines) =
    (is_repeated line ≡ true) × (can_repeat parted (drop 2 line) ≡ true) × Repeats (parted || is_parts (drop 2 line)) lines

-- the bodies of lines
abbrev bodies_of : List (List ℕ) → List (List ℕ)
bodies_of lines = map (λ line. drop 2 line) lines

-- a line stands behind
abbrev GoesOn : List (List ℕ) → Type 0
GoesOn [] = ⊥
GoesOn (line ∷ lines) = is_repeated line ≡ false

head_ends : (n : ℕ) (parted : Bool) (rest : List (List ℕ)) → GoesOn rest → head_of n parted rest ≡ none_of false rest
unfolding head_of
head_ends n parted [] g = absurd g
head_ends n parted (last ∷ []) g = refl
head_ends n parted (line ∷ next ∷ more) g = rw g refl

some_rest : (lines rest : List (List ℕ)) → GoesOn rest → (lines ++ rest) ≡ [] → ⊥
some_rest [] [] g e = g
some_rest [] (line ∷ rest) g e = absurd (cc)
some_rest (line ∷ lines) rest g e = absurd (cc)

head_lines : (n : ℕ) (parted : Bool) (lines rest : List (List ℕ)) → Repeats parted lines → GoesOn rest
    → length (lines_text (bodies_of lines)) ≤ n
    → head_of n parted (lines ++ rest) ≡ record { bodies = bodies_of lines; stopped = false; rest = rest }
head_lines n parted [] rest r g fits = head_ends n parted rest g
head_lines n parted (line ∷ lines) rest r g fits =
    let body = drop 2 line in
    let len : length (lines_text (bodies_of (line ∷ lines))) ≡ length body + 1 + length (lines_text (bodies_of lines)) =
    length-append (body ++ 10 ∷ []) (lines_text (bodies_of lines))
    ∙ ap (λ k. k + length (lines_text (bodies_of lines))) (length-append body (10 ∷ [])) in
    let can : (can_repeat parted body && has_room n body) ≡ true =
    rw (r.1, le-leb (length body + 1) n (omega (arith, len, fits))) refl in
    let more = head_lines (n - (length body + 1)) (parted || is_parts body) lines rest r.2 g (omega (arith, len, fits)) in
    cut_head n parted line (lines ++ rest) (some_rest lines rest g) ∙ rw (r.0, can) (ap (in_head body) more)

-- lines that can be repeated anywhere, and none of them is the partition
abbrev EachPlain : List (List ℕ) → Type 0
EachPlain [] = Unit {0}
EachPlain (line ∷ lines) =
    (is_repeated line ≡ true) × ((parted : Bool) → can_repeat parted (drop 2 line) ≡ true)
    × (is_parts (drop 2 line) ≡ false) × EachPlain lines

plain_before : (parted : Bool) (lines more : List (List ℕ)) → EachPlain lines → Repeats parted more
    → Repeats parted (lines ++ more)
plain_before parted [] more e r = r
plain_before parted (line ∷ lines) more e r =
    let same : (parted || is_parts (drop 2 line)) ≡ parted = ap (λ b. parted || b) e.2 ∙ or_false parted in
    (e.0, e.1 parted, subst (λ (p : Bool). Repeats p (lines ++ more)) (sym same) (plain_before parted lines more e.3 r))

-- ---- the lines of a header
fields_back : (word : List ℕ) (fields : List (List ℕ)) → EachOver 44 (word ∷ fields)
    → slice_split (λ b. eqb b 44) (joined 44 (word ∷ fields)) ≡ word ∷ fields
fields_back word fields e = cut_fields 44 word fields e

can_back : (parted : Bool) (word : List ℕ) (fields : List (List ℕ)) → EachOver 44 (word ∷ fields)
    → declares parted word fields ≡ true → can_repeat parted (joined 44 (word ∷ fields)) ≡ true
unfolding can_repeat
can_back parted word fields e d = ap (fields_declare parted) (fields_back word fields e) ∙ d

parts_back : (word : List ℕ) (fields : List (List ℕ)) → EachOver 44 (word ∷ fields)
    → is_parts (joined 44 (word ∷ fields)) ≡ bytes_eq word (codes "parts")
unfolding is_parts
parts_back word fields e = ap fields_part (fields_back word fields e)

number : (n : ℕ) → over 44 (decimal n) ≡ true
number n = decimal_over 44 n (omega arith)

cpu_over : (id : ℕ) (cpu : CpuRow)
    → EachOver 44 (codes "cpu" ∷ decimal id ∷ decimal cpu.core ∷ decimal cpu.cache ∷ decimal cpu.node ∷ [])
cpu_over id cpu = (refl, (number id, (number cpu.core, (number cpu.cache, (number cpu.node, tt)))))

cpus_plain : (n : ℕ) (cpus : List CpuRow) → EachPlain (numbered cpu_line n cpus)
unfolding cpu_line
cpus_plain n [] = tt
cpus_plain n (cpu ∷ cpus) =
    let fields = decimal n ∷ decimal cpu.core ∷ decimal cpu.cache ∷ decimal cpu.node ∷ [] in (
      refl,
      λ parted. can_back parted (codes "cpu") fields (cpu_over n cpu) refl,
      parts_back (codes "cpu") fields
          (cpu_over n cpu),
      cpus_plain (n + 1) cpus,
    )

distances_plain : (table : List (List ℕ)) → EachPlain (map distances_line table)
unfolding distances_line
distances_plain [] = tt
distances_plain (row ∷ table) =
    let e : EachOver 44 (codes "dist" ∷ map decimal row) = (refl, each_map 44 decimal row number) in (
      refl,
      λ parted. can_back parted (codes "dist") (map decimal row) e refl,
      parts_back (codes "dist")
          (map decimal row) e,
      distances_plain table,
    )

spelled_back : (mask : Mask) → is_mask mask ≡ true → is_spelled (runs_text mask) ≡ true
unfolding is_spelled
spelled_back mask f =
    let fits : mask.bits < 2 ^ 64 = ltb-true mask.bits (2 ^ MAX_CPUS) f in
    elim (cases_Bool (is_empty mask)) [
      | inl none ↦ ap (λ t. eqb (length t) 0 || spells t (list_of t)) (empty_runs mask none)
      | inr some ↦
          let same : spells (runs_text mask) (list_of (runs_text mask)) ≡ true =
          ap (spells (runs_text mask)) (reads_back mask fits) ∙ ap (λ t. bytes_eq t (runs_text mask)) (list_some mask some)
          ∙ (bytes_eq-Decides (runs_text mask) (runs_text mask)).1 refl in
          ap (λ b. eqb (length (runs_text mask)) 0 || b) same ∙ or_true (eqb (length (runs_text mask)) 0)
    ]

all_spelled : (masks : List Mask) → list_all is_mask masks ≡ true → list_all is_spelled (map runs_text masks) ≡ true
all_spelled [] f = refl
all_spelled (mask ∷ masks) f =
    let h = both_true (is_mask mask) (list_all is_mask masks) f in rw (spelled_back mask h.0, all_spelled masks h.1) refl

tasks_plain : (n : ℕ) (cpus : ℕ) (tasks : List TaskRow) → list_all (is_task cpus) tasks ≡ true
    → EachPlain (numbered task_line n tasks)
unfolding task_line
tasks_plain n cpus [] f = tt
tasks_plain n cpus (task ∷ tasks) f =
    let h = both_true (is_task cpus task) (list_all (is_task cpus) tasks) f in
    let mask : is_mask task.mask ≡ true = (and_parts _ (is_mask task.mask) h.0).1 in
    let fields = decimal n ∷ signed_decimal task.nice ∷ decimal task.home ∷ runs_text task.mask ∷ [] in
    let e : EachOver 44 (codes "task" ∷ fields) =
    (refl, (number n, (signed_over 44 task.nice (omega arith), (number task.home, (runs_over task.mask, tt))))) in
    let spelled : list_all is_spelled (runs_text task.mask ∷ []) ≡ true = rw (spelled_back task.mask mask) refl in (
      refl,
      λ parted. can_back parted (codes "task") fields e spelled,
      parts_back (codes "task") fields e,
      tasks_plain
          (n + 1) cpus tasks h.1,
    )

-- the lines behind the first
abbrev lines_behind_first : Header → List (List ℕ)
lines_behind_first h =
    numbered cpu_line 0 h.cpus ++ (map distances_line h.distances ++
    (parts_line h.parts ∷ lanes_line h.lanes ∷ numbered task_line 0 h.tasks))

lines_are : (h : Header) → header_lines h ≡ version_line ∷ lines_behind_first h
unfolding header_lines
lines_are h = refl

header_repeats : (h : Header) → list_all is_mask h.parts ≡ true → list_all (is_task (length h.cpus)) h.tasks ≡ true
    → Repeats false (lines_behind_first h)
unfolding parts_line lanes_line
header_repeats h masks tasks =
    let parts_over : EachOver 44 (codes "parts" ∷ map runs_text h.parts) = (refl, each_map 44 runs_text h.parts runs_over) in
    let lanes_over : EachOver 44 (codes "lanes" ∷ decimal h.lanes ∷ []) = (refl, (number h.lanes, tt)) in
    let is_one : is_parts (joined 44 (codes "parts" ∷ map runs_text h.parts)) ≡ true =
    parts_back (codes "parts") (map runs_text h.parts) parts_over in
    let behind : Repeats true (lanes_line h.lanes ∷ numbered task_line 0 h.tasks) = (
      refl,
      can_back true (codes "lanes") (decimal h.lanes ∷ []) lanes_over refl,
      subst (λ (p : Bool). Repeats p (numbered task_line 0 h.tasks)) refl
          (subst (λ (ls : List (List ℕ)). Repeats true ls) (append-nil (numbered task_line 0 h.tasks))
          (plain_before true (numbered task_line 0 h.tasks) [] (tasks_plain 0 (length h.cpus) h.tasks tasks) tt)),
    ) in
    plain_before false (numbered cpu_line 0 h.cpus) _ (cpus_plain 0 h.cpus)
    (plain_before false (map distances_line h.distances) _ (distances_plain h.distances) (
      refl,
      can_back false (codes "parts") (map runs_text h.parts) parts_over (all_spelled h.parts masks),
      subst
          (λ (p : Bool). Repeats p (lanes_line h.lanes ∷ numbered task_line 0 h.tasks)) (sym is_one) behind,
    ))

-- ---- behind the header
not_repeated : (digits rest : List ℕ) → All (λ b. eqb b 61 ≡ false) digits → is_repeated (digits ++ 32 ∷ rest) ≡ false
not_repeated [] [] a = refl
not_repeated [] (b ∷ rest) a = refl
not_repeated (d ∷ []) rest a = rw (All-head (λ b. eqb b 61 ≡ false) d [] a) refl
not_repeated (d ∷ e ∷ digits) rest a = rw (All-head (λ b. eqb b 61 ≡ false) d (e ∷ digits) a) refl

entry_goes_on : (w : WrittenEntry) → written_fits w ≡ true → is_repeated (written_line w) ≡ false
unfolding entry_line entry_fits
entry_goes_on w f =
    let long : is_long w.ticket ≡ true = (and_parts (is_long w.ticket) _ (and_parts _ _ (and_parts _ _ f).0).0).0 in
    let le : w.ticket ≤ 18446744073709551615 = leb-true w.ticket 18446744073709551615 long in
    not_repeated (decimal w.ticket) _ (decimal_free 61 w.ticket refl (omega arith))

entries_go_on : (ws : List WrittenEntry) → list_all written_fits ws ≡ true → GoesOn (map written_line ws ++ [] ∷ [])
entries_go_on [] f = refl
entries_go_on (w ∷ ws) f = entry_goes_on w (both_true (written_fits w) (list_all written_fits ws) f).0

-- ---- the whole
pub within_limit : (text : List ℕ) (t : Trace) → reading_of text ≡ Ok t → length text ≤ MAX_BYTES
unfolding reading_of
within_limit text t e = elim (cases_Bool (leb (length text) MAX_BYTES)) [
  | inl fits ↦ leb-true (length text) MAX_BYTES fits
  | inr past ↦ absurd (let bad = rw past at e in cc)
]

lines_back : (h : Header) (ws : List WrittenEntry)
    → lines_of (lines_text (header_lines h ++ map written_line ws)) ≡ (header_lines h ++ map written_line ws) ++ [] ∷ []
lines_back h ws =
    let e : EachOver 31 (header_lines h ++ map written_line ws) =
    each_append 31 (header_lines h) (map written_line ws) (header_over h)
    (each_map 31 written_line ws (λ w. line_over w.ticket w.entry)) in
    cut_lines (header_lines h ++ map written_line ws) (each_weaker 10 31 (header_lines h ++ map written_line ws) (omega arith) e)

-- the trace that declares a header
declared_by : (h : Header) (o : Result Trace (ℕ × Code)) → IsTraceOf h o → (t : Trace) × (o ≡ Ok t) × (t.header ≡ h)
declared_by h (Ok t) d = (t, refl, d.0)
declared_by h (Err bad) d = absurd d

pub reads_texts : (text : List ℕ) (read : Read) → ReadsAs text read → read_of text ≡ Ok read
unfolding header_in read_behind
reads_texts text read r =
    let h = read.header in
    let ws = read.entries in
    let d = declared_by h (reading_of (trace_text (trace_lines h))) r.header in
    let trace : IsHeader h = subst IsHeader d.2 (reading_is_trace (trace_text (trace_lines h)) d.0 d.1).header in
    let tail = lines_behind_first h in
    let rest = map written_line ws ++ [] ∷ [] in
    let same_lines : trace_lines h ≡ bodies_of tail = ap (λ ls. map (λ line. drop 2 line) (drop 1 ls)) (lines_are h) in
    let fits : length (trace_text (bodies_of tail)) ≤ MAX_BYTES =
    within_limit (trace_text (bodies_of tail)) _ (ap (λ ls. reading_of (trace_text ls)) (sym same_lines) ∙ d.1) in
    let len : length (trace_text (bodies_of tail)) ≡ 10 + length (lines_text (bodies_of tail)) =
    length-append (codes "lbtrace,1" ++ 10 ∷ []) (lines_text (bodies_of tail)) in
    let head : head_behind (tail ++ rest) ≡ record { bodies = bodies_of tail; stopped = false; rest = rest } =
    head_lines room false tail rest (header_repeats h trace.masks trace.tasks) (entries_go_on ws r.entries)
    (omega (arith, len, fits)) in
    let cut : lines_of text ≡ version_line ∷ (tail ++ rest) =
    ap lines_of r.text_is ∙ lines_back h ws ∙ ap (λ ls. (ls ++ map written_line ws) ++ [] ∷ []) (lines_are h)
    ∙ ap (λ ls. version_line ∷ ls) (append_assoc tail (map written_line ws) ([] ∷ [])) in
    let header : reading_of (trace_text (bodies_of tail)) ≡ Ok d.0 =
    ap (λ ls. reading_of (trace_text ls)) (sym same_lines) ∙ d.1 in
    ap read_lines cut ∙ lines_behind version_line (tail ++ rest) (some_rest tail rest (entries_go_on ws r.entries))
    ∙ ap (λ f. read_after f (header_in f)) head
    ∙ ap
    (λ o. read_after (record { bodies = bodies_of tail; stopped = false; rest = rest })
    (header_from (record { bodies = bodies_of tail; stopped = false; rest = rest }) o)) header
    ∙ ap (λ g. read_from g (entries_in (line_after (bodies_of tail)) rest)) d.2
    ∙ ap (read_from h) (entries_complete (line_after (bodies_of tail)) ws r.entries)
