-- The lines of a drawn trace's rows are good ones, and read as those rows.
-- For the lemmas of `Accepted`, and so for the laws `are_accepted` and `moments_are_small`.
use Rattle.std.proofs.Common.{◌≡◌, ℕ, zero, suc, ◌+◌, ◌*◌, ◌%◌, ◌^◌, ◌<◌, ◌≤◌, ℤ, Bool, true, false, not, ◌&&◌, eqb, ltb, List, [], ◌∷◌, ◌++◌, map, length, Some, None, Result, Ok, refl, sym, ap, subst, ◌∙◌, append_assoc, arith, inl, inr}
use Rattle.std.specs.Prelude.{decimal}
use Rattle.std.specs.List.{list_all}
use Rattle.std.proofs.lemmas.Bool.{cases_Bool, and_from, and_parts, eq-eqb, ne_eqb, eqb-true, lt-ltb, lt-leb}
use Rattle.std.proofs.lemmas.List.{append-nil, length_push}
use Rattle.std.proofs.lemmas.List.Folds.{list_all-append}
use Rattle.csv.specs.Records.{field_at}
use Rattle.lb_base.specs.declared.mask.Mask.{Mask}
use Rattle.lb_base.specs.Mask.{has, members_below, members, first_cpus, without}
use Rattle.lb_base.specs.Sets.{is_below, are_apart}
use Rattle.lb_text.specs.Numbers.{number_within}
use Rattle.lb_trace.specs.declared.trace.Code.{Code}
use Rattle.lb_trace.specs.declared.trace.Command.{Command}
use Rattle.lb_trace.specs.declared.trace.Command.TheVariants as commands
use Rattle.lb_trace.specs.declared.trace.Row.{Row}
use Rattle.lb_trace.specs.declared.kind.LineKind.TheVariants as kinds
use Rattle.lb_trace.specs.declared.kind.RowKind.{RowKind}
use Rattle.lb_trace.specs.declared.kind.RowKind.TheVariants as rows
use Rattle.lb_trace.specs.declared.reading.Reading.{Reading}
use Rattle.lb_trace.specs.Kinds.{line_kind}
use Rattle.lb_trace.specs.Places.{row_has_fields}
use Rattle.lb_trace.specs.Spelling.{misspells_number, misspells_list}
use Rattle.lb_trace.specs.Naming.{misnames, names_no_cpu, overlaps, ticks_badly, ticks_cpu, is_ticked_beside}
use Rattle.lb_trace.specs.Accepted.{is_nice_value}
use Rattle.lb_trace.specs.Values.{number_at, nice_at, list_at, row_of}
use Rattle.lb_trace.specs.Tests.{end_tests}
use Rattle.lb_trace.specs.Grammar.{line_at, lines_from, ended}
use Rattle.lb_trace.proofs.GoodLine.{IsGood}
use Rattle.lb_generator.specs.Generator.{lower_cpus, upper_cpus, all_cpus, first_rows, first_tasks, distances, lane_of, command_drawn, row_drawn, rows_from}
use Rattle.lb_generator.specs.Text.{row_word, row_fields, row_line}
use Rattle.lb_generator.proofs.Fields.{is_field, is_short_line, number_field, nice_field, short_line}
use Rattle.lb_generator.proofs.Good.{good_is_read, step_on}
use Rattle.lb_generator.proofs.Drawn.{MayBeDrawn, drawn_row}
use Rattle.lb_generator.proofs.Values.{number_back, nice_back, IsListed, one_listed, all_listed, lower_listed, upper_listed}
use Rattle.lb_generator.proofs.HeaderLines.{rows_count, tasks_count}

-- what was read of the header, and these rows
abbrev pub with_rows : ℕ → List Row → Reading
with_rows n done =
    record {
      line = n;
      cpus = first_rows 16;
      distances = distances;
      parts = None;
      lanes = Some 4;
      tasks = first_tasks 200;
      rows = done;
    }

-- ---- each CPU is ticked by one lane
abbrev pub is_in_lane : ℕ → Command → Bool
is_in_lane lane (commands.Tick cpu) = eqb lane (cpu % 4)
is_in_lane lane command = true

abbrev pub in_own_lane : Row → Bool
in_own_lane row = is_in_lane row.lane row.command

not_beside : (lane cpu : ℕ) (command : Command) → is_in_lane lane command ≡ true
    → (ticks_cpu cpu command && not (eqb lane (cpu % 4))) ≡ false
not_beside lane cpu (commands.Tick ticked) e = elim (cases_Bool (eqb ticked cpu)) [
  | inl same ↦
      let own : lane ≡ cpu % 4 = eqb-true lane (ticked % 4) e ∙ ap (λ (c : ℕ). c % 4) (eqb-true ticked cpu same) in
      rw (same, eq-eqb lane (cpu % 4) own) refl
  | inr other ↦ rw other refl
]
not_beside lane cpu command e = refl

none_beside : (done : List Row) (cpu : ℕ) → list_all in_own_lane done ≡ true → is_ticked_beside done cpu (cpu % 4) ≡ false
unfolding is_ticked_beside
none_beside [] cpu e = refl
none_beside (row ∷ done) cpu e =
    let p = and_parts (in_own_lane row) _ e in
    rw (not_beside row.lane cpu row.command p.0) (none_beside done cpu p.1)

-- ---- what each row has
-- the lane and the moment are in range, and there is room for another row
record IsPlaced (n lane at : ℕ) (done : List Row) : Type 0 where
  later : 1 < n
  lane_in : lane < 4
  early : at ≤ 1000000000000000
  room : length done < 100000

abbrev row_with : ℕ → ℕ → Command → Row
row_with lane at command = record { lane = lane; at = at; command = command }

-- the line of the row is read after these rows
abbrev AddsRow : ℕ → List Row → Row → Type 0
AddsRow n done row = line_at (with_rows n done) false (row_line row) ≡ Ok (with_rows (n + 1) (done ++ row ∷ []))

-- what the tests of a row ask
record IsGoodRow (n : ℕ) (done : List Row) (kind : RowKind) (fields : List (List ℕ)) : Type 0 where
  size : row_has_fields kind (length fields) ≡ true
  numbers : misspells_number (kinds.Row kind) fields ≡ false
  lists : misspells_list (kinds.Row kind) fields ≡ false
  names : misnames (with_rows n done) (kinds.Row kind) fields ≡ false
  cpus : names_no_cpu (with_rows n done) (kinds.Row kind) fields ≡ false
  apart : overlaps (kinds.Row kind) fields ≡ false
  ticks : ticks_badly (with_rows n done) (kinds.Row kind) fields ≡ false

good_row : (n : ℕ) (done : List Row) (kind : RowKind) (fields : List (List ℕ)) → length done < 100000
    → IsGoodRow n done kind fields → IsGood (with_rows n done) (kinds.Row kind) fields
good_row n done kind fields room g = record {
  stands = refl;
  room = lt-leb 100000 (length done) room;
  size = g.size;
  numbers = g.numbers;
  lists = g.lists;
  names = g.names;
  cpu = refl;
  placed = refl;
  nested = refl;
  cpus = g.cpus;
  apart = g.apart;
  mask = refl;
  ticks = g.ticks;
}

abbrev line_fields : ℕ → ℕ → Command → List (List ℕ)
line_fields lane at command = row_word command ∷ decimal lane ∷ decimal at ∷ row_fields command

row_read : (n lane at : ℕ) (done : List Row) (kind : RowKind) (command : Command) → IsPlaced n lane at done
    → line_kind (line_fields lane at command) ≡ Some (kinds.Row kind)
    → list_all is_field (line_fields lane at command) ≡ true
    → row_of kind (line_fields lane at command) ≡ row_with lane at command
    → IsGoodRow n done kind (line_fields lane at command)
    → AddsRow n done (row_with lane at command)
unfolding row_line
row_read n lane at done kind command p is fields same good =
    let later = p.later in
    good_is_read (with_rows n done) (kinds.Row kind) (row_word command) (decimal lane ∷ decimal at ∷ row_fields command)
    (ne_eqb n 1 (λ z. omega (arith, z, later))) is fields (good_row n done kind (line_fields lane at command) p.room good)
    ∙ ap (λ (row : Row). let o : Result Reading Code = Ok (with_rows (n + 1) (done ++ row ∷ [])) in o) same

-- a task's or a CPU's number
id_back : (n : ℕ) → n < 2 ^ 64 → number_within 0 18446744073709551615 (decimal n) ≡ Some n
id_back n lt = number_back 0 18446744073709551615 n (omega arith) (omega (arith, lt)) (omega arith)

moment_back : (at : ℕ) → at ≤ 1000000000000000 → number_within 0 1000000000000000 (decimal at) ≡ Some at
moment_back at le = number_back 0 1000000000000000 at (omega arith) le (omega arith)

-- the lane and the moment, read back and as fields
record AreBack (lane at : ℕ) : Type 0 where
  lane_back : number_within 0 18446744073709551615 (decimal lane) ≡ Some lane
  at_back : number_within 0 1000000000000000 (decimal at) ≡ Some at
  lane_field : is_field (decimal lane) ≡ true
  at_field : is_field (decimal at) ≡ true
  in_lane : ltb lane 4 ≡ true

back_from : (n lane at : ℕ) (done : List Row) → IsPlaced n lane at done → AreBack lane at
back_from n lane at done p =
    let in_lane = p.lane_in in
    let early = p.early in
    record {
      lane_back = id_back lane (omega (arith, in_lane));
      at_back = moment_back at early;
      lane_field = number_field lane (omega (arith, in_lane));
      at_field = number_field at (omega (arith, early));
      in_lane = lt-ltb lane 4 in_lane;
    }

wake_read : (n lane at task : ℕ) (done : List Row) → IsPlaced n lane at done → task < 200
    → AddsRow n done (row_with lane at (commands.Wake task))
unfolding line_kind field_at number_at
wake_read n lane at task done p lt =
    let b = back_from n lane at done p in
    let s = id_back task (omega (arith, lt)) in
    row_read n lane at done rows.Wake (commands.Wake task) p refl
    (rw (b.lane_field, b.at_field, number_field task (omega (arith, lt))) refl)
    (rw (b.lane_back, b.at_back, s) refl)
    (record {
      size = refl;
      numbers = rw (b.lane_back, b.at_back, s) refl;
      lists = refl;
      names = rw (b.lane_back, s, tasks_count 200, b.in_lane, lt-ltb task 200 lt) refl;
      cpus = refl;
      apart = refl;
      ticks = refl;
    })

sleep_read : (n lane at task : ℕ) (done : List Row) → IsPlaced n lane at done → task < 200
    → AddsRow n done (row_with lane at (commands.Sleep task))
unfolding line_kind field_at number_at
sleep_read n lane at task done p lt =
    let b = back_from n lane at done p in
    let s = id_back task (omega (arith, lt)) in
    row_read n lane at done rows.Sleep (commands.Sleep task) p refl
    (rw (b.lane_field, b.at_field, number_field task (omega (arith, lt))) refl)
    (rw (b.lane_back, b.at_back, s) refl)
    (record {
      size = refl;
      numbers = rw (b.lane_back, b.at_back, s) refl;
      lists = refl;
      names = rw (b.lane_back, s, tasks_count 200, b.in_lane, lt-ltb task 200 lt) refl;
      cpus = refl;
      apart = refl;
      ticks = refl;
    })

mask_read : (n lane at task : ℕ) (mask : Mask) (done : List Row) → IsPlaced n lane at done → task < 200 → IsListed mask
    → AddsRow n done (row_with lane at (commands.SetMask task mask))
unfolding line_kind field_at number_at list_at
mask_read n lane at task mask done p lt listed =
    let b = back_from n lane at done p in
    let s = id_back task (omega (arith, lt)) in
    row_read n lane at done rows.Mask (commands.SetMask task mask) p refl
    (rw (b.lane_field, b.at_field, number_field task (omega (arith, lt)), listed.field) refl)
    (rw (b.lane_back, b.at_back, s, listed.back) refl)
    (record {
      size = refl;
      numbers = rw (b.lane_back, b.at_back, s) refl;
      lists = rw listed.back refl;
      names = rw (b.lane_back, s, tasks_count 200, b.in_lane, lt-ltb task 200 lt) refl;
      cpus = refl;
      apart = refl;
      ticks = refl;
    })

nice_read : (n lane at task : ℕ) (nice : ℤ) (done : List Row) → IsPlaced n lane at done → task < 200 → is_nice_value nice ≡ true
    → AddsRow n done (row_with lane at (commands.Nice task nice))
unfolding line_kind field_at number_at nice_at
nice_read n lane at task nice done p lt fits =
    let b = back_from n lane at done p in
    let s = id_back task (omega (arith, lt)) in
    let z = nice_back nice fits in
    row_read n lane at done rows.Nice (commands.Nice task nice) p refl
    (rw (b.lane_field, b.at_field, number_field task (omega (arith, lt)), nice_field nice fits) refl)
    (rw (b.lane_back, b.at_back, s, z) refl)
    (record {
      size = refl;
      numbers = rw (b.lane_back, b.at_back, s, z) refl;
      lists = refl;
      names = rw (b.lane_back, s, tasks_count 200, b.in_lane, lt-ltb task 200 lt) refl;
      cpus = refl;
      apart = refl;
      ticks = refl;
    })

tick_read : (n at cpu : ℕ) (done : List Row) → IsPlaced n (cpu % 4) at done → cpu < 16 → list_all in_own_lane done ≡ true
    → AddsRow n done (row_with (cpu % 4) at (commands.Tick cpu))
unfolding line_kind field_at number_at
tick_read n at cpu done p lt own =
    let b = back_from n (cpu % 4) at done p in
    let s = id_back cpu (omega (arith, lt)) in
    row_read n (cpu % 4) at done rows.Tick (commands.Tick cpu) p refl
    (rw (b.lane_field, b.at_field, number_field cpu (omega (arith, lt))) refl)
    (rw (b.lane_back, b.at_back, s) refl)
    (record {
      size = refl;
      numbers = rw (b.lane_back, b.at_back, s) refl;
      lists = refl;
      names = rw (b.lane_back, s, rows_count, b.in_lane, lt-ltb cpu 16 lt) refl;
      cpus = refl;
      apart = refl;
      ticks = rw (b.lane_back, s) (none_beside done cpu own);
    })

-- ---- the two partitions
halves_below : (is_below lower_cpus 16 ≡ true) × (is_below upper_cpus 16 ≡ true)
unfolding has members_below members first_cpus without is_below
halves_below = (refl, refl)

halves_apart : are_apart lower_cpus upper_cpus ≡ true
unfolding has members_below members first_cpus without are_apart
halves_apart = refl

all_below : is_below all_cpus 16 ≡ true
unfolding has members_below members first_cpus is_below
all_below = refl

halves_read : (n lane at : ℕ) (done : List Row) → IsPlaced n lane at done
    → AddsRow n done (row_with lane at (commands.Rebuild (lower_cpus ∷ upper_cpus ∷ [])))
unfolding line_kind field_at number_at
halves_read n lane at done p =
    let b = back_from n lane at done p in
    let low = lower_listed in
    let high = upper_listed in
    row_read n lane at done rows.Rebuild (commands.Rebuild (lower_cpus ∷ upper_cpus ∷ [])) p refl
    (rw (b.lane_field, b.at_field, low.field, high.field) refl)
    (rw (b.lane_back, b.at_back, low.back, high.back) refl)
    (record {
      size = refl;
      numbers = rw (b.lane_back, b.at_back) refl;
      lists = rw (low.back, high.back) refl;
      names = rw (b.lane_back, b.in_lane) refl;
      cpus = rw (low.back, high.back, rows_count, halves_below.0, halves_below.1) refl;
      apart = rw (low.back, high.back, halves_apart) refl;
      ticks = refl;
    })

whole_read : (n lane at : ℕ) (done : List Row) → IsPlaced n lane at done
    → AddsRow n done (row_with lane at (commands.Rebuild (all_cpus ∷ [])))
unfolding line_kind field_at number_at
whole_read n lane at done p =
    let b = back_from n lane at done p in
    let all = all_listed in
    row_read n lane at done rows.Rebuild (commands.Rebuild (all_cpus ∷ [])) p refl
    (rw (b.lane_field, b.at_field, all.field) refl)
    (rw (b.lane_back, b.at_back, all.back) refl)
    (record {
      size = refl;
      numbers = rw (b.lane_back, b.at_back) refl;
      lists = rw all.back refl;
      names = rw (b.lane_back, b.in_lane) refl;
      cpus = rw (all.back, rows_count, all_below) refl;
      apart = refl;
      ticks = refl;
    })

-- ---- any drawn row
command_read : (n lane at : ℕ) (done : List Row) (command : Command) → IsPlaced n lane at done → MayBeDrawn command
    → is_in_lane lane command ≡ true → list_all in_own_lane done ≡ true
    → AddsRow n done (row_with lane at command)
command_read n lane at done (commands.Wake task) p drawn mine own = wake_read n lane at task done p drawn
command_read n lane at done (commands.Sleep task) p drawn mine own = sleep_read n lane at task done p drawn
command_read n lane at done (commands.Exit task) p drawn mine own = absurd drawn
command_read n lane at done (commands.SetMask task mask) p drawn mine own =
    mask_read n lane at task mask done p drawn.0 (one_listed mask drawn.1)
command_read n lane at done (commands.Nice task nice) p drawn mine own = nice_read n lane at task nice done p drawn.0 drawn.1
command_read n lane at done (commands.Tick cpu) p drawn mine own =
    let same : lane ≡ cpu % 4 = eqb-true lane (cpu % 4) mine in
    let P : ℕ → Type 0 = λ l. IsPlaced n l at done → line_at (with_rows n done) false
    (row_line (row_with l at (commands.Tick cpu)))
    ≡ Ok (with_rows (n + 1) (done ++ row_with l at (commands.Tick cpu) ∷ [])) in
    subst P (sym same) (λ q. tick_read n at cpu done q drawn own) p
command_read n lane at done (commands.Rebuild parts) p drawn mine own = elim drawn [
  | inl halves ↦
      let P : List Mask → Type 0 = λ ms. AddsRow n done (row_with lane at (commands.Rebuild ms)) in
      subst P (sym halves) (halves_read n lane at done p)
  | inr whole ↦
      let P : List Mask → Type 0 = λ ms. AddsRow n done (row_with lane at (commands.Rebuild ms)) in
      subst P (sym whole) (whole_read n lane at done p)
]

in_lane_of : (r : ℕ) (command : Command) → (lane_of r command < 4) × (is_in_lane (lane_of r command) command ≡ true)
in_lane_of r (commands.Tick cpu) = (omega arith, eq-eqb (cpu % 4) (cpu % 4) refl)
in_lane_of r command = (omega arith, refl)

drawn_read : (n r x : ℕ) (done : List Row) → 1 < n → r < 100000 → length done ≡ r → list_all in_own_lane done ≡ true
    → AddsRow n done (row_drawn r x).value
unfolding row_drawn
drawn_read n r x done later few size own =
    let command = (command_drawn x).value in
    let lane = in_lane_of r command in
    command_read n (lane_of r command) (50000 * r) done command
    (record { later = later; lane_in = lane.0; early = omega (arith, few); room = omega (arith, few, size) })
    (drawn_row r x).command lane.1 own

drawn_own : (r x : ℕ) → in_own_lane (row_drawn r x).value ≡ true
unfolding row_drawn
drawn_own r x = (in_lane_of r (command_drawn x).value).1

all_ended : (n : ℕ) (done : List Row) → 1 < n → lines_from (with_rows n done) ([] ∷ []) ≡ Ok (with_rows n done)
unfolding lines_from ended end_tests
all_ended n done lt = rw (ne_eqb n 1 (λ z. omega (arith, z, lt))) refl

abbrev read : ℕ → List Row → Result Reading (ℕ × Code)
read n done = Ok (with_rows n done)

-- what is read of lines after these rows
abbrev Reads : ℕ → List Row → List (List ℕ) → ℕ → List Row → Type 0
Reads n done lines m rows = lines_from (with_rows n done) (lines ++ [] ∷ []) ≡ Ok (with_rows m rows)

pub rows_read : (count n r x : ℕ) (done : List Row) → 1 < n → r + count ≤ 100000 → length done ≡ r
    → list_all in_own_lane done ≡ true
    → Reads n done (map row_line (rows_from count r x)) (n + count) (done ++ rows_from count r x)
unfolding rows_from
rows_read zero n r x done later few size own =
    let e : n ≡ n + 0 = omega arith in
    all_ended n done later ∙ ap (λ (m : ℕ). read m done) e ∙ ap (λ (rs : List Row). read (n + 0) rs) (sym (append-nil done))
rows_read (suc k) n r x done later few size own =
    let row = (row_drawn r x).value in
    let next = (row_drawn r x).state in
    let push = length_push done row in
    let own_more : list_all in_own_lane (done ++ row ∷ []) ≡ true =
    list_all-append in_own_lane done (row ∷ []) ∙ and_from _ _ own (and_from _ _ (drawn_own r x) refl) in
    let count : n + 1 + k ≡ n + suc k = omega arith in
    step_on (with_rows n done) (with_rows (n + 1) (done ++ row ∷ [])) (row_line row) (map row_line (rows_from k (r + 1) next))
    (drawn_read n r x done later (omega (arith, few)) size own)
    ∙ rows_read k (n + 1) (r + 1) next (done ++ row ∷ []) (omega (arith, later)) (omega (arith, few)) (omega (arith, push, size))
    own_more
    ∙ ap (λ (m : ℕ). read m ((done ++ row ∷ []) ++ rows_from k (r + 1) next)) count
    ∙ ap (λ (rs : List Row). read (n + suc k) rs)
    (append_assoc done (row ∷ []) (rows_from k (r + 1) next))

-- ---- how long the lines are
command_short : (lane at : ℕ) (command : Command) → lane < 4 → at ≤ 1000000000000000 → MayBeDrawn command
    → is_short_line (row_line (row_with lane at command)) ≡ true
unfolding row_line
command_short lane at command in_lane early drawn =
    short_line (row_word command) (decimal lane ∷ decimal at ∷ row_fields command) (are_fields command drawn) (few command drawn)
  where
    few : (command : Command) → MayBeDrawn command → length (decimal lane ∷ decimal at ∷ row_fields command) ≤ 4
    few (commands.Wake task) d = omega arith
    few (commands.Sleep task) d = omega arith
    few (commands.Exit task) d = absurd d
    few (commands.SetMask task mask) d = omega arith
    few (commands.Nice task nice) d = omega arith
    few (commands.Tick cpu) d = omega arith
    few (commands.Rebuild parts) (inl e) = rw e (omega arith)
    few (commands.Rebuild parts) (inr e) = rw e (omega arith)

    l : is_field (decimal lane) ≡ true
    l = number_field lane (omega (arith, in_lane))

    m : is_field (decimal at) ≡ true
    m = number_field at (omega (arith, early))

    are_fields : (command : Command) → MayBeDrawn command → list_all is_field (line_fields lane at command) ≡ true
    are_fields (commands.Wake task) d = rw (l, m, number_field task (omega (arith, d))) refl
    are_fields (commands.Sleep task) d = rw (l, m, number_field task (omega (arith, d))) refl
    are_fields (commands.Exit task) d = absurd d
    are_fields (commands.SetMask task mask) d =
        let lt = d.0 in rw (l, m, number_field task (omega (arith, lt)), (one_listed mask d.1).field) refl
    are_fields (commands.Nice task nice) d =
        let lt = d.0 in rw (l, m, number_field task (omega (arith, lt)), nice_field nice d.1) refl
    are_fields (commands.Tick cpu) d = rw (l, m, number_field cpu (omega (arith, d))) refl
    are_fields (commands.Rebuild parts) (inl e) = rw (l, m, e, lower_listed.field, upper_listed.field) refl
    are_fields (commands.Rebuild parts) (inr e) = rw (l, m, e, all_listed.field) refl

pub rows_short : (count r x : ℕ) → r + count ≤ 100000 → list_all is_short_line (map row_line (rows_from count r x)) ≡ true
unfolding rows_from row_drawn
rows_short zero r x few = refl
rows_short (suc k) r x few =
    let command = (command_drawn x).value in
    and_from _ _
    (command_short (lane_of r command) (50000 * r) command (in_lane_of r command).0 (omega (arith, few)) (drawn_row r x).command)
    (rows_short k (r + 1) (command_drawn x).state (omega (arith, few)))

pub rows_length : (count r x : ℕ) → length (map row_line (rows_from count r x)) ≡ count
unfolding rows_from
rows_length zero r x = refl
rows_length (suc k) r x = let more = rows_length k (r + 1) (row_drawn r x).state in omega (arith, more)
