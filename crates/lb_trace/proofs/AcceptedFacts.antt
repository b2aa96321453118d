-- An accepted trace keeps to all that `IsTrace` says: what was read of its lines is sound, and there
-- was a line `lanes`.
-- For the law `accepted`; cited by `lb_read` too.
use Rattle.std.proofs.Common.{◌≡◌, ℕ, ◌-◌, ◌<◌, ◌≤◌, ◌^◌, true, false, not, nat_le, nat_lt, ◌==◌, cond, List, [], ◌∷◌, length, Option, Some, None, IfSome, Ok, Err, refl, sym, ap, subst, ◌∙◌, arith, inl, inr}
use Rattle.std.specs.Prelude.{Result, is_some, is_none, unwrap_or}
use Rattle.std.specs.List.{list_all}
use Rattle.std.proofs.lemmas.Bool.{cases_lt, and_parts, and_from, or_parts, lt-ltb, le-leb, leb-true, ltb-true, both_ways}
use Rattle.std.proofs.lemmas.Nat.{pow_pos}
use Rattle.std.proofs.Math.Pow.{pow_mono}
use Rattle.lb_base.specs.declared.mask.Mask.{Mask}
use Rattle.lb_base.specs.declared.mask.TheConstants.{MAX_CPUS}
use Rattle.lb_base.specs.Mask.{has, first_cpus}
use Rattle.lb_base.specs.Sets.{is_below}
use Rattle.lb_base.proofs.Bits.{bit_set_ones}
use Rattle.lb_fields.specs.Pieces.{is_plain}
use Rattle.lb_levels.specs.Faults.{nodes_of}
use Rattle.lb_levels.proofs.NoFault.{no_fault_from_machine, no_fault_from_partition}
use Rattle.lb_base.proofs.Sets.{all_members}
use Rattle.lb_trace.specs.declared.trace.TheConstants.{MAX_BYTES}
use Rattle.lb_trace.specs.declared.trace.Code.{Code}
use Rattle.lb_trace.specs.declared.trace.Trace.{Trace}
use Rattle.lb_trace.specs.declared.reading.Reading.{Reading}
use Rattle.lb_trace.specs.Tests.{end_tests, line_tests, byte_tests}
use Rattle.lb_trace.specs.Grammar.{◌>>=◌, on_line, line_at, ended, lines_from, nothing_read, trace_of, reading_of}
use Rattle.lb_trace.specs.FirstBad.{lines_of}
use Rattle.lb_trace.specs.Accepted.{is_mask, is_partition, IsTrace}
use Rattle.lb_trace.specs.Sound.{AreLanes, AreParts, IsSound}
use Rattle.lb_trace.proofs.DistanceFacts.{sized_at}
use Rattle.lb_trace.proofs.FirstCode.{passes}
use Rattle.lb_trace.proofs.FirstBadLines.{line_good}
use Rattle.lb_trace.proofs.TextLength.{read_within, read_past, some_line, short_lines}
use Rattle.lb_trace.proofs.SoundLists.{all_also}
use Rattle.lb_trace.proofs.SoundMachine.{whole_cpus, whole_nodes}
use Rattle.lb_trace.proofs.SoundFacts.{sound_start, sound_line}

-- ---- a whole text
-- what was read is sound, and the number of lanes is known
record IsWhole (r : Reading) : Type 0 where
  sound : IsSound r
  lanes : is_some r.lanes ≡ true

some_there : {X : Type 0} (o : Option X) → is_none o ≡ false → is_some o ≡ true
some_there None e = absurd (cc)
some_there (Some x) e = refl

-- a text ends after its last line feed, and not before `lanes`
whole_end : (r s : Reading) → IsSound r → ended r ≡ Ok s → IsWhole s
unfolding ended end_tests
whole_end r s h e =
    let passed = passes (end_tests r) r s e in
    subst IsWhole (sym passed.same) (record
    { sound = h; lanes = some_there r.lanes (or_parts _ _ (or_parts _ _ passed.good).1).0 })

never_cut : (r s : Reading) (last : List ℕ) → line_at r true last ≡ Ok s → ⊥
unfolding line_tests byte_tests
never_cut r s last e = both_ways true (or_parts (not (is_plain last)) true (line_good r s true last e)).1 refl

whole_last : (r s : Reading) (last : List ℕ) → IsSound r → cond (length last == 0) (ended r) (line_at r true last) ≡ Ok
    s → IsWhole s
whole_last r s last h =
    elim (length last == 0) as (λ b. cond b (ended r) (line_at r true last) ≡ Ok s → IsWhole s)
    [ true ↦ λ e. whole_end r s h e | false ↦ λ e. absurd (never_cut r s last e) ]

off_line : (n : ℕ) (s : Reading) (o : Result Reading Code) → on_line n o ≡ Ok s → o ≡ Ok s
off_line n s (Ok t) e = cc
off_line n s (Err code) e = absurd (cc)

whole_more : (r s : Reading) (line next : List ℕ) (more : List (List ℕ)) (o : Result Reading Code)
    → line_at r false line ≡ o → length line ≤ MAX_BYTES → IsSound r
    → ((t : Reading) → IsSound t → lines_from t (next ∷ more) ≡ Ok s → IsWhole s)
    → (on_line r.line o >>= λ t. lines_from t (next ∷ more)) ≡ Ok s → IsWhole s
whole_more r s line next more (Err code) at short h rest e = absurd (cc)
whole_more r s line next more (Ok t) at short h rest e = rest t (sound_line r t line short h at) e

whole_lines : (r s : Reading) (lines : List (List ℕ)) → IsSound r
    → list_all (λ line. nat_le (length line) MAX_BYTES) lines ≡ true → 0 < length lines → lines_from r lines ≡ Ok s → IsWhole s
unfolding lines_from
whole_lines r s [] h short some e = absurd (omega (arith, some))
whole_lines r s (last ∷ []) h short some e = whole_last r s last h (off_line r.line s _ e)
whole_lines r s (line ∷ next ∷ more) h short some e =
    let each = and_parts _ _ short in
    whole_more r s line next more (line_at r false line) refl (leb-true (length line) MAX_BYTES each.0) h
    (λ t sound. whole_lines t s (next ∷ more) sound each.1 (omega arith)) e

-- ---- the trace
none_is : {X : Type 0} (o : Option X) → is_none o ≡ true → o ≡ None
none_is None e = refl
none_is (Some x) e = absurd (cc)

-- the mask of all CPUs is a partition
all_below : (cpus : ℕ) → is_below (first_cpus cpus) cpus ≡ true
unfolding first_cpus is_below has
all_below cpus = all_members (λ k. nat_lt k cpus) (first_cpus cpus) (λ k lt there. sym (bit_set_ones cpus k) ∙ there)

all_fit : (cpus : ℕ) → cpus ≤ MAX_CPUS → is_mask (first_cpus cpus) ≡ true
unfolding first_cpus
all_fit cpus few = lt-ltb (2 ^ cpus - 1) (2 ^ 64) (omega (arith, pow_mono few, pow_pos cpus))

all_cpus : (cpus : ℕ) → cpus ≤ MAX_CPUS → is_partition cpus (first_cpus cpus ∷ []) ≡ true
all_cpus cpus few =
    let fine = no_fault_from_partition cpus (first_cpus cpus ∷ [])
    (record { below = and_from _ _ (all_below cpus) refl; apart = refl }) in
    and_from _ _ (and_from _ _ (all_fit cpus few) refl) (ap is_none fine)

lanes_are : (r : Reading) (o : Option ℕ) → is_some o ≡ true → IfSome o (AreLanes r.cpus r.distances)
    → AreLanes r.cpus r.distances (unwrap_or o 0)
lanes_are r None there are = absurd (cc)
lanes_are r (Some lanes) there are = are

parts_are : (r : Reading) (o : Option (List Mask)) → length r.cpus ≤ MAX_CPUS → IfSome o (AreParts r.cpus r.distances)
    → is_partition (length r.cpus) (unwrap_or o (first_cpus (length r.cpus) ∷ [])) ≡ true
parts_are r None few are = all_cpus (length r.cpus) few
parts_are r (Some parts) few are = are.partition

is_trace : (r : Reading) → IsWhole r → IsTrace (trace_of r)
unfolding trace_of
is_trace r whole =
    let h = whole.sound in
    let m = h.machine in
    let lanes = lanes_are r r.lanes whole.lanes h.lanes in
    let some = whole_cpus r lanes.machine in
    let nodes = whole_nodes r lanes.machine in
    let partition = and_parts _ _ (parts_are r r.parts m.most_cpus h.parts) in
    let masks = and_parts _ _ partition.0 in
    let counts = and_parts _ _ masks.0 in
    record {
      header = record {
        some_cpu = some;
        most_cpus = m.most_cpus;
        cpus = m.cpus;
        distances = m.distances;
        machine = no_fault_from_machine r.cpus r.distances some (record {
          cpus_stand = m.cpus_stand;
          rows = nodes;
          square = λ a lt. sized_at (nodes_of r.cpus) r.distances m.sizes a lt ∙ sym nodes;
          rows_stand = m.rows_stand;
          nested = m.nested nodes;
        });
        some_part = leb-true 1 _ counts.0;
        few_parts = ltb-true _ (2 ^ 32) counts.1;
        masks = masks.1;
        parts = none_is _ partition.1;
        some_lane = lanes.some;
        most_lanes = lanes.most;
        most_tasks = h.tasks.most;
        tasks = h.tasks.all;
      };
      most_rows = h.rows.most;
      rows = h.rows.all;
      ticks = h.rows.ticks;
    }

trace_is : (t : Trace) (o : Result Reading (ℕ × Code)) → ((r : Reading) → o ≡ Ok r → IsWhole r)
    → (o >>= λ r. Ok (trace_of r)) ≡ Ok t → IsTrace t
trace_is t (Ok r) whole e = let same : trace_of r ≡ t = cc in subst IsTrace same (is_trace r (whole r refl))
trace_is t (Err p) whole e = absurd (cc)

pub reading_is_trace : (text : List ℕ) (t : Trace) → reading_of text ≡ Ok t → IsTrace t
reading_is_trace text t e = elim (cases_lt MAX_BYTES (length text)) [
  | inl lt ↦ let same = sym e ∙ read_past text lt in absurd (cc)
  | inr le ↦
      let short = all_also (λ line. nat_le (length line) (length text)) (λ line. nat_le (length line) MAX_BYTES)
      (lines_of text) (λ line fits. let room = leb-true (length line) (length text) fits in
      le-leb (length line) MAX_BYTES (omega (arith, room, le))) (short_lines 10 text) in
      trace_is t (lines_from nothing_read (lines_of text))
      (λ r. whole_lines nothing_read r (lines_of text) sound_start short (some_line 10 text)) (sym (read_within text le) ∙ e)
]
