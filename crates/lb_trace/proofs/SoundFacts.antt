-- What was read is sound, from nothing on and with each good line.
-- For `lines_from`; cited by `lb_read` too.
use Rattle.std.proofs.Common.{◌≡◌, ℕ, ◌≤◌, false, List, [], length, Option, Some, None, Ok, refl, sym, subst, arith}
use Rattle.lb_text.specs.declared.marks.TheConstants.{COMMA}
use Rattle.lb_fields.specs.Pieces.{pieces}
use Rattle.lb_levels.specs.Rows.{distances_of, first_not_nested}
use Rattle.lb_trace.specs.declared.trace.TheConstants.{MAX_BYTES}
use Rattle.lb_trace.specs.declared.kind.LineKind.{LineKind}
use Rattle.lb_trace.specs.declared.kind.LineKind.TheVariants as kinds
use Rattle.lb_trace.specs.declared.reading.Reading.{Reading}
use Rattle.lb_trace.specs.Kinds.{line_kind}
use Rattle.lb_trace.specs.Tests.{byte_tests, kind_tests, line_tests}
use Rattle.lb_trace.specs.Grammar.{after, after_line, line_at, nothing_read, trace_of}
use Rattle.lb_trace.specs.FirstBad.{is_bad}
use Rattle.lb_trace.specs.Sound.{IsSound}
use Rattle.lb_trace.proofs.FirstCode.{passes}
use Rattle.lb_trace.proofs.GoodLine.{IsGood, both_good, good_line}
use Rattle.lb_trace.proofs.SoundLists.{no_tasks, no_rows}
use Rattle.lb_trace.proofs.SoundValues.{few_fields}
use Rattle.lb_trace.proofs.SoundMachine.{sound_cpu, sound_dist}
use Rattle.lb_trace.proofs.SoundHeader.{max_fields, sound_parts, sound_lanes, sound_task}
use Rattle.lb_trace.proofs.SoundRows.{sound_row}

pub sound_start : IsSound nothing_read
unfolding first_not_nested distances_of
sound_start = record {
  machine = record {
    most_cpus = omega arith;
    cpus = refl;
    cpus_stand = λ k lt. absurd (omega (arith, lt));
    most_distances = omega arith;
    sizes = refl;
    distances = refl;
    rows_stand = λ k lt. absurd (omega (arith, lt));
    nested = λ whole. refl;
  };
  parts = tt;
  lanes = tt;
  tasks = no_tasks 0 false [] refl;
  rows = no_rows (trace_of nothing_read).header false [] refl;
}

-- the first line says nothing of the machine
sound_version : (r : Reading) (fields : List (List ℕ)) → IsSound r → IsSound (after r kinds.Version fields)
unfolding trace_of
sound_version r fields h = record { machine = h.machine; parts = h.parts; lanes = h.lanes; tasks = h.tasks; rows = h.rows }

sound_after : (r : Reading) (kind : LineKind) (fields : List (List ℕ)) → length fields ≤ max_fields → IsSound r
    → IsGood r kind fields → IsSound (after r kind fields)
sound_after r kinds.Version fields few h good = sound_version r fields h
sound_after r kinds.Cpu fields few h good = sound_cpu r fields h good
sound_after r kinds.Dist fields few h good = sound_dist r fields h good
sound_after r kinds.Parts fields few h good = sound_parts r fields few h good
sound_after r kinds.Lanes fields few h good = sound_lanes r fields h good
sound_after r kinds.Task fields few h good = sound_task r fields h good
sound_after r (kinds.Row kind) fields few h good = sound_row r kind fields few h good

sound_kind : (r : Reading) (kind : Option LineKind) (fields : List (List ℕ)) → length fields ≤ max_fields → IsSound r
    → is_bad (kind_tests r kind fields) ≡ false → IsSound (after_line r kind fields)
sound_kind r None fields few h good = h
sound_kind r (Some kind) fields few h good = sound_after r kind fields few h (good_line r kind fields good)

pub sound_line : (r s : Reading) (line : List ℕ) → length line ≤ MAX_BYTES → IsSound r → line_at r false line ≡ Ok s → IsSound s
unfolding line_at line_tests
sound_line r s line short h e =
    let fields = pieces COMMA line in
    let few = few_fields COMMA line in
    let passed = passes (line_tests r false line) (after_line r (line_kind fields) fields) s e in
    let good = (both_good (byte_tests r false line) _ passed.good).1 in
    subst IsSound (sym passed.same) (sound_kind r (line_kind fields) fields (omega (arith, few, short)) h good)
