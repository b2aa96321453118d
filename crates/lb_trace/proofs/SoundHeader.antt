-- What was read stays sound with one of the other lines of the header: partition masks, the number of
-- lanes, or a task.
-- For the lemmas of `SoundFacts` and `SoundRows`, and so for the law `accepted`.
use Rattle.std.proofs.Common.{◌≡◌, ℕ, ◌+◌, ◌<◌, ◌≤◌, ◌^◌, true, false, not, List, length, Option, Some, None, refl, ap, arith}
use Rattle.std.specs.Prelude.{is_some, is_none}
use Rattle.std.proofs.lemmas.Bool.{and_parts, and_from, or_parts, lt-ltb, le-leb, ltb-true, leb-true, eqb-true, not-false, both_ways, not_from_false}
use Rattle.std.proofs.lemmas.List.{length_push, nil_from_length}
use Rattle.lb_base.specs.Sets.{are_disjoint}
use Rattle.lb_levels.proofs.NoFault.{no_fault_from_partition}
use Rattle.lb_trace.specs.declared.trace.TheConstants.{MAX_BYTES, MAX_LANES}
use Rattle.lb_trace.specs.declared.kind.LineKind.TheVariants as kinds
use Rattle.lb_trace.specs.declared.reading.Reading.{Reading}
use Rattle.lb_trace.specs.Values.{masks_from, task_of}
use Rattle.lb_trace.specs.Naming.{has_no_cpu}
use Rattle.lb_trace.specs.Grammar.{after, trace_of}
use Rattle.lb_trace.specs.Accepted.{is_partition, is_task}
use Rattle.lb_trace.specs.Sound.{IsSound}
use Rattle.lb_trace.proofs.GoodLine.{IsGood}
use Rattle.lb_trace.proofs.SoundLists.{all_push, no_tasks, no_rows}
use Rattle.lb_trace.proofs.SoundValues.{number_in, nice_in, list_in, masks_in, length-masks_from}

none_there : {X : Type 0} (o : Option X) → is_none o ≡ true → is_some o ≡ false
none_there None e = refl
none_there (Some x) e = absurd (cc)

-- a line with few enough bytes has few enough fields
abbrev pub max_fields : ℕ
max_fields = MAX_BYTES + 1

-- ---- partition masks
pub partition_in : (r : Reading) (i : ℕ) (fields : List (List ℕ)) → i < length fields → length fields ≤ max_fields
    → has_no_cpu r (masks_from i fields) ≡ false → not (are_disjoint (masks_from i fields)) ≡ false
    → is_partition (length r.cpus) (masks_from i fields) ≡ true
partition_in r i fields some few below apart =
    let masks = masks_from i fields in
    let long = length-masks_from i fields in
    let fine = no_fault_from_partition (length r.cpus) masks (record { below = not-false _ below; apart = not-false _ apart }) in
    and_from _ _
    (and_from _ _ (and_from _ _ (le-leb 1 (length masks) (omega (arith, long, some)))
    (lt-ltb (length masks) (2 ^ 32) (omega (arith, long, few)))) (masks_in i fields))
    (ap is_none fine)

pub sound_parts : (r : Reading) (fields : List (List ℕ)) → length fields ≤ max_fields → IsSound r
    → IsGood r kinds.Parts fields → IsSound (after r kinds.Parts fields)
sound_parts r fields few h good =
    let place = and_parts _ _ (and_parts _ _ good.stands).0 in
    let lanes = none_there r.lanes place.1 in
    let some = leb-true _ _ good.size in
    record {
      machine = h.machine;
      parts = record { partition = partition_in r 1 fields (omega (arith, some)) few good.cpus good.apart; machine = place.0 };
      lanes = h.lanes;
      tasks = h.tasks;
      rows = no_rows (trace_of (after r kinds.Parts fields)).header (is_some r.lanes) r.rows (h.rows.none lanes);
    }

-- ---- the number of lanes
pub sound_lanes : (r : Reading) (fields : List (List ℕ)) → IsSound r → IsGood r kinds.Lanes fields
    → IsSound (after r kinds.Lanes fields)
sound_lanes r fields h good =
    let place = and_parts _ _ good.stands in
    let lanes = none_there r.lanes place.1 in
    let range = number_in 1 1 MAX_LANES fields good.numbers in
    record {
      machine = h.machine;
      parts = h.parts;
      lanes = record { some = range.0; most = range.1; machine = place.0 };
      tasks = no_tasks (length r.cpus) true r.tasks (h.tasks.none lanes);
      rows = no_rows (trace_of (after r kinds.Lanes fields)).header true r.rows (h.rows.none lanes);
    }

-- ---- a task
task_in : (r : Reading) (fields : List (List ℕ)) → IsGood r kinds.Task fields → is_task (length r.cpus) (task_of fields) ≡ true
task_in r fields good =
    let mask = or_parts _ _ good.mask in
    and_from _ _
    (and_from _ _ (and_from _ _ (and_from _ _ (nice_in 2 fields) (not-false _ (or_parts _ _ good.names).1))
    (not_from_false _ mask.0)) (not-false _ mask.1))
    (list_in 4 fields)

pub sound_task : (r : Reading) (fields : List (List ℕ)) → IsSound r → IsGood r kinds.Task fields
    → IsSound (after r kinds.Task fields)
sound_task r fields h good =
    let room = and_parts _ _ good.stands in
    let place = and_parts _ _ room.0 in
    let longer = length_push r.tasks (task_of fields) in
    record {
      machine = h.machine;
      parts = h.parts;
      lanes = h.lanes;
      tasks = record {
        none = λ none. absurd (both_ways _ none place.0);
        most = omega (arith, longer, ltb-true _ _ room.1);
        all = all_push (is_task (length r.cpus)) r.tasks (task_of fields) h.tasks.all (task_in r fields good);
      };
      rows = no_rows (trace_of (after r kinds.Task fields)).header (is_some r.lanes) r.rows
          (nil_from_length r.rows (eqb-true _ _ place.1));
    }
