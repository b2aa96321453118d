-- What was read stays sound with a line of the machine: a CPU, or a node's distances.
-- For the lemmas of `AcceptedFacts` and `SoundFacts`, and so for the law `accepted`.
use Rattle.std.proofs.Common.{◌≡◌, ℕ, ◌+◌, ◌<◌, ◌≤◌, Bool, true, false, ◌&&◌, not, nat_lt, List, [], ◌∷◌, ◌++◌, length, arith}
use Rattle.std.specs.Prelude.{is_some}
use Rattle.std.proofs.lemmas.Bool.{and_parts, and_from, or_parts, lt-ltb, ltb-true, eqb-true, eqb-false, eq-eqb, not-true, not-false}
use Rattle.std.proofs.lemmas.List.{length_push, nil_from_length}
use Rattle.lb_levels.specs.Rows.{no_row, cpu_clashes, is_bad_distance}
use Rattle.lb_levels.specs.Faults.{nodes_of}
use Rattle.lb_levels.proofs.Nodes.{some_nodes}
use Rattle.lb_trace.specs.declared.trace.TheConstants.{MAX_CORE}
use Rattle.lb_trace.specs.declared.kind.LineKind.TheVariants as kinds
use Rattle.lb_trace.specs.declared.reading.Reading.{Reading}
use Rattle.lb_trace.specs.Values.{number, core_in, cache_in, node_in, cpu_of, distances_in}
use Rattle.lb_trace.specs.Places.{has_machine}
use Rattle.lb_trace.specs.Grammar.{after, trace_of}
use Rattle.lb_trace.specs.Accepted.{is_cpu}
use Rattle.lb_trace.specs.Sound.{has_size, AreLanes, AreParts, IsSound}
use Rattle.lb_trace.proofs.DistanceFacts.{in_range_with}
use Rattle.lb_trace.proofs.GoodLine.{IsGood}
use Rattle.lb_trace.proofs.SoundLists.{all_push, all_none, stand_push, if_some, is_none_if, no_tasks, no_rows}
use Rattle.lb_trace.proofs.SoundValues.{number_in, length-distances_in}

-- ---- a whole machine
pub whole_cpus : (r : Reading) → has_machine r ≡ true → 0 < length r.cpus
whole_cpus r whole =
    let none : length r.cpus ≡ 0 → ⊥ = eqb-false _ _ (not-true _ (and_parts _ _ whole).0) in
    omega (arith, none)

pub whole_nodes : (r : Reading) → has_machine r ≡ true → length r.distances ≡ nodes_of r.cpus
whole_nodes r whole = eqb-true _ _ (and_parts _ _ whole).1

-- ---- before the machine is whole
no_machine : (r : Reading) → length r.distances < nodes_of r.cpus → has_machine r ≡ true → ⊥
no_machine r few whole = omega (arith, few, whole_nodes r whole)

-- no distances were read
no_machine_yet : (r : Reading) → length r.distances ≡ 0 → has_machine r ≡ true → ⊥
no_machine_yet r none whole = omega (arith, none, whole_nodes r whole, some_nodes r.cpus (whole_cpus r whole))

no_lanes : (r : Reading) → IsSound r → (has_machine r ≡ true → ⊥) → is_some r.lanes ≡ false
no_lanes r h none = is_none_if (AreLanes r.cpus r.distances) r.lanes h.lanes (λ lanes are. none are.machine)

-- ---- a CPU
at_most : (n most : ℕ) → n ≤ most → nat_lt n (most + 1) ≡ true
at_most n most le = lt-ltb n (most + 1) (omega (arith, le))

cpu_in : (r : Reading) (fields : List (List ℕ)) → IsGood r kinds.Cpu fields → is_cpu (cpu_of fields) ≡ true
cpu_in r fields good =
    let node = or_parts _ _ good.numbers in
    let cache = or_parts _ _ node.0 in
    let core = or_parts _ _ cache.0 in
    and_from _ _
    (and_from _ _ (at_most (number (core_in fields)) MAX_CORE (number_in 2 0 MAX_CORE fields core.1).1)
    (at_most (number (cache_in fields)) MAX_CORE (number_in 3 0 MAX_CORE fields cache.1).1))
    (at_most (number (node_in fields)) 15 (number_in 4 0 15 fields node.1).1)

pub sound_cpu : (r : Reading) (fields : List (List ℕ)) → IsSound r → IsGood r kinds.Cpu fields
    → IsSound (after r kinds.Cpu fields)
sound_cpu r fields h good =
    let place = and_parts _ _ good.stands in
    let none : length r.distances ≡ 0 = eqb-true _ _ place.0 in
    let room = ltb-true _ _ place.1 in
    let yet = no_machine_yet r none in
    let longer = length_push r.cpus (cpu_of fields) in
    let nodes = some_nodes (r.cpus ++ cpu_of fields ∷ []) (omega (arith, longer)) in
    record {
      machine = record {
        most_cpus = omega (arith, longer, room);
        cpus = all_push is_cpu r.cpus (cpu_of fields) h.machine.cpus (cpu_in r fields good);
        cpus_stand = stand_push cpu_clashes no_row r.cpus (cpu_of fields) h.machine.cpus_stand good.cpu;
        most_distances = omega (arith, none);
        sizes = all_none (has_size _) r.distances (nil_from_length r.distances none);
        distances = h.machine.distances;
        rows_stand = h.machine.rows_stand;
        nested = λ whole. absurd (omega (arith, none, nodes, whole));
      };
      parts = if_some (AreParts r.cpus r.distances) _ r.parts h.parts (λ parts are. absurd (yet are.machine));
      lanes = if_some (AreLanes r.cpus r.distances) _ r.lanes h.lanes (λ lanes are. absurd (yet are.machine));
      tasks = no_tasks _ _ r.tasks (h.tasks.none (no_lanes r h yet));
      rows = no_rows (trace_of (after r kinds.Cpu fields)).header (is_some r.lanes) r.rows (h.rows.none (no_lanes r h yet));
    }

-- ---- a node's distances
nested_there : (whole nested : Bool) → (whole && not nested) ≡ false → whole ≡ true → nested ≡ true
nested_there true nested good e = not-false nested good
nested_there false nested good e = absurd (cc)

pub sound_dist : (r : Reading) (fields : List (List ℕ)) → IsSound r → IsGood r kinds.Dist fields
    → IsSound (after r kinds.Dist fields)
sound_dist r fields h good =
    let room = ltb-true _ _ good.stands in
    let yet = no_machine r room in
    let longer = length_push r.distances (distances_in fields) in
    let size = eqb-true _ _ good.size in
    record {
      machine = record {
        most_cpus = h.machine.most_cpus;
        cpus = h.machine.cpus;
        cpus_stand = h.machine.cpus_stand;
        most_distances = omega (arith, longer, room);
        sizes = all_push (has_size (nodes_of r.cpus)) r.distances (distances_in fields) h.machine.sizes
            (eq-eqb _ _ (omega (arith, size, length-distances_in fields)));
        distances = in_range_with r.distances fields h.machine.distances (not-false _ good.numbers);
        rows_stand = stand_push is_bad_distance [] r.distances (distances_in fields) h.machine.rows_stand good.placed;
        nested = λ whole. nested_there _ _ good.nested (eq-eqb _ _ whole);
      };
      parts = if_some (AreParts r.cpus r.distances) _ r.parts h.parts (λ parts are. absurd (yet are.machine));
      lanes = if_some (AreLanes r.cpus r.distances) _ r.lanes h.lanes (λ lanes are. absurd (yet are.machine));
      tasks = h.tasks;
      rows = no_rows (trace_of (after r kinds.Dist fields)).header (is_some r.lanes) r.rows (h.rows.none (no_lanes r h yet));
    }
