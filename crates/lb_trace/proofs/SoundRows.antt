-- What was read of a trace keeps its limits (`IsSound`) as one good line of a row is added.
-- For the lemmas of `SoundFacts`, and so for the law `accepted`.
use Rattle.std.proofs.Common.{◌≡◌, ℕ, ◌≤◌, Bool, true, false, ◌||◌, not, List, length, refl, arith}
use Rattle.std.proofs.lemmas.Bool.{and_from, or_parts, leb-true, leb-false, le-leb, not-false, both_ways}
use Rattle.std.proofs.lemmas.List.{length_push}
use Rattle.lb_trace.specs.declared.trace.TheConstants.{MAX_MOMENT}
use Rattle.lb_trace.specs.declared.kind.LineKind.TheVariants as kinds
use Rattle.lb_trace.specs.declared.kind.RowKind.{RowKind}
use Rattle.lb_trace.specs.declared.kind.RowKind.TheVariants as rows
use Rattle.lb_trace.specs.declared.reading.Reading.{Reading}
use Rattle.lb_trace.specs.Values.{number, lane_in, moment_in, subject_in, command_of, row_of}
use Rattle.lb_trace.specs.Naming.{is_ticked_beside}
use Rattle.lb_trace.specs.Grammar.{after, trace_of}
use Rattle.lb_trace.specs.Accepted.{is_command, is_row}
use Rattle.lb_trace.specs.Sound.{IsSound}
use Rattle.lb_trace.proofs.GoodLine.{IsGood}
use Rattle.lb_trace.proofs.SoundLists.{all_push}
use Rattle.lb_trace.proofs.SoundValues.{number_in, nice_in, list_in}
use Rattle.lb_trace.proofs.SoundHeader.{max_fields, partition_in}
use Rattle.lb_trace.proofs.TicksAgree.{Agrees, quiet_agrees, tick_agrees, ticks_agree_push}

-- a task or a CPU that is declared
is_declared : (bad_lane there : Bool) → (bad_lane || not there) ≡ false → there ≡ true
is_declared bad_lane there good = not-false there (or_parts bad_lane (not there) good).1

command_in : (r : Reading) (kind : RowKind) (fields : List (List ℕ)) → length fields ≤ max_fields
    → IsGood r (kinds.Row kind) fields → is_command (trace_of r).header (command_of kind fields) ≡ true
unfolding trace_of
command_in r rows.Wake fields few good = is_declared _ _ good.names
command_in r rows.Sleep fields few good = is_declared _ _ good.names
command_in r rows.Exit fields few good = is_declared _ _ good.names
command_in r rows.Mask fields few good = and_from _ _ (is_declared _ _ good.names) (list_in 4 fields)
command_in r rows.Nice fields few good = and_from _ _ (is_declared _ _ good.names) (nice_in 4 fields)
command_in r rows.Tick fields few good = is_declared _ _ good.names
command_in r rows.Rebuild fields few good =
    partition_in r 3 fields (let some = leb-true 4 _ good.size in omega (arith, some)) few good.cpus good.apart

row_in : (r : Reading) (kind : RowKind) (fields : List (List ℕ)) → length fields ≤ max_fields
    → IsGood r (kinds.Row kind) fields → is_row (trace_of r).header (row_of kind fields) ≡ true
unfolding trace_of
row_in r kind fields few good =
    let numbers = or_parts _ _ (or_parts _ _ good.numbers).0 in
    and_from _ _
    (and_from _ _ (not-false _ (or_parts _ _ good.names).0)
    (le-leb (number (moment_in fields)) MAX_MOMENT (number_in 2 0 MAX_MOMENT fields numbers.1).1))
    (command_in r kind fields few good)

ticks_in : (r : Reading) (kind : RowKind) (fields : List (List ℕ)) → IsGood r (kinds.Row kind) fields
    → Agrees (row_of kind fields) r.rows
unfolding is_ticked_beside
ticks_in r rows.Wake fields good = quiet_agrees _ r.rows refl
ticks_in r rows.Sleep fields good = quiet_agrees _ r.rows refl
ticks_in r rows.Exit fields good = quiet_agrees _ r.rows refl
ticks_in r rows.Mask fields good = quiet_agrees _ r.rows refl
ticks_in r rows.Nice fields good = quiet_agrees _ r.rows refl
ticks_in r rows.Tick fields good = tick_agrees (number (subject_in fields)) (number (moment_in fields))
    (number (lane_in fields)) r.rows good.ticks
ticks_in r rows.Rebuild fields good = quiet_agrees _ r.rows refl

pub sound_row : (r : Reading) (kind : RowKind) (fields : List (List ℕ)) → length fields ≤ max_fields → IsSound r
    → IsGood r (kinds.Row kind) fields → IsSound (after r (kinds.Row kind) fields)
unfolding trace_of
sound_row r kind fields few h good =
    let longer = length_push r.rows (row_of kind fields) in
    let room = leb-false _ _ good.room in
    record {
      machine = h.machine;
      parts = h.parts;
      lanes = h.lanes;
      tasks = h.tasks;
      rows = record {
        none = λ none. absurd (both_ways _ none good.stands);
        most = omega (arith, longer, room);
        all = all_push (is_row (trace_of r).header) r.rows (row_of kind fields) h.rows.all (row_in r kind fields few good);
        ticks = ticks_agree_push r.rows (row_of kind fields) h.rows.ticks (ticks_in r kind fields good);
      };
    }
