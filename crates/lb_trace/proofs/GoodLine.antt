-- What the tests of a good line say, one by one.
-- For the lemmas of `SoundFacts`, `SoundHeader` and other files, and so for the law `accepted`; cited by
-- `lb_generator` and `lb_read` too.
use Rattle.std.proofs.Common.{◌≡◌, ℕ, true, false, List, length, Some, sym, ◌∙◌, ◌++◌}
use Rattle.std.proofs.lemmas.Bool.{or_parts, not-false}
use Rattle.std.proofs.lemmas.List.Folds.{list_any-append}
use Rattle.lb_trace.specs.declared.kind.LineKind.{LineKind}
use Rattle.lb_trace.specs.declared.reading.Reading.{Reading}
use Rattle.lb_trace.specs.Places.{can_stand, is_past_rows, has_fields}
use Rattle.lb_trace.specs.Spelling.{misspells_number, misspells_list}
use Rattle.lb_trace.specs.Naming.{misnames, names_no_cpu, overlaps, masks_badly, ticks_badly}
use Rattle.lb_trace.specs.Machine.{clashes_above, misplaces, is_not_nested}
use Rattle.lb_trace.specs.Tests.{Tests, place_tests, value_tests, kind_tests}
use Rattle.lb_trace.specs.FirstBad.{is_bad}

pub record IsGood (r : Reading) (kind : LineKind) (fields : List (List ℕ)) : Type 0 where
  pub stands : can_stand r kind ≡ true
  pub room : is_past_rows r kind ≡ false
  pub size : has_fields r kind (length fields) ≡ true
  pub numbers : misspells_number kind fields ≡ false
  pub lists : misspells_list kind fields ≡ false
  pub names : misnames r kind fields ≡ false
  pub cpu : clashes_above r kind fields ≡ false
  pub placed : misplaces r kind fields ≡ false
  pub nested : is_not_nested r kind fields ≡ false
  pub cpus : names_no_cpu r kind fields ≡ false
  pub apart : overlaps kind fields ≡ false
  pub mask : masks_badly r kind fields ≡ false
  pub ticks : ticks_badly r kind fields ≡ false

-- of two lists of tests that are not bad, neither is
pub both_good : (before after : Tests) → is_bad (before ++ after) ≡ false → (is_bad before ≡ false) × (is_bad after ≡ false)
both_good before after good = or_parts _ _ (sym (list_any-append (λ t. t.0) before after) ∙ good)

pub good_line : (r : Reading) (kind : LineKind) (fields : List (List ℕ))
    → is_bad (kind_tests r (Some kind) fields) ≡ false → IsGood r kind fields
unfolding kind_tests place_tests value_tests
good_line r kind fields good =
    let place = or_parts _ _ good in
    let room = or_parts _ _ place.1 in
    let size = or_parts _ _ room.1 in
    let numbers = or_parts _ _ size.1 in
    let lists = or_parts _ _ numbers.1 in
    let names = or_parts _ _ lists.1 in
    let cpu = or_parts _ _ names.1 in
    let placed = or_parts _ _ cpu.1 in
    let nested = or_parts _ _ placed.1 in
    let cpus = or_parts _ _ nested.1 in
    let apart = or_parts _ _ cpus.1 in
    let mask = or_parts _ _ apart.1 in
    record {
      stands = not-false _ place.0;
      room = room.0;
      size = not-false _ size.0;
      numbers = numbers.0;
      lists = lists.0;
      names = names.0;
      cpu = cpu.0;
      placed = placed.0;
      nested = nested.0;
      cpus = cpus.0;
      apart = apart.0;
      mask = mask.0;
      ticks = (or_parts _ _ mask.1).0;
    }
