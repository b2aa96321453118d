-- What three worked lists miss of what the merge asks for, and that they meet all else.
-- For the laws `undeclared_lane`, `unpublished_figure` and `closing_before_all_rest`.
use Rattle.std.proofs.Common.{◌≡◌, ℕ, zero, suc, ◌<◌, ◌≤◌, true, false, not, ◌||◌, eqb, leb, ltb, List, [], ◌∷◌, refl, ap, arith, eq-eqb, All, true≢false}
use Rattle.std.proofs.lemmas.Bool.{and_parts, both_ways, leb-true}
use Rattle.std.proofs.lemmas.List.Elements.{All-nil, All-cons}
use Rattle.lb_base.specs.Mask.{has, members_below, members, first_cpus, only, both, either, without}
use Rattle.lb_base.specs.Sets.{least, least_above, is_below, are_apart, mask_where}
use Rattle.lb_base.specs.Weight.{weights, weight_of}
use Rattle.lb_pelt.specs.Decay.{inverses, inverse_at, decayed}
use Rattle.lb_pelt.specs.Signal.{advanced_by, advanced, signal_value}
use Rattle.lb_newidle.specs.Budget.{average_after}
use Rattle.lb_queue.specs.Tasks.{pick_back, somebody_runs, joined, left_by}
use Rattle.lb_queue.specs.Queue.{away}
use Rattle.lb_queue.specs.Commands.{wake, sleep, exit, set_mask, renice}
use Rattle.lb_queue.specs.Hands.{land, take_stop}
use Rattle.lb_queue.specs.Turns.{close_look}
use Rattle.lb_queue.specs.Requests.{has_pending, has_owed, next_asked, rotated, tick}
use Rattle.lb_core.specs.declared.course.Form.TheVariants.{Asked, Rest}
use Rattle.lb_core.specs.declared.entry.What.TheVariants.{End}
use Rattle.lb_core.specs.declared.rule.Rule.{Rule}
use Rattle.lb_core.specs.declared.rule.Rule.TheVariants.{Stage}
use Rattle.lb_core.specs.Course.{opening_course}
use Rattle.lb_core.specs.Stage.{draws, stage_allows}
use Rattle.lb_core.specs.Leaving.{leaving}
use Rattle.lb_core.specs.Rules.{breaks_here}
use Rattle.lb_core.specs.QueueAfter.{queue_after}
use Rattle.lb_core.specs.CourseAfter.{turn_ends, course_after}
use Rattle.lb_core.specs.Machine.{opening_queue, start, sight}
use Rattle.lb_core.specs.Step.{first_broken, after}
use Rattle.lb_core.specs.Legal.{first_fault}
use Rattle.lb_rows.specs.Lines.{cpus, by_lane, fault_at}
use Rattle.lb_journal.specs.Journal.{Journal, Fits, sight_in}
use Rattle.lb_journal.specs.Merge.{Each, is_closing, LeavesAtRest, MayMerge, pending_before, unserved_before}
use Rattle.lb_journal_rows.specs.Lists.{by_owner, merged}
use Rattle.lb_journal_rows.specs.Missing.{MeetsOthers, CarriesFigures, lone_header, stray_row, stray_pub, lone_end, stray_lists, with_figures, early_look_history, early_look_lists, early_closing_history}
use Rattle.lb_journal_rows.proofs.Premises.{third, each_by, others_pass, rest_pass, figures_pass, headers_are, headers_stay}

-- ---- a lane that is not declared
pub undeclared : (ds : List (ℕ × Journal)) (j : Journal) → j.header ≡ lone_header 1 → j.entry.lane ≡ 1 → Fits ds j → ⊥
undeclared ds j h l fits =
    both_ways (ltb j.entry.lane j.header.lanes) (λ i. ltb (l i) (h i).lanes)
    (and_parts (ltb j.entry.lane j.header.lanes) _ fits.declared).0

-- with lane 1 declared, all three items fit
row_allowed : (rule : Rule) → breaks_here rule (sight_in [] (stray_row 2)) (stray_row 2).entry ≡ false
unfolding draws stage_allows sight_in is_below are_apart members members_below has
row_allowed Stage = refl
row_allowed rule = refl

pub_allowed : (rule : Rule) → breaks_here rule (sight_in [] (stray_pub 2)) (stray_pub 2).entry ≡ false
unfolding draws stage_allows sight_in course_after
pub_allowed Stage = refl
pub_allowed rule = refl

end_allowed : (rule : Rule) → breaks_here rule (sight_in [] (lone_end 2)) (lone_end 2).entry ≡ false
unfolding draws stage_allows sight_in
end_allowed Stage = refl
end_allowed rule = refl

pub declared_fit : Fits [] (stray_row 2) × Fits [] (stray_pub 2) × Fits [] (lone_end 2)
unfolding course_after sight_in
declared_fit = (
  record {
    header = All-nil _;
    declared = refl;
    allowed = row_allowed;
    after = refl;
    first = λ e. record { course = refl; allowed = refl };
    masks = refl;
    figs = refl;
    turn = tt;
  },
  record {
    header = All-nil _;
    declared = refl;
    allowed = pub_allowed;
    after = refl;
    first = λ e. absurd (let k : ⊥ = cc in k);
    masks = refl;
    figs = refl;
    turn = tt;
  },
  record {
    header = All-nil _;
    declared = refl;
    allowed = end_allowed;
    after = refl;
    first = λ e. record { course = refl; allowed = refl };
    masks = refl;
    figs = refl;
    turn = tt;
  },
)

one : (P : ℕ × Journal → Type 0) (d : ℕ × Journal) → P d → All P (d ∷ [])
one P d p = All-cons P d [] p (All-nil P)

stray_headers : Each (λ d. d.1.header ≡ lone_header 1) (stray_lists 1)
stray_headers zero = one (λ d. d.1.header ≡ lone_header 1) _ refl
stray_headers (suc zero) = one (λ d. d.1.header ≡ lone_header 1) _ refl
stray_headers (suc (suc zero)) = one (λ d. d.1.header ≡ lone_header 1) _ refl
stray_headers (suc (suc (suc k))) = All-nil (λ d. d.1.header ≡ lone_header 1)

pub stray_meets : MayMerge (lone_header 1) (stray_lists 1)
unfolding
    has members_below members only least mask_where has_pending has_owed next_asked draws stage_allows leaving queue_after
    turn_ends course_after opening_queue sight_in pending_before unserved_before
stray_meets =
    let others = others_pass (lone_header 1) (stray_lists 1) stray_headers refl refl in
    record {
      headers = others.headers;
      ticks = others.ticks;
      closing_last = others.closing_last;
      at_rest = rest_pass (lone_header 1) (stray_lists 1) refl;
      closes = others.closes;
      begins = others.begins;
      ends = others.ends;
      figures = figures_pass (lone_header 1) (stray_lists 1) refl;
      masks = others.masks;
    }

pub stray_breaks : first_fault (lone_header 1) (merged (stray_lists 1)) ≡ fault_at 1 Stage
unfolding draws stage_allows leaving queue_after turn_ends course_after opening_queue start sight first_broken after
stray_breaks = refl

-- stands for an item that a list lacks
no_item : ℕ × Journal
no_item = (
  0,
  record {
    header = lone_header 1;
    entry = by_lane 0 0 (End (cpus 0));
    course = opening_course 1;
    after = opening_course 1;
    masks = [];
    figs = [];
  },
)

-- ---- a figure that its queue has not published: lane 0's third item, the look, names it
pub unpublished : CarriesFigures early_look_history.header early_look_lists → ⊥
unpublished all =
    let lt : 2 < 4 = omega arith in
    let e : true ≡ false = (all 1 2 no_item lt).earlier in
    true≢false e

-- ---- a lane that is not at rest: lane 1's only item is a row
pub not_at_rest : LeavesAtRest (by_owner early_closing_history) → ⊥
unfolding
    has members_below members first_cpus only both either without least least_above is_below are_apart mask_where
    weights weight_of inverses inverse_at decayed advanced_by advanced signal_value average_after
    pick_back somebody_runs joined left_by away wake sleep exit set_mask renice
    has_pending has_owed next_asked rotated tick draws stage_allows leaving queue_after turn_ends course_after
    opening_queue start sight after
not_at_rest rests =
    let lists = by_owner early_closing_history in
    let lt : 0 < 1 = omega arith in
    let last : Each (λ e. is_closing lists e.1 ≡ false → e.1.entry.lane ≡ 1 → e.0 ≤ 5) lists =
    each_by (λ e. not (eqb e.1.entry.lane 1) || is_closing lists e.1 || leb e.0 5)
    (λ e. is_closing lists e.1 ≡ false → e.1.entry.lane ≡ 1 → e.0 ≤ 5)
    (λ e t c l.
    leb-true e.0 5
    (third (not (eqb e.1.entry.lane 1)) (is_closing lists e.1) (leb e.0 5) t (ap not (eq-eqb e.1.entry.lane 1 l))
    c))
    lists refl in
    let e : Asked ≡ Rest = rests 2 0 no_item lt refl last in
    let z : ⊥ = cc in z

-- ---- what they meet
pub look_meets : MeetsOthers early_look_history.header early_look_lists × LeavesAtRest early_look_lists
unfolding
    has members_below members first_cpus only both either without least least_above is_below are_apart mask_where
    weights weight_of inverses inverse_at decayed advanced_by advanced signal_value average_after
    pick_back somebody_runs joined left_by away wake sleep exit set_mask renice
    has_pending has_owed next_asked rotated tick draws stage_allows leaving queue_after turn_ends course_after
    opening_queue start sight after pending_before unserved_before close_look
look_meets = (
  others_pass early_look_history.header early_look_lists
      (headers_stay early_look_history.header with_figures (λ d. refl) (by_owner early_look_history)
      (headers_are early_look_history))
      refl refl,
  rest_pass early_look_history.header early_look_lists refl,
)

pub closing_meets : MeetsOthers early_closing_history.header (by_owner early_closing_history)
    × CarriesFigures early_closing_history.header (by_owner early_closing_history)
unfolding
    has members_below members first_cpus only both either without least least_above is_below are_apart mask_where
    weights weight_of inverses inverse_at decayed advanced_by advanced signal_value average_after
    pick_back somebody_runs joined left_by away wake sleep exit set_mask renice
    has_pending has_owed next_asked rotated tick draws stage_allows leaving queue_after turn_ends course_after
    opening_queue start sight after pending_before unserved_before land take_stop
closing_meets = (
  others_pass early_closing_history.header (by_owner early_closing_history) (headers_are early_closing_history) refl refl,
  figures_pass early_closing_history.header (by_owner early_closing_history) refl,
)
