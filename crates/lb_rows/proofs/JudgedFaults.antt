-- Each worked history of `specs/Faults` breaks just the rule that is said, at the ticket that is said: by computing it.
-- For `wrong_previous`, `over_at_rest`, `pull_left_out` and others.
use Rattle.std.specs.Prelude.{◌≡◌, None, refl}
use Rattle.lb_base.specs.Mask.{has, members_below, members, first_cpus, only, both, either, without}
use Rattle.lb_base.specs.Sets.{least, least_above, is_below, are_apart, mask_where}
use Rattle.lb_base.specs.Figures.{total, is_tickless}
use Rattle.lb_base.specs.Greatest.{is_first_greatest, first_greatest}
use Rattle.lb_base.specs.Weight.{weights, weight_of}
use Rattle.lb_pelt.specs.Decay.{inverses, inverse_at, decayed}
use Rattle.lb_pelt.specs.Signal.{advanced_by, advanced, signal_value}
use Rattle.lb_interval.specs.After.{counters_after}
use Rattle.lb_detach.specs.Rules.{refuses}
use Rattle.lb_detach.specs.Picks.{task_at, left_before, refused_at, taken, refused, free, ends, examined, ids_at, picked_ids, kept_ids}
use Rattle.lb_newidle.specs.Budget.{average_after}
use Rattle.lb_nohz.specs.Kick.{tickless_cpus}
use Rattle.lb_stats.specs.Statistics.{idle_count, any_marked, stats_of}
use Rattle.lb_busiest.specs.Ranking.{is_busier, may_be_busiest, is_busier_at, busiest_of}
use Rattle.lb_busiest.specs.Sources.{may_be_source, has_more, source_of}
use Rattle.lb_imbalance.specs.Destination.{is_idle_in, first_idle, balancer_of}
use Rattle.lb_imbalance.specs.Balance.{is_level}
use Rattle.lb_imbalance.specs.Amount.{imbalance_of}
use Rattle.lb_imbalance.specs.Decision.{all_stats, domain_average, pull_or_balanced, pull_from_group, decision_over, decision}
use Rattle.lb_levels.specs.Rows.{distances_of}
use Rattle.lb_levels.specs.Spans.{levels_of, span_of}
use Rattle.lb_domain.specs.Domains.{cut_span, firsts, is_kept, domains_of}
use Rattle.lb_queue.specs.Tasks.{pick_back, somebody_runs, joined, left_by}
use Rattle.lb_queue.specs.Queue.{away}
use Rattle.lb_queue.specs.Values.{value_of, view_at, views}
use Rattle.lb_queue.specs.Figures.{figure}
use Rattle.lb_queue.specs.Commands.{wake, sleep, exit, set_mask, renice}
use Rattle.lb_queue.specs.Requests.{has_pending, has_owed, next_asked, rotated, tick, ask_active, kick}
use Rattle.lb_queue.specs.Hands.{leave, take_stop, pushed, take_push, in_order, take_pull, taken_by, land}
use Rattle.lb_queue.specs.Turns.{counters_found, due_positions, positions_found, counters_closed, close_look}
use Rattle.lb_core.specs.Course.{outcome_of}
use Rattle.lb_core.specs.Sight.{by_cpu, tickless_in}
use Rattle.lb_core.specs.Stage.{draws, stage_allows}
use Rattle.lb_core.specs.Leaving.{leaving}
use Rattle.lb_core.specs.Rules.{closed_counters}
use Rattle.lb_core.specs.QueueAfter.{queue_after}
use Rattle.lb_core.specs.CourseAfter.{turn_ends, course_after}
use Rattle.lb_core.specs.Machine.{opening_queue, start, sight}
use Rattle.lb_core.specs.Elsewhere.{first_pending, unserved}
use Rattle.lb_core.specs.Step.{first_broken, after}
use Rattle.lb_core.specs.declared.rule.Rule.TheVariants.{Counters as CountersRule, Decision as DecisionRule, End as EndRule, Figure as FigureRule, Flight as FlightRule, Owed as OwedRule, Pick as PickRule, Place as PlaceRule, Prev as PrevRule, Reply as ReplyRule, Row as RowRule, Stage as StageRule, Version as VersionRule}
use Rattle.lb_rows.specs.Lines.{fault_of, fault_at}
use Rattle.lb_rows.specs.Faults.{wrong_previous_history, over_at_rest_history, pull_left_out_history, undeclared_lane_history, undeclared_lane_quotes_history, row_out_of_order_history, answer_elsewhere_history, wake_out_elsewhere_history, asleep_already_history, unpublished_version_history, unpublished_figure_history, figure_before_own_entry_history, pull_from_nobody_history, woken_to_the_wrong_cpu_history, hand_lands_empty_history, due_position_left_out_history, end_with_a_stop_pending_history, end_names_a_request_history, no_end_history, landing_left_out_history, landing_repeated_history, figure_invented_history, another_task_lands_history}

pub wrong_previous : fault_of wrong_previous_history ≡ fault_at 1 PrevRule
unfolding
    has members_below members first_cpus only both either without least least_above is_below are_apart mask_where total
    is_first_greatest first_greatest weights weight_of inverses inverse_at decayed advanced_by advanced signal_value
    counters_after
    refuses task_at left_before refused_at taken refused free ends examined ids_at picked_ids kept_ids average_after
    is_tickless tickless_cpus idle_count any_marked stats_of is_busier may_be_busiest is_busier_at busiest_of
    may_be_source has_more source_of
    is_idle_in first_idle balancer_of is_level imbalance_of all_stats domain_average pull_or_balanced pull_from_group
    decision_over decision
    distances_of levels_of span_of cut_span firsts is_kept domains_of
    pick_back somebody_runs joined left_by away value_of view_at views figure wake sleep exit set_mask renice
    has_pending has_owed next_asked rotated tick ask_active kick leave take_stop pushed take_push in_order take_pull taken_by land
    counters_found due_positions positions_found counters_closed close_look
    outcome_of by_cpu tickless_in draws stage_allows leaving closed_counters queue_after turn_ends course_after
    opening_queue start sight first_pending unserved first_broken after
wrong_previous = refl

pub over_at_rest : fault_of over_at_rest_history ≡ fault_at 1 StageRule
unfolding
    has members_below members first_cpus only both either without least least_above is_below are_apart mask_where total
    is_first_greatest first_greatest weights weight_of inverses inverse_at decayed advanced_by advanced signal_value
    counters_after
    refuses task_at left_before refused_at taken refused free ends examined ids_at picked_ids kept_ids average_after
    is_tickless tickless_cpus idle_count any_marked stats_of is_busier may_be_busiest is_busier_at busiest_of
    may_be_source has_more source_of
    is_idle_in first_idle balancer_of is_level imbalance_of all_stats domain_average pull_or_balanced pull_from_group
    decision_over decision
    distances_of levels_of span_of cut_span firsts is_kept domains_of
    pick_back somebody_runs joined left_by away value_of view_at views figure wake sleep exit set_mask renice
    has_pending has_owed next_asked rotated tick ask_active kick leave take_stop pushed take_push in_order take_pull taken_by land
    counters_found due_positions positions_found counters_closed close_look
    outcome_of by_cpu tickless_in draws stage_allows leaving closed_counters queue_after turn_ends course_after
    opening_queue start sight first_pending unserved first_broken after
over_at_rest = refl

pub pull_left_out : fault_of pull_left_out_history ≡ fault_at 12 StageRule
unfolding
    has members_below members first_cpus only both either without least least_above is_below are_apart mask_where total
    is_first_greatest first_greatest weights weight_of inverses inverse_at decayed advanced_by advanced signal_value
    counters_after
    refuses task_at left_before refused_at taken refused free ends examined ids_at picked_ids kept_ids average_after
    is_tickless tickless_cpus idle_count any_marked stats_of is_busier may_be_busiest is_busier_at busiest_of
    may_be_source has_more source_of
    is_idle_in first_idle balancer_of is_level imbalance_of all_stats domain_average pull_or_balanced pull_from_group
    decision_over decision
    distances_of levels_of span_of cut_span firsts is_kept domains_of
    pick_back somebody_runs joined left_by away value_of view_at views figure wake sleep exit set_mask renice
    has_pending has_owed next_asked rotated tick ask_active kick leave take_stop pushed take_push in_order take_pull taken_by land
    counters_found due_positions positions_found counters_closed close_look
    outcome_of by_cpu tickless_in draws stage_allows leaving closed_counters queue_after turn_ends course_after
    opening_queue start sight first_pending unserved first_broken after
pull_left_out = refl

pub undeclared_lane : fault_of undeclared_lane_history ≡ fault_at 1 StageRule
unfolding
    has members_below members first_cpus only both either without least least_above is_below are_apart mask_where total
    is_first_greatest first_greatest weights weight_of inverses inverse_at decayed advanced_by advanced signal_value
    counters_after
    refuses task_at left_before refused_at taken refused free ends examined ids_at picked_ids kept_ids average_after
    is_tickless tickless_cpus idle_count any_marked stats_of is_busier may_be_busiest is_busier_at busiest_of
    may_be_source has_more source_of
    is_idle_in first_idle balancer_of is_level imbalance_of all_stats domain_average pull_or_balanced pull_from_group
    decision_over decision
    distances_of levels_of span_of cut_span firsts is_kept domains_of
    pick_back somebody_runs joined left_by away value_of view_at views figure wake sleep exit set_mask renice
    has_pending has_owed next_asked rotated tick ask_active kick leave take_stop pushed take_push in_order take_pull taken_by land
    counters_found due_positions positions_found counters_closed close_look
    outcome_of by_cpu tickless_in draws stage_allows leaving closed_counters queue_after turn_ends course_after
    opening_queue start sight first_pending unserved first_broken after
undeclared_lane = refl

pub undeclared_lane_quotes : fault_of undeclared_lane_quotes_history ≡ fault_at 1 PrevRule
unfolding
    has members_below members first_cpus only both either without least least_above is_below are_apart mask_where total
    is_first_greatest first_greatest weights weight_of inverses inverse_at decayed advanced_by advanced signal_value
    counters_after
    refuses task_at left_before refused_at taken refused free ends examined ids_at picked_ids kept_ids average_after
    is_tickless tickless_cpus idle_count any_marked stats_of is_busier may_be_busiest is_busier_at busiest_of
    may_be_source has_more source_of
    is_idle_in first_idle balancer_of is_level imbalance_of all_stats domain_average pull_or_balanced pull_from_group
    decision_over decision
    distances_of levels_of span_of cut_span firsts is_kept domains_of
    pick_back somebody_runs joined left_by away value_of view_at views figure wake sleep exit set_mask renice
    has_pending has_owed next_asked rotated tick ask_active kick leave take_stop pushed take_push in_order take_pull taken_by land
    counters_found due_positions positions_found counters_closed close_look
    outcome_of by_cpu tickless_in draws stage_allows leaving closed_counters queue_after turn_ends course_after
    opening_queue start sight first_pending unserved first_broken after
undeclared_lane_quotes = refl

pub row_out_of_order : fault_of row_out_of_order_history ≡ fault_at 1 RowRule
unfolding
    has members_below members first_cpus only both either without least least_above is_below are_apart mask_where total
    is_first_greatest first_greatest weights weight_of inverses inverse_at decayed advanced_by advanced signal_value
    counters_after
    refuses task_at left_before refused_at taken refused free ends examined ids_at picked_ids kept_ids average_after
    is_tickless tickless_cpus idle_count any_marked stats_of is_busier may_be_busiest is_busier_at busiest_of
    may_be_source has_more source_of
    is_idle_in first_idle balancer_of is_level imbalance_of all_stats domain_average pull_or_balanced pull_from_group
    decision_over decision
    distances_of levels_of span_of cut_span firsts is_kept domains_of
    pick_back somebody_runs joined left_by away value_of view_at views figure wake sleep exit set_mask renice
    has_pending has_owed next_asked rotated tick ask_active kick leave take_stop pushed take_push in_order take_pull taken_by land
    counters_found due_positions positions_found counters_closed close_look
    outcome_of by_cpu tickless_in draws stage_allows leaving closed_counters queue_after turn_ends course_after
    opening_queue start sight first_pending unserved first_broken after
row_out_of_order = refl

pub answer_elsewhere : fault_of answer_elsewhere_history ≡ fault_at 2 PlaceRule
unfolding
    has members_below members first_cpus only both either without least least_above is_below are_apart mask_where total
    is_first_greatest first_greatest weights weight_of inverses inverse_at decayed advanced_by advanced signal_value
    counters_after
    refuses task_at left_before refused_at taken refused free ends examined ids_at picked_ids kept_ids average_after
    is_tickless tickless_cpus idle_count any_marked stats_of is_busier may_be_busiest is_busier_at busiest_of
    may_be_source has_more source_of
    is_idle_in first_idle balancer_of is_level imbalance_of all_stats domain_average pull_or_balanced pull_from_group
    decision_over decision
    distances_of levels_of span_of cut_span firsts is_kept domains_of
    pick_back somebody_runs joined left_by away value_of view_at views figure wake sleep exit set_mask renice
    has_pending has_owed next_asked rotated tick ask_active kick leave take_stop pushed take_push in_order take_pull taken_by land
    counters_found due_positions positions_found counters_closed close_look
    outcome_of by_cpu tickless_in draws stage_allows leaving closed_counters queue_after turn_ends course_after
    opening_queue start sight first_pending unserved first_broken after
answer_elsewhere = refl

pub wake_out_elsewhere : fault_of wake_out_elsewhere_history ≡ fault_at 2 PlaceRule
unfolding
    has members_below members first_cpus only both either without least least_above is_below are_apart mask_where total
    is_first_greatest first_greatest weights weight_of inverses inverse_at decayed advanced_by advanced signal_value
    counters_after
    refuses task_at left_before refused_at taken refused free ends examined ids_at picked_ids kept_ids average_after
    is_tickless tickless_cpus idle_count any_marked stats_of is_busier may_be_busiest is_busier_at busiest_of
    may_be_source has_more source_of
    is_idle_in first_idle balancer_of is_level imbalance_of all_stats domain_average pull_or_balanced pull_from_group
    decision_over decision
    distances_of levels_of span_of cut_span firsts is_kept domains_of
    pick_back somebody_runs joined left_by away value_of view_at views figure wake sleep exit set_mask renice
    has_pending has_owed next_asked rotated tick ask_active kick leave take_stop pushed take_push in_order take_pull taken_by land
    counters_found due_positions positions_found counters_closed close_look
    outcome_of by_cpu tickless_in draws stage_allows leaving closed_counters queue_after turn_ends course_after
    opening_queue start sight first_pending unserved first_broken after
wake_out_elsewhere = refl

pub asleep_already : fault_of asleep_already_history ≡ fault_at 2 ReplyRule
unfolding
    has members_below members first_cpus only both either without least least_above is_below are_apart mask_where total
    is_first_greatest first_greatest weights weight_of inverses inverse_at decayed advanced_by advanced signal_value
    counters_after
    refuses task_at left_before refused_at taken refused free ends examined ids_at picked_ids kept_ids average_after
    is_tickless tickless_cpus idle_count any_marked stats_of is_busier may_be_busiest is_busier_at busiest_of
    may_be_source has_more source_of
    is_idle_in first_idle balancer_of is_level imbalance_of all_stats domain_average pull_or_balanced pull_from_group
    decision_over decision
    distances_of levels_of span_of cut_span firsts is_kept domains_of
    pick_back somebody_runs joined left_by away value_of view_at views figure wake sleep exit set_mask renice
    has_pending has_owed next_asked rotated tick ask_active kick leave take_stop pushed take_push in_order take_pull taken_by land
    counters_found due_positions positions_found counters_closed close_look
    outcome_of by_cpu tickless_in draws stage_allows leaving closed_counters queue_after turn_ends course_after
    opening_queue start sight first_pending unserved first_broken after
asleep_already = refl

pub unpublished_version : fault_of unpublished_version_history ≡ fault_at 3 VersionRule
unfolding
    has members_below members first_cpus only both either without least least_above is_below are_apart mask_where total
    is_first_greatest first_greatest weights weight_of inverses inverse_at decayed advanced_by advanced signal_value
    counters_after
    refuses task_at left_before refused_at taken refused free ends examined ids_at picked_ids kept_ids average_after
    is_tickless tickless_cpus idle_count any_marked stats_of is_busier may_be_busiest is_busier_at busiest_of
    may_be_source has_more source_of
    is_idle_in first_idle balancer_of is_level imbalance_of all_stats domain_average pull_or_balanced pull_from_group
    decision_over decision
    distances_of levels_of span_of cut_span firsts is_kept domains_of
    pick_back somebody_runs joined left_by away value_of view_at views figure wake sleep exit set_mask renice
    has_pending has_owed next_asked rotated tick ask_active kick leave take_stop pushed take_push in_order take_pull taken_by land
    counters_found due_positions positions_found counters_closed close_look
    outcome_of by_cpu tickless_in draws stage_allows leaving closed_counters queue_after turn_ends course_after
    opening_queue start sight first_pending unserved first_broken after
unpublished_version = refl

pub unpublished_figure : fault_of unpublished_figure_history ≡ fault_at 5 FigureRule
unfolding
    has members_below members first_cpus only both either without least least_above is_below are_apart mask_where total
    is_first_greatest first_greatest weights weight_of inverses inverse_at decayed advanced_by advanced signal_value
    counters_after
    refuses task_at left_before refused_at taken refused free ends examined ids_at picked_ids kept_ids average_after
    is_tickless tickless_cpus idle_count any_marked stats_of is_busier may_be_busiest is_busier_at busiest_of
    may_be_source has_more source_of
    is_idle_in first_idle balancer_of is_level imbalance_of all_stats domain_average pull_or_balanced pull_from_group
    decision_over decision
    distances_of levels_of span_of cut_span firsts is_kept domains_of
    pick_back somebody_runs joined left_by away value_of view_at views figure wake sleep exit set_mask renice
    has_pending has_owed next_asked rotated tick ask_active kick leave take_stop pushed take_push in_order take_pull taken_by land
    counters_found due_positions positions_found counters_closed close_look
    outcome_of by_cpu tickless_in draws stage_allows leaving closed_counters queue_after turn_ends course_after
    opening_queue start sight first_pending unserved first_broken after
unpublished_figure = refl

pub figure_before_own_entry : fault_of figure_before_own_entry_history ≡ fault_at 5 FigureRule
unfolding
    has members_below members first_cpus only both either without least least_above is_below are_apart mask_where total
    is_first_greatest first_greatest weights weight_of inverses inverse_at decayed advanced_by advanced signal_value
    counters_after
    refuses task_at left_before refused_at taken refused free ends examined ids_at picked_ids kept_ids average_after
    is_tickless tickless_cpus idle_count any_marked stats_of is_busier may_be_busiest is_busier_at busiest_of
    may_be_source has_more source_of
    is_idle_in first_idle balancer_of is_level imbalance_of all_stats domain_average pull_or_balanced pull_from_group
    decision_over decision
    distances_of levels_of span_of cut_span firsts is_kept domains_of
    pick_back somebody_runs joined left_by away value_of view_at views figure wake sleep exit set_mask renice
    has_pending has_owed next_asked rotated tick ask_active kick leave take_stop pushed take_push in_order take_pull taken_by land
    counters_found due_positions positions_found counters_closed close_look
    outcome_of by_cpu tickless_in draws stage_allows leaving closed_counters queue_after turn_ends course_after
    opening_queue start sight first_pending unserved first_broken after
figure_before_own_entry = refl

pub pull_from_nobody : fault_of pull_from_nobody_history ≡ fault_at 5 DecisionRule
unfolding
    has members_below members first_cpus only both either without least least_above is_below are_apart mask_where total
    is_first_greatest first_greatest weights weight_of inverses inverse_at decayed advanced_by advanced signal_value
    counters_after
    refuses task_at left_before refused_at taken refused free ends examined ids_at picked_ids kept_ids average_after
    is_tickless tickless_cpus idle_count any_marked stats_of is_busier may_be_busiest is_busier_at busiest_of
    may_be_source has_more source_of
    is_idle_in first_idle balancer_of is_level imbalance_of all_stats domain_average pull_or_balanced pull_from_group
    decision_over decision
    distances_of levels_of span_of cut_span firsts is_kept domains_of
    pick_back somebody_runs joined left_by away value_of view_at views figure wake sleep exit set_mask renice
    has_pending has_owed next_asked rotated tick ask_active kick leave take_stop pushed take_push in_order take_pull taken_by land
    counters_found due_positions positions_found counters_closed close_look
    outcome_of by_cpu tickless_in draws stage_allows leaving closed_counters queue_after turn_ends course_after
    opening_queue start sight first_pending unserved first_broken after
pull_from_nobody = refl

pub woken_to_the_wrong_cpu : fault_of woken_to_the_wrong_cpu_history ≡ fault_at 2 PickRule
unfolding
    has members_below members first_cpus only both either without least least_above is_below are_apart mask_where total
    is_first_greatest first_greatest weights weight_of inverses inverse_at decayed advanced_by advanced signal_value
    counters_after
    refuses task_at left_before refused_at taken refused free ends examined ids_at picked_ids kept_ids average_after
    is_tickless tickless_cpus idle_count any_marked stats_of is_busier may_be_busiest is_busier_at busiest_of
    may_be_source has_more source_of
    is_idle_in first_idle balancer_of is_level imbalance_of all_stats domain_average pull_or_balanced pull_from_group
    decision_over decision
    distances_of levels_of span_of cut_span firsts is_kept domains_of
    pick_back somebody_runs joined left_by away value_of view_at views figure wake sleep exit set_mask renice
    has_pending has_owed next_asked rotated tick ask_active kick leave take_stop pushed take_push in_order take_pull taken_by land
    counters_found due_positions positions_found counters_closed close_look
    outcome_of by_cpu tickless_in draws stage_allows leaving closed_counters queue_after turn_ends course_after
    opening_queue start sight first_pending unserved first_broken after
woken_to_the_wrong_cpu = refl

pub hand_lands_empty : fault_of hand_lands_empty_history ≡ fault_at 3 FlightRule
unfolding
    has members_below members first_cpus only both either without least least_above is_below are_apart mask_where total
    is_first_greatest first_greatest weights weight_of inverses inverse_at decayed advanced_by advanced signal_value
    counters_after
    refuses task_at left_before refused_at taken refused free ends examined ids_at picked_ids kept_ids average_after
    is_tickless tickless_cpus idle_count any_marked stats_of is_busier may_be_busiest is_busier_at busiest_of
    may_be_source has_more source_of
    is_idle_in first_idle balancer_of is_level imbalance_of all_stats domain_average pull_or_balanced pull_from_group
    decision_over decision
    distances_of levels_of span_of cut_span firsts is_kept domains_of
    pick_back somebody_runs joined left_by away value_of view_at views figure wake sleep exit set_mask renice
    has_pending has_owed next_asked rotated tick ask_active kick leave take_stop pushed take_push in_order take_pull taken_by land
    counters_found due_positions positions_found counters_closed close_look
    outcome_of by_cpu tickless_in draws stage_allows leaving closed_counters queue_after turn_ends course_after
    opening_queue start sight first_pending unserved first_broken after
hand_lands_empty = refl

pub due_position_left_out : fault_of due_position_left_out_history ≡ fault_at 4 CountersRule
unfolding
    has members_below members first_cpus only both either without least least_above is_below are_apart mask_where total
    is_first_greatest first_greatest weights weight_of inverses inverse_at decayed advanced_by advanced signal_value
    counters_after
    refuses task_at left_before refused_at taken refused free ends examined ids_at picked_ids kept_ids average_after
    is_tickless tickless_cpus idle_count any_marked stats_of is_busier may_be_busiest is_busier_at busiest_of
    may_be_source has_more source_of
    is_idle_in first_idle balancer_of is_level imbalance_of all_stats domain_average pull_or_balanced pull_from_group
    decision_over decision
    distances_of levels_of span_of cut_span firsts is_kept domains_of
    pick_back somebody_runs joined left_by away value_of view_at views figure wake sleep exit set_mask renice
    has_pending has_owed next_asked rotated tick ask_active kick leave take_stop pushed take_push in_order take_pull taken_by land
    counters_found due_positions positions_found counters_closed close_look
    outcome_of by_cpu tickless_in draws stage_allows leaving closed_counters queue_after turn_ends course_after
    opening_queue start sight first_pending unserved first_broken after
due_position_left_out = refl

pub end_with_a_stop_pending : fault_of end_with_a_stop_pending_history ≡ fault_at 5 OwedRule
unfolding
    has members_below members first_cpus only both either without least least_above is_below are_apart mask_where total
    is_first_greatest first_greatest weights weight_of inverses inverse_at decayed advanced_by advanced signal_value
    counters_after
    refuses task_at left_before refused_at taken refused free ends examined ids_at picked_ids kept_ids average_after
    is_tickless tickless_cpus idle_count any_marked stats_of is_busier may_be_busiest is_busier_at busiest_of
    may_be_source has_more source_of
    is_idle_in first_idle balancer_of is_level imbalance_of all_stats domain_average pull_or_balanced pull_from_group
    decision_over decision
    distances_of levels_of span_of cut_span firsts is_kept domains_of
    pick_back somebody_runs joined left_by away value_of view_at views figure wake sleep exit set_mask renice
    has_pending has_owed next_asked rotated tick ask_active kick leave take_stop pushed take_push in_order take_pull taken_by land
    counters_found due_positions positions_found counters_closed close_look
    outcome_of by_cpu tickless_in draws stage_allows leaving closed_counters queue_after turn_ends course_after
    opening_queue start sight first_pending unserved first_broken after
end_with_a_stop_pending = refl

pub end_names_a_request : fault_of end_names_a_request_history ≡ fault_at 1 EndRule
unfolding
    has members_below members first_cpus only both either without least least_above is_below are_apart mask_where total
    is_first_greatest first_greatest weights weight_of inverses inverse_at decayed advanced_by advanced signal_value
    counters_after
    refuses task_at left_before refused_at taken refused free ends examined ids_at picked_ids kept_ids average_after
    is_tickless tickless_cpus idle_count any_marked stats_of is_busier may_be_busiest is_busier_at busiest_of
    may_be_source has_more source_of
    is_idle_in first_idle balancer_of is_level imbalance_of all_stats domain_average pull_or_balanced pull_from_group
    decision_over decision
    distances_of levels_of span_of cut_span firsts is_kept domains_of
    pick_back somebody_runs joined left_by away value_of view_at views figure wake sleep exit set_mask renice
    has_pending has_owed next_asked rotated tick ask_active kick leave take_stop pushed take_push in_order take_pull taken_by land
    counters_found due_positions positions_found counters_closed close_look
    outcome_of by_cpu tickless_in draws stage_allows leaving closed_counters queue_after turn_ends course_after
    opening_queue start sight first_pending unserved first_broken after
end_names_a_request = refl

pub no_end : fault_of no_end_history ≡ fault_at 1 EndRule
unfolding
    has members_below members first_cpus only both either without least least_above is_below are_apart mask_where total
    is_first_greatest first_greatest weights weight_of inverses inverse_at decayed advanced_by advanced signal_value
    counters_after
    refuses task_at left_before refused_at taken refused free ends examined ids_at picked_ids kept_ids average_after
    is_tickless tickless_cpus idle_count any_marked stats_of is_busier may_be_busiest is_busier_at busiest_of
    may_be_source has_more source_of
    is_idle_in first_idle balancer_of is_level imbalance_of all_stats domain_average pull_or_balanced pull_from_group
    decision_over decision
    distances_of levels_of span_of cut_span firsts is_kept domains_of
    pick_back somebody_runs joined left_by away value_of view_at views figure wake sleep exit set_mask renice
    has_pending has_owed next_asked rotated tick ask_active kick leave take_stop pushed take_push in_order take_pull taken_by land
    counters_found due_positions positions_found counters_closed close_look
    outcome_of by_cpu tickless_in draws stage_allows leaving closed_counters queue_after turn_ends course_after
    opening_queue start sight first_pending unserved first_broken after
no_end = refl

pub landing_left_out : fault_of landing_left_out_history ≡ fault_at 13 StageRule
unfolding
    has members_below members first_cpus only both either without least least_above is_below are_apart mask_where total
    is_first_greatest first_greatest weights weight_of inverses inverse_at decayed advanced_by advanced signal_value
    counters_after
    refuses task_at left_before refused_at taken refused free ends examined ids_at picked_ids kept_ids average_after
    is_tickless tickless_cpus idle_count any_marked stats_of is_busier may_be_busiest is_busier_at busiest_of
    may_be_source has_more source_of
    is_idle_in first_idle balancer_of is_level imbalance_of all_stats domain_average pull_or_balanced pull_from_group
    decision_over decision
    distances_of levels_of span_of cut_span firsts is_kept domains_of
    pick_back somebody_runs joined left_by away value_of view_at views figure wake sleep exit set_mask renice
    has_pending has_owed next_asked rotated tick ask_active kick leave take_stop pushed take_push in_order take_pull taken_by land
    counters_found due_positions positions_found counters_closed close_look
    outcome_of by_cpu tickless_in draws stage_allows leaving closed_counters queue_after turn_ends course_after
    opening_queue start sight first_pending unserved first_broken after
landing_left_out = refl

pub landing_repeated : fault_of landing_repeated_history ≡ fault_at 14 StageRule
unfolding
    has members_below members first_cpus only both either without least least_above is_below are_apart mask_where total
    is_first_greatest first_greatest weights weight_of inverses inverse_at decayed advanced_by advanced signal_value
    counters_after
    refuses task_at left_before refused_at taken refused free ends examined ids_at picked_ids kept_ids average_after
    is_tickless tickless_cpus idle_count any_marked stats_of is_busier may_be_busiest is_busier_at busiest_of
    may_be_source has_more source_of
    is_idle_in first_idle balancer_of is_level imbalance_of all_stats domain_average pull_or_balanced pull_from_group
    decision_over decision
    distances_of levels_of span_of cut_span firsts is_kept domains_of
    pick_back somebody_runs joined left_by away value_of view_at views figure wake sleep exit set_mask renice
    has_pending has_owed next_asked rotated tick ask_active kick leave take_stop pushed take_push in_order take_pull taken_by land
    counters_found due_positions positions_found counters_closed close_look
    outcome_of by_cpu tickless_in draws stage_allows leaving closed_counters queue_after turn_ends course_after
    opening_queue start sight first_pending unserved first_broken after
landing_repeated = refl

pub figure_invented : fault_of figure_invented_history ≡ fault_at 11 FigureRule
unfolding
    has members_below members first_cpus only both either without least least_above is_below are_apart mask_where total
    is_first_greatest first_greatest weights weight_of inverses inverse_at decayed advanced_by advanced signal_value
    counters_after
    refuses task_at left_before refused_at taken refused free ends examined ids_at picked_ids kept_ids average_after
    is_tickless tickless_cpus idle_count any_marked stats_of is_busier may_be_busiest is_busier_at busiest_of
    may_be_source has_more source_of
    is_idle_in first_idle balancer_of is_level imbalance_of all_stats domain_average pull_or_balanced pull_from_group
    decision_over decision
    distances_of levels_of span_of cut_span firsts is_kept domains_of
    pick_back somebody_runs joined left_by away value_of view_at views figure wake sleep exit set_mask renice
    has_pending has_owed next_asked rotated tick ask_active kick leave take_stop pushed take_push in_order take_pull taken_by land
    counters_found due_positions positions_found counters_closed close_look
    outcome_of by_cpu tickless_in draws stage_allows leaving closed_counters queue_after turn_ends course_after
    opening_queue start sight first_pending unserved first_broken after
figure_invented = refl

pub another_task_lands : fault_of another_task_lands_history ≡ fault_at 13 FlightRule
unfolding
    has members_below members first_cpus only both either without least least_above is_below are_apart mask_where total
    is_first_greatest first_greatest weights weight_of inverses inverse_at decayed advanced_by advanced signal_value
    counters_after
    refuses task_at left_before refused_at taken refused free ends examined ids_at picked_ids kept_ids average_after
    is_tickless tickless_cpus idle_count any_marked stats_of is_busier may_be_busiest is_busier_at busiest_of
    may_be_source has_more source_of
    is_idle_in first_idle balancer_of is_level imbalance_of all_stats domain_average pull_or_balanced pull_from_group
    decision_over decision
    distances_of levels_of span_of cut_span firsts is_kept domains_of
    pick_back somebody_runs joined left_by away value_of view_at views figure wake sleep exit set_mask renice
    has_pending has_owed next_asked rotated tick ask_active kick leave take_stop pushed take_push in_order take_pull taken_by land
    counters_found due_positions positions_found counters_closed close_look
    outcome_of by_cpu tickless_in draws stage_allows leaving closed_counters queue_after turn_ends course_after
    opening_queue start sight first_pending unserved first_broken after
another_task_lands = refl
