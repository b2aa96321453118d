-- Each worked history of `specs/Lanes` is legal, or breaks the rule that is said: by computing the machine.
-- For `commands_round_a_hand`, `command_finds_a_hand`, `second_turn_is_shut` and others.
use Rattle.std.specs.Prelude.{◌≡◌, None, refl}
use Rattle.lb_base.specs.Mask.{has, members_below, members, first_cpus, only, both, either, without}
use Rattle.lb_base.specs.Sets.{least, least_above, is_below, are_apart, mask_where}
use Rattle.lb_base.specs.Figures.{total, is_tickless}
use Rattle.lb_base.specs.Greatest.{is_first_greatest, first_greatest}
use Rattle.lb_base.specs.Weight.{weights, weight_of}
use Rattle.lb_pelt.specs.Decay.{inverses, inverse_at, decayed}
use Rattle.lb_pelt.specs.Signal.{advanced_by, advanced, signal_value}
use Rattle.lb_interval.specs.After.{counters_after}
use Rattle.lb_detach.specs.Rules.{refuses}
use Rattle.lb_detach.specs.Picks.{task_at, left_before, refused_at, taken, refused, free, ends, examined, ids_at, picked_ids, kept_ids}
use Rattle.lb_newidle.specs.Budget.{average_after}
use Rattle.lb_nohz.specs.Kick.{tickless_cpus}
use Rattle.lb_stats.specs.Statistics.{idle_count, any_marked, stats_of}
use Rattle.lb_busiest.specs.Ranking.{is_busier, may_be_busiest, is_busier_at, busiest_of}
use Rattle.lb_busiest.specs.Sources.{may_be_source, has_more, source_of}
use Rattle.lb_imbalance.specs.Destination.{is_idle_in, first_idle, balancer_of}
use Rattle.lb_imbalance.specs.Balance.{is_level}
use Rattle.lb_imbalance.specs.Amount.{imbalance_of}
use Rattle.lb_imbalance.specs.Decision.{all_stats, domain_average, pull_or_balanced, pull_from_group, decision_over, decision}
use Rattle.lb_levels.specs.Rows.{distances_of}
use Rattle.lb_levels.specs.Spans.{levels_of, span_of}
use Rattle.lb_domain.specs.Domains.{cut_span, firsts, is_kept, domains_of}
use Rattle.lb_queue.specs.Tasks.{pick_back, somebody_runs, joined, left_by}
use Rattle.lb_queue.specs.Queue.{away}
use Rattle.lb_queue.specs.Values.{value_of, view_at, views}
use Rattle.lb_queue.specs.Figures.{figure}
use Rattle.lb_queue.specs.Commands.{wake, sleep, exit, set_mask, renice}
use Rattle.lb_queue.specs.Requests.{has_pending, has_owed, next_asked, rotated, tick, ask_active, kick}
use Rattle.lb_queue.specs.Hands.{leave, take_stop, pushed, take_push, in_order, take_pull, taken_by, land}
use Rattle.lb_queue.specs.Turns.{counters_found, due_positions, positions_found, counters_closed, close_look}
use Rattle.lb_core.specs.Course.{outcome_of}
use Rattle.lb_core.specs.Sight.{by_cpu, tickless_in}
use Rattle.lb_core.specs.Stage.{draws, stage_allows}
use Rattle.lb_core.specs.Leaving.{leaving}
use Rattle.lb_core.specs.Rules.{closed_counters}
use Rattle.lb_core.specs.QueueAfter.{queue_after}
use Rattle.lb_core.specs.CourseAfter.{turn_ends, course_after}
use Rattle.lb_core.specs.Machine.{opening_queue, start, sight}
use Rattle.lb_core.specs.Elsewhere.{first_pending, unserved}
use Rattle.lb_core.specs.Step.{first_broken, after}
use Rattle.lb_core.specs.declared.rule.Rule.TheVariants.{Decision as DecisionRule, End as EndRule, Place as PlaceRule, Reply as ReplyRule, Row as RowRule, Stage as StageRule, Version as VersionRule}
use Rattle.lb_rows.specs.Lines.{fault_of, fault_at}
use Rattle.lb_rows.specs.Lanes.{commands_round_a_hand_history, command_finds_a_hand_history, second_turn_is_shut_history, second_turn_opens_history, two_lanes_tick_a_cpu_history, old_figures_serve_history, new_decision_over_old_figures_history, old_version_serves_history, version_goes_back_history, closing_before_all_rest_history, row_after_the_closing_history, row_after_the_end_history, second_request_waits_history}

pub commands_round_a_hand : fault_of commands_round_a_hand_history ≡ None
unfolding
    has members_below members first_cpus only both either without least least_above is_below are_apart mask_where total
    is_first_greatest first_greatest weights weight_of inverses inverse_at decayed advanced_by advanced signal_value
    counters_after
    refuses task_at left_before refused_at taken refused free ends examined ids_at picked_ids kept_ids average_after
    is_tickless tickless_cpus idle_count any_marked stats_of is_busier may_be_busiest is_busier_at busiest_of
    may_be_source has_more source_of
    is_idle_in first_idle balancer_of is_level imbalance_of all_stats domain_average pull_or_balanced pull_from_group
    decision_over decision
    distances_of levels_of span_of cut_span firsts is_kept domains_of
    pick_back somebody_runs joined left_by away value_of view_at views figure wake sleep exit set_mask renice
    has_pending has_owed next_asked rotated tick ask_active kick leave take_stop pushed take_push in_order take_pull taken_by land
    counters_found due_positions positions_found counters_closed close_look
    outcome_of by_cpu tickless_in draws stage_allows leaving closed_counters queue_after turn_ends course_after
    opening_queue start sight first_pending unserved first_broken after
commands_round_a_hand = refl

pub command_finds_a_hand : fault_of command_finds_a_hand_history ≡ fault_at 14 PlaceRule
unfolding
    has members_below members first_cpus only both either without least least_above is_below are_apart mask_where total
    is_first_greatest first_greatest weights weight_of inverses inverse_at decayed advanced_by advanced signal_value
    counters_after
    refuses task_at left_before refused_at taken refused free ends examined ids_at picked_ids kept_ids average_after
    is_tickless tickless_cpus idle_count any_marked stats_of is_busier may_be_busiest is_busier_at busiest_of
    may_be_source has_more source_of
    is_idle_in first_idle balancer_of is_level imbalance_of all_stats domain_average pull_or_balanced pull_from_group
    decision_over decision
    distances_of levels_of span_of cut_span firsts is_kept domains_of
    pick_back somebody_runs joined left_by away value_of view_at views figure wake sleep exit set_mask renice
    has_pending has_owed next_asked rotated tick ask_active kick leave take_stop pushed take_push in_order take_pull taken_by land
    counters_found due_positions positions_found counters_closed close_look
    outcome_of by_cpu tickless_in draws stage_allows leaving closed_counters queue_after turn_ends course_after
    opening_queue start sight first_pending unserved first_broken after
command_finds_a_hand = refl

pub second_turn_is_shut : fault_of second_turn_is_shut_history ≡ None
unfolding
    has members_below members first_cpus only both either without least least_above is_below are_apart mask_where total
    is_first_greatest first_greatest weights weight_of inverses inverse_at decayed advanced_by advanced signal_value
    counters_after
    refuses task_at left_before refused_at taken refused free ends examined ids_at picked_ids kept_ids average_after
    is_tickless tickless_cpus idle_count any_marked stats_of is_busier may_be_busiest is_busier_at busiest_of
    may_be_source has_more source_of
    is_idle_in first_idle balancer_of is_level imbalance_of all_stats domain_average pull_or_balanced pull_from_group
    decision_over decision
    distances_of levels_of span_of cut_span firsts is_kept domains_of
    pick_back somebody_runs joined left_by away value_of view_at views figure wake sleep exit set_mask renice
    has_pending has_owed next_asked rotated tick ask_active kick leave take_stop pushed take_push in_order take_pull taken_by land
    counters_found due_positions positions_found counters_closed close_look
    outcome_of by_cpu tickless_in draws stage_allows leaving closed_counters queue_after turn_ends course_after
    opening_queue start sight first_pending unserved first_broken after
second_turn_is_shut = refl

pub second_turn_opens : fault_of second_turn_opens_history ≡ fault_at 10 ReplyRule
unfolding
    has members_below members first_cpus only both either without least least_above is_below are_apart mask_where total
    is_first_greatest first_greatest weights weight_of inverses inverse_at decayed advanced_by advanced signal_value
    counters_after
    refuses task_at left_before refused_at taken refused free ends examined ids_at picked_ids kept_ids average_after
    is_tickless tickless_cpus idle_count any_marked stats_of is_busier may_be_busiest is_busier_at busiest_of
    may_be_source has_more source_of
    is_idle_in first_idle balancer_of is_level imbalance_of all_stats domain_average pull_or_balanced pull_from_group
    decision_over decision
    distances_of levels_of span_of cut_span firsts is_kept domains_of
    pick_back somebody_runs joined left_by away value_of view_at views figure wake sleep exit set_mask renice
    has_pending has_owed next_asked rotated tick ask_active kick leave take_stop pushed take_push in_order take_pull taken_by land
    counters_found due_positions positions_found counters_closed close_look
    outcome_of by_cpu tickless_in draws stage_allows leaving closed_counters queue_after turn_ends course_after
    opening_queue start sight first_pending unserved first_broken after
second_turn_opens = refl

pub two_lanes_tick_a_cpu : fault_of two_lanes_tick_a_cpu_history ≡ fault_at 2 RowRule
unfolding
    has members_below members first_cpus only both either without least least_above is_below are_apart mask_where total
    is_first_greatest first_greatest weights weight_of inverses inverse_at decayed advanced_by advanced signal_value
    counters_after
    refuses task_at left_before refused_at taken refused free ends examined ids_at picked_ids kept_ids average_after
    is_tickless tickless_cpus idle_count any_marked stats_of is_busier may_be_busiest is_busier_at busiest_of
    may_be_source has_more source_of
    is_idle_in first_idle balancer_of is_level imbalance_of all_stats domain_average pull_or_balanced pull_from_group
    decision_over decision
    distances_of levels_of span_of cut_span firsts is_kept domains_of
    pick_back somebody_runs joined left_by away value_of view_at views figure wake sleep exit set_mask renice
    has_pending has_owed next_asked rotated tick ask_active kick leave take_stop pushed take_push in_order take_pull taken_by land
    counters_found due_positions positions_found counters_closed close_look
    outcome_of by_cpu tickless_in draws stage_allows leaving closed_counters queue_after turn_ends course_after
    opening_queue start sight first_pending unserved first_broken after
two_lanes_tick_a_cpu = refl

pub old_figures_serve : fault_of old_figures_serve_history ≡ None
unfolding
    has members_below members first_cpus only both either without least least_above is_below are_apart mask_where total
    is_first_greatest first_greatest weights weight_of inverses inverse_at decayed advanced_by advanced signal_value
    counters_after
    refuses task_at left_before refused_at taken refused free ends examined ids_at picked_ids kept_ids average_after
    is_tickless tickless_cpus idle_count any_marked stats_of is_busier may_be_busiest is_busier_at busiest_of
    may_be_source has_more source_of
    is_idle_in first_idle balancer_of is_level imbalance_of all_stats domain_average pull_or_balanced pull_from_group
    decision_over decision
    distances_of levels_of span_of cut_span firsts is_kept domains_of
    pick_back somebody_runs joined left_by away value_of view_at views figure wake sleep exit set_mask renice
    has_pending has_owed next_asked rotated tick ask_active kick leave take_stop pushed take_push in_order take_pull taken_by land
    counters_found due_positions positions_found counters_closed close_look
    outcome_of by_cpu tickless_in draws stage_allows leaving closed_counters queue_after turn_ends course_after
    opening_queue start sight first_pending unserved first_broken after
old_figures_serve = refl

pub new_decision_over_old_figures : fault_of new_decision_over_old_figures_history ≡ fault_at 9 DecisionRule
unfolding
    has members_below members first_cpus only both either without least least_above is_below are_apart mask_where total
    is_first_greatest first_greatest weights weight_of inverses inverse_at decayed advanced_by advanced signal_value
    counters_after
    refuses task_at left_before refused_at taken refused free ends examined ids_at picked_ids kept_ids average_after
    is_tickless tickless_cpus idle_count any_marked stats_of is_busier may_be_busiest is_busier_at busiest_of
    may_be_source has_more source_of
    is_idle_in first_idle balancer_of is_level imbalance_of all_stats domain_average pull_or_balanced pull_from_group
    decision_over decision
    distances_of levels_of span_of cut_span firsts is_kept domains_of
    pick_back somebody_runs joined left_by away value_of view_at views figure wake sleep exit set_mask renice
    has_pending has_owed next_asked rotated tick ask_active kick leave take_stop pushed take_push in_order take_pull taken_by land
    counters_found due_positions positions_found counters_closed close_look
    outcome_of by_cpu tickless_in draws stage_allows leaving closed_counters queue_after turn_ends course_after
    opening_queue start sight first_pending unserved first_broken after
new_decision_over_old_figures = refl

pub old_version_serves : fault_of old_version_serves_history ≡ None
unfolding
    has members_below members first_cpus only both either without least least_above is_below are_apart mask_where total
    is_first_greatest first_greatest weights weight_of inverses inverse_at decayed advanced_by advanced signal_value
    counters_after
    refuses task_at left_before refused_at taken refused free ends examined ids_at picked_ids kept_ids average_after
    is_tickless tickless_cpus idle_count any_marked stats_of is_busier may_be_busiest is_busier_at busiest_of
    may_be_source has_more source_of
    is_idle_in first_idle balancer_of is_level imbalance_of all_stats domain_average pull_or_balanced pull_from_group
    decision_over decision
    distances_of levels_of span_of cut_span firsts is_kept domains_of
    pick_back somebody_runs joined left_by away value_of view_at views figure wake sleep exit set_mask renice
    has_pending has_owed next_asked rotated tick ask_active kick leave take_stop pushed take_push in_order take_pull taken_by land
    counters_found due_positions positions_found counters_closed close_look
    outcome_of by_cpu tickless_in draws stage_allows leaving closed_counters queue_after turn_ends course_after
    opening_queue start sight first_pending unserved first_broken after
old_version_serves = refl

pub version_goes_back : fault_of version_goes_back_history ≡ fault_at 5 VersionRule
unfolding
    has members_below members first_cpus only both either without least least_above is_below are_apart mask_where total
    is_first_greatest first_greatest weights weight_of inverses inverse_at decayed advanced_by advanced signal_value
    counters_after
    refuses task_at left_before refused_at taken refused free ends examined ids_at picked_ids kept_ids average_after
    is_tickless tickless_cpus idle_count any_marked stats_of is_busier may_be_busiest is_busier_at busiest_of
    may_be_source has_more source_of
    is_idle_in first_idle balancer_of is_level imbalance_of all_stats domain_average pull_or_balanced pull_from_group
    decision_over decision
    distances_of levels_of span_of cut_span firsts is_kept domains_of
    pick_back somebody_runs joined left_by away value_of view_at views figure wake sleep exit set_mask renice
    has_pending has_owed next_asked rotated tick ask_active kick leave take_stop pushed take_push in_order take_pull taken_by land
    counters_found due_positions positions_found counters_closed close_look
    outcome_of by_cpu tickless_in draws stage_allows leaving closed_counters queue_after turn_ends course_after
    opening_queue start sight first_pending unserved first_broken after
version_goes_back = refl

pub closing_before_all_rest : fault_of closing_before_all_rest_history ≡ fault_at 6 StageRule
unfolding
    has members_below members first_cpus only both either without least least_above is_below are_apart mask_where total
    is_first_greatest first_greatest weights weight_of inverses inverse_at decayed advanced_by advanced signal_value
    counters_after
    refuses task_at left_before refused_at taken refused free ends examined ids_at picked_ids kept_ids average_after
    is_tickless tickless_cpus idle_count any_marked stats_of is_busier may_be_busiest is_busier_at busiest_of
    may_be_source has_more source_of
    is_idle_in first_idle balancer_of is_level imbalance_of all_stats domain_average pull_or_balanced pull_from_group
    decision_over decision
    distances_of levels_of span_of cut_span firsts is_kept domains_of
    pick_back somebody_runs joined left_by away value_of view_at views figure wake sleep exit set_mask renice
    has_pending has_owed next_asked rotated tick ask_active kick leave take_stop pushed take_push in_order take_pull taken_by land
    counters_found due_positions positions_found counters_closed close_look
    outcome_of by_cpu tickless_in draws stage_allows leaving closed_counters queue_after turn_ends course_after
    opening_queue start sight first_pending unserved first_broken after
closing_before_all_rest = refl

pub row_after_the_closing : fault_of row_after_the_closing_history ≡ fault_at 7 StageRule
unfolding
    has members_below members first_cpus only both either without least least_above is_below are_apart mask_where total
    is_first_greatest first_greatest weights weight_of inverses inverse_at decayed advanced_by advanced signal_value
    counters_after
    refuses task_at left_before refused_at taken refused free ends examined ids_at picked_ids kept_ids average_after
    is_tickless tickless_cpus idle_count any_marked stats_of is_busier may_be_busiest is_busier_at busiest_of
    may_be_source has_more source_of
    is_idle_in first_idle balancer_of is_level imbalance_of all_stats domain_average pull_or_balanced pull_from_group
    decision_over decision
    distances_of levels_of span_of cut_span firsts is_kept domains_of
    pick_back somebody_runs joined left_by away value_of view_at views figure wake sleep exit set_mask renice
    has_pending has_owed next_asked rotated tick ask_active kick leave take_stop pushed take_push in_order take_pull taken_by land
    counters_found due_positions positions_found counters_closed close_look
    outcome_of by_cpu tickless_in draws stage_allows leaving closed_counters queue_after turn_ends course_after
    opening_queue start sight first_pending unserved first_broken after
row_after_the_closing = refl

pub row_after_the_end : fault_of row_after_the_end_history ≡ fault_at 2 EndRule
unfolding
    has members_below members first_cpus only both either without least least_above is_below are_apart mask_where total
    is_first_greatest first_greatest weights weight_of inverses inverse_at decayed advanced_by advanced signal_value
    counters_after
    refuses task_at left_before refused_at taken refused free ends examined ids_at picked_ids kept_ids average_after
    is_tickless tickless_cpus idle_count any_marked stats_of is_busier may_be_busiest is_busier_at busiest_of
    may_be_source has_more source_of
    is_idle_in first_idle balancer_of is_level imbalance_of all_stats domain_average pull_or_balanced pull_from_group
    decision_over decision
    distances_of levels_of span_of cut_span firsts is_kept domains_of
    pick_back somebody_runs joined left_by away value_of view_at views figure wake sleep exit set_mask renice
    has_pending has_owed next_asked rotated tick ask_active kick leave take_stop pushed take_push in_order take_pull taken_by land
    counters_found due_positions positions_found counters_closed close_look
    outcome_of by_cpu tickless_in draws stage_allows leaving closed_counters queue_after turn_ends course_after
    opening_queue start sight first_pending unserved first_broken after
row_after_the_end = refl

pub second_request_waits : fault_of second_request_waits_history ≡ None
unfolding
    has members_below members first_cpus only both either without least least_above is_below are_apart mask_where total
    is_first_greatest first_greatest weights weight_of inverses inverse_at decayed advanced_by advanced signal_value
    counters_after
    refuses task_at left_before refused_at taken refused free ends examined ids_at picked_ids kept_ids average_after
    is_tickless tickless_cpus idle_count any_marked stats_of is_busier may_be_busiest is_busier_at busiest_of
    may_be_source has_more source_of
    is_idle_in first_idle balancer_of is_level imbalance_of all_stats domain_average pull_or_balanced pull_from_group
    decision_over decision
    distances_of levels_of span_of cut_span firsts is_kept domains_of
    pick_back somebody_runs joined left_by away value_of view_at views figure wake sleep exit set_mask renice
    has_pending has_owed next_asked rotated tick ask_active kick leave take_stop pushed take_push in_order take_pull taken_by land
    counters_found due_positions positions_found counters_closed close_look
    outcome_of by_cpu tickless_in draws stage_allows leaving closed_counters queue_after turn_ends course_after
    opening_queue start sight first_pending unserved first_broken after
second_request_waits = refl
