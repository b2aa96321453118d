-- Each worked history of `specs/Balancing` is legal, or breaks the rule that is said: by computing the machine.
-- For `one_task_moves`, `one_task_stays`, `newly_idle` and others.
use Rattle.std.specs.Prelude.{◌≡◌, None, refl}
use Rattle.lb_base.specs.Mask.{has, members_below, members, first_cpus, only, both, either, without}
use Rattle.lb_base.specs.Sets.{least, least_above, is_below, are_apart, mask_where}
use Rattle.lb_base.specs.Figures.{total, is_tickless}
use Rattle.lb_base.specs.Greatest.{is_first_greatest, first_greatest}
use Rattle.lb_base.specs.Weight.{weights, weight_of}
use Rattle.lb_pelt.specs.Decay.{inverses, inverse_at, decayed}
use Rattle.lb_pelt.specs.Signal.{advanced_by, advanced, signal_value}
use Rattle.lb_interval.specs.After.{counters_after}
use Rattle.lb_detach.specs.Rules.{refuses}
use Rattle.lb_detach.specs.Picks.{task_at, left_before, refused_at, taken, refused, free, ends, examined, ids_at, picked_ids, kept_ids}
use Rattle.lb_newidle.specs.Budget.{average_after}
use Rattle.lb_nohz.specs.Kick.{tickless_cpus}
use Rattle.lb_stats.specs.Statistics.{idle_count, any_marked, stats_of}
use Rattle.lb_busiest.specs.Ranking.{is_busier, may_be_busiest, is_busier_at, busiest_of}
use Rattle.lb_busiest.specs.Sources.{may_be_source, has_more, source_of}
use Rattle.lb_imbalance.specs.Destination.{is_idle_in, first_idle, balancer_of}
use Rattle.lb_imbalance.specs.Balance.{is_level}
use Rattle.lb_imbalance.specs.Amount.{imbalance_of}
use Rattle.lb_imbalance.specs.Decision.{all_stats, domain_average, pull_or_balanced, pull_from_group, decision_over, decision}
use Rattle.lb_levels.specs.Rows.{distances_of}
use Rattle.lb_levels.specs.Spans.{levels_of, span_of}
use Rattle.lb_domain.specs.Domains.{cut_span, firsts, is_kept, domains_of}
use Rattle.lb_queue.specs.Tasks.{pick_back, somebody_runs, joined, left_by}
use Rattle.lb_queue.specs.Queue.{away}
use Rattle.lb_queue.specs.Values.{value_of, view_at, views}
use Rattle.lb_queue.specs.Figures.{figure}
use Rattle.lb_queue.specs.Commands.{wake, sleep, exit, set_mask, renice}
use Rattle.lb_queue.specs.Requests.{has_pending, has_owed, next_asked, rotated, tick, ask_active, kick}
use Rattle.lb_queue.specs.Hands.{leave, take_stop, pushed, take_push, in_order, take_pull, taken_by, land}
use Rattle.lb_queue.specs.Turns.{counters_found, due_positions, positions_found, counters_closed, close_look}
use Rattle.lb_core.specs.Course.{outcome_of}
use Rattle.lb_core.specs.Sight.{by_cpu, tickless_in}
use Rattle.lb_core.specs.Stage.{draws, stage_allows}
use Rattle.lb_core.specs.Leaving.{leaving}
use Rattle.lb_core.specs.Rules.{closed_counters}
use Rattle.lb_core.specs.QueueAfter.{queue_after}
use Rattle.lb_core.specs.CourseAfter.{turn_ends, course_after}
use Rattle.lb_core.specs.Machine.{opening_queue, start, sight}
use Rattle.lb_core.specs.Elsewhere.{first_pending, unserved}
use Rattle.lb_core.specs.Step.{first_broken, after}
use Rattle.lb_rows.specs.Lines.{fault_of}
use Rattle.lb_rows.specs.Balancing.{one_task_moves_history, one_task_stays_history, newly_idle_history, kicked_history, pinned_then_moved_history, pinned_twice_history}

pub one_task_moves : fault_of one_task_moves_history ≡ None
unfolding
    has members_below members first_cpus only both either without least least_above is_below are_apart mask_where total
    is_first_greatest first_greatest weights weight_of inverses inverse_at decayed advanced_by advanced signal_value
    counters_after
    refuses task_at left_before refused_at taken refused free ends examined ids_at picked_ids kept_ids average_after
    is_tickless tickless_cpus idle_count any_marked stats_of is_busier may_be_busiest is_busier_at busiest_of
    may_be_source has_more source_of
    is_idle_in first_idle balancer_of is_level imbalance_of all_stats domain_average pull_or_balanced pull_from_group
    decision_over decision
    distances_of levels_of span_of cut_span firsts is_kept domains_of
    pick_back somebody_runs joined left_by away value_of view_at views figure wake sleep exit set_mask renice
    has_pending has_owed next_asked rotated tick ask_active kick leave take_stop pushed take_push in_order take_pull taken_by land
    counters_found due_positions positions_found counters_closed close_look
    outcome_of by_cpu tickless_in draws stage_allows leaving closed_counters queue_after turn_ends course_after
    opening_queue start sight first_pending unserved first_broken after
one_task_moves = refl

pub one_task_stays : fault_of one_task_stays_history ≡ None
unfolding
    has members_below members first_cpus only both either without least least_above is_below are_apart mask_where total
    is_first_greatest first_greatest weights weight_of inverses inverse_at decayed advanced_by advanced signal_value
    counters_after
    refuses task_at left_before refused_at taken refused free ends examined ids_at picked_ids kept_ids average_after
    is_tickless tickless_cpus idle_count any_marked stats_of is_busier may_be_busiest is_busier_at busiest_of
    may_be_source has_more source_of
    is_idle_in first_idle balancer_of is_level imbalance_of all_stats domain_average pull_or_balanced pull_from_group
    decision_over decision
    distances_of levels_of span_of cut_span firsts is_kept domains_of
    pick_back somebody_runs joined left_by away value_of view_at views figure wake sleep exit set_mask renice
    has_pending has_owed next_asked rotated tick ask_active kick leave take_stop pushed take_push in_order take_pull taken_by land
    counters_found due_positions positions_found counters_closed close_look
    outcome_of by_cpu tickless_in draws stage_allows leaving closed_counters queue_after turn_ends course_after
    opening_queue start sight first_pending unserved first_broken after
one_task_stays = refl

pub newly_idle : fault_of newly_idle_history ≡ None
unfolding
    has members_below members first_cpus only both either without least least_above is_below are_apart mask_where total
    is_first_greatest first_greatest weights weight_of inverses inverse_at decayed advanced_by advanced signal_value
    counters_after
    refuses task_at left_before refused_at taken refused free ends examined ids_at picked_ids kept_ids average_after
    is_tickless tickless_cpus idle_count any_marked stats_of is_busier may_be_busiest is_busier_at busiest_of
    may_be_source has_more source_of
    is_idle_in first_idle balancer_of is_level imbalance_of all_stats domain_average pull_or_balanced pull_from_group
    decision_over decision
    distances_of levels_of span_of cut_span firsts is_kept domains_of
    pick_back somebody_runs joined left_by away value_of view_at views figure wake sleep exit set_mask renice
    has_pending has_owed next_asked rotated tick ask_active kick leave take_stop pushed take_push in_order take_pull taken_by land
    counters_found due_positions positions_found counters_closed close_look
    outcome_of by_cpu tickless_in draws stage_allows leaving closed_counters queue_after turn_ends course_after
    opening_queue start sight first_pending unserved first_broken after
newly_idle = refl

pub kicked : fault_of kicked_history ≡ None
unfolding
    has members_below members first_cpus only both either without least least_above is_below are_apart mask_where total
    is_first_greatest first_greatest weights weight_of inverses inverse_at decayed advanced_by advanced signal_value
    counters_after
    refuses task_at left_before refused_at taken refused free ends examined ids_at picked_ids kept_ids average_after
    is_tickless tickless_cpus idle_count any_marked stats_of is_busier may_be_busiest is_busier_at busiest_of
    may_be_source has_more source_of
    is_idle_in first_idle balancer_of is_level imbalance_of all_stats domain_average pull_or_balanced pull_from_group
    decision_over decision
    distances_of levels_of span_of cut_span firsts is_kept domains_of
    pick_back somebody_runs joined left_by away value_of view_at views figure wake sleep exit set_mask renice
    has_pending has_owed next_asked rotated tick ask_active kick leave take_stop pushed take_push in_order take_pull taken_by land
    counters_found due_positions positions_found counters_closed close_look
    outcome_of by_cpu tickless_in draws stage_allows leaving closed_counters queue_after turn_ends course_after
    opening_queue start sight first_pending unserved first_broken after
kicked = refl

pub pinned_then_moved : fault_of pinned_then_moved_history ≡ None
unfolding
    has members_below members first_cpus only both either without least least_above is_below are_apart mask_where total
    is_first_greatest first_greatest weights weight_of inverses inverse_at decayed advanced_by advanced signal_value
    counters_after
    refuses task_at left_before refused_at taken refused free ends examined ids_at picked_ids kept_ids average_after
    is_tickless tickless_cpus idle_count any_marked stats_of is_busier may_be_busiest is_busier_at busiest_of
    may_be_source has_more source_of
    is_idle_in first_idle balancer_of is_level imbalance_of all_stats domain_average pull_or_balanced pull_from_group
    decision_over decision
    distances_of levels_of span_of cut_span firsts is_kept domains_of
    pick_back somebody_runs joined left_by away value_of view_at views figure wake sleep exit set_mask renice
    has_pending has_owed next_asked rotated tick ask_active kick leave take_stop pushed take_push in_order take_pull taken_by land
    counters_found due_positions positions_found counters_closed close_look
    outcome_of by_cpu tickless_in draws stage_allows leaving closed_counters queue_after turn_ends course_after
    opening_queue start sight first_pending unserved first_broken after
pinned_then_moved = refl

pub pinned_twice : fault_of pinned_twice_history ≡ None
unfolding
    has members_below members first_cpus only both either without least least_above is_below are_apart mask_where total
    is_first_greatest first_greatest weights weight_of inverses inverse_at decayed advanced_by advanced signal_value
    counters_after
    refuses task_at left_before refused_at taken refused free ends examined ids_at picked_ids kept_ids average_after
    is_tickless tickless_cpus idle_count any_marked stats_of is_busier may_be_busiest is_busier_at busiest_of
    may_be_source has_more source_of
    is_idle_in first_idle balancer_of is_level imbalance_of all_stats domain_average pull_or_balanced pull_from_group
    decision_over decision
    distances_of levels_of span_of cut_span firsts is_kept domains_of
    pick_back somebody_runs joined left_by away value_of view_at views figure wake sleep exit set_mask renice
    has_pending has_owed next_asked rotated tick ask_active kick leave take_stop pushed take_push in_order take_pull taken_by land
    counters_found due_positions positions_found counters_closed close_look
    outcome_of by_cpu tickless_in draws stage_allows leaving closed_counters queue_after turn_ends course_after
    opening_queue start sight first_pending unserved first_broken after
pinned_twice = refl
