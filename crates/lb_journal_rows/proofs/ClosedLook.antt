-- The lists of a look over a figure that is not published are those of a closed book.
-- For the law `unpublished_figure`.
use Rattle.std.proofs.Common.{◌≡◌, ℕ, ◌<◌, List, [], ◌∷◌, map, drop, refl, arith, All}
use Rattle.std.proofs.lemmas.List.Elements.{All-nil, All-cons}
use Rattle.lb_base.specs.Mask.{has, members_below, members, first_cpus, only, both, either, without}
use Rattle.lb_base.specs.Sets.{least, least_above, is_below, are_apart, mask_where}
use Rattle.lb_base.specs.Figures.{total as figures_total, is_tickless}
use Rattle.lb_base.specs.Greatest.{is_first_greatest, first_greatest}
use Rattle.lb_base.specs.Weight.{weights, weight_of}
use Rattle.lb_pelt.specs.Decay.{inverses, inverse_at, decayed}
use Rattle.lb_pelt.specs.Signal.{advanced_by, advanced, signal_value}
use Rattle.lb_interval.specs.After.{counters_after}
use Rattle.lb_detach.specs.Rules.{refuses}
use Rattle.lb_detach.specs.Picks.{task_at, left_before, refused_at, taken, refused, free, ends, examined, ids_at, picked_ids, kept_ids}
use Rattle.lb_newidle.specs.Budget.{average_after}
use Rattle.lb_nohz.specs.Kick.{tickless_cpus}
use Rattle.lb_stats.specs.Statistics.{idle_count, any_marked, stats_of}
use Rattle.lb_busiest.specs.Ranking.{is_busier, may_be_busiest, is_busier_at, busiest_of}
use Rattle.lb_busiest.specs.Sources.{may_be_source, has_more, source_of}
use Rattle.lb_imbalance.specs.Destination.{is_idle_in, first_idle, balancer_of}
use Rattle.lb_imbalance.specs.Balance.{is_level}
use Rattle.lb_imbalance.specs.Amount.{imbalance_of}
use Rattle.lb_imbalance.specs.Decision.{all_stats, domain_average, pull_or_balanced, pull_from_group, decision_over, decision}
use Rattle.lb_levels.specs.Rows.{distances_of}
use Rattle.lb_levels.specs.Spans.{levels_of, span_of}
use Rattle.lb_domain.specs.Domains.{cut_span, firsts, is_kept, domains_of}
use Rattle.lb_queue.specs.Tasks.{pick_back, somebody_runs, joined, left_by}
use Rattle.lb_queue.specs.Queue.{away}
use Rattle.lb_queue.specs.Values.{value_of, view_at, views}
use Rattle.lb_queue.specs.Figures.{figure}
use Rattle.lb_queue.specs.Commands.{wake, sleep, exit, set_mask, renice}
use Rattle.lb_queue.specs.Requests.{has_pending, has_owed, next_asked, rotated, tick, ask_active, kick}
use Rattle.lb_queue.specs.Hands.{leave, take_stop, pushed, take_push, in_order, take_pull, taken_by, land}
use Rattle.lb_queue.specs.Turns.{counters_found, due_positions, positions_found, counters_closed, close_look}
use Rattle.lb_core.specs.Course.{outcome_of}
use Rattle.lb_core.specs.Sight.{by_cpu, tickless_in}
use Rattle.lb_core.specs.Stage.{draws, stage_allows}
use Rattle.lb_core.specs.Leaving.{leaving}
use Rattle.lb_core.specs.Rules.{closed_counters}
use Rattle.lb_core.specs.QueueAfter.{queue_after}
use Rattle.lb_core.specs.CourseAfter.{turn_ends, course_after}
use Rattle.lb_core.specs.Machine.{opening_queue, start, sight}
use Rattle.lb_core.specs.Step.{after}
use Rattle.lb_trace.specs.declared.trace.Header.{Header}
use Rattle.lb_ticket.specs.Tickets.{Closes, ListsFit, AllQuote, total, times, once}
use Rattle.lb_journal.specs.Journal.{Journal, sight_in, meaning_of_journal}
use Rattle.lb_journal_rows.specs.Lists.{items_from}
use Rattle.lb_journal_rows.specs.Missing.{early_look_history, with_figures, early_look_lists}
use Rattle.lb_journal_rows.proofs.Closed.{fit, not_first, empties, quoted_once}

log : List Journal
log = map (λ d. (with_figures d).item) (items_from 1 (start early_look_history.header) early_look_history.entries)

-- the header of one item, and of two
one : (h : Header) (a : ℕ × Journal) → a.1.header ≡ h → All (λ d. d.1.header ≡ h) (a ∷ [])
one h a e = All-cons (λ (d : ℕ × Journal). d.1.header ≡ h) a [] e (All-nil (λ (d : ℕ × Journal). d.1.header ≡ h))

two : (h : Header) (a b : ℕ × Journal) → a.1.header ≡ h → b.1.header ≡ h → All (λ d. d.1.header ≡ h) (a ∷ b ∷ [])
two h a b e f = All-cons (λ (d : ℕ × Journal). d.1.header ≡ h) a (b ∷ []) e (one h b f)

-- an item before a ticket
before : (a : ℕ × Journal) (t : ℕ) → a.0 < t → All (λ d. d.0 < t) (a ∷ [])
before a t lt = All-cons (λ (d : ℕ × Journal). d.0 < t) a [] lt (All-nil (λ (d : ℕ × Journal). d.0 < t))

three : (h : Header) (a b c : ℕ × Journal) → a.1.header ≡ h → b.1.header ≡ h → c.1.header ≡ h →
    All (λ d. d.1.header ≡ h) (a ∷ b ∷ c ∷ [])
three h a b c e f g = All-cons (λ (d : ℕ × Journal). d.1.header ≡ h) a (b ∷ c ∷ []) e (two h b c f g)

lists_fit : ListsFit meaning_of_journal log 0 (early_look_lists)
unfolding
    has members_below members first_cpus only both either without least least_above is_below are_apart mask_where figures_total
    is_first_greatest first_greatest weights weight_of inverses inverse_at decayed advanced_by advanced signal_value
    counters_after
    refuses task_at left_before refused_at taken refused free ends examined ids_at picked_ids kept_ids average_after
    is_tickless tickless_cpus idle_count any_marked stats_of is_busier may_be_busiest is_busier_at busiest_of
    may_be_source has_more source_of
    is_idle_in first_idle balancer_of is_level imbalance_of all_stats domain_average pull_or_balanced pull_from_group
    decision_over decision
    distances_of levels_of span_of cut_span firsts is_kept domains_of
    pick_back somebody_runs joined left_by away value_of view_at views figure wake sleep exit set_mask renice
    has_pending has_owed next_asked rotated tick ask_active kick leave take_stop pushed take_push in_order take_pull taken_by land
    counters_found due_positions positions_found counters_closed close_look
    outcome_of by_cpu tickless_in draws stage_allows leaving closed_counters queue_after turn_ends course_after
    opening_queue start sight after sight_in log
lists_fit = (
  record { rises = tt; fits = tt; owned = tt },
  tt,
  (
    record {
      rises = (omega arith, (omega arith, (omega arith, (omega arith, tt))));
      fits = (
        fit _ _ (All-nil _) refl refl refl (λ e. record { course = refl; allowed = refl }) refl refl tt,
        (
          fit _ _ (one _ _ refl) refl refl refl (λ e. not_first _ e) tt refl tt,
          (
            fit _ _ (two _ _ _ refl refl) refl refl refl (λ e. not_first _ e) refl refl tt,
            (
              fit _ _ (three _ _ _ _ refl refl refl) refl refl refl (λ e. not_first _ e) refl refl tt,
              tt,
            ),
          ),
        ),
      );
      owned = (refl, (refl, (refl, (refl, tt))));
    },
    ((0, refl, refl), ((2, refl, refl), ((4, refl, refl), ((7, refl, refl), tt)))),
    empties log 15 2 (drop 17 (early_look_lists)) (
      record {
        rises = (omega arith, (omega arith, (omega arith, (omega arith, tt))));
        fits = (
          fit _ _ (All-nil _) refl refl refl (λ e. not_first _ e) refl refl tt,
          (
            fit _ _ (one _ _ refl) refl refl refl (λ e. not_first _ e) refl refl
                (record { before = before _ 3 (omega arith); push = refl; stop = refl }),
            (
              fit _ _ (two _ _ _ refl refl) refl refl refl (λ e. not_first _ e) refl refl tt,
              (
                fit _ _ (three _ _ _ _ refl refl refl) refl refl refl (λ e. not_first _ e) refl refl tt,
                tt,
              ),
            ),
          ),
        );
        owned = (refl, (refl, (refl, (refl, tt))));
      },
      ((1, refl, refl), ((3, refl, refl), ((5, refl, refl), ((6, refl, refl), tt)))),
      (record { rises = tt; fits = tt; owned = tt }, tt, tt),
    ),
  ),
)

quotes : AllQuote meaning_of_journal [] log
unfolding
    has members_below members first_cpus only both either without least least_above is_below are_apart mask_where figures_total
    is_first_greatest first_greatest weights weight_of inverses inverse_at decayed advanced_by advanced signal_value
    counters_after
    refuses task_at left_before refused_at taken refused free ends examined ids_at picked_ids kept_ids average_after
    is_tickless tickless_cpus idle_count any_marked stats_of is_busier may_be_busiest is_busier_at busiest_of
    may_be_source has_more source_of
    is_idle_in first_idle balancer_of is_level imbalance_of all_stats domain_average pull_or_balanced pull_from_group
    decision_over decision
    distances_of levels_of span_of cut_span firsts is_kept domains_of
    pick_back somebody_runs joined left_by away value_of view_at views figure wake sleep exit set_mask renice
    has_pending has_owed next_asked rotated tick ask_active kick leave take_stop pushed take_push in_order take_pull taken_by land
    counters_found due_positions positions_found counters_closed close_look
    outcome_of by_cpu tickless_in draws stage_allows leaving closed_counters queue_after turn_ends course_after
    opening_queue start sight after sight_in log
quotes = (
  tt,
  (
    (_, (0, refl, refl), refl, refl),
    (
      (_, (1, refl, refl), refl, refl),
      (
        (_, (2, refl, refl), refl, refl),
        (
          (_, (3, refl, refl), refl, refl),
          (
            (_, (4, refl, refl), refl, refl),
            (
              (_, (5, refl, refl), refl, refl),
              ((_, (6, refl, refl), refl, refl), tt),
            ),
          ),
        ),
      ),
    ),
  ),
)

pub closed : Closes meaning_of_journal (early_look_lists)
unfolding
    has members_below members first_cpus only both either without least least_above is_below are_apart mask_where figures_total
    is_first_greatest first_greatest weights weight_of inverses inverse_at decayed advanced_by advanced signal_value
    counters_after
    refuses task_at left_before refused_at taken refused free ends examined ids_at picked_ids kept_ids average_after
    is_tickless tickless_cpus idle_count any_marked stats_of is_busier may_be_busiest is_busier_at busiest_of
    may_be_source has_more source_of
    is_idle_in first_idle balancer_of is_level imbalance_of all_stats domain_average pull_or_balanced pull_from_group
    decision_over decision
    distances_of levels_of span_of cut_span firsts is_kept domains_of
    pick_back somebody_runs joined left_by away value_of view_at views figure wake sleep exit set_mask renice
    has_pending has_owed next_asked rotated tick ask_active kick leave take_stop pushed take_push in_order take_pull taken_by land
    counters_found due_positions positions_found counters_closed close_look
    outcome_of by_cpu tickless_in draws stage_allows leaving closed_counters queue_after turn_ends course_after
    opening_queue start sight after sight_in log
closed = record {
  log = log;
  count = refl;
  each_once = λ x. (let e : total (times x) (early_look_lists) ≡ once x 8 = omega arith in e);
  lists_fit = lists_fit;
  quotes = quotes;
  quoted_once = λ x some. quoted_once x some (0 ∷ 1 ∷ 2 ∷ 3 ∷ 4 ∷ 5 ∷ 6 ∷ 7 ∷ []) refl;
}
