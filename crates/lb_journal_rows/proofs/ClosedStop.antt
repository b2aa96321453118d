-- The lists of a closing before all lanes rest are those of a closed book.
-- For the law `closing_before_all_rest`.
use Rattle.std.proofs.Common.{◌≡◌, ℕ, List, [], ◌∷◌, map, drop, refl, arith, All}
use Rattle.std.proofs.lemmas.List.Elements.{All-nil, All-cons}
use Rattle.lb_base.specs.Mask.{has, members_below, members, first_cpus, only, both, either, without}
use Rattle.lb_base.specs.Sets.{least, least_above, is_below, are_apart, mask_where}
use Rattle.lb_base.specs.Weight.{weights, weight_of}
use Rattle.lb_pelt.specs.Decay.{inverses, inverse_at, decayed}
use Rattle.lb_pelt.specs.Signal.{advanced_by, advanced, signal_value}
use Rattle.lb_newidle.specs.Budget.{average_after}
use Rattle.lb_queue.specs.Tasks.{pick_back, somebody_runs, joined, left_by}
use Rattle.lb_queue.specs.Queue.{away}
use Rattle.lb_queue.specs.Commands.{wake, sleep, exit, set_mask, renice}
use Rattle.lb_queue.specs.Hands.{land, take_stop}
use Rattle.lb_queue.specs.Requests.{has_pending, has_owed, next_asked, rotated, tick}
use Rattle.lb_trace.specs.declared.trace.Header.{Header}
use Rattle.lb_core.specs.Stage.{draws, stage_allows}
use Rattle.lb_core.specs.Leaving.{leaving}
use Rattle.lb_core.specs.QueueAfter.{queue_after}
use Rattle.lb_core.specs.CourseAfter.{turn_ends, course_after}
use Rattle.lb_core.specs.Machine.{opening_queue, start, sight}
use Rattle.lb_core.specs.Step.{after}
use Rattle.lb_ticket.specs.Tickets.{Closes, ListsFit, AllQuote, total, times, once}
use Rattle.lb_journal.specs.Journal.{Journal, sight_in, meaning_of_journal}
use Rattle.lb_journal_rows.specs.Lists.{items_from, by_owner}
use Rattle.lb_journal_rows.specs.Missing.{early_closing_history}
use Rattle.lb_journal_rows.proofs.Closed.{fit, not_first, empties, quoted_once}

log : List Journal
log = map (λ d. d.item) (items_from 1 (start early_closing_history.header) early_closing_history.entries)

-- the header of one item, and of two
one : (h : Header) (a : ℕ × Journal) → a.1.header ≡ h → All (λ d. d.1.header ≡ h) (a ∷ [])
one h a e = All-cons (λ (d : ℕ × Journal). d.1.header ≡ h) a [] e (All-nil (λ (d : ℕ × Journal). d.1.header ≡ h))

two : (h : Header) (a b : ℕ × Journal) → a.1.header ≡ h → b.1.header ≡ h → All (λ d. d.1.header ≡ h) (a ∷ b ∷ [])
two h a b e f = All-cons (λ (d : ℕ × Journal). d.1.header ≡ h) a (b ∷ []) e (one h b f)

lists_fit : ListsFit meaning_of_journal log 0 (by_owner early_closing_history)
unfolding
    has members_below members first_cpus only both either without least least_above is_below are_apart mask_where
    weights weight_of inverses inverse_at decayed advanced_by advanced signal_value average_after
    pick_back somebody_runs joined left_by away wake sleep exit set_mask renice
    has_pending has_owed next_asked rotated tick draws stage_allows leaving queue_after turn_ends course_after
    opening_queue start sight after sight_in land take_stop log
lists_fit = (
  record { rises = tt; fits = tt; owned = tt },
  tt,
  (
    record {
      rises = (omega arith, (omega arith, (omega arith, tt)));
      fits = (
        fit _ _ (All-nil _) refl refl refl (λ e. record { course = refl; allowed = refl }) refl refl tt,
        (
          fit _ _ (one _ _ refl) refl refl refl (λ e. not_first _ e) refl refl tt,
          (
            fit _ _ (two _ _ _ refl refl) refl refl refl (λ e. not_first _ e) refl refl tt,
            tt,
          ),
        ),
      );
      owned = (refl, (refl, (refl, tt)));
    },
    ((0, refl, refl), ((2, refl, refl), ((7, refl, refl), tt))),
    (
      record {
        rises = (omega arith, tt);
        fits = (
          fit _ _ (All-nil _) refl refl refl (λ e. record { course = refl; allowed = refl }) refl refl tt,
          tt,
        );
        owned = (refl, tt);
      },
      ((4, refl, refl), tt),
      empties log 14 3 (drop 17 (by_owner early_closing_history)) (
        record {
          rises = (omega arith, tt);
          fits = (
            fit _ _ (All-nil _) refl refl refl (λ e. not_first _ e) refl refl tt,
            tt,
          );
          owned = (refl, tt);
        },
        ((6, refl, refl), tt),
        (
          record {
            rises = (omega arith, (omega arith, (omega arith, tt)));
            fits = (
              fit _ _ (All-nil _) refl refl refl (λ e. not_first _ e) refl refl tt,
              (
                fit _ _ (one _ _ refl) refl refl refl (λ e. not_first _ e) refl refl tt,
                (
                  fit _ _ (two _ _ _ refl refl) refl refl refl (λ e. not_first _ e) refl refl tt,
                  tt,
                ),
              ),
            );
            owned = (refl, (refl, (refl, tt)));
          },
          ((1, refl, refl), ((3, refl, refl), ((5, refl, refl), tt))),
          tt,
        ),
      ),
    ),
  ),
)

quotes : AllQuote meaning_of_journal [] log
unfolding
    has members_below members first_cpus only both either without least least_above is_below are_apart mask_where
    weights weight_of inverses inverse_at decayed advanced_by advanced signal_value average_after
    pick_back somebody_runs joined left_by away wake sleep exit set_mask renice
    has_pending has_owed next_asked rotated tick draws stage_allows leaving queue_after turn_ends course_after
    opening_queue start sight after sight_in land take_stop log
quotes = (
  tt,
  (
    (_, (0, refl, refl), refl, refl),
    (
      (_, (1, refl, refl), refl, refl),
      (
        (_, (2, refl, refl), refl, refl),
        (tt, ((_, (3, refl, refl), refl, refl), ((_, (5, refl, refl), refl, refl), ((_, (6, refl, refl), refl, refl), tt)))),
      ),
    ),
  ),
)

pub closed : Closes meaning_of_journal (by_owner early_closing_history)
unfolding
    has members_below members first_cpus only both either without least least_above is_below are_apart mask_where
    weights weight_of inverses inverse_at decayed advanced_by advanced signal_value average_after
    pick_back somebody_runs joined left_by away wake sleep exit set_mask renice
    has_pending has_owed next_asked rotated tick draws stage_allows leaving queue_after turn_ends course_after
    opening_queue start sight after sight_in land take_stop log
closed = record {
  log = log;
  count = refl;
  each_once = λ x. (let e : total (times x) (by_owner early_closing_history) ≡ once x 8 = omega arith in e);
  lists_fit = lists_fit;
  quotes = quotes;
  quoted_once = λ x some. quoted_once x some (0 ∷ 1 ∷ 2 ∷ 3 ∷ 0 ∷ 4 ∷ 6 ∷ 7 ∷ []) refl;
}
