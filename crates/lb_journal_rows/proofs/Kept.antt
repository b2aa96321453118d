-- The seats of the run of three entries keep all that is asked of owners.
-- For the law `owners_can_keep`.
use Rattle.std.proofs.Common.{◌≡◌, ℕ, zero, suc, ◌<◌, ◌≤◌, false, Some, List, [], ◌∷◌, ◌++◌, refl, subst, arith, inl, inr, All}
use Rattle.std.specs.Prelude.{slice_get}
use Rattle.std.proofs.lemmas.List.Elements.{All-nil, All-cons, All-append, All-map}
use Rattle.std.proofs.lemmas.Option.{get_or_from_slice_get}
use Rattle.std.specs.List.{slice_index_or, range_with_len}
use base.Stored.{Coded}
use Rattle.atomic_table.specs.Seated.{TableId}
use Rattle.lb_base.specs.Mask.{has, members_below, members}
use Rattle.lb_base.specs.Sets.{least, mask_where}
use Rattle.lb_pelt.specs.Signal.{advanced_by, advanced}
use Rattle.lb_newidle.specs.Budget.{average_after}
use Rattle.lb_queue.specs.Tasks.{pick_back, somebody_runs, joined, left_by}
use Rattle.lb_queue.specs.Queue.{away}
use Rattle.lb_queue.specs.Commands.{wake}
use Rattle.lb_queue.specs.Requests.{has_pending, has_owed, next_asked}
use Rattle.lb_core.specs.declared.entry.Owner.TheVariants.{Lane}
use Rattle.lb_core.specs.OfTrace.{of_lane}
use Rattle.lb_core.specs.Stage.{draws, stage_allows}
use Rattle.lb_core.specs.Leaving.{leaving}
use Rattle.lb_core.specs.QueueAfter.{queue_after}
use Rattle.lb_core.specs.CourseAfter.{turn_ends, course_after}
use Rattle.lb_core.specs.Machine.{opening_queue}
use Rattle.lb_ticket.specs.declared.item.Drawn.{Drawn}
use Rattle.lb_ticket.specs.Seats.{SeatIs}
use Rattle.lb_journal.specs.Journal.{Journal, Left, number_of, sight_in}
use Rattle.lb_journal.specs.Known.{KnowsRest}
use Rattle.lb_journal.specs.Merge.{ClosesBy, closing_out, is_end, pending_before, unserved_before}
use Rattle.lb_journal.specs.Owners.{InAll, UsesVersion, ReadsAll, ReadsFigure, ClosesAs, own_rows, lists_of, KeptByOwners}
use Rattle.lb_journal_rows.specs.Seats.{woken_header, woken_trace, row_item, answer_item, end_item, drawn, seat, last, end_seat, lane_seat, queue_seat, idle_seats, other_seats, seats}

module _ (id : TableId) (code : Coded Journal) (left : Coded Left) where
  empties : (P : SeatIs Journal → Type 0) (rest : List (SeatIs Journal)) → ((n : ℕ) → P (seat id left n [] [])) →
      All P rest →
      All P (idle_seats id left ++ rest)
  empties P rest e all =
      All-append P (idle_seats id left) rest
      (All-map P (λ (n : ℕ). seat id left n [] []) (range_with_len 3 14) (λ k n lt. e (slice_index_or (range_with_len 3 14) k n)))
      all

  one : (P : Drawn Journal → Type 0) (d : Drawn Journal) → P d → All P (d ∷ [])
  one P d p = All-cons P d [] p (All-nil P)

  -- it holds of each item of each seat
  each : (P : SeatIs Journal → Drawn Journal → Type 0) → P (end_seat id left) (drawn 3 end_item) →
      P (lane_seat id left) (drawn 1 row_item) → P (queue_seat id left) (drawn 2 answer_item) →
      All (λ s. All (P s) s.list) (seats id left)
  each P c a b =
      let Q : SeatIs Journal → Type 0 = λ s. All (P s) s.list in
      let queue : All Q ((queue_seat id left) ∷ []) =
      All-cons Q (queue_seat id left) [] (one (P (queue_seat id left)) (drawn 2 answer_item) b) (All-nil Q) in
      let rest : All Q (other_seats id left) =
      empties Q ((queue_seat id left) ∷ []) (λ n. All-nil (P (seat id left n [] []))) queue in
      All-cons Q (seat id left 0 [] []) ((end_seat id left) ∷ (lane_seat id left) ∷ (other_seats id left))
      (All-nil (P (seat id left 0 [] [])))
      (All-cons Q (end_seat id left) ((lane_seat id left) ∷ (other_seats id left))
      (one (P (end_seat id left)) (drawn 3 end_item) c)
      (All-cons Q (lane_seat id left) (other_seats id left) (one (P (lane_seat id left)) (drawn 1 row_item) a)
      rest))

  in_lists : (P : Drawn Journal → Type 0) → P (drawn 3 end_item) → P (drawn 1 row_item) → P (drawn 2 answer_item) →
      InAll P (lists_of (seats id left))
  in_lists P c a b = All-map (λ ds. All P ds) (λ (s : SeatIs Journal). s.list) (seats id left) (each (λ s d. P d) c a b)

  rows_of : (lane : ℕ) → lane < 2 → own_rows (lists_of (seats id left)) lane ≡ of_lane lane woken_trace.rows
  unfolding
      has members_below members least mask_where advanced_by advanced average_after pick_back somebody_runs joined
      left_by
      away wake has_pending has_owed next_asked draws stage_allows leaving queue_after turn_ends course_after
      opening_queue sight_in pending_before unserved_before
  rows_of zero lt = refl
  rows_of (suc zero) lt = refl
  rows_of (suc (suc l)) lt = absurd (omega arith)

  rest_of : (lane : ℕ) (s : SeatIs Journal) → 1 ≤ lane → lane < 2 →
      slice_get (seats id left) (number_of (Lane lane)) ≡ Some s → (s.list ≡ [] → ⊥) →
      KnowsRest left (s.fresh ++ s.known) lane
  unfolding
      has members_below members least mask_where advanced_by advanced average_after pick_back somebody_runs joined
      left_by
      away wake has_pending has_owed next_asked draws stage_allows leaving queue_after turn_ends course_after
      opening_queue sight_in pending_before unserved_before
  rest_of zero s above low e ne = absurd (omega arith)
  rest_of (suc zero) s above low e ne =
      subst (λ (x : SeatIs Journal). KnowsRest left (x.fresh ++ x.known) 1)
      (get_or_from_slice_get (seats id left) 2 s s e)
      (record {
        fact = last id left;
        there = inl refl;
        lane_is = refl;
        course = answer_item.after;
        left = refl;
        rest = refl;
      })
  rest_of (suc (suc l)) s above low e ne = absurd (omega arith)

  pub kept : KeptByOwners woken_trace code left (seats id left) 2
  unfolding
      has members_below members least mask_where advanced_by advanced average_after pick_back somebody_runs joined
      left_by
      away wake has_pending has_owed next_asked draws stage_allows leaving queue_after turn_ends course_after
      opening_queue sight_in pending_before unserved_before
  kept = record {
    headers = each (λ s d. d.item.header ≡ woken_header) refl refl refl;
    rows = rows_of;
    uses = each (λ s d. UsesVersion woken_header code s.read d.ticket d.item d.item.entry.what) tt tt tt;
    rest = rest_of;
    figures =
        each (λ s d. ReadsAll woken_header (lists_of (seats id left)) d)
        (All-nil (ReadsFigure woken_header (lists_of (seats id left)) 3))
        (All-nil (ReadsFigure woken_header (lists_of (seats id left)) 1))
        (All-nil (ReadsFigure woken_header (lists_of (seats id left)) 2));
    closing = record {
      so_far = record {
        open_before =
            in_lists (λ d. d.ticket ≤ 2 → (closing_out d.item ≡ false) × (is_end d.item.entry.what ≡ false))
            (λ le. absurd (omega arith)) (λ le. (refl, refl)) (λ le. (refl, refl));
        closing_after =
            in_lists (λ d. 2 < d.ticket → ClosesAs (lists_of (seats id left)) d.item) (λ lt. inr (inl refl))
            (λ lt. absurd (omega arith)) (λ lt. absurd (omega arith));
        begins =
            in_lists
            (λ d.
            2 < d.ticket → d.item.entry.prev ≡ 0 →
            All (λ e. d.ticket ≤ e.ticket) (slice_index_or (lists_of (seats id left)) 1 [])
            × InAll (λ e. 2 < e.ticket → d.ticket ≤ e.ticket) (lists_of (seats id left)))
            (λ lt z. (
              one (λ e. 3 ≤ e.ticket) (drawn 3 end_item) (omega arith),
              in_lists (λ e. 2 < e.ticket → 3 ≤ e.ticket) (λ l. omega arith) (λ l. absurd (omega arith))
                  (λ l. absurd (omega arith)),
            ))
            (λ lt. absurd (omega arith)) (λ lt. absurd (omega arith));
        closes =
            in_lists
            (λ d.
            2 < d.ticket →
            ClosesBy woken_header (lists_of (seats id left)) d.ticket d.item.entry.what d.item.entry.owner)
            (λ lt. (refl, refl)) (λ lt. absurd (omega arith)) (λ lt. absurd (omega arith));
      };
      ends = refl;
    };
  }
