-- Seats that follow one another, by the numbers of their owners.
-- For `Ended::lead` and `Ended::follow`.
use Rattle.std.proofs.Common.{ℕ, ◌≡◌, ◌<◌, ◌≤◌, List, [], Some, length, zero, suc, map, get_or, set, sym, subst, ap, ◌∙◌, All, arith}
use Rattle.std.specs.Prelude.{slice_get}
use Rattle.std.proofs.lemmas.List.{set-get_or, map-set, get_or-map, get_or-set_same, get_or-set_other, length-map}
use Rattle.std.proofs.lemmas.Option.{slice_get-get_or, slice_get_within, get_or_from_slice_get}
use base.Stored.{Coded}
use Rattle.lb_ticket.specs.declared.item.Drawn.{Drawn}
use Rattle.lb_ticket.specs.Seats.{SeatIs}
use Rattle.lb_journal.specs.Journal.{Journal}
use Rattle.lb_journal.specs.Owners.{InAll, lists_of}
use Rattle.lb_end.specs.Seats.{Followed, Follows, list_at, next_at, spare_at}
use Rattle.lb_end.specs.Closing.{StandsAbove}
use Rattle.lb_end.proofs.Seating.{kept_at}
use Rattle.lb_end.proofs.Keeping.{list_is, lists_kept}

-- a number of each seat
module _ (f : SeatIs Journal → ℕ) (ss : List (SeatIs Journal)) (k : ℕ) (s : SeatIs Journal) (here : slice_get ss k ≡ Some s)
  where
    pub number_is : get_or (map f ss) k 0 ≡ f s
    number_is = get_or-map f ss k s 0 (slice_get_within ss k s here) ∙ ap f (get_or_from_slice_get ss k s s here)

    pub number_now : (s' : SeatIs Journal) → get_or (map f (set ss k s')) k 0 ≡ f s'
    number_now s' =
        ap (λ (l : List ℕ). get_or l k 0) (map-set f ss k s')
        ∙ get_or-set_same (map f ss) k (f s') 0
        (subst (λ (n : ℕ). k < n) (sym (length-map ss f)) (slice_get_within ss k s here))

    pub number_else : (s' : SeatIs Journal) (j : ℕ) → (j ≡ k → ⊥) → get_or (map f (set ss k s')) j 0 ≡ get_or (map f ss) j 0
    number_else s' j other =
        ap (λ (l : List ℕ). get_or l j 0) (map-set f ss k s') ∙ get_or-set_other (map f ss) k j (f s') 0 other

    pub numbers_kept : (s' : SeatIs Journal) → f s' ≡ f s → map f (set ss k s') ≡ map f ss
    numbers_kept s' same =
        map-set f ss k s'
        ∙ (ap (λ (n : ℕ). set (map f ss) k n) (same ∙ sym number_is) ∙ set-get_or (map f ss) k 0)

pub follows : (code : Coded Journal) (a b : ℕ) (ss ss' : List (SeatIs Journal)) → (a ≡ b → ⊥) → Followed code a b ss ss'
    → Follows a b ss ss'
follows code a b ss ss' apart f = subst (Follows a b ss) (sym f.now) (record {
  lists = lists;
  others = λ j other. kept_at ss a f.seat' j other;
  nexts = λ j other. number_else next ss a f.seat f.here f.seat' j other;
  spares = λ j. ap (λ (l : List ℕ). get_or l j 0) (numbers_kept spare ss a f.seat f.here f.seat' f.same.3);
  below =
      subst (All (λ (d : Drawn Journal). d.ticket < next_at now a))
      (sym (list_is ss b f.other f.there) ∙ ap (λ (l : List (List (Drawn Journal))). get_or l b []) (sym lists))
      (subst (λ (n : ℕ). All (λ (d : Drawn Journal). d.ticket < n) f.other.list) (sym nows) f.below);
  later = (
    subst (λ (n : ℕ). n ≤ next_at now a) (sym (number_is next ss a f.seat f.here))
        (subst (λ (n : ℕ). f.seat.next ≤ n) (sym nows) f.later.0),
    subst (λ (n : ℕ). n ≤ next_at now a) (sym (number_is next ss b f.other f.there))
        (subst (λ (n : ℕ). f.other.next ≤ n) (sym nows) f.later.1),
  );
})
  where
    next : SeatIs Journal → ℕ
    next s = s.next

    spare : SeatIs Journal → ℕ
    spare s = s.spare

    now : List (SeatIs Journal)
    now = set ss a f.seat'

    nows : next_at now a ≡ f.seat'.next
    nows = number_now next ss a f.seat f.here f.seat'

    lists : lists_of now ≡ lists_of ss
    lists = lists_kept ss a f.seat f.seat' f.here f.same.2

-- ---- all lists
pub in_all : (P : Drawn Journal → Type 0) (lists : List (List (Drawn Journal))) → ((k : ℕ) → All P (get_or lists k []))
    → InAll P lists
in_all P lists all k d lt =
    subst (All P) (sym (get_or_from_slice_get lists k (get_or lists k []) d (slice_get-get_or lists k [] lt))) (all k)

-- tickets below a number are below a greater one
pub lifted : (n m : ℕ) → n ≤ m → (list : List (Drawn Journal)) → All (λ d. d.ticket < n) list → All (λ d. d.ticket < m) list
lifted n m le list below i d lt = let low = below i d lt in omega (arith, low, le)

-- lane 0's seat stands above all, once the publisher's followed it, and it followed the publisher's and all others
pub stands_above : (s0 s1 s2 s3 : List (SeatIs Journal)) → Follows 0 1 s0 s1 → Follows 1 0 s1 s2
    → lists_of s3 ≡ lists_of s2 → next_at s2 1 ≤ next_at s3 1
    → ((k : ℕ) → 2 ≤ k → All (λ d. d.ticket < next_at s3 1) (list_at s3 k)) → StandsAbove s3
stands_above s0 s1 s2 s3 f g same later above = in_all (λ d. d.ticket < next_at s3 1) (lists_of s3) at
  where
    at : (k : ℕ) → All (λ d. d.ticket < next_at s3 1) (list_at s3 k)
    at zero =
        subst (All (λ (d : Drawn Journal). d.ticket < next_at s3 1))
        (ap (λ (l : List (List (Drawn Journal))). get_or l 0 []) (sym same))
        (lifted (next_at s2 1) (next_at s3 1) later (list_at s2 0) g.below)
    at (suc zero) =
        subst (All (λ (d : Drawn Journal). d.ticket < next_at s3 1))
        (ap (λ (l : List (List (Drawn Journal))). get_or l 1 []) (sym g.lists ∙ sym same))
        (lifted (next_at s1 0) (next_at s3 1) (let up = g.later.1 in omega (arith, up, later)) (list_at s1 1) f.below)
    at (suc (suc k)) = above (suc (suc k)) (omega arith)
