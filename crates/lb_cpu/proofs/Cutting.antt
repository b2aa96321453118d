-- The seats of a new book, cut up by whose they are: the lists, and what is kept of each.
-- For `cut` and `Blank::new`.
use Rattle.std.proofs.Common.{ℕ, ◌≡◌, ◌+◌, ◌≤◌, List, [], ◌∷◌, ◌++◌, take, drop, length, refl, sym, ap, subst, ◌∙◌, arith}
use Rattle.std.proofs.lemmas.List.{take-append-drop, length-append}
use Rattle.atomic_table.specs.Seated.{TableId}
use Rattle.lb_ticket.specs.Seats.{SeatIs, Numbered, AllEmpty}
use Rattle.lb_journal.specs.Journal.{Journal}
use Rattle.lb_cpu.specs.Numbering.{EachFrom}
use Rattle.lb_cpu.specs.Blanks.{IsSeat}
use Rattle.lb_cpu.proofs.Numbering.{each_moved, each_parts, each_as}

-- ---- the lists
only : {A : Type 0} (front : List A) (p : A) → length (front ++ p ∷ []) ≤ 1 → front ++ p ∷ [] ≡ p ∷ []
only [] p h = refl
only (x ∷ front) p h = let l = length-append front (p ∷ []) in absurd (omega arith)

-- a list of one item at most that ends in p, and what was cut off before it
pub put_back : {A : Type 0} (p : A) (all one two three front queues unused lanes : List A) (m : ℕ) → one ≡ take 17 all
    → queues ≡ drop 17 all → two ≡ take m one → unused ≡ drop m one → three ≡ take 1 two → lanes ≡ drop 1 two
    → three ≡ front ++ p ∷ [] → length three ≤ 1 → all ≡ p ∷ lanes ++ unused ++ queues
put_back {A = A} p all one two three front queues unused lanes m e1 eq e2 eu e3 el ep short =
    let e : three ≡ p ∷ [] = ep ∙ only front p (subst (λ (l : List A). length l ≤ 1) ep short) in
    let two_is : p ∷ lanes ≡ two =
    ap (λ (l : List A). l ++ lanes) (sym e ∙ e3) ∙ ap (λ (l : List A). take 1 two ++ l) el ∙ take-append-drop 1 two in
    let one_is : two ++ unused ≡ one =
    ap (λ (l : List A). l ++ unused) e2 ∙ ap (λ (l : List A). take m one ++ l) eu ∙ take-append-drop m one in
    let all_is : one ++ queues ≡ all =
    ap (λ (l : List A). l ++ queues) e1 ∙ ap (λ (l : List A). take 17 all ++ l) eq ∙ take-append-drop 17 all in
    sym all_is ∙ ap (λ (l : List A). l ++ queues) (sym one_is)
    ∙ ap (λ (l : List A). (l ++ unused) ++ queues) (sym two_is)

-- ---- what is kept of each
abbrev All0 : TableId → ℕ → List (SeatIs Journal) → Type 0
All0 t k ss = EachFrom (IsSeat t 0) k ss

new_seats : (t : TableId) (k : ℕ) (ss : List (SeatIs Journal)) → Numbered t k ss → AllEmpty ss → All0 t k ss
new_seats t k [] n e = tt
new_seats t k (s ∷ ss) n e = (
  record { table = n.0; number = (let x = n.1 in omega arith); list = e.0 },
  new_seats t (k + 1) ss n.2 e.5,
)

counted : (t : TableId) (b n : ℕ) (s : SeatIs Journal) → IsSeat t 0 (b + n) s → IsSeat t b n s
counted t b n s h = record { table = h.table; number = (let x = h.number in omega arith); list = h.list }

-- the seats from the number b on
from : (t : TableId) (b k : ℕ) (ss : List (SeatIs Journal)) → k ≡ b + 0 → All0 t k ss → EachFrom (IsSeat t b) 0 ss
from t b k ss e h =
    each_as (IsSeat t 0) (IsSeat t b) b 0 ss (λ n s x. counted t b n s x) (each_moved (IsSeat t 0) k (b + 0) ss e h)

-- ---- of the seats as they are made
renumbered : (t : TableId) (j k : ℕ) (ss : List (SeatIs Journal)) → j ≡ k → Numbered t j ss → Numbered t k ss
renumbered t j k ss e h = subst (λ (n : ℕ). Numbered t n ss) e h

pub numbered_parts : (t : TableId) (k : ℕ) (xs ys : List (SeatIs Journal)) → Numbered t k (xs ++ ys)
    → Numbered t k xs × Numbered t (k + length xs) ys
numbered_parts t k [] ys h = (tt, renumbered t k (k + 0) ys (omega arith) h)
numbered_parts t k (x ∷ xs) ys h =
    let parts = numbered_parts t (k + 1) xs ys h.2 in
    ((h.0, h.1, parts.0), renumbered t (k + 1 + length xs) (k + length (x ∷ xs)) ys (omega arith) parts.1)

empty_front : (xs ys : List (SeatIs Journal)) → AllEmpty (xs ++ ys) → AllEmpty xs
empty_front [] ys h = tt
empty_front (x ∷ xs) ys h = (h.0, h.1, h.2, h.3, h.4, empty_front xs ys h.5)

empty_rest : (xs ys : List (SeatIs Journal)) → AllEmpty (xs ++ ys) → AllEmpty ys
empty_rest [] ys h = h
empty_rest (x ∷ xs) ys h = empty_rest xs ys h.5

pub record CutUp (t : TableId) (lanes : ℕ) (p : SeatIs Journal) (ls us qs : List (SeatIs Journal)) : Type 0 where
  pub publisher : IsSeat t 0 0 p
  pub of_lanes : EachFrom (IsSeat t 1) 0 ls
  pub numbered : Numbered t (lanes + 1) us
  pub empty : AllEmpty us
  pub queues : EachFrom (IsSeat t 17) 0 qs

pub cut_up : (t : TableId) (lanes : ℕ) (all : List (SeatIs Journal)) (p : SeatIs Journal) (ls us qs : List (SeatIs Journal))
    → Numbered t 0 all → AllEmpty all → all ≡ p ∷ ls ++ us ++ qs → length ls ≡ lanes → lanes + length us ≡ 16
    → CutUp t lanes p ls us qs
cut_up t lanes all p ls us qs n e cut l u =
    let whole = subst (λ (ss : List (SeatIs Journal)). All0 t 0 ss) cut (new_seats t 0 all n e) in
    let parts = each_parts (IsSeat t 0) (0 + 1) (ls ++ us) qs whole.1 in
    let front = each_parts (IsSeat t 0) (0 + 1) ls us parts.0 in
    let both = length-append ls us in
    let numbers = subst (λ (ss : List (SeatIs Journal)). Numbered t 0 ss) cut n in
    let empties = subst (λ (ss : List (SeatIs Journal)). AllEmpty ss) cut e in
    record {
      publisher = whole.0;
      of_lanes = from t 1 (0 + 1) ls (omega arith) front.0;
      numbered =
          renumbered t (0 + 1 + length ls) (lanes + 1) us (omega arith)
          (numbered_parts t (0 + 1) ls us (numbered_parts t (0 + 1) (ls ++ us) qs numbers.2).0).1;
      empty = empty_rest ls us (empty_front (ls ++ us) qs empties.5);
      queues = from t 17 (0 + 1 + length (ls ++ us)) qs (omega arith) parts.1;
    }
