-- The items of an owner in a front of the log, as the log goes on, and what is read off them.
-- For the lemmas of `Agreement`, `Bridge` and other files, and so for the laws `merge_is_run`, `closes_now` and
-- others.
use Rattle.std.proofs.Common.{◌≡◌, ℕ, zero, suc, ◌+◌, ◌<◌, ◌≤◌, Bool, true, false, cond, eqb, List, [], ◌∷◌, ◌++◌, length, get_or, map, take, refl, ◌∙◌, ap, arith, append-nil}
use Rattle.std.proofs.lemmas.List.{map-append, length-map, get_or_append_left, take-append-le}
use Rattle.lb_queue.specs.Queue.{QueueState}
use Rattle.lb_queue.specs.Figures.{figure}
use Rattle.lb_trace.specs.declared.trace.Header.{Header}
use Rattle.lb_core.specs.declared.entry.Owner.{Owner}
use Rattle.lb_core.specs.declared.entry.Owner.TheVariants.{Publisher, Lane, Queue}
use Rattle.lb_core.specs.Machine.{opening_queue}
use Rattle.lb_journal.specs.Journal.{Journal, number_of, queue_by_item, replay_from, replay, meaning_of_journal}
use Rattle.lb_journal.specs.Merge.{figure_after, parts_of, versions_of}
use Rattle.lb_ticket.proofs.Logs.{owned_from, owned-append}
use Rattle.lb_journal.proofs.Good.{items_of}

-- what an item adds to the items of an owner
abbrev pub added : ℕ → ℕ → Journal → List (ℕ × Journal)
added k t j = cond (eqb (number_of j.entry.owner) k) ((t, j) ∷ []) []

pub items_snoc : (k : ℕ) (pre : List Journal) (j : Journal) →
    items_of k (pre ++ j ∷ []) ≡ items_of k pre ++ added k (1 + length pre) j
items_snoc k pre j = owned-append meaning_of_journal k 1 pre (j ∷ [])

-- the later items of the owner
abbrev pub later_items : ℕ → List Journal → List Journal → List (ℕ × Journal)
later_items k pre rest = owned_from meaning_of_journal k (1 + length pre) rest

pub items_front : (k : ℕ) (pre rest : List Journal) →
    items_of k (pre ++ rest) ≡ items_of k pre ++ later_items k pre rest
items_front k pre rest = owned-append meaning_of_journal k 1 pre rest

pub added_other : (k t : ℕ) (j : Journal) (xs : List (ℕ × Journal)) → eqb (number_of j.entry.owner) k ≡ false →
    xs ++ added k t j ≡ xs
added_other k t j xs e = ap (λ (b : Bool). xs ++ cond b ((t, j) ∷ []) []) e ∙ append-nil xs

pub added_own : (k t : ℕ) (j : Journal) (xs : List (ℕ × Journal)) → eqb (number_of j.entry.owner) k ≡ true →
    xs ++ added k t j ≡ xs ++ (t, j) ∷ []
added_own k t j xs e = ap (λ (b : Bool). xs ++ cond b ((t, j) ∷ []) []) e

-- a queue after one more item
replay_from_snoc : (n : ℕ) (q : QueueState) (ds : List (ℕ × Journal)) (t : ℕ) (j : Journal) →
    replay_from n q (ds ++ (t, j) ∷ []) ≡ queue_by_item (replay_from n q ds) (n + length ds) j
replay_from_snoc n q [] t j = ap (λ (x : ℕ). queue_by_item q x j) (omega arith)
replay_from_snoc n q (d ∷ ds) t j =
    replay_from_snoc (n + 1) (queue_by_item q n d.1) ds t j
    ∙ ap (λ (x : ℕ). queue_by_item (replay_from (n + 1) (queue_by_item q n d.1) ds) x j) (omega arith)

pub replay_snoc : (h : Header) (cpu : ℕ) (ds : List (ℕ × Journal)) (t : ℕ) (j : Journal) →
    replay h cpu (ds ++ (t, j) ∷ []) ≡ queue_by_item (replay h cpu ds) (length ds) j
replay_snoc h cpu ds t j =
    replay_from_snoc 0 (opening_queue h cpu) ds t j ∙ ap (λ (x : ℕ). queue_by_item (replay h cpu ds) x j) (omega arith)

-- the figure of an entry stays
pub figure_front : (h : Header) (cpu : ℕ) (xs ys : List (ℕ × Journal)) (n : ℕ) → n ≤ length xs →
    figure_after h cpu (xs ++ ys) n ≡ figure_after h cpu xs n
figure_front h cpu xs ys zero le = refl
figure_front h cpu xs ys (suc n) le =
    let t : take (suc n) (xs ++ ys) ≡ take (suc n) xs = take-append-le (suc n) xs ys le in
    let s : get_or (map (λ (d : ℕ × Journal). d.0) (xs ++ ys)) n 0 ≡ get_or (map (λ (d : ℕ × Journal). d.0) xs) n 0 =
    ap (λ (l : List ℕ). get_or l n 0) (map-append (λ (d : ℕ × Journal). d.0) xs ys)
    ∙ get_or_append_left (map (λ (d : ℕ × Journal). d.0) xs) (map (λ (d : ℕ × Journal). d.0) ys) 0 n
    (let l = length-map xs (λ (d : ℕ × Journal). d.0) in omega arith) in
    λ i. figure (replay h cpu (t i)) (suc n) (s i)

-- ---- the versions
pub versions_length : (h : Header) (ds : List (ℕ × Journal)) → length (versions_of h ds) ≡ length ds + 1
versions_length h ds = let l = length-map ds (λ (d : ℕ × Journal). parts_of d.1.course.command) in omega arith

pub versions_front : (h : Header) (xs ys : List (ℕ × Journal)) (n : ℕ) → n < length (versions_of h xs) →
    get_or (versions_of h (xs ++ ys)) n [] ≡ get_or (versions_of h xs) n []
versions_front h xs ys n lt =
    let f : ℕ × Journal → _ = λ (d : ℕ × Journal). parts_of d.1.course.command in
    ap (λ (l : List _). get_or (h.parts ∷ l) n []) (map-append f xs ys)
    ∙ get_or_append_left (h.parts ∷ map f xs) (map f ys) [] n lt

-- ---- numbers of owners
pub queue_number : (o : Owner) (cpu : ℕ) → ((l : ℕ) → o ≡ Lane l → l < 16) → number_of o ≡ number_of (Queue cpu) →
    o ≡ Queue cpu
queue_number Publisher cpu small e = absurd (omega arith)
queue_number (Lane l) cpu small e = absurd (let k = small l refl in omega arith)
queue_number (Queue u) cpu small e = ap Queue (omega arith)

pub publisher_number : (o : Owner) → number_of o ≡ 0 → o ≡ Publisher
publisher_number Publisher e = refl
publisher_number (Lane l) e = absurd (omega arith)
publisher_number (Queue u) e = absurd (omega arith)
