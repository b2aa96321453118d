-- One item more of a list, an item that it lacks, and how many tasks a pull sees.
-- For `picks_of`, `views_of` and `counters_of`.
use Rattle.std.proofs.Common.{ℕ, zero, suc, add-one, ◌≡◌, ◌+◌, List, [], ◌∷◌, ◌++◌, Some, None, slice_get, get_or, length, take, refl, sym, ◌∙◌, ap}
use Rattle.std.proofs.lemmas.List.{length-map}
use Rattle.lb_queue.specs.Queue.{QueueState, clock_at}
use Rattle.lb_queue.specs.Values.{views, view_at}

pub take_get : {X : Type 0} (xs : List X) (i : ℕ) (x : X) → slice_get xs i ≡ Some x → take (i + 1) xs ≡ take i xs ++ x ∷ []
take_get [] i x h = absurd (let y : ⊥ = cc in y)
take_get (y ∷ xs) zero x h = let e : y ≡ x = cc in rw e refl
take_get (y ∷ xs) (suc i) x h =
    rw add-one (ap (λ (l : List _). y ∷ l) (sym (ap (λ (k : ℕ). take k xs) (add-one i)) ∙ take_get xs i x h))

pub get_none : {X : Type 0} (xs : List X) (i : ℕ) (d : X) → slice_get xs i ≡ None → get_or xs i d ≡ d
get_none [] i d h = refl
get_none (x ∷ xs) zero d h = absurd (let y : ⊥ = cc in y)
get_none (x ∷ xs) (suc i) d h = get_none xs i d h

pub views_length : (q : QueueState) (at : ℕ) → length (views q at) ≡ length q.awake
unfolding views
views_length q at = length-map q.awake (view_at (clock_at q at))
