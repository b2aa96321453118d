-- What a sight is after one of its holders has looked; a writer's cell; a figure more.
-- For `gather`, `Reader::told`, `Reader::read` and others.
use Rattle.std.proofs.Common.{◌≡◌, ℕ, zero, suc, ◌+◌, ◌<◌, ◌≤◌, List, [], ◌∷◌, ◌++◌, length, map, take, drop, set, get_or, slice_get, Some, refl, sym, subst, ◌∙◌, ap, arith, length-append}
use Rattle.std.proofs.lemmas.List.{get_or-map, map-set, get_or-set_same, length-map, append-nil, take_all}
use Rattle.std.proofs.Math.Seq.{map-set_same}
use Rattle.std.proofs.lemmas.Option.{get_or_from_slice_get, slice_get_within}
use mathlib.Core.List.{IsPrefix}
use mathlib.Core.Logic.{dite}
use native.Mathlib.Decide.{ℕ_discrete}
use Rattle.lb_base.specs.declared.figure.Fig.{Fig}
use Rattle.lb_board.specs.Board.{Ends, Holder, Sight, cell_of, seen_by, sight_of, see, seen_at, WriterIs, Witnesses}

-- at one place of two lists with the same images stand items of the same image
pub same_get : {A B C : Type 0} (xs : List A) (ys : List B) (f : A → C) (g : B → C) (i : ℕ) (d : A) (y : B)
    → map f xs ≡ map g ys → i < length ys → y ≡ get_or ys i y → f (get_or xs i d) ≡ g y
same_get xs ys f g i d y e lt hy =
    let len : length xs ≡ length ys = sym (length-map xs f) ∙ (ap length e ∙ length-map ys g) in
    sym (get_or-map f xs i d (g y) (subst (λ n. i < n) (sym len) lt))
    ∙ (ap (λ l. get_or l i (g y)) e ∙ (get_or-map g ys i y (g y) lt ∙ ap g (sym hy)))

pub image_at : {A C : Type 0} (xs : List A) (f : A → C) (i : ℕ) (x : A) (c : C) → slice_get (map f xs) i ≡ Some c
    → x ≡ get_or xs i x → c ≡ f x
image_at xs f i x c e hx =
    let lt : i < length xs = subst (λ n. i < n) (length-map xs f) (slice_get_within (map f xs) i c e) in
    sym (get_or_from_slice_get (map f xs) i c (f x) e) ∙ (get_or-map f xs i x (f x) lt ∙ ap f (sym hx))

pub within : {A C : Type 0} (xs : List A) (f : A → C) (ys : List C) (i : ℕ) → map f xs ≡ ys → i < length ys → i < length xs
within xs f ys i e lt = subst (λ n. i < n) (sym (ap length e) ∙ length-map xs f) lt

module _ (s : Sight) (ps : List Holder) (i : ℕ) (p q : Holder) (is : s ≡ sight_of ps) (lt : i < length ps)
    (at : p ≡ get_or ps i p) where
  pub seen_now : seen_at (sight_of (set ps i q)) i ≡ seen_by q
  seen_now = ap (λ l. get_or l i []) (map-set seen_by ps i q)
      ∙ get_or-set_same (map seen_by ps) i (seen_by q) [] (subst (λ n. i < n) (sym (length-map ps seen_by)) lt)

  pub seen_was : seen_at s i ≡ seen_by p
  seen_was = ap (λ t. seen_at t i) is ∙ (get_or-map seen_by ps i p [] lt ∙ ap seen_by (sym at))

  pub saw : cell_of q ≡ cell_of p → sight_of (set ps i q) ≡ see s i (seen_at (sight_of (set ps i q)) i)
  saw same =
      let cells : map cell_of (set ps i q) ≡ s.cells = map-set_same cell_of ps i q p (same ∙ ap cell_of at)
      ∙ sym (ap (λ t. t.cells) is) in
      let seen : map seen_by (set ps i q) ≡ set s.seen i (seen_at (sight_of (set ps i q)) i) =
      map-set seen_by ps i q ∙ (ap (λ l. set l i (seen_by q)) (sym (ap (λ t. t.seen) is))
      ∙ ap (λ x. set s.seen i x) (sym seen_now)) in
      λ k. record { cells = cells k; seen = seen k }

  pub saw_later : IsPrefix (seen_by p) (seen_by q) → IsPrefix (seen_at s i) (seen_at (sight_of (set ps i q)) i)
  saw_later h = subst (λ l. IsPrefix l (seen_at (sight_of (set ps i q)) i)) (sym seen_was)
      (subst (λ l. IsPrefix (seen_by p) l) (sym seen_now) h)

  pub saw_told : (xs : List Fig) → IsPrefix xs (seen_by q) → IsPrefix xs (seen_at (sight_of (set ps i q)) i)
  saw_told xs h = subst (λ l. IsPrefix xs l) (sym seen_now) h

  pub saw_figure : (fig : Fig) → Ends fig (seen_by q) → Ends fig (seen_at (sight_of (set ps i q)) i)
  saw_figure fig h = subst (Ends fig) (sym seen_now) h

last_is : (xs : List Fig) (x : Fig) → slice_get (xs ++ x ∷ []) (length xs) ≡ Some x
last_is [] x = refl
last_is (y ∷ ys) x = last_is ys x

pub ends_more : (xs : List Fig) (x : Fig) → x.n ≡ length xs → Ends x (xs ++ x ∷ [])
ends_more xs x e = (ap (λ n. slice_get (xs ++ x ∷ []) n) e ∙ last_is xs x, length-append xs (x ∷ []) ∙ ap (λ n. n + 1) (sym e))

-- ---- one holder after the other
pub within_both : {A B C : Type 0} (xs : List A) (f : A → C) (ys : List B) (g : B → C) (i : ℕ) → map f xs ≡ map g ys
    → i < length ys → i < length xs
within_both xs f ys g i e lt = within xs f (map g ys) i e (subst (λ n. i < n) (sym (length-map ys g)) lt)

pub set_back : {A : Type 0} (xs : List A) (i : ℕ) (x d : A) → x ≡ get_or xs i d → set xs i x ≡ xs
set_back [] i x d e = refl
set_back (y ∷ ys) zero x d e = λ k. e k ∷ ys
set_back (y ∷ ys) (suc i) x d e = ap (λ l. y ∷ l) (set_back ys i x d e)

pub sight_same : (ps : List Holder) (i : ℕ) (p q : Holder) → p ≡ get_or ps i p → cell_of q ≡ cell_of p
    → seen_by q ≡ seen_by p → sight_of (set ps i q) ≡ sight_of ps
sight_same ps i p q at cell seen =
    let cells : map cell_of (set ps i q) ≡ map cell_of ps = map-set_same cell_of ps i q p (cell ∙ ap cell_of at) in
    let figures : map seen_by (set ps i q) ≡ map seen_by ps = map-set_same seen_by ps i q p (seen ∙ ap seen_by at) in
    λ k. record { cells = cells k; seen = figures k }

pub witness_more : (n : ℕ) (ws : List WriterIs) (s : Sight) (d : WriterIs) → Witnesses n ws s
    → IsPrefix (seen_at s n) (get_or ws n d).figures → Witnesses (n + 1) ws s
witness_more n ws s d old here k w lt at =
    dite (ℕ_discrete k n)
    (λ (e : k ≡ n). let is : get_or ws n d ≡ w = get_or_from_slice_get ws n w d
    (subst (λ (i : ℕ). slice_get ws i ≡ Some w) e at) in
    subst (λ (i : ℕ). IsPrefix (seen_at s i) w.figures) (sym e)
    (subst (λ (v : WriterIs). IsPrefix (seen_at s n) v.figures) is here))
    (λ ne. old k w (omega (arith, ne)) at)

pub any_default : {A : Type 0} (xs : List A) (i : ℕ) (d e : A) → i < length xs → get_or xs i d ≡ get_or xs i e
any_default [] i d e lt = absurd (omega arith)
any_default (x ∷ xs) zero d e lt = refl
any_default (x ∷ xs) (suc i) d e lt = any_default xs i d e (omega arith)

gone : {A : Type 0} (xs : List A) → drop (length xs) xs ≡ []
gone [] = refl
gone (x ∷ xs) = gone xs

pub put_back : {A : Type 0} (items xs : List A) (n : ℕ) → xs ≡ items → length items ≤ n
    → take n (xs ++ drop (length xs) items) ≡ items
put_back items xs n e le = subst (λ ys. take n (ys ++ drop (length ys) items) ≡ items) (sym e)
    (ap (λ l. take n (items ++ l)) (gone items) ∙ (ap (take n) (append-nil items) ∙ take_all n items le))
