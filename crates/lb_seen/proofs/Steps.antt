-- Each step of a holder keeps the rule: for crates that put a shared value under it.
-- For `lb_board`.
use Rattle.std.proofs.Common.{◌≡◌, ◌≢◌, ℕ, true, zero, suc, List, [], ◌∷◌, ◌++◌, refl, sym, subst, ⊎_elim, ◌∙◌, set}
use mathlib.Core.List.{IsPrefix, prefix-append}
use mathlib.Core.Option.{some, some-injective, some-ne-none}
use lib.ListN.{get_elem?}
use Rattle.atomic_table.proofs.Lists.{at_set, at_snoc, set_again, set_else}
use Rattle.crossbeam_utils.specs.Register.{Turns, Forks, Merges}
use Rattle.lb_seen.specs.declared.view.View.{View}
use Rattle.lb_seen.specs.Seen.{reader, writer, informed, Fits, Kept, Looks, Adds}
use Rattle.lb_seen.proofs.Beginnings.{prefix_self, prefix_trans}

module _ {A : Type 0} where
  nothing : (log : List A) → IsPrefix [] log
  nothing log = (log, refl)

  reads : (seat : ℕ) (log xs : List A) (by : ℕ) → IsPrefix xs log → Fits seat log by (reader xs)
  reads seat log xs by p = (p, nothing log, (λ e. absurd (cc e)))

  -- all views fit, also the one that is put at a place
  fits_set : (seat : ℕ) (log : List A) (views : List (View A)) (i : ℕ) (v : View A)
      → ((j : ℕ) (u : View A) → get_elem? views j ≡ some u → Fits seat log j u) → Fits seat log i v
      → (j : ℕ) (u : View A) → get_elem? (set views i v) j ≡ some u → Fits seat log j u
  fits_set seat log views i v all here j u e =
      ⊎_elim (λ (t : (j ≡ i) × (v ≡ u)). subst (λ (k : ℕ). Fits seat log k u) (sym t.0)
      (subst (Fits seat log i) t.1 here)) (λ (t : (j ≢ i) × (get_elem? views j ≡ some u)). all j u t.1)
      (at_set views i j v u e)

  pub begins : {T : Type 0} (ends : T → List A → Type 0) (x : T) (xs : List A) → ends x xs → Kept ends x (writer xs ∷ [])
  begins ends x xs h = (0, xs, h, (λ j u e. at j u e))
    where
      at : (j : ℕ) (u : View A) → get_elem? (writer xs ∷ []) j ≡ some u → Fits 0 xs j u
      at zero u e = let is : writer xs ≡ u = some-injective (writer xs) u e in
          subst (Fits 0 xs 0) is (prefix_self xs, nothing xs, (λ _. (refl, refl)))
      at (suc j) u e = absurd (some-ne-none u (sym e))

  pub looks : {T : Type 0} (ends : T → List A → Type 0) (i : ℕ) (v : View A) → Turns (Kept ends) i v (λ x. x) (Looks ends)
  looks ends i v x views h at =
      let seat : ℕ = h.0 in let log : List A = h.1 in let f : Fits seat log i v = h.3 i v at in
      let w : View A = record { writes = v.writes; seen = log; told = [] } in (
        w,
        (seat, log, h.2, fits_set seat log views i w h.3 (prefix_self log, nothing log, (λ e. ((f.2 e).0, refl)))),
        (refl, f.0, f.1, h.2, (λ e. sym (f.2 e).1)),
      )

  pub adds : {T : Type 0} (ends : T → List A → Type 0) (item : T → A) (i : ℕ) (v : View A) (y : T) → v.writes ≡ true
      → ends y (v.seen ++ item y ∷ [])
      → Turns (Kept ends) i v (λ _. y) (Adds item)
  adds ends item i v y writes e x views h at =
      let seat : ℕ = h.0 in let log : List A = h.1 in let f : Fits seat log i v = h.3 i v at in
      let seen : v.seen ≡ log = (f.2 writes).1 in let mine : i ≡ seat = (f.2 writes).0 in
      let now : List A = v.seen ++ item y ∷ [] in
      let longer : IsPrefix log now = subst (λ (l : List A). IsPrefix l now) seen (prefix-append v.seen (item y ∷ [])) in
      let w : View A = writer now in
      let all : (j : ℕ) (u : View A) → get_elem? (set views i w) j ≡ some u → Fits seat now j u = λ j u at'.
      ⊎_elim (λ (t : (j ≡ i) × (w ≡ u)). subst (λ (k : ℕ). Fits seat now k u) (sym t.0)
      (subst (Fits seat now i) t.1 (prefix_self now, nothing now, (λ _. (mine, refl)))))
      (λ (t : (j ≢ i) × (get_elem? views j ≡ some u)). let g : Fits seat log j u = h.3 j u t.1 in (
        prefix_trans u.seen log now g.0 longer,
        prefix_trans u.told log now g.1 longer,
        (λ q. absurd (t.0 ((g.2 q).0 ∙ sym mine))),
      ))
      (at_set views i j w u at') in
      (w, (seat, now, e, all), refl)

  pub forks : {T : Type 0} (ends : T → List A → Type 0) (i : ℕ) (v : View A) → Forks (Kept ends) i v v (reader v.seen)
  forks ends i v x views h at =
      let seat : ℕ = h.0 in let log : List A = h.1 in (
        seat,
        log,
        h.2,
        (λ j u e. ⊎_elim (λ (was : get_elem? (set views i v) j ≡ some u). h.3 j u
            (subst (λ (l : List (View A)). get_elem? l j ≡ some u) (set_again views i v at) was))
            (λ (same : reader v.seen ≡ u). subst (Fits seat log j) same (reads seat log v.seen j (h.3 i v at).0))
            (at_snoc (set views i v) (reader v.seen) u j e)),
      )

  pub merges : {T : Type 0} (ends : T → List A → Type 0) (i : ℕ) (v : View A) (o : ℕ) (w : View A)
      → Merges (Kept ends) i v o w (informed v w) (reader [])
  merges ends i v o w x views h at ne there =
      let seat : ℕ = h.0 in let log : List A = h.1 in let f : Fits seat log i v = h.3 i v at in
      let other : get_elem? views o ≡ some w = sym (set_else views i o (informed v w) ne) ∙ there in
      let g : Fits seat log o w = h.3 o w other in
      let once = fits_set seat log views i (informed v w) h.3 (f.0, g.0, f.2) in
      (seat, log, h.2, fits_set seat log (set views i (informed v w)) o (reader []) once (reads seat log [] o (nothing log)))
