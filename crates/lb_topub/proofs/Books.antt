-- The steps on what is shown keep the rule: whoever knows whose versions they are knows the same as what is shown.
-- For `new_looker`, `enter` and `turn`.
use Rattle.std.proofs.Common.{◌≡◌, ◌≢◌, ℕ, List, Option, Some, None, set, refl, sym, subst, ⊎_elim, ◌∙◌}
use mathlib.Core.Option.{some}
use lib.ListN.{get_elem?}
use Rattle.atomic_table.proofs.Lists.{at_set, at_snoc, set_again, set_else}
use Rattle.crossbeam_utils.specs.Register.{Admits, TurnsAt, Forks, Merges}
use Rattle.logbook.specs.Pages.{Book}
use Rattle.lb_topub.specs.Versions.{VersionsSeen}
use Rattle.lb_topub.specs.Shown.{MayKnow, Knows, AllOf, finds}
use Rattle.lb_topub.specs.declared.shown.Shown.{Shown}

abbrev rule : Shown → List (Option VersionsSeen) → Type 0
rule s = AllOf s.known.book

abbrev outcome : Option VersionsSeen → Shown → Shown → Option VersionsSeen → Type 0
outcome v x y w = finds v y.known w

-- one view is put in the place of another
all_set : (b : Book) (views : List (Option VersionsSeen)) (i : ℕ) (v : Option VersionsSeen) → AllOf b views
    → MayKnow b v → AllOf b (set views i v)
all_set b views i v all one j u e =
    ⊎_elim (λ (t : (j ≡ i) × (v ≡ u)). subst (MayKnow b) t.1 one)
    (λ (t : (j ≢ i) × (get_elem? views j ≡ some u)). all j u t.1) (at_set views i j v u e)

pub admits : Admits rule None
admits x views h j u e = ⊎_elim (h j u) (λ (new : None ≡ u). subst (MayKnow x.known.book) new tt) (at_snoc views None u j e)

pub turns : (by : ℕ) (v : Option VersionsSeen) (x y : Shown) → y.known.book ≡ x.known.book → TurnsAt rule by v x y outcome
turns by v x y same views h at =
    let still : AllOf y.known.book views = subst (λ b. AllOf b views) (sym same) h in
    (Some y.known, all_set y.known.book views by (Some y.known) still refl, (refl, still by v at))

pub forks : (by : ℕ) (v : Option VersionsSeen) → Forks rule by v v v
forks by v x views h at j u e =
    ⊎_elim (λ (was : get_elem? (set views by v) j ≡ some u). h j u
    (subst (λ l. get_elem? l j ≡ some u) (set_again views by v at) was))
    (λ (same : v ≡ u). subst (MayKnow x.known.book) same (h by v at)) (at_snoc (set views by v) v u j e)

pub merges : (by : ℕ) (v : Option VersionsSeen) (other : ℕ) (w : Option VersionsSeen) → Merges rule by v other w w None
merges by v other w x views h at apart there =
    let b = x.known.book in
    let one = all_set b views by w h (h other w (sym (set_else views by other w apart) ∙ there)) in
    all_set b (set views by w) other None one tt

-- who knows whose versions they are finds versions of the same
pub knows_still : (b : Book) (v : Option VersionsSeen) (y : VersionsSeen) (w : Option VersionsSeen) → Knows b v
    → finds v y w → (y.book ≡ b) × Knows b w
knows_still b v y w k f =
    let same : y.book ≡ b = sym (subst (MayKnow y.book) k.1 f.1) ∙ k.2 in
    (same, (y, f.0, same))
