-- Ends `busiest_group` and `source_queue`: busier groups and greater values are orders, so there is a first of the
-- greatest.
use Rattle.std.proofs.Common.{◌≡◌, ℕ, Bool, true, false, Option, eqb, ltb, ◌&&◌, List, length, subst, refl, sym, arith, inl, inr}
use Rattle.std.proofs.lemmas.Bool.{or_parts, or_cases, and_parts, and_cases, ltb-true, ltb-false, eqb-true, both_ways, cases_eq, or_from, and_left, and_right, le-ltb, ne_eqb, eq-eqb}
use Rattle.std.proofs.lemmas.Bool.Decides.{nat_tests}
use Rattle.lb_base.specs.declared.group.Stats.{Stats}
use Rattle.lb_base.specs.declared.group.GroupType.{GroupType}
use Rattle.lb_base.specs.declared.group.GroupType.TheVariants.{HasSpare, FullyBusy, Imbalanced, Overloaded}
use Rattle.lb_base.specs.declared.mask.Mask.{Mask}
use Rattle.lb_base.specs.declared.figure.Fig.{Fig}
use Rattle.lb_base.specs.declared.view.MoveKind.{MoveKind}
use Rattle.lb_base.specs.Mask.{has}
use Rattle.lb_base.specs.Figures.{fig_at}
use Rattle.lb_busiest.specs.Sources.{value_of, may_be_source, has_more, source_of}
use Rattle.lb_base.specs.Greatest.{IsRanking, Picks}
use Rattle.lb_base.proofs.Greatest.{first_greatest_picks, picks_first_greatest}
use Rattle.lb_base.specs.declared.mask.TheConstants.{MAX_CPUS}
use Rattle.lb_busiest.specs.Ranking.{busiest_of, may_be_busiest, rank, is_busier_within, is_busier, stats_at, is_busier_at}

less_one_way : (a b : ℕ) → ltb a b ≡ true → ltb b a ≡ false
less_one_way a b h = grind (arith, nat_tests)

less_chain : (b a c : ℕ) → ltb b a ≡ false → ltb c b ≡ false → ltb c a ≡ false
less_chain b a c h k = grind (arith, nat_tests)

-- ---- within a type
within_one_way : (g : GroupType) (x y : Stats) → is_busier_within g x y ≡ true → is_busier_within g y x ≡ false
within_one_way HasSpare x y h = grind (arith, nat_tests)
within_one_way FullyBusy x y h = grind (arith, nat_tests)
within_one_way Imbalanced x y h = refl
within_one_way Overloaded x y h = grind (arith, nat_tests)

within_chain : (g : GroupType) (x y z : Stats) → is_busier_within g x y ≡ false → is_busier_within g y z ≡ false
    → is_busier_within g x z ≡ false
within_chain HasSpare x y z h k = grind (arith, nat_tests)
within_chain FullyBusy x y z h k = grind (arith, nat_tests)
within_chain Imbalanced x y z h k = refl
within_chain Overloaded x y z h k = grind (arith, nat_tests)

same_rank : (g h : GroupType) → rank g ≡ rank h → g ≡ h
same_rank HasSpare HasSpare e = refl
same_rank FullyBusy FullyBusy e = refl
same_rank Imbalanced Imbalanced e = refl
same_rank Overloaded Overloaded e = refl
same_rank g h e = absurd (omega arith)

-- ---- of two groups
level_within : (m n : ℕ) (w : Bool) → (eqb m n && w) ≡ false → m ≡ n → w ≡ false
level_within m n w h e = elim (and_cases _ _ h) [ inl f ↦ absurd (both_ways _ f (eq-eqb m n e)) | inr g ↦ g ]

busier_one_way : (x y : Stats) → is_busier x y ≡ true → is_busier y x ≡ false
unfolding is_busier
busier_one_way x y h =
    elim (or_cases _ _ h) [
      | inl over ↦
          let lt = ltb-true (rank y.group) (rank x.group) over in
          let apart : rank y.group ≡ rank x.group → ⊥ = λ e. absurd (omega arith) in
          or_from _ _ (le-ltb (rank x.group) (rank y.group) (omega arith)) (and_left _ _ (ne_eqb _ _ apart))
      | inr both ↦
          let parts = and_parts _ _ both in
          let level = eqb-true (rank x.group) (rank y.group) parts.0 in
          let same = same_rank x.group y.group level in
          let P : GroupType → Type 0 = λ g. is_busier_within g x y ≡ true in
          or_from _ _ (le-ltb (rank x.group) (rank y.group) (omega arith))
          (and_right _ _ (within_one_way y.group x y (subst P same parts.1)))
    ]

busier_chain : (x y z : Stats) → is_busier x y ≡ false → is_busier y z ≡ false → is_busier x z ≡ false
unfolding is_busier
busier_chain x y z h k =
    let hp = or_parts _ _ h in
    let kp = or_parts _ _ k in
    let a = ltb-false (rank y.group) (rank x.group) hp.0 in
    let b = ltb-false (rank z.group) (rank y.group) kp.0 in
    let within : (rank x.group ≡ rank z.group) → is_busier_within x.group x z ≡ false =
    λ e.
    let e1 : rank x.group ≡ rank y.group = omega arith in
    let e2 : rank y.group ≡ rank z.group = omega arith in
    let s1 = same_rank x.group y.group e1 in
    let w1 = level_within (rank x.group) (rank y.group) _ hp.1 e1 in
    let w2 = level_within (rank y.group) (rank z.group) _ kp.1 e2 in
    let P : GroupType → Type 0 = λ g. is_busier_within g y z ≡ false in
    within_chain x.group x y z w1 (subst P (sym s1) w2) in
    or_from _ _ (le-ltb (rank z.group) (rank x.group) (omega arith))
    (elim (cases_eq (rank x.group) (rank z.group)) [ inl e ↦ and_right _ _ (within e) | inr n ↦ and_left _ _ (ne_eqb _ _ n) ])

pub busier_ranking : (stats : List Stats) → IsRanking (is_busier_at stats)
unfolding is_busier_at
busier_ranking stats = record {
  one_way = λ i j h. busier_one_way (stats_at stats i) (stats_at stats j) h;
  chain = λ i j k h g. busier_chain (stats_at stats i) (stats_at stats j) (stats_at stats k) h g;
}

-- ---- of two CPUs
pub more_ranking : (figs : List Fig) (kind : MoveKind) → IsRanking (has_more figs kind)
unfolding has_more
more_ranking figs kind = record {
  one_way = λ i j h. less_one_way (value_of kind (fig_at figs j)) (value_of kind (fig_at figs i)) h;
  chain = λ i j k h g. less_chain (value_of kind (fig_at figs j)) (value_of kind (fig_at figs i))
      (value_of kind (fig_at figs k)) h g;
}

-- a CPU that a pull may take from has a figure
pub source_in : (figs : List Fig) (group : Mask) (kind : MoveKind) (imbalance cpu : ℕ)
    → may_be_source figs group kind imbalance cpu ≡ true → has group cpu ≡ true
unfolding may_be_source
source_in figs group kind imbalance cpu h = (and_parts _ _ (and_parts _ _ h).0).0

-- ---- what was found by trial is what is defined
pub busiest_of-found : (stats : List Stats) (n : ℕ) (o : Option ℕ) → n ≡ length stats
    → Picks (may_be_busiest stats) (is_busier_at stats) n o → o ≡ busiest_of stats
unfolding busiest_of
busiest_of-found stats n o e found = rw (sym e) (picks_first_greatest (may_be_busiest stats) (is_busier_at stats) n o found)

pub source_of-found : (figs : List Fig) (group : Mask) (kind : MoveKind) (imbalance : ℕ) (o : Option ℕ)
    → Picks (may_be_source figs group kind imbalance) (has_more figs kind) MAX_CPUS o → o ≡ source_of figs group kind imbalance
unfolding source_of
source_of-found figs group kind imbalance o found =
    picks_first_greatest (may_be_source figs group kind imbalance) (has_more figs kind) MAX_CPUS o found

-- a CPU that is not of the group gives nothing
pub no_source : (figs : List Fig) (group : Mask) (kind : MoveKind) (imbalance k : ℕ) → has group k ≡ false
    → may_be_source figs group kind imbalance k ≡ false
unfolding may_be_source
no_source figs group kind imbalance k away = rw away refl

-- ---- what is defined is what is meant
pub busiest_of_picks : (stats : List Stats) → Picks (may_be_busiest stats) (is_busier_at stats) (length stats) (busiest_of stats)
unfolding busiest_of
busiest_of_picks stats = first_greatest_picks (may_be_busiest stats) (is_busier_at stats) (length stats) (busier_ranking stats)

pub source_of_picks : (figs : List Fig) (group : Mask) (kind : MoveKind) (imbalance : ℕ)
    → Picks (may_be_source figs group kind imbalance) (has_more figs kind) MAX_CPUS (source_of figs group kind imbalance)
unfolding source_of
source_of_picks figs group kind imbalance =
    first_greatest_picks (may_be_source figs group kind imbalance) (has_more figs kind) MAX_CPUS (more_ranking figs kind)
