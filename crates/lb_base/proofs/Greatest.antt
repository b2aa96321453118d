-- The first of the greatest, for whoever tries candidates one after the other: one more candidate is
-- passed over, is the first, stays below or takes the place; there is one answer, and it is the one
-- that the definition finds.
-- For the law `first_of_the_greatest`; cited by `lb_busiest` too.
use Rattle.std.proofs.Common.{◌≡◌, ℕ, zero, suc, ◌+◌, ◌<◌, Bool, true, false, not, ◌||◌, Option, Some, None, refl, sym, ap, subst, arith, below_more, inl, inr, add-one}
use Rattle.std.proofs.lemmas.Bool.{cases_Bool, cases_order, both_ways, and_parts, and_from, false_from_ne_true, not-true}
use Rattle.lb_base.specs.Greatest.{IsFirstGreatest, NonePasses, Picks, IsRanking, is_first_greatest, first_greatest}
use Rattle.lb_base.proofs.Ranges.{find_none, find_least, all_at, all_of}

-- ---- one more candidate

level : (above : ℕ → ℕ → Bool) (n : ℕ) → IsRanking above → above n n ≡ false
level above n order = elim (cases_Bool (above n n)) [ inl t ↦ order.one_way n n t | inr f ↦ f ]

pub Picks-skips : (p : ℕ → Bool) (above : ℕ → ℕ → Bool) (n : ℕ) (o : Option ℕ) → Picks p above n o → p n ≡ false
    → Picks p above (n + 1) o
Picks-skips p above n None none fails = below_more _ _ none fails
Picks-skips p above n (Some b) h fails = record {
  within = omega (arith, h.within);
  passes = h.passes;
  greatest = below_more _ _ h.greatest (λ passes. absurd (both_ways (p n) fails passes));
  first = h.first;
}

pub Picks-first : (p : ℕ → Bool) (above : ℕ → ℕ → Bool) (n : ℕ) → IsRanking above → NonePasses p n → p n ≡ true
    → IsFirstGreatest p above (n + 1) n
Picks-first p above n order none passes = record {
  within = omega arith;
  passes = passes;
  greatest = below_more _ _ (λ k lt some. absurd (both_ways (p k) (none k lt) some)) (λ _. level above n order);
  first = λ k lt some. absurd (both_ways (p k) (none k lt) some);
}

pub Picks-keeps : (p : ℕ → Bool) (above : ℕ → ℕ → Bool) (n b : ℕ) → IsFirstGreatest p above n b → above n b ≡ false
    → IsFirstGreatest p above (n + 1) b
Picks-keeps p above n b h below = record {
  within = omega (arith, h.within);
  passes = h.passes;
  greatest = below_more _ _ h.greatest (λ _. below);
  first = h.first;
}

-- what is above the greatest so far is above each
tops : (above : ℕ → ℕ → Bool) (n b k : ℕ) → IsRanking above → above n b ≡ true → above k b ≡ false → above n k ≡ true
tops above n b k order over level =
    elim (cases_Bool (above n k)) [ inl t ↦ t | inr f ↦ absurd (both_ways (above n b) (order.chain n k b f level) over) ]

pub Picks-takes : (p : ℕ → Bool) (above : ℕ → ℕ → Bool) (n b : ℕ) → IsRanking above → IsFirstGreatest p above n b
    → p n ≡ true → above n b ≡ true → IsFirstGreatest p above (n + 1) n
Picks-takes p above n b order h passes over = record {
  within = omega arith;
  passes = passes;
  greatest = below_more _ _ (λ k lt some. order.one_way n k (tops above n b k order over (h.greatest k lt some)))
      (λ _. level above n order);
  first = λ k lt some. tops above n b k order over (h.greatest k lt some);
}

-- there is one answer
pub IsFirstGreatest-unique : (p : ℕ → Bool) (above : ℕ → ℕ → Bool) (n b c : ℕ) → IsFirstGreatest p above n b
    → IsFirstGreatest p above n c → b ≡ c
IsFirstGreatest-unique p above n b c h k =
    elim (cases_order b c) [
      | inl e ↦ e
      | inr o ↦ elim o [
        | inl lt ↦ absurd (both_ways (above c b) (h.greatest c k.within k.passes) (k.first b lt h.passes))
        | inr gt ↦ absurd (both_ways (above b c) (k.greatest b h.within h.passes) (h.first c gt k.passes))
      ]
    ]

-- ---- the definition finds it

-- a test that spares those who are no candidates
spared : (p q : Bool) → (p ≡ true → q ≡ true) → (not p || q) ≡ true
spared true q h = h refl
spared false q h = refl

asked : (p q : Bool) → (not p || q) ≡ true → p ≡ true → q ≡ true
asked true q h passes = h
asked false q h passes = absurd (both_ways false refl passes)

not_false : (t : Bool) → t ≡ false → not t ≡ true
not_false t e = ap not e

pub greatest_passes : (p : ℕ → Bool) (above : ℕ → ℕ → Bool) (n b : ℕ) → IsFirstGreatest p above n b
    → is_first_greatest p above n b ≡ true
unfolding is_first_greatest
greatest_passes p above n b at =
    and_from _ _ (and_from _ _ at.passes
    (all_of (λ k. not (p k) || not (above k b)) 0 n
    (λ k lo hi. spared (p k) (not (above k b)) (λ passes. not_false (above k b) (at.greatest k (omega (arith, hi)) passes)))))
    (all_of (λ k. not (p k) || above b k) 0 b
    (λ k lo hi. spared (p k) (above b k) (λ passes. at.first k (omega (arith, hi)) passes)))

pub passes_greatest : (p : ℕ → Bool) (above : ℕ → ℕ → Bool) (n b : ℕ) → b < n → is_first_greatest p above n b ≡ true
    → IsFirstGreatest p above n b
unfolding is_first_greatest
passes_greatest p above n b within test =
    let outer = and_parts _ _ test in
    let inner = and_parts _ _ outer.0 in
    record {
      within = within;
      passes = inner.0;
      greatest = λ k lt passes. not-true (above k b)
          (asked (p k) (not (above k b)) (all_at (λ k. not (p k) || not (above k b)) 0 n inner.1 k (omega arith)
          (omega (arith, lt))) passes);
      first = λ k lt passes. asked (p k) (above b k)
          (all_at (λ k. not (p k) || above b k) 0 b outer.1 k (omega arith) (omega (arith, lt))) passes;
    }

-- somebody is the first of the greatest, unless nobody passes
some_greatest : (p : ℕ → Bool) (above : ℕ → ℕ → Bool) → IsRanking above → (n : ℕ) → (o : Option ℕ) × Picks p above n o
some_greatest p above order zero = (None, λ k lt. absurd (omega (arith, lt)))
some_greatest p above order (suc n) = let last = some_greatest p above order n in
    subst (λ (m : ℕ). (o : Option ℕ) × Picks p above m o) (add-one n) (one_more p above order n last.0 last.1)
  where
    one_more : (p : ℕ → Bool) (above : ℕ → ℕ → Bool) → IsRanking above → (n : ℕ) (o : Option ℕ) → Picks p above n o
        → (q : Option ℕ) × Picks p above (n + 1) q
    one_more p above order n None none =
        elim (cases_Bool (p n)) [
          | inl passes ↦ (Some n, Picks-first p above n order none passes)
          | inr fails ↦ (None, Picks-skips p above n None none fails)
        ]
    one_more p above order n (Some b) at =
        elim (cases_Bool (p n)) [
          | inl passes ↦ elim (cases_Bool (above n b)) [
            | inl over ↦ (Some n, Picks-takes p above n b order at passes over)
            | inr level ↦ (Some b, Picks-keeps p above n b at level)
          ]
          | inr fails ↦ (Some b, Picks-skips p above n (Some b) at fails)
        ]

found : (p : ℕ → Bool) (above : ℕ → ℕ → Bool) (n : ℕ) (o : Option ℕ) → Picks p above n o → first_greatest p above n ≡ o
unfolding first_greatest
found p above n None none =
    find_none (is_first_greatest p above n) 0 n
    (λ k lo hi. false_from_ne_true _ (λ test. both_ways (p k) (none k (omega (arith, hi)))
    (passes_greatest p above n k (omega (arith, hi)) test).passes))
found p above n (Some b) at =
    find_least (is_first_greatest p above n) 0 n b (omega arith) (omega (arith, at.within)) (greatest_passes p above n b at)
    (λ k lo hi. false_from_ne_true _ (λ test.
    let same : k ≡ b = IsFirstGreatest-unique p above n k b
    (passes_greatest p above n k (omega (arith, hi, at.within)) test) at in
    absurd (omega (arith, same, hi))))

-- the search finds what is meant
pub first_greatest_picks : (p : ℕ → Bool) (above : ℕ → ℕ → Bool) (n : ℕ) → IsRanking above
    → Picks p above n (first_greatest p above n)
first_greatest_picks p above n order =
    let some = some_greatest p above order n in
    subst (λ (o : Option ℕ). Picks p above n o) (sym (found p above n some.0 some.1)) some.1

-- and whatever is meant, it finds
pub picks_first_greatest : (p : ℕ → Bool) (above : ℕ → ℕ → Bool) (n : ℕ) (o : Option ℕ) → Picks p above n o
    → o ≡ first_greatest p above n
picks_first_greatest p above n o at = sym (found p above n o at)
