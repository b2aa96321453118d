-- What is written in a line of a drawn trace is read back: numbers, nice values and the three masks.
-- For the lemmas of `HeaderLines` and `RowLines`, and so for the laws `are_accepted` and `moments_are_small`.
use Rattle.std.proofs.Common.{◌≡◌, ℕ, suc, ◌^◌, ◌<◌, ◌≤◌, ℤ, pos, negsuc, true, Some, refl, ap, ◌∙◌, arith, inl, inr}
use Rattle.std.specs.Prelude.{decimal, neg_ℤ}
use Rattle.std.specs.Fmt.{digits, signed_decimal}
use Rattle.std.specs.Option.{option_map}
use Rattle.std.proofs.lemmas.Bool.{leb-true}
use Rattle.lb_base.specs.declared.mask.Mask.{Mask}
use Rattle.lb_base.specs.Mask.{has, members_below, members, first_cpus, without}
use Rattle.lb_base.specs.Sets.{least, mask_where}
use Rattle.lb_text.specs.Numbers.{number_within, nice_of}
use Rattle.lb_text.specs.Lists.{item_of, list_of}
use Rattle.lb_text.specs.Runs.{runs_text, list_text}
use Rattle.lb_text.proofs.Digits.{decimal_digits}
use Rattle.lb_text.proofs.NiceFacts.{nice_minus, nice_plain}
use Rattle.lb_text.proofs.RoundTrip.{spells_decimal}
use Rattle.lb_trace.specs.Accepted.{is_nice_value}
use Rattle.lb_generator.specs.Generator.{lower_cpus, upper_cpus, all_cpus}
use Rattle.lb_generator.proofs.Fields.{is_field, no_minus}
use Rattle.lb_generator.proofs.Drawn.{IsOneMask}

pub number_back : (least most n : ℕ) → least ≤ n → n ≤ most → most < 2 ^ 64 → number_within least most (decimal n) ≡ Some n
number_back least most n low high small = (spells_decimal least most n (decimal n) small).1 (refl, low, high)

pub nice_back : (z : ℤ) → is_nice_value z ≡ true → nice_of (signed_decimal z) ≡ Some z
nice_back (pos n) e =
    let le = leb-true n 19 e in
    nice_plain (decimal n) (no_minus (decimal n) (decimal_digits n (omega (arith, le))))
    ∙ ap (option_map (λ m. pos m)) (number_back 0 19 n (omega arith) le (omega arith))
nice_back (negsuc n) e =
    let le = leb-true n 19 e in
    nice_minus (decimal (suc n))
    ∙ ap (option_map (λ m. neg_ℤ (pos m))) (number_back 1 20 (suc n) (omega arith) (omega (arith, le)) (omega arith))

-- a mask whose list is a field, and reads as it
pub record IsListed (mask : Mask) : Type 0 where
  pub back : list_of (list_text mask) ≡ Some mask
  pub field : is_field (list_text mask) ≡ true

pub all_listed : IsListed all_cpus
unfolding has members_below members first_cpus without least mask_where number_within item_of list_of runs_text list_text digits
all_listed = record { back = refl; field = refl }

pub lower_listed : IsListed lower_cpus
unfolding has members_below members first_cpus without least mask_where number_within item_of list_of runs_text list_text digits
lower_listed = record { back = refl; field = refl }

pub upper_listed : IsListed upper_cpus
unfolding has members_below members first_cpus without least mask_where number_within item_of list_of runs_text list_text digits
upper_listed = record { back = refl; field = refl }

pub one_listed : (mask : Mask) → IsOneMask mask → IsListed mask
one_listed mask (inl e) = rw e all_listed
one_listed mask (inr (inl e)) = rw e lower_listed
one_listed mask (inr (inr e)) = rw e upper_listed
