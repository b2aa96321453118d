-- The readers of the fields of an entry are exact: a text reads as a value just where it is that value's spelling.
-- For the lemmas of `Declared`, `HeaderSteps` and other files, and so for the laws `headers_read_back`,
-- `texts_read_once` and others.
use Rattle.std.proofs.Common.{◌≡◌, ℕ, zero, suc, ◌<◌, ◌≤◌, ◌^◌, ℤ, pos, negsuc, neg_ℤ, Bool, true, false, ◌&&◌, eqb, leb, cond, List, [], ◌∷◌, ◌++◌, length, map, Option, Some, None, refl, sym, ap, ◌∙◌, inl, inr, ◌⊎◌, arith}
use Rattle.std.specs.Prelude.{decimal, codes, option_and_then, is_some}
use Rattle.std.specs.Fmt.{signed_decimal}
use Rattle.std.specs.Option.{option_map}
use Rattle.std.specs.List.{slice_split, join_with_byte, list_all, All}
use Rattle.std.specs.Char.{is_ascii_digit}
use Rattle.std.specs.Str.{bytes_eq}
use Rattle.std.specs.Str.Parse.{starts_with_minus}
use Rattle.std.proofs.lemmas.Bool.{cases_Bool, false≢true, eqb-true, eq-eqb, le-leb, leb-true, lt-ltb, ltb-true}
use Rattle.std.proofs.lemmas.Bool.Decides.{nat_tests}
use Rattle.std.proofs.lemmas.List.{append-nil}
use Rattle.std.proofs.lemmas.List.Splits.{length-slice_split, join_with_byte-slice_split}
use Rattle.std.proofs.lemmas.Slice.Eq.{bytes_eq-Decides}
use Rattle.std.proofs.lemmas.Option.{same_Some, cond_some, none-some}
use Rattle.lb_base.specs.declared.mask.Mask.{Mask}
use Rattle.lb_base.specs.declared.mask.TheConstants.{MAX_CPUS}
use Rattle.lb_base.specs.Mask.{has, members, members_below, no_cpus}
use Rattle.lb_base.specs.Sets.{least, is_empty}
use Rattle.lb_text.specs.Numbers.{number_within, number_of, nice_of}
use Rattle.lb_text.specs.Lists.{item_of, list_of}
use Rattle.lb_text.specs.Runs.{runs_text, list_text}
use Rattle.lb_text.proofs.Digits.{number_spelled, number_decimal}
use Rattle.lb_text.proofs.Items.{number_free}
use Rattle.lb_text.proofs.NiceFacts.{nice_minus, nice_plain}
use Rattle.lb_text.proofs.RoundTrip.{reads_back, lists_fit}
use Rattle.lb_trace.specs.declared.trace.TheConstants.{MAX_MOMENT}
use Rattle.lb_trace.specs.Accepted.{is_mask, is_nice_value}
use Rattle.lb_core.specs.declared.entry.FigName.{FigName}
use Rattle.lb_core.specs.declared.entry.Owner.{Owner}
use Rattle.lb_core.specs.declared.entry.Owner.TheVariants as owners
use Rattle.lb_text.specs.Lines.{joined}
use Rattle.lb_record.specs.Fields.{ids_text, figure_text, figures_text, target_text}
use Rattle.lb_record.specs.Entries.{owner_text}
use Rattle.lb_record.proofs.Empty.{runs_none, list_some}
use Rattle.lb_record.proofs.Bytes.{over, over_append, over_cons, decimal_over, free}
use Rattle.lb_read.specs.Exact.{take_field, next_to, whole, each, split_at, IsExact}
use Rattle.lb_core.specs.Ranges.{is_short, is_long, is_moment, is_figure, are_figures, cpus_rise, is_target, owner_fits}
use Rattle.lb_read.specs.Fields.{short_in, long_in, moment_in, if_spelled, mask_in, ids_in, figure_from, figure_in, if_rising, figures_in, target_in}
use Rattle.lb_read.specs.Owners.{lane_from, publisher_from, queue_from, publisher_in, owner_in}
use Rattle.lb_read.proofs.Common.{is_none_from}
use Rattle.lb_read.proofs.ExactFacts.{map_pieces, bind_pieces, both_true, one_exact, next_to_exact, whole_exact, each_exact, EachFree, CanJoin, split_joined, split_exact, mapped_sound}

-- ---- numbers
number_exact : (most : ℕ) → most < 2 ^ 64 → IsExact (number_of most) decimal (λ n. leb n most)
number_exact most small = record {
  sound = λ text n e. let s = number_spelled 0 most n text small e in (s.0, le-leb n most s.2);
  complete = λ n f. let le : n ≤ most = leb-true n most f in number_decimal 0 most n (omega (arith, le, small)) (omega arith) le;
}

pub short_exact : IsExact short_in decimal is_short
short_exact = number_exact 4294967295 (omega arith)

pub long_exact : IsExact long_in decimal is_long
long_exact = number_exact 18446744073709551615 (omega arith)

pub moment_exact : IsExact moment_in decimal is_moment
moment_exact = number_exact MAX_MOMENT (omega arith)

pub decimal_free : (c n : ℕ) → is_ascii_digit c ≡ false → n < 2 ^ 64 → All (λ b. eqb b c ≡ false) (decimal n)
decimal_free c n other small =
    number_free c 0 18446744073709551615 (decimal n) other (omega arith)
    (ap is_some (number_decimal 0 18446744073709551615 n small (omega arith) (omega arith)))

short_free : (c n : ℕ) → is_ascii_digit c ≡ false → is_short n ≡ true → All (λ b. eqb b c ≡ false) (decimal n)
short_free c n other f = let le : n ≤ 4294967295 = leb-true n 4294967295 f in decimal_free c n other (omega arith)

long_free : (c n : ℕ) → is_ascii_digit c ≡ false → is_long n ≡ true → All (λ b. eqb b c ≡ false) (decimal n)
long_free c n other f =
    let le : n ≤ 18446744073709551615 = leb-true n 18446744073709551615 f in decimal_free c n other (omega arith)

-- ---- nice values
no_minus : (text : List ℕ) → over 45 text ≡ true → starts_with_minus text ≡ false
no_minus [] e = refl
no_minus (b ∷ text) e = elim (cases_Bool (eqb b 45)) [
  | inl is ↦ let five : b ≡ 45 = eqb-true b 45 is in absurd (grind (arith, nat_tests))
  | inr not_is ↦ not_is
]

minus_sound : (digits : List ℕ) (n : ℕ) (z : ℤ) → number_within 1 20 digits ≡ Some n → neg_ℤ (pos n) ≡ z
    → (45 ∷ digits ≡ signed_decimal z) × (is_nice_value z ≡ true)
minus_sound digits zero z e is = let s = number_spelled 1 20 0 digits (omega arith) e in absurd (omega (arith, s.1))
minus_sound digits (suc n) z e is =
    let s = number_spelled 1 20 (suc n) digits (omega arith) e in
    (ap (λ text. 45 ∷ text) s.0 ∙ ap signed_decimal is, sym (ap is_nice_value is) ∙ le-leb n 19 (omega (arith, s.2)))

empty_nice : nice_of [] ≡ None
unfolding nice_of number_within
empty_nice = refl

nice_sound : (text : List ℕ) (z : ℤ) → nice_of text ≡ Some z → (text ≡ signed_decimal z) × (is_nice_value z ≡ true)
nice_sound [] z e = absurd (none-some z (sym empty_nice ∙ e))
nice_sound (b ∷ digits) z e = elim (cases_Bool (eqb b 45)) [
  | inl is ↦
      let five : b ≡ 45 = eqb-true b 45 is in
      let m =
      map_pieces (λ n. neg_ℤ (pos n)) (number_within 1 20 digits) z
      (sym (nice_minus digits) ∙ sym (ap (λ c. nice_of (c ∷ digits)) five) ∙ e) in
      let s = minus_sound digits m.0 z m.1 m.2 in
      (ap (λ c. c ∷ digits) five ∙ s.0, s.1)
  | inr not_is ↦
      let m = map_pieces (λ n. pos n) (number_within 0 19 (b ∷ digits)) z (sym (nice_plain (b ∷ digits) not_is) ∙ e) in
      let s = number_spelled 0 19 m.0 (b ∷ digits) (omega arith) m.1 in
      (s.0 ∙ ap signed_decimal m.2, sym (ap is_nice_value m.2) ∙ le-leb m.0 19 s.2)
]

nice_complete : (z : ℤ) → is_nice_value z ≡ true → nice_of (signed_decimal z) ≡ Some z
nice_complete (pos n) f =
    let le : n ≤ 19 = leb-true n 19 f in
    nice_plain (decimal n) (no_minus (decimal n) (decimal_over 45 n (omega arith)))
    ∙ ap (option_map (λ m. pos m)) (number_decimal 0 19 n (omega arith) (omega arith) le)
nice_complete (negsuc n) f =
    let le : n ≤ 19 = leb-true n 19 f in
    nice_minus (decimal (suc n))
    ∙ ap (option_map (λ m. neg_ℤ (pos m))) (number_decimal 1 20 (suc n) (omega arith) (omega arith) (omega arith))

pub nice_exact : IsExact nice_of signed_decimal is_nice_value
nice_exact = record { sound = nice_sound; complete = nice_complete }

-- ---- lists of CPUs, and other texts that are `-` where there is nothing
with_dash : {A : Type 0} (none : A) (read : List ℕ → Option A) (write : A → List ℕ) (fits : A → Bool)
    → write none ≡ codes "-" → fits none ≡ true
    → ((text : List ℕ) (a : A) → read text ≡ Some a → (text ≡ write a) × (fits a ≡ true))
    → ((a : A) → fits a ≡ true → (a ≡ none) ⊎ ((bytes_eq (write a) (codes "-") ≡ false) × (read (write a) ≡ Some a)))
    → IsExact (λ text. cond (bytes_eq text (codes "-")) (Some none) (read text)) write fits
with_dash none read write fits dash good sound complete = record {
  sound = λ text a e. elim (cases_Bool (bytes_eq text (codes "-"))) [
    | inl is ↦
        let same : none ≡ a = same_Some none a (rw is at e) in
        ((bytes_eq-Decides text (codes "-")).0 is ∙ sym dash ∙ ap write same, sym (ap fits same) ∙ good)
    | inr not_is ↦ sound text a (rw not_is at e)
  ];
  complete = λ a f. elim (complete a f) [
    | inl is ↦ ap (λ text. cond (bytes_eq text (codes "-")) (Some none) (read text)) (ap write is ∙ dash) ∙ ap Some (sym is)
    | inr more ↦ rw (more.0, more.1) refl
  ];
}

-- what a dash would read as is read back otherwise
no_dash : {A : Type 0} (read : List ℕ → Option A) (text : List ℕ) (a : A) → read (codes "-") ≡ None → read text ≡ Some a
    → bytes_eq text (codes "-") ≡ false
no_dash read text a none e = elim (cases_Bool (bytes_eq text (codes "-"))) [
  | inl is ↦ absurd (none-some a (sym none ∙ sym (ap read ((bytes_eq-Decides text (codes "-")).0 is)) ∙ e))
  | inr not_is ↦ not_is
]

pub dash_no_list : list_of (codes "-") ≡ None
unfolding list_of item_of number_within
dash_no_list = refl

empty_list_of : list_of [] ≡ Some no_cpus
unfolding list_of
empty_list_of = refl

pub empty_runs : (mask : Mask) → is_empty mask ≡ true → runs_text mask ≡ []
empty_runs mask e = runs_none mask (is_none_from (least mask) e)

empty_is : (mask : Mask) → mask.bits < 2 ^ 64 → is_empty mask ≡ true → mask ≡ no_cpus
empty_is mask fits e =
    sym (same_Some no_cpus mask (sym empty_list_of ∙ sym (ap list_of (empty_runs mask e)) ∙ reads_back mask fits))

dash_list : list_text no_cpus ≡ codes "-"
unfolding list_text least has
dash_list = refl

text_of_none : (mask : Mask) → is_empty mask ≡ true → list_text mask ≡ codes "-"
unfolding list_text
text_of_none mask e = rw e refl

-- the text of no CPUs is no list of a trace
pub dash_list_of : (mask : Mask) (text : List ℕ) → is_empty mask ≡ true → list_text mask ≡ text → list_of text ≡ Some mask → ⊥
dash_list_of mask text e is found = none-some mask (sym dash_no_list ∙ ap list_of (sym (text_of_none mask e) ∙ is) ∙ found)

pub no_runs : runs_text no_cpus ≡ []
unfolding runs_text members members_below has
no_runs = refl

spelled_sound : (text : List ℕ) (mask : Mask) → option_and_then (if_spelled text) (list_of text) ≡ Some mask
    → (text ≡ list_text mask) × (is_mask mask ≡ true)
spelled_sound text mask e =
    let m = bind_pieces (if_spelled text) (list_of text) mask e in
    let c = cond_some (bytes_eq (list_text m.0) text) m.0 mask m.2 in
    let fits : m.0.bits < 2 ^ 64 = lists_fit text m.0 m.1 in (
      sym ((bytes_eq-Decides (list_text m.0) text).0 c.0) ∙ ap list_text c.1,
      sym (ap is_mask c.1) ∙ lt-ltb m.0.bits
          (2 ^ MAX_CPUS) fits,
    )

spelled_complete : (mask : Mask) → is_mask mask ≡ true
    → (mask ≡ no_cpus) ⊎ ((bytes_eq (list_text mask) (codes "-") ≡ false)
    × (option_and_then (if_spelled (list_text mask)) (list_of (list_text mask)) ≡ Some mask))
spelled_complete mask f =
    let fits : mask.bits < 2 ^ 64 = ltb-true mask.bits (2 ^ MAX_CPUS) f in
    elim (cases_Bool (is_empty mask)) [
      | inl e ↦ inl (empty_is mask fits e)
      | inr e ↦
          let back : list_of (list_text mask) ≡ Some mask = ap list_of (list_some mask e) ∙ reads_back mask fits in
          inr (
            no_dash list_of (list_text mask) mask dash_no_list back,
            ap (option_and_then (if_spelled (list_text mask))) back
                ∙ ap (λ b. cond b (Some mask) None) ((bytes_eq-Decides (list_text mask) (list_text mask)).1 refl),
          )
    ]

pub mask_exact : IsExact mask_in list_text is_mask
unfolding mask_in
mask_exact =
    with_dash no_cpus
    (λ text. option_and_then (if_spelled text) (list_of text)) list_text is_mask dash_list refl spelled_sound spelled_complete

-- ---- texts that are joined at marks, in both words for it
pub joined_is : (mark : ℕ) (fields : List (List ℕ)) → joined mark fields ≡ join_with_byte mark fields
joined_is mark [] = refl
joined_is mark (field ∷ []) = append-nil field
joined_is mark (field ∷ next ∷ fields) = ap (λ rest. field ++ mark ∷ rest) (joined_is mark (next ∷ fields))

some_parts : (p : ℕ → Bool) (text : List ℕ) → slice_split p text ≡ [] → ⊥
some_parts p text e = let len : length (slice_split p text) ≡ 0 = ap length e in omega (arith, len, length-slice_split p text)

-- something is read of some parts
each_some_parts : {A : Type 0} (read : List ℕ → Option A) (parts : List (List ℕ)) → each read parts ≡ Some [] → parts ≡ []
each_some_parts read [] e = refl
each_some_parts read (part ∷ parts) e =
    let a = bind_pieces (λ a. option_map (λ more. a ∷ more) (each read parts)) (read part) [] e in
    let m = map_pieces (λ more. a.0 ∷ more) (each read parts) [] a.2 in
    let not_none : a.0 ∷ m.0 ≡ [] = m.2 in
    absurd (cc)

-- ---- numbers of tasks
shorts_free : (ids : List ℕ) → list_all is_short ids ≡ true → EachFree 59 (map decimal ids)
shorts_free [] f = tt
shorts_free (id ∷ ids) f =
    let h = both_true (is_short id) (list_all is_short ids) f in (short_free 59 id refl h.0, shorts_free ids h.1)

dash_no_ids : split_at 59 (each short_in) (codes "-") ≡ None
unfolding number_within
dash_no_ids = refl

ids_sound : (text : List ℕ) (ids : List ℕ) → split_at 59 (each short_in) text ≡ Some ids
    → (text ≡ ids_text ids) × (list_all is_short ids ≡ true)
ids_sound text [] e = absurd (some_parts (λ b. eqb b 59) text (each_some_parts short_in (slice_split (λ b. eqb b 59) text) e))
ids_sound text (id ∷ ids) e =
    let s = (each_exact short_in decimal is_short short_exact).sound (slice_split (λ b. eqb b 59) text) (id ∷ ids) e in
    (sym (join_with_byte-slice_split 59 text) ∙ ap (join_with_byte 59) s.0 ∙ sym (joined_is 59 (map decimal (id ∷ ids))), s.1)

ids_complete : (ids : List ℕ) → list_all is_short ids ≡ true
    → (ids ≡ []) ⊎ ((bytes_eq (ids_text ids) (codes "-") ≡ false) × (split_at 59 (each short_in) (ids_text ids) ≡ Some ids))
ids_complete [] f = inl refl
ids_complete (id ∷ ids) f =
    let back : split_at 59 (each short_in) (ids_text (id ∷ ids)) ≡ Some (id ∷ ids) =
    ap (split_at 59 (each short_in)) (joined_is 59 (map decimal (id ∷ ids)))
    ∙ ap (each short_in) (split_joined 59 (decimal id) (map decimal ids) (shorts_free (id ∷ ids) f))
    ∙ (each_exact short_in decimal is_short short_exact).complete (id ∷ ids) f in
    inr (no_dash (split_at 59 (each short_in)) (ids_text (id ∷ ids)) (id ∷ ids) dash_no_ids back, back)

pub ids_exact : IsExact ids_in ids_text (list_all is_short)
unfolding ids_in
ids_exact = with_dash [] (split_at 59 (each short_in)) ids_text (list_all is_short) refl refl ids_sound ids_complete

-- ---- a target
dash_no_short : short_in (codes "-") ≡ None
unfolding number_within
dash_no_short = refl

target_sound : (text : List ℕ) (target : Option ℕ) → option_map (λ cpu. Some cpu) (short_in text) ≡ Some target
    → (text ≡ target_text target) × (is_target target ≡ true)
target_sound text target e =
    let m = map_pieces (λ cpu. Some cpu) (short_in text) target e in
    let s = short_exact.sound text m.0 m.1 in
    (s.0 ∙ ap target_text m.2, sym (ap is_target m.2) ∙ s.1)

target_complete : (target : Option ℕ) → is_target target ≡ true
    → (target ≡ None) ⊎ ((bytes_eq (target_text target) (codes "-") ≡ false)
    × (option_map (λ cpu. Some cpu) (short_in (target_text target)) ≡ Some target))
target_complete None f = inl refl
target_complete (Some cpu) f =
    let back = short_exact.complete cpu f in
    inr (no_dash short_in (decimal cpu) cpu dash_no_short back, ap (option_map (λ c. Some c)) back)

pub target_exact : IsExact target_in target_text is_target
unfolding target_in
target_exact =
    with_dash None
    (λ text. option_map (λ cpu. Some cpu) (short_in text)) target_text is_target refl refl target_sound target_complete

-- ---- figures
pair_free : (mark : ℕ) (p : ℕ × ℕ) → is_ascii_digit mark ≡ false → (is_short p.0 && is_long p.1) ≡ true
    → CanJoin mark (decimal p.0 ∷ decimal p.1 ∷ [])
pair_free mark p other f =
    let h = both_true (is_short p.0) (is_long p.1) f in
    (short_free mark p.0 other h.0, (long_free mark p.1 other h.1, tt))

pair_exact : IsExact (split_at 58 (whole (next_to (take_field short_in) (take_field long_in))))
    (λ p. join_with_byte 58 (decimal p.0 ∷ decimal p.1 ∷ [])) (λ p. is_short p.0 && is_long p.1)
pair_exact =
    split_exact 58 (whole (next_to (take_field short_in) (take_field long_in))) (λ p. decimal p.0 ∷ decimal p.1 ∷ [])
    (λ p. is_short p.0 && is_long p.1)
    (whole_exact (next_to (take_field short_in) (take_field long_in)) (λ p. decimal p.0 ∷ decimal p.1 ∷ [])
    (λ p. is_short p.0 && is_long p.1)
    (next_to_exact (take_field short_in) (take_field long_in) (λ n. decimal n ∷ []) (λ n. decimal n ∷ []) is_short is_long
    (one_exact short_in decimal is_short short_exact) (one_exact long_in decimal is_long long_exact)))
    (λ p f. pair_free 58 p refl f)

pub figure_exact : IsExact figure_in figure_text is_figure
unfolding figure_in
figure_exact = record {
  sound =
      λ text f e. mapped_sound (split_at 58 (whole (next_to (take_field short_in) (take_field long_in))))
      (λ p. join_with_byte 58 (decimal p.0 ∷ decimal p.1 ∷ [])) (λ p. is_short p.0 && is_long p.1)
      figure_from figure_text is_figure pair_exact (λ p. refl) (λ p. refl) text f e;
  complete = λ f h. ap (option_map figure_from) (pair_exact.complete (f.cpu, f.n) h);
}

figures_free : (figures : List FigName) → EachFree 44 (map figure_text figures)
figures_free [] = tt
figures_free (f ∷ figures) = (
  free 44 44 (figure_text f) (omega arith)
      (over_append 44 (decimal f.cpu) (58 ∷ decimal f.n) (decimal_over 44 f.cpu (omega arith))
      (over_cons 44 58 (decimal f.n) (omega arith) (decimal_over 44 f.n (omega arith)))),
  figures_free figures,
)

figures_sound : (text : List ℕ) (figures : List FigName)
    → option_and_then if_rising (split_at 44 (each figure_in) text) ≡ Some figures
    → (text ≡ figures_text figures) × (are_figures figures ≡ true)
figures_sound text figures e =
    let m = bind_pieces if_rising (split_at 44 (each figure_in) text) figures e in
    let c = cond_some (cpus_rise m.0) m.0 figures m.2 in
    let found : each figure_in (slice_split (λ b. eqb b 44) text) ≡ Some figures = m.1 ∙ ap Some c.1 in
    let rising : cpus_rise figures ≡ true = sym (ap cpus_rise c.1) ∙ c.0 in
    let s = (each_exact figure_in figure_text is_figure figure_exact).sound (slice_split (λ b. eqb b 44) text) figures found in (
      sym (join_with_byte-slice_split 44 text) ∙ ap (join_with_byte 44) s.0 ∙ sym (joined_is 44 (map figure_text figures)),
      some_figures text figures found s.1 rising,
    )
  where
    some_figures : (text : List ℕ) (figures : List FigName) → each figure_in (slice_split (λ b. eqb b 44) text) ≡ Some figures
        → list_all is_figure figures ≡ true → cpus_rise figures ≡ true → are_figures figures ≡ true
    some_figures text [] e p q =
        absurd (some_parts (λ b. eqb b 44) text (each_some_parts figure_in (slice_split (λ b. eqb b 44) text) e))
    some_figures text (f ∷ figures) e p q = rw (p, q) refl

figures_complete : (figures : List FigName) → are_figures figures ≡ true
    → option_and_then if_rising (split_at 44 (each figure_in) (figures_text figures)) ≡ Some figures
figures_complete [] f = absurd (false≢true f)
figures_complete (fig ∷ figures) f =
    let h = both_true (list_all is_figure (fig ∷ figures)) (cpus_rise (fig ∷ figures)) f in
    let back : split_at 44 (each figure_in) (figures_text (fig ∷ figures)) ≡ Some (fig ∷ figures) =
    ap (split_at 44 (each figure_in)) (joined_is 44 (map figure_text (fig ∷ figures)))
    ∙ ap (each figure_in) (split_joined 44 (figure_text fig) (map figure_text figures) (figures_free (fig ∷ figures)))
    ∙ (each_exact figure_in figure_text is_figure figure_exact).complete (fig ∷ figures) h.0 in
    ap (option_and_then if_rising) back ∙ ap (λ b. cond b (Some (fig ∷ figures)) None) h.1

pub figures_exact : IsExact figures_in figures_text are_figures
unfolding figures_in
figures_exact = record { sound = figures_sound; complete = figures_complete }

-- ---- owners
ends_exact : IsExact (split_at 64 (whole (next_to (take_field short_in) (take_field short_in))))
    (λ p. join_with_byte 64 (decimal p.0 ∷ decimal p.1 ∷ [])) (λ p. is_short p.0 && is_short p.1)
ends_exact =
    split_exact 64 (whole (next_to (take_field short_in) (take_field short_in))) (λ p. decimal p.0 ∷ decimal p.1 ∷ [])
    (λ p. is_short p.0 && is_short p.1)
    (whole_exact (next_to (take_field short_in) (take_field short_in)) (λ p. decimal p.0 ∷ decimal p.1 ∷ [])
    (λ p. is_short p.0 && is_short p.1)
    (next_to_exact (take_field short_in) (take_field short_in) (λ n. decimal n ∷ []) (λ n. decimal n ∷ []) is_short is_short
    (one_exact short_in decimal is_short short_exact) (one_exact short_in decimal is_short short_exact)))
    (λ p f. let h = both_true (is_short p.0) (is_short p.1) f in (short_free 64 p.0 refl h.0, (short_free 64 p.1 refl h.1, tt)))

abbrev pub owner_of_text : Owner × ℕ → List ℕ
owner_of_text p = owner_text p.0 p.1

abbrev pub owner_is_good : Owner × ℕ → Bool
owner_is_good p = owner_fits p.0 p.1

self_short : (n : ℕ) → (is_short n && eqb n n) ≡ is_short n
self_short n = rw (eq-eqb n n refl) (and_true (is_short n))
  where
    and_true : (b : Bool) → (b && true) ≡ b
    and_true true = refl
    and_true false = refl

lane_sound : (rest : List ℕ) (p : Owner × ℕ) → option_map lane_from (short_in rest) ≡ Some p
    → (76 ∷ rest ≡ owner_of_text p) × (owner_is_good p ≡ true)
unfolding owner_text owner_fits
lane_sound rest p e =
    let m = map_pieces lane_from (short_in rest) p e in
    let s = short_exact.sound rest m.0 m.1 in
    (ap (λ t. 76 ∷ t) s.0 ∙ ap owner_of_text m.2, sym (ap owner_is_good m.2) ∙ self_short m.0 ∙ s.1)

queue_sound : (rest : List ℕ) (p : Owner × ℕ)
    → option_map queue_from (split_at 64 (whole (next_to (take_field short_in) (take_field short_in))) rest) ≡ Some p
    → (81 ∷ rest ≡ owner_of_text p) × (owner_is_good p ≡ true)
unfolding owner_text owner_fits
queue_sound rest p e =
    let m = map_pieces queue_from (split_at 64 (whole (next_to (take_field short_in) (take_field short_in))) rest) p e in
    let s = ends_exact.sound rest m.0 m.1 in
    (ap (λ t. 81 ∷ t) s.0 ∙ ap owner_of_text m.2, sym (ap owner_is_good m.2) ∙ s.1)

publisher_sound : (rest : List ℕ) (p : Owner × ℕ) → publisher_in rest ≡ Some p
    → (80 ∷ rest ≡ owner_of_text p) × (owner_is_good p ≡ true)
unfolding owner_text owner_fits
publisher_sound [] p e = absurd (none-some p e)
publisher_sound (mark ∷ lane) p e = elim (cases_Bool (eqb mark 64)) [
  | inl is ↦
      let m = map_pieces publisher_from (short_in lane) p (rw is at e) in
      let s = short_exact.sound lane m.0 m.1 in (
        ap (λ c. 80 ∷ c ∷ lane) (eqb-true mark 64 is) ∙ ap (λ t. 80 ∷ 64 ∷ t) s.0 ∙ ap owner_of_text m.2,
        sym
            (ap owner_is_good m.2) ∙ s.1,
      )
  | inr not_is ↦ absurd (none-some p (rw not_is at e))
]

owner_sound : (text : List ℕ) (p : Owner × ℕ) → owner_in text ≡ Some p → (text ≡ owner_of_text p) × (owner_is_good p ≡ true)
unfolding owner_in
owner_sound [] p e = absurd (none-some p e)
owner_sound (letter ∷ rest) p e = elim (cases_Bool (eqb letter 76)) [
  | inl l ↦ let s = lane_sound rest p (rw l at e) in (ap (λ c. c ∷ rest) (eqb-true letter 76 l) ∙ s.0, s.1)
  | inr not_l ↦ elim (cases_Bool (eqb letter 81)) [
    | inl q ↦ let s = queue_sound rest p (rw q at (rw not_l at e)) in (ap (λ c. c ∷ rest) (eqb-true letter 81 q) ∙ s.0, s.1)
    | inr not_q ↦ elim (cases_Bool (eqb letter 80)) [
      | inl is_p ↦ let s = publisher_sound rest p (rw is_p at (rw not_q at (rw not_l at e))) in
          (ap (λ c. c ∷ rest) (eqb-true letter 80 is_p) ∙ s.0, s.1)
      | inr not_p ↦ absurd (none-some p (rw not_p at (rw not_q at (rw not_l at e))))
    ]
  ]
]

owner_complete : (owner : Owner) (lane : ℕ) → owner_fits owner lane ≡ true → owner_in (owner_text owner lane) ≡ Some (owner, lane)
unfolding owner_in owner_text owner_fits
owner_complete owners.Publisher lane f = ap (option_map publisher_from) (short_exact.complete lane f)
owner_complete (owners.Lane number) lane f =
    let h = both_true (is_short lane) (eqb number lane) f in
    let same : number ≡ lane = eqb-true number lane h.1 in
    ap (λ n. option_map lane_from (short_in (decimal n))) same ∙ ap (option_map lane_from) (short_exact.complete lane h.0)
    ∙ ap (λ n. Some (owners.Lane n, lane)) (sym same)
owner_complete (owners.Queue cpu) lane f = ap (option_map queue_from) (ends_exact.complete (cpu, lane) f)

pub owner_exact : IsExact owner_in owner_of_text owner_is_good
owner_exact = record { sound = owner_sound; complete = λ p f. owner_complete p.0 p.1 f }
