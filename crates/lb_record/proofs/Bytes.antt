-- Which bytes stand in fields and lines: none that is the mark between fields, and no line feed.
-- For the lemmas of `Cut` and `Spelled`, and so for the laws `has_its_lines` and `has_its_fields`; cited by `lb_read`
-- too.
use Rattle.std.proofs.Common.{◌≡◌, ℕ, zero, suc, ◌+◌, ◌<◌, ◌≤◌, ◌%◌, ◌/◌, ℤ, pos, negsuc, Bool, true, false, eqb, ltb, List, [], ◌∷◌, ◌++◌, map, refl, arith, inl, inr}
use Rattle.std.specs.Prelude.{decimal}
use Rattle.std.specs.Fmt.{digit_glyph, digits_onto, digits, signed_decimal}
use Rattle.std.specs.List.{list_all, join_with_byte, All}
use Rattle.std.proofs.lemmas.Bool.{cases_Bool, cases_lt, lt-ltb, ltb-true, ne_eqb}
use Rattle.std.proofs.lemmas.Bool.Decides.{nat_tests}
use Rattle.std.proofs.lemmas.List.Folds.{list_all-append}
use Rattle.std.proofs.lemmas.List.Sums.{AllPass-from_list_all}
use Rattle.std.proofs.lemmas.List.Elements.{All-weaker}
use Rattle.lb_text.specs.Lines.{joined, marked, numbered}

-- each byte is greater than k
abbrev pub over : ℕ → List ℕ → Bool
over k text = list_all (λ b. ltb k b) text

-- each byte of each text is
abbrev pub EachOver : ℕ → List (List ℕ) → Type 0
EachOver k [] = Unit {0}
EachOver k (text ∷ texts) = (over k text ≡ true) × EachOver k texts

pub over_append : (k : ℕ) (a b : List ℕ) → over k a ≡ true → over k b ≡ true → over k (a ++ b) ≡ true
over_append k a b p q = rw (list_all-append (λ c. ltb k c) a b, p, q) refl

pub over_cons : (k b : ℕ) (text : List ℕ) → k < b → over k text ≡ true → over k (b ∷ text) ≡ true
over_cons k b text lt p = rw (lt-ltb k b lt, p) refl

-- the bytes are greater than each lesser bound
pub over_weaker : (j k : ℕ) (text : List ℕ) → j ≤ k → over k text ≡ true → over j text ≡ true
over_weaker j k [] le p = refl
over_weaker j k (b ∷ text) le p = elim (cases_lt k b) [
  | inl lt ↦ over_cons j b text (omega arith) (over_weaker j k text le (rw (lt-ltb k b lt) at p))
  | inr ge ↦ grind (arith, nat_tests)
]

pub each_weaker : (j k : ℕ) (texts : List (List ℕ)) → j ≤ k → EachOver k texts → EachOver j texts
each_weaker j k [] le e = tt
each_weaker j k (text ∷ texts) le e = (over_weaker j k text le e.0, each_weaker j k texts le e.1)

pub each_append : (k : ℕ) (a b : List (List ℕ)) → EachOver k a → EachOver k b → EachOver k (a ++ b)
each_append k [] b p q = q
each_append k (text ∷ a) b p q = (p.0, each_append k a b p.1 q)

-- of a list of texts that are made one by one
pub each_map : {A : Type 0} (k : ℕ) (f : A → List ℕ) (xs : List A) → ((x : A) → over k (f x) ≡ true) → EachOver k (map f xs)
each_map k f [] h = tt
each_map k f (x ∷ xs) h = (h x, each_map k f xs h)

pub each_numbered : {A : Type 0} (k : ℕ) (line : ℕ → A → List ℕ) (n : ℕ) (xs : List A)
    → ((i : ℕ) (x : A) → over k (line i x) ≡ true) → EachOver k (numbered line n xs)
each_numbered k line n [] h = tt
each_numbered k line n (x ∷ xs) h = (h n x, each_numbered k line (n + 1) xs h)

-- texts with a mark before each, and between each two
marked_over : (k mark : ℕ) (texts : List (List ℕ)) → k < mark → EachOver k texts → over k (marked mark texts) ≡ true
marked_over k mark [] lt e = refl
marked_over k mark (text ∷ texts) lt e = over_cons k mark (text ++ marked mark texts) lt
    (over_append k text (marked mark texts) e.0 (marked_over k mark texts lt e.1))

pub joined_over : (k mark : ℕ) (texts : List (List ℕ)) → k < mark → EachOver k texts → over k (joined mark texts) ≡ true
joined_over k mark [] lt e = refl
joined_over k mark (text ∷ texts) lt e = over_append k text (marked mark texts) e.0 (marked_over k mark texts lt e.1)

-- the same, in std's word
pub between_over : (k mark : ℕ) (texts : List (List ℕ)) → k < mark → EachOver k texts → over k (join_with_byte mark texts) ≡ true
between_over k mark [] lt e = refl
between_over k mark (text ∷ []) lt e = e.0
between_over k mark (text ∷ next ∷ texts) lt e =
    over_append k text (mark ∷ join_with_byte mark (next ∷ texts)) e.0
    (over_cons k mark (join_with_byte mark (next ∷ texts)) lt (between_over k mark (next ∷ texts) lt e.1))

glyph_over : (k d : ℕ) → k < 48 → k < digit_glyph false d
glyph_over k d low = elim (cases_lt d 10) [
  | inl lt ↦ rw (lt-ltb d 10 lt) (omega arith)
  | inr ge ↦ grind (arith, nat_tests)
]

onto_over : (k i n : ℕ) (acc : List ℕ) → k < 48 → over k acc ≡ true → over k (digits_onto i 10 false n acc) ≡ true
onto_over k zero n acc low p = p
onto_over k (suc i) n acc low p =
    let more = over_cons k (digit_glyph false (n % 10)) acc (glyph_over k (n % 10) low) p in
    elim (cases_Bool (eqb (n / 10) 0)) [
      | inl e ↦ rw e more
      | inr e ↦ rw e (onto_over k i (n / 10) (digit_glyph false (n % 10) ∷ acc) low more)
    ]

pub decimal_over : (k n : ℕ) → k < 48 → over k (decimal n) ≡ true
unfolding digits
decimal_over k n low = onto_over k 64 n [] low refl

pub signed_over : (k : ℕ) (n : ℤ) → k < 45 → over k (signed_decimal n) ≡ true
signed_over k (pos n) low = decimal_over k n (omega arith)
signed_over k (negsuc n) low = over_cons k 45 (decimal (suc n)) low (decimal_over k (suc n) (omega arith))

-- a byte that is not above the bound stands nowhere
pub free : (mark k : ℕ) (text : List ℕ) → mark ≤ k → over k text ≡ true → All (λ b. eqb b mark ≡ false) text
free mark k text le p =
    All-weaker (λ b. ltb k b ≡ true) (λ b. eqb b mark ≡ false)
    (λ b above. let lt = ltb-true k b above in ne_eqb b mark (λ same. omega arith)) text
    (AllPass-from_list_all (λ b. ltb k b) text p)
