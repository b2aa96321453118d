-- The parser takes exactly the words that are a command, and what it finds there is that command's work.
-- For `work_of`.
use Rattle.std.proofs.Common.{◌≡◌, ℕ, Bool, true, false, ◌==◌, List, [], ◌∷◌, Option, Some, None, refl, sym, subst, ◌∙◌, codes, inl, inr}
use Rattle.std.proofs.lemmas.Bool.{cases_Bool, eqb-true}
use Rattle.std.specs.Prelude.{◌||◌, ◌&&◌, ◌⊎◌, if◌then◌else◌, option_and_then}
use Rattle.std.specs.Str.{bytes_eq, all_ascii_digits}
use Rattle.std.specs.List.{list_any}
use Rattle.std.proofs.lemmas.Slice.Eq.{bytes_eq-Decides}
use Rattle.clap.specs.Words.{Text, subcommand_of, fault_of}
use Rattle.clap.specs.Kinds.{Kinds}
use Rattle.clap.specs.declared.error.kind.ErrorKind.{ErrorKind}
use Rattle.clap.proofs.OnLiterals.{clap_on_literals}
use Rattle.lb_text.specs.Numbers.{number_of, number_within}
use Rattle.lb_words.specs.declared.work.Work.{Work}
use Rattle.lb_words.specs.Words.{generated, work_named, work_of}
use Rattle.lb_words.specs.Parser.{is_special, lb_app, work_found, work_read}
use Rattle.lb_words.proofs.Faults.{is_dashed, no_end, no_long, no_short, none_asked, unknown, StandsAlone, TakesTwo, step_alone, run_alone, topo_alone, check_alone, gen_two_values, sum_two_values}

-- ---- tests of words
same_words : (a b : Text) → bytes_eq a b ≡ true → a ≡ b
same_words a b e = (bytes_eq-Decides a b).0 e

turned : (a b : Text) → bytes_eq a b ≡ false → bytes_eq b a ≡ false
turned a b e = elim (cases_Bool (bytes_eq b a)) [
  | inl same ↦ cc (sym e ∙ (bytes_eq-Decides a b).1 (sym (same_words b a same)))
  | inr other ↦ other
]

or_left : (a b : Bool) → (a || b) ≡ false → a ≡ false
or_left false b e = refl
or_left true b e = cc e

or_right : (a b : Bool) → (a || b) ≡ false → b ≡ false
or_right false b e = e
or_right true b e = cc e

or_second : (a b : Bool) → a ≡ false → (a || b) ≡ true → b ≡ true
or_second false b f t = t
or_second true b f t = cc f

or_nothing : (a : Bool) → (a || false) ≡ true → a ≡ true
or_nothing true e = refl
or_nothing false e = cc e

no_dash : (w : Text) → is_special w ≡ false → is_dashed w ≡ false
no_dash [] e = refl
no_dash (c ∷ cs) e = or_left (c == 45) _ e

plain_head : (w : Text) (ws : List Text) → list_any is_special (w ∷ ws) ≡ false → is_dashed w ≡ false
plain_head w ws e = no_dash w (or_left (is_special w) _ e)

plain_rest : (w : Text) (ws : List Text) → list_any is_special (w ∷ ws) ≡ false → list_any is_special ws ≡ false
plain_rest w ws e = or_right (is_special w) _ e

-- ---- two numbers and no command
abbrev pub NamesNone : Text → Type 0
NamesNone w = (n r : ℕ) → generated w n r ≡ None

none_with_two : (w a b : Text) → NamesNone w → work_of (w ∷ a ∷ b ∷ []) ≡ None
unfolding work_of
none_with_two w a b none =
    let g : ℕ → ℕ → Option Work = λ n r. generated w n r in
    by_cases g none (number_of 4294967295 a) (number_of 100000 b)
  where
    by_cases : (g : ℕ → ℕ → Option Work) → ((n r : ℕ) → g n r ≡ None) → (m n : Option ℕ)
        → option_and_then (λ x. option_and_then (λ y. g x y) n) m ≡ None
    by_cases g none None n = refl
    by_cases g none (Some x) None = refl
    by_cases g none (Some x) (Some y) = none x y

-- ---- the verdict
-- the parser finds nothing wrong and finds the work, or finds something wrong and there is no work
abbrev pub Verdict : List Text → Type 0
Verdict words =
    ((fault_of lb_app words ≡ []) × (work_found (subcommand_of lb_app words) ≡ work_of words))
    ⊎ ((fault_of lb_app words ≡ [] → ⊥) × (work_of words ≡ None))

refused : (words : List Text) (k : ErrorKind) (ks : Kinds) → fault_of lb_app words ≡ k ∷ ks → work_of words ≡ None → Verdict words
refused words k ks e none = inr ((λ empty. cc (sym e ∙ empty)), none)

alone : (name : Text) → StandsAlone name → work_found (subcommand_of lb_app (name ∷ [])) ≡ work_named name → NamesNone name
    → (rest : List Text) → list_any is_special rest ≡ false → Verdict (name ∷ rest)
unfolding work_of
alone name stands found none [] e = inl (stands.alone, found)
alone name stands found none (x ∷ []) e = refused _ _ _ (stands.more x [] (plain_head x [] e)) refl
alone name stands found none (x ∷ y ∷ []) e =
    refused _ _ _ (stands.more x (y ∷ []) (plain_head x (y ∷ []) e)) (none_with_two name x y none)
alone name stands found none (x ∷ y ∷ z ∷ more) e =
    refused _ _ _ (stands.more x (y ∷ z ∷ more) (plain_head x (y ∷ z ∷ more) e)) refl

with_two : (name : Text) → TakesTwo name → work_named name ≡ None
    → ((a b : Text) → is_dashed a ≡ false → is_dashed b ≡ false
    → work_found (subcommand_of lb_app (name ∷ a ∷ b ∷ [])) ≡ work_of (name ∷ a ∷ b ∷ []))
    → (rest : List Text) → list_any is_special rest ≡ false → Verdict (name ∷ rest)
unfolding work_of
with_two name takes none found [] e = refused _ _ _ takes.none none
with_two name takes none found (a ∷ []) e = refused _ _ _ (takes.one a (plain_head a [] e)) refl
with_two name takes none found (a ∷ b ∷ []) e =
    let pa = plain_head a (b ∷ []) e in
    let pb = plain_head b [] (plain_rest a (b ∷ []) e) in
    inl (takes.two a b pa pb, found a b pa pb)
with_two name takes none found (a ∷ b ∷ x ∷ xs) e =
    let ta = plain_rest a (b ∷ x ∷ xs) e in
    let tb = plain_rest b (x ∷ xs) ta in
    refused _ _ _ (takes.more a b x xs (plain_head a (b ∷ x ∷ xs) e) (plain_head b (x ∷ xs) ta) (plain_head x xs tb)) refl

gen_found : (a b : Text) → is_dashed a ≡ false → is_dashed b ≡ false
    → work_found (subcommand_of lb_app (codes "gen" ∷ a ∷ b ∷ [])) ≡ work_of (codes "gen" ∷ a ∷ b ∷ [])
unfolding clap_on_literals work_found work_read work_of
gen_found a b e f = rw (no_end a e, no_long a e, no_short a e, no_end b f, no_long b f, no_short b f) refl

sum_found : (a b : Text) → is_dashed a ≡ false → is_dashed b ≡ false
    → work_found (subcommand_of lb_app (codes "sum" ∷ a ∷ b ∷ [])) ≡ work_of (codes "sum" ∷ a ∷ b ∷ [])
unfolding clap_on_literals work_found work_read work_of
sum_found a b e f = rw (no_end a e, no_long a e, no_short a e, no_end b f, no_long b f, no_short b f) refl

step_found : work_found (subcommand_of lb_app (codes "step" ∷ [])) ≡ work_named (codes "step")
unfolding clap_on_literals work_found work_read
step_found = refl

run_found : work_found (subcommand_of lb_app (codes "run" ∷ [])) ≡ work_named (codes "run")
unfolding clap_on_literals work_found work_read
run_found = refl

topo_found : work_found (subcommand_of lb_app (codes "topo" ∷ [])) ≡ work_named (codes "topo")
unfolding clap_on_literals work_found work_read
topo_found = refl

check_found : work_found (subcommand_of lb_app (codes "check" ∷ [])) ≡ work_named (codes "check")
unfolding clap_on_literals work_found work_read
check_found = refl

-- words of which the first is no command
no_command : (w : Text) (rest : List Text)
    → bytes_eq w (codes "step") ≡ false → bytes_eq w (codes "run") ≡ false → bytes_eq w (codes "topo") ≡ false
    → bytes_eq w (codes "check") ≡ false → bytes_eq w (codes "gen") ≡ false → bytes_eq w (codes "sum") ≡ false
    → work_of (w ∷ rest) ≡ None
unfolding work_of
no_command w [] step run topo check gen sum = rw (step, run, topo, check) refl
no_command w (x ∷ []) step run topo check gen sum = refl
no_command w (x ∷ y ∷ []) step run topo check gen sum = none_with_two w x y (λ n r. rw (gen, sum) refl)
no_command w (x ∷ y ∷ z ∷ more) step run topo check gen sum = refl

other : (w : Text) (rest : List Text) → is_dashed w ≡ false
    → bytes_eq w (codes "step") ≡ false → bytes_eq w (codes "run") ≡ false → bytes_eq w (codes "topo") ≡ false
    → bytes_eq w (codes "check") ≡ false → bytes_eq w (codes "gen") ≡ false → bytes_eq w (codes "sum") ≡ false
    → Verdict (w ∷ rest)
other w rest e step run topo check gen sum =
    refused _ _ _
    (unknown w rest e (turned w (codes "step") step) (turned w (codes "run") run) (turned w (codes "topo") topo)
    (turned w (codes "check") check) (turned w (codes "gen") gen) (turned w (codes "sum") sum))
    (no_command w rest step run topo check gen sum)

on_none : Verdict []
unfolding work_of
on_none = refused _ _ _ none_asked refl

pub verdict : (words : List Text) → list_any is_special words ≡ false → Verdict words
verdict [] e = on_none
verdict (w ∷ rest) e =
    let more = plain_rest w rest e in
    elim (cases_Bool (bytes_eq w (codes "step"))) [
      | inl same ↦ at w (codes "step") rest same (alone _ step_alone step_found (λ n r. refl) rest more)
      | inr step ↦ elim (cases_Bool (bytes_eq w (codes "run"))) [
        | inl same ↦ at w (codes "run") rest same (alone _ run_alone run_found (λ n r. refl) rest more)
        | inr run ↦ elim (cases_Bool (bytes_eq w (codes "topo"))) [
          | inl same ↦ at w (codes "topo") rest same (alone _ topo_alone topo_found (λ n r. refl) rest more)
          | inr topo ↦ elim (cases_Bool (bytes_eq w (codes "check"))) [
            | inl same ↦ at w (codes "check") rest same (alone _ check_alone check_found (λ n r. refl) rest more)
            | inr check ↦ elim (cases_Bool (bytes_eq w (codes "gen"))) [
              | inl same ↦ at w (codes "gen") rest same (with_two _ gen_two_values refl gen_found rest more)
              | inr gen ↦ elim (cases_Bool (bytes_eq w (codes "sum"))) [
                | inl same ↦ at w (codes "sum") rest same (with_two _ sum_two_values refl sum_found rest more)
                | inr sum ↦ other w rest (plain_head w rest e) step run topo check gen sum
              ]
            ]
          ]
        ]
      ]
    ]
  where
    at : (w name : Text) (rest : List Text) → bytes_eq w name ≡ true → Verdict (name ∷ rest) → Verdict (w ∷ rest)
    at w name rest same v = subst (λ (t : Text). Verdict (t ∷ rest)) (sym (same_words w name same)) v

-- ---- a special word is part of no command
none_if : {A : Type 0} (a b c d e : Bool) (x : A) → b ≡ false → (if a && b && c && d && e then Some x else None) ≡ None
none_if true b c d e x f = rw f refl
none_if false b c d e x f = refl

no_number : (most : ℕ) (w : Text) → all_ascii_digits w ≡ false → number_of most w ≡ None
unfolding number_within
no_number most w e = none_if _ (all_ascii_digits w) _ _ _ _ e

dashed_number : (most : ℕ) (w : Text) → number_of most (45 ∷ w) ≡ None
dashed_number most w = no_number most (45 ∷ w) refl

help_number : (most : ℕ) → number_of most (codes "help") ≡ None
help_number most = no_number most (codes "help") refl

special_number : (most : ℕ) (w : Text) → is_special w ≡ true → number_of most w ≡ None
special_number most [] e = cc e
special_number most (c ∷ w) e = elim (cases_Bool (c == 45)) [
  | inl dash ↦ subst (λ (t : ℕ). number_of most (t ∷ w) ≡ None) (sym (eqb-true c 45 dash)) (dashed_number most w)
  | inr other ↦
      subst (λ (t : Text). number_of most t ≡ None) {x = codes "help"} {y = c ∷ w} (sym (same_words _ _ (or_second _ _ other e)))
      (help_number most)
]

not_named : (w name : Text) → is_special name ≡ false → is_special w ≡ true → bytes_eq w name ≡ false
not_named w name e f = elim (cases_Bool (bytes_eq w name)) [
  | inl same ↦ cc (sym e ∙ subst (λ (t : Text). is_special t ≡ true) (same_words w name same) f)
  | inr other ↦ other
]

two_special : (w a b : Text) → list_any is_special (w ∷ a ∷ b ∷ []) ≡ true → work_of (w ∷ a ∷ b ∷ []) ≡ None
unfolding work_of
two_special w a b e = elim (cases_Bool (is_special w)) [
  | inl sure ↦ none_with_two w a b (λ n r. rw (not_named w (codes "gen") refl sure, not_named w (codes "sum") refl sure) refl)
  | inr no_w ↦ elim (cases_Bool (is_special a)) [
    | inl sure ↦ rw (special_number 4294967295 a sure) refl
    | inr no_a ↦
        rw (special_number 100000 b (or_nothing _ (or_second _ _ no_a (or_second _ _ no_w e)))) (no_rows (number_of 4294967295 a))
  ]
]
  where
    no_rows : (o : Option ℕ) → option_and_then (λ n. option_and_then (λ r. generated w n r) None) o ≡ None
    no_rows None = refl
    no_rows (Some n) = refl

pub special : (words : List Text) → list_any is_special words ≡ true → work_of words ≡ None
unfolding work_of
special [] e = refl
special (w ∷ []) e =
    let sure = or_nothing _ e in
    rw (
      not_named w (codes "step") refl sure,
      not_named w (codes "run") refl sure,
      not_named w (codes "topo") refl sure,
      not_named w (codes "check") refl sure,
    ) refl
special (w ∷ x ∷ []) e = refl
special (w ∷ a ∷ b ∷ []) e = two_special w a b e
special (w ∷ a ∷ b ∷ x ∷ xs) e = refl
