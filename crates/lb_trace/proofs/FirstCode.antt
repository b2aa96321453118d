-- Of the tests of a line in their order, the first that holds gives the code of the refusal.
-- For the lemmas of `AcceptedFacts`, `FirstBadLaws` and other files, and so for the laws `accepted` and `first_bad`;
-- cited by `lb_read` too.
use Rattle.std.proofs.Common.{◌≡◌, true, false, [], ◌∷◌, ◌++◌, Ok, Err, refl, sym, ap, ◌∙◌}
use Rattle.lb_trace.specs.declared.trace.Code.{Code}
use Rattle.lb_trace.specs.Tests.{Tests, unless_bad}
use Rattle.lb_trace.specs.FirstBad.{is_bad, IsFirstCode}

-- where a value is given, no test holds
pub record Passes {A : Type 0} (tests : Tests) (given value : A) : Type 0 where
  pub same : value ≡ given
  pub good : is_bad tests ≡ false

pub passes : {A : Type 0} (tests : Tests) (given value : A) → unless_bad tests given ≡ Ok value → Passes tests given value
passes [] given value e = record { same = cc; good = refl }
passes ((true, code) ∷ tests) given value e = absurd (cc)
passes ((false, code) ∷ tests) given value e =
    let rest = passes tests given value e in
    record { same = rest.same; good = rest.good }

-- a code that is given is the first, and the first is given
pub first_code : {A : Type 0} (tests : Tests) (given : A) (code : Code) → unless_bad tests given ≡ Err code
    → IsFirstCode tests code
first_code [] given code e = absurd (cc)
first_code ((true, other) ∷ tests) given code e =
    record { before = []; after = tests; place = ap (λ c. (true, c) ∷ tests) (cc); first = refl }
first_code ((false, other) ∷ tests) given code e =
    let rest = first_code tests given code e in
    record {
      before = (false, other) ∷ rest.before;
      after = rest.after;
      place = ap (λ ts. (false, other) ∷ ts) rest.place;
      first = rest.first;
    }

pub gives_first : {A : Type 0} (before after : Tests) (given : A) (code : Code) → is_bad before ≡ false
    → unless_bad (before ++ (true, code) ∷ after) given ≡ Err code
gives_first [] after given code good = refl
gives_first ((true, other) ∷ before) after given code good = absurd (cc)
gives_first ((false, other) ∷ before) after given code good = gives_first before after given code good

-- where a code is the first, the tests are bad, and the first code is one
pub first_is_bad : (tests : Tests) (code : Code) → IsFirstCode tests code → is_bad tests ≡ true
first_is_bad tests code h = ap is_bad h.place ∙ holds h.before h.after code
  where
    holds : (before after : Tests) (code : Code) → is_bad (before ++ (true, code) ∷ after) ≡ true
    holds [] after code = refl
    holds ((true, other) ∷ before) after code = refl
    holds ((false, other) ∷ before) after code = holds before after code

pub one_first : (tests : Tests) (a b : Code) → IsFirstCode tests a → IsFirstCode tests b → a ≡ b
one_first tests a b first second =
    let same = sym (gives tests a a first) ∙ gives tests a b second in cc
  where
    gives : (tests : Tests) (given code : Code) → IsFirstCode tests code → unless_bad tests given ≡ Err code
    gives tests given code h = ap (λ ts. unless_bad ts given) h.place ∙ gives_first h.before h.after given code h.first
