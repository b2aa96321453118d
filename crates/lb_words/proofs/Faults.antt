-- What the parser finds wrong with words that are not special: for each subcommand and each number of
-- words after it.
-- For `work_of`.
use Rattle.std.proofs.Common.{◌≡◌, ℕ, Bool, true, false, ◌==◌, List, [], ◌∷◌, ◌++◌, Some, None, refl, ◌∙◌, codes, append_assoc}
use Rattle.std.proofs.lemmas.List.{append-nil}
use Rattle.std.specs.Str.{bytes_eq}
use Rattle.std.specs.Prelude.{fold, slice_index_or}
use Rattle.clap.specs.Lexer.{long_of, short_of}
use Rattle.clap.specs.Words.{Rule, Shape, Text, is_simple, new_app, built, fault_of, is_simple_and_free}
use Rattle.clap.specs.Walk.{Names, Walk, walked, walk_from, nothing_held}
use Rattle.clap.specs.Simple.{names_of}
use Rattle.clap.specs.Faults.{level_fault}
use Rattle.clap.specs.Kinds.{Kinds, or_else, IsAmong}
use Rattle.clap.specs.declared.error.kind.ErrorKind.{ErrorKind}
use Rattle.clap.specs.declared.error.kind.ErrorKind.TheVariants as kind
use Rattle.clap.proofs.OnLiterals.{clap_on_literals}
use Rattle.clap.proofs.FaultLemmas.{stopped_fault}
use Rattle.lb_words.specs.Parser.{lb_app}

pub is_free : is_simple_and_free lb_app ≡ true
unfolding clap_on_literals
is_free = refl

pub is_simple_app : is_simple lb_app ≡ true
unfolding clap_on_literals
is_simple_app = refl

pub among_none : (k : ErrorKind) (f : Kinds) → f ≡ [] → IsAmong k f → ⊥
among_none k [] e a = a
among_none k (x ∷ xs) e a = cc e

-- ---- words without a leading hyphen
-- the first byte is `-`
abbrev pub is_dashed : Text → Bool
is_dashed [] = false
is_dashed (c ∷ cs) = c == 45

pub no_long : (w : Text) → is_dashed w ≡ false → long_of w ≡ None
no_long [] e = refl
no_long (c ∷ cs) e = rw e refl

pub no_short : (w : Text) → is_dashed w ≡ false → short_of w ≡ None
no_short [] e = refl
no_short (c ∷ cs) e = rw e refl

pub no_end : (w : Text) → is_dashed w ≡ false → bytes_eq w (45 ∷ 45 ∷ []) ≡ false
no_end [] e = refl
no_end (c ∷ cs) e = rw e refl

-- ---- a subcommand takes all words after it
walk_stopped : (c : List Rule) (names : Names) (w : Walk) (name : Text) (before rest : List Text)
    → fold (walked c names) (record w { stopped = Some (name, before) }) rest ≡ record w { stopped = Some (name, before ++ rest) }
unfolding walked
walk_stopped c names w name before [] = rw (append-nil before) refl
walk_stopped c names w name before (x ∷ rest) =
    rw (walk_stopped c names w name (before ++ x ∷ []) rest, append_assoc before (x ∷ []) rest) refl

abbrev leaf_at : ℕ → Shape
leaf_at k = slice_index_or (built lb_app).subs k (new_app []).top

or_nil : (a : Kinds) → or_else a [] ≡ a
or_nil [] = refl
or_nil (k ∷ ks) = refl

-- what the subcommand at a place finds wrong with its words
abbrev leaf_fault : ℕ → List Text → Kinds
leaf_fault k rest = level_fault (leaf_at k) [] nothing_held rest false []

under_step : (rest : List Text) → fault_of lb_app (codes "step" ∷ rest) ≡ leaf_fault 0 rest
unfolding clap_on_literals
under_step rest =
    rw (
      walk_stopped (built lb_app).top.rules (names_of (built lb_app)) (walk_from nothing_held) (codes "step") [] rest,
      stopped_fault (built lb_app).top (names_of (built lb_app)) (walk_from nothing_held) (codes "step", []) rest,
    ) (or_nil _)

under_run : (rest : List Text) → fault_of lb_app (codes "run" ∷ rest) ≡ leaf_fault 1 rest
unfolding clap_on_literals
under_run rest =
    rw (
      walk_stopped (built lb_app).top.rules (names_of (built lb_app)) (walk_from nothing_held) (codes "run") [] rest,
      stopped_fault (built lb_app).top (names_of (built lb_app)) (walk_from nothing_held) (codes "run", []) rest,
    ) (or_nil _)

under_topo : (rest : List Text) → fault_of lb_app (codes "topo" ∷ rest) ≡ leaf_fault 2 rest
unfolding clap_on_literals
under_topo rest =
    rw (
      walk_stopped (built lb_app).top.rules (names_of (built lb_app)) (walk_from nothing_held) (codes "topo") [] rest,
      stopped_fault (built lb_app).top (names_of (built lb_app)) (walk_from nothing_held) (codes "topo", []) rest,
    ) (or_nil _)

under_check : (rest : List Text) → fault_of lb_app (codes "check" ∷ rest) ≡ leaf_fault 3 rest
unfolding clap_on_literals
under_check rest =
    rw (
      walk_stopped (built lb_app).top.rules (names_of (built lb_app)) (walk_from nothing_held) (codes "check") [] rest,
      stopped_fault (built lb_app).top (names_of (built lb_app)) (walk_from nothing_held) (codes "check", []) rest,
    ) (or_nil _)

under_gen : (rest : List Text) → fault_of lb_app (codes "gen" ∷ rest) ≡ leaf_fault 4 rest
unfolding clap_on_literals
under_gen rest =
    rw (
      walk_stopped (built lb_app).top.rules (names_of (built lb_app)) (walk_from nothing_held) (codes "gen") [] rest,
      stopped_fault (built lb_app).top (names_of (built lb_app)) (walk_from nothing_held) (codes "gen", []) rest,
    ) (or_nil _)

under_sum : (rest : List Text) → fault_of lb_app (codes "sum" ∷ rest) ≡ leaf_fault 5 rest
unfolding clap_on_literals
under_sum rest =
    rw (
      walk_stopped (built lb_app).top.rules (names_of (built lb_app)) (walk_from nothing_held) (codes "sum") [] rest,
      stopped_fault (built lb_app).top (names_of (built lb_app)) (walk_from nothing_held) (codes "sum", []) rest,
    ) (or_nil _)

-- ---- a command of one word
step_more : (x : Text) (xs : List Text) → is_dashed x ≡ false → leaf_fault 0 (x ∷ xs) ≡ kind.UnknownArgument ∷ []
unfolding clap_on_literals
step_more x xs e = rw (no_end x e, no_long x e, no_short x e) refl

run_more : (x : Text) (xs : List Text) → is_dashed x ≡ false → leaf_fault 1 (x ∷ xs) ≡ kind.UnknownArgument ∷ []
unfolding clap_on_literals
run_more x xs e = rw (no_end x e, no_long x e, no_short x e) refl

topo_more : (x : Text) (xs : List Text) → is_dashed x ≡ false → leaf_fault 2 (x ∷ xs) ≡ kind.UnknownArgument ∷ []
unfolding clap_on_literals
topo_more x xs e = rw (no_end x e, no_long x e, no_short x e) refl

check_more : (x : Text) (xs : List Text) → is_dashed x ≡ false → leaf_fault 3 (x ∷ xs) ≡ kind.UnknownArgument ∷ []
unfolding clap_on_literals
check_more x xs e = rw (no_end x e, no_long x e, no_short x e) refl

-- ---- a command with two values
gen_one : (a : Text) → is_dashed a ≡ false → leaf_fault 4 (a ∷ []) ≡ kind.MissingRequiredArgument ∷ []
unfolding clap_on_literals
gen_one a e = rw (no_end a e, no_long a e, no_short a e) refl

gen_two : (a b : Text) → is_dashed a ≡ false → is_dashed b ≡ false → leaf_fault 4 (a ∷ b ∷ []) ≡ []
unfolding clap_on_literals
gen_two a b e f = rw (no_end a e, no_long a e, no_short a e, no_end b f, no_long b f, no_short b f) refl

gen_more : (a b x : Text) (xs : List Text) → is_dashed a ≡ false → is_dashed b ≡ false → is_dashed x ≡ false
    → leaf_fault 4 (a ∷ b ∷ x ∷ xs) ≡ kind.UnknownArgument ∷ []
unfolding clap_on_literals
gen_more a b x xs e f g =
    rw (no_end a e, no_long a e, no_short a e, no_end b f, no_long b f, no_short b f, no_end x g, no_long x g, no_short x g) refl

sum_one : (a : Text) → is_dashed a ≡ false → leaf_fault 5 (a ∷ []) ≡ kind.MissingRequiredArgument ∷ []
unfolding clap_on_literals
sum_one a e = rw (no_end a e, no_long a e, no_short a e) refl

sum_two : (a b : Text) → is_dashed a ≡ false → is_dashed b ≡ false → leaf_fault 5 (a ∷ b ∷ []) ≡ []
unfolding clap_on_literals
sum_two a b e f = rw (no_end a e, no_long a e, no_short a e, no_end b f, no_long b f, no_short b f) refl

sum_more : (a b x : Text) (xs : List Text) → is_dashed a ≡ false → is_dashed b ≡ false → is_dashed x ≡ false
    → leaf_fault 5 (a ∷ b ∷ x ∷ xs) ≡ kind.UnknownArgument ∷ []
unfolding clap_on_literals
sum_more a b x xs e f g =
    rw (no_end a e, no_long a e, no_short a e, no_end b f, no_long b f, no_short b f, no_end x g, no_long x g, no_short x g) refl

-- ---- other words
pub none_asked : fault_of lb_app [] ≡ kind.MissingSubcommand ∷ []
unfolding clap_on_literals
none_asked = refl

pub unknown : (w : Text) (rest : List Text) → is_dashed w ≡ false
    → bytes_eq (codes "step") w ≡ false → bytes_eq (codes "run") w ≡ false → bytes_eq (codes "topo") w ≡ false
    → bytes_eq (codes "check") w ≡ false → bytes_eq (codes "gen") w ≡ false → bytes_eq (codes "sum") w ≡ false
    → fault_of lb_app (w ∷ rest) ≡ kind.UnknownArgument ∷ kind.InvalidSubcommand ∷ []
unfolding clap_on_literals
unknown w rest e step run topo check gen sum = rw (step, run, topo, check, gen, sum, no_end w e, no_long w e, no_short w e) refl

-- ---- together: what the parser finds wrong, by the number of words
-- a command of this word takes nothing after it
pub record StandsAlone (name : Text) : Type 0 where
  pub alone : fault_of lb_app (name ∷ []) ≡ []
  pub more : (x : Text) (xs : List Text) → is_dashed x ≡ false → fault_of lb_app (name ∷ x ∷ xs) ≡ kind.UnknownArgument ∷ []

-- a command of this word takes exactly two values
pub record TakesTwo (name : Text) : Type 0 where
  pub none : fault_of lb_app (name ∷ []) ≡ kind.MissingRequiredArgument ∷ []
  pub one : (a : Text) → is_dashed a ≡ false → fault_of lb_app (name ∷ a ∷ []) ≡ kind.MissingRequiredArgument ∷ []
  pub two : (a b : Text) → is_dashed a ≡ false → is_dashed b ≡ false → fault_of lb_app (name ∷ a ∷ b ∷ []) ≡ []
  pub more : (a b x : Text) (xs : List Text) → is_dashed a ≡ false → is_dashed b ≡ false → is_dashed x ≡ false
      → fault_of lb_app (name ∷ a ∷ b ∷ x ∷ xs) ≡ kind.UnknownArgument ∷ []

pub step_alone : StandsAlone (codes "step")
unfolding clap_on_literals
step_alone = record {
  alone = refl;
  more = λ x xs e. under_step (x ∷ xs) ∙ step_more x xs e;
}

pub run_alone : StandsAlone (codes "run")
unfolding clap_on_literals
run_alone = record {
  alone = refl;
  more = λ x xs e. under_run (x ∷ xs) ∙ run_more x xs e;
}

pub topo_alone : StandsAlone (codes "topo")
unfolding clap_on_literals
topo_alone = record {
  alone = refl;
  more = λ x xs e. under_topo (x ∷ xs) ∙ topo_more x xs e;
}

pub check_alone : StandsAlone (codes "check")
unfolding clap_on_literals
check_alone = record {
  alone = refl;
  more = λ x xs e. under_check (x ∷ xs) ∙ check_more x xs e;
}

pub gen_two_values : TakesTwo (codes "gen")
unfolding clap_on_literals
gen_two_values = record {
  none = refl;
  one = λ a e. under_gen (a ∷ []) ∙ gen_one a e;
  two = λ a b e f. under_gen (a ∷ b ∷ []) ∙ gen_two a b e f;
  more = λ a b x xs e f g. under_gen (a ∷ b ∷ x ∷ xs) ∙ gen_more a b x xs e f g;
}

pub sum_two_values : TakesTwo (codes "sum")
unfolding clap_on_literals
sum_two_values = record {
  none = refl;
  one = λ a e. under_sum (a ∷ []) ∙ sum_one a e;
  two = λ a b e f. under_sum (a ∷ b ∷ []) ∙ sum_two a b e f;
  more = λ a b x xs e f g. under_sum (a ∷ b ∷ x ∷ xs) ∙ sum_more a b x xs e f g;
}
