-- What the parser's matches hold, in the words of its specification.
-- For `work_read` and `work_found`.
use Rattle.std.proofs.Common.{◌≡◌, List, Option, Some, None, refl}
use Rattle.std.specs.Prelude.{option_map}
use Rattle.std.specs.Box.{box_value}
use Rattle.clap.specs.Words.{Row, Text, first_of, found_of, first_value, rows_of, subcommand_name_of, subcommand_rows_of}
use Rattle.clap.specs.declared.parser.matches.ArgMatches.{ArgMatches}
use Rattle.clap.specs.declared.parser.matches.ArgMatches.TheViews.{out-ArgMatches, out-SubCommand}
use Rattle.clap.specs.declared.parser.matches.Found.{Found}
use Rattle.clap.proofs.WalkLemmas.{first_value-rows}

pub first_found : (f : Found) (id : Text) → first_value f id ≡ first_of id (rows_of f)
first_found f id = first_value-rows f id

abbrev pairs : {X : Type 0} → (X → Text) → (X → List Row) → Option X → Option (Text × List Row)
pairs name rows None = None
pairs name rows (Some x) = Some (name x, rows x)

abbrev second : Option (Text × List Row) → Option (List Row)
second None = None
second (Some pair) = Some pair.1

pair_found : {X : Type 0} (f : X → Text) (h : X → List Row) (o : Option X) (name : Text) (rows : List Row)
    → option_map f o ≡ Some name → second (pairs f h o) ≡ Some rows → pairs f h o ≡ Some (name, rows)
pair_found f h None name rows n r = cc n
pair_found f h (Some x) name rows n r = cc (n, r)

pair_none : {X : Type 0} (f : X → Text) (h : X → List Row) (o : Option X) → option_map f o ≡ None → pairs f h o ≡ None
pair_none f h None n = refl
pair_none f h (Some x) n = cc n

pub rows_found : (m : ArgMatches) (name : Text) (rows : List Row)
    → subcommand_name_of m ≡ Some name → option_map (λ p. p.1) (subcommand_rows_of m) ≡ Some rows
    → subcommand_rows_of m ≡ Some (name, rows)
rows_found m name rows n r =
    pair_found (λ b. (out-SubCommand (box_value b)).name.now) (λ b. rows_of (found_of (out-SubCommand (box_value b)).matches))
    (out-ArgMatches m).subcommand name rows n r

pub no_rows_found : (m : ArgMatches) → subcommand_name_of m ≡ None → subcommand_rows_of m ≡ None
no_rows_found m n =
    pair_none (λ b. (out-SubCommand (box_value b)).name.now) (λ b. rows_of (found_of (out-SubCommand (box_value b)).matches))
    (out-ArgMatches m).subcommand n
