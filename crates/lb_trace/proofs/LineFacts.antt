-- For Reading::take_line: an empty line whose bytes pass has no kind, so its code is Kind.
-- For `Reading::take_line`.
use Rattle.std.proofs.Common.{◌≡◌, ℕ, false, List, [], ◌∷◌, ◌++◌, length, Err, arith}
use Rattle.csv.specs.Records.{field_at}
use Rattle.lb_trace.specs.declared.trace.Code.TheVariants as bad
use Rattle.lb_trace.specs.declared.reading.Reading.{Reading}
use Rattle.lb_trace.specs.Kinds.{line_kind}
use Rattle.lb_trace.specs.Tests.{Tests, unless_bad, byte_tests, kind_tests, line_tests}
use Rattle.lb_trace.specs.Grammar.{line_at}

pub empty_line : (r : Reading) (line : List ℕ) → length line ≡ 0
    → ((tests : Tests) (s : Reading) → unless_bad (byte_tests r false line ++ tests) s ≡ unless_bad tests s)
    → line_at r false line ≡ Err bad.Kind
unfolding line_at line_tests line_kind kind_tests field_at
empty_line r [] e good = good _ _
empty_line r (c ∷ line) e good = absurd (omega (arith, e))
