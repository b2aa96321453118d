-- For `read_lines` of src/read.rt: the history that a text reads as, line after line.
use Rattle.std.proofs.Common.{◌≡◌, ℕ, true, Result, rules, sym, subst}
use Rattle.std.specs.Str.{bytes_eq}
use Rattle.lb_read.specs.declared.written.Read.{Read}
use Rattle.lb_read.specs.Texts.{version_line, Gives}
use Rattle.lb_read.proofs.TextFacts.{behind_header}
use Rattle.lb_read.proofs.read.read_lines.Goals as goal

pub returns : goal.returns
returns c =
    let found = c.in_ok-header in
    let same : bytes_eq c.in-Some.line.now version_line ≡ true = search rules in
    let read =
    behind_header c.args.bytes.now c.in-Some.line.now c.in-Some.rest.now found.rest.now found.header found.first
    c.in-Some.ensures.lines same found.ensures.header found.ensures.first found.ensures.rest in
    subst (λ (given : Result Read ℕ). Gives c.read_from.result given) (sym read) c.read_from.ensures
