-- For `work_of` of src/words.rt: the work that the words ask for; None exactly where they are no command
-- (README.md).
use Rattle.std.proofs.Common.{◌≡◌, false, [], map, string_bytes, rules, sym, ap, inl, inr, ◌∙◌}
use Rattle.std.specs.List.{list_any}
use Rattle.clap.specs.Words.{App, app_of, fault_of, is_simple, is_simple_and_free, subcommand_of}
use Rattle.lb_words.specs.Parser.{is_special, lb_app, work_found}
use Rattle.lb_words.proofs.Faults.{among_none, is_free, is_simple_app}
use Rattle.lb_words.proofs.Verdicts.{special, verdict}
use Rattle.lb_words.proofs.words.work_of.Goals as goal

pub returns-then-has_special-clause-work : goal.returns-then-has_special-clause-work
returns-then-has_special-clause-work c = sym (special (map string_bytes c.args.words.now) (search rules))

pub returns-in-Ok-clause-work : goal.returns-in-Ok-clause-work
returns-in-Ok-clause-work c =
    let words = map string_bytes c.args.words.now in
    let app : app_of c.in_ok-parser.field-0 ≡ lb_app = c.in_ok-parser.ensures in
    let plain : list_any is_special words ≡ false = search rules in
    let faults : fault_of lb_app words ≡ [] =
    ap (λ (a : App). fault_of a words) (sym app) ∙ c.in-Ok.ensures.kinds (ap is_simple_and_free app ∙ is_free) in
    let sub = (c.in-Ok.ensures.matches (ap is_simple app ∙ is_simple_app)).1 ∙ ap (λ (a : App). subcommand_of a words) app in
    elim (verdict words plain) [
      | inl v ↦ c.work_found.ensures.work ∙ ap work_found sub ∙ v.1
      | inr v ↦ absurd (v.0 faults)
    ]

pub returns-clause-work : goal.returns-clause-work
returns-clause-work c =
    let words = map string_bytes c.args.words.now in
    let app : app_of c.in_ok-parser.field-0 ≡ lb_app = c.in_ok-parser.ensures in
    let plain : list_any is_special words ≡ false = search rules in
    let kinds = c.in-Err.ensures.kinds (ap is_simple_and_free app ∙ is_free) in
    elim (verdict words plain) [
      | inl v ↦ elim kinds [
        | inl memory ↦ absurd (search rules)
        | inr among ↦ absurd (among_none _ _ (ap (λ (a : App). fault_of a words) app ∙ v.0) among)
      ]
      | inr v ↦ sym v.1
    ]
