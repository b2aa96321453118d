-- For `parser` of src/parser.rt: the parser of the program's words: a subcommand for each command, none with
-- a help of its own.
use Rattle.std.proofs.Common.{ap, ap₂, refl, true, ◌≡◌, ◌∙◌, codes}
use Rattle.std.proofs.lemmas.Result.{IfOk-weaker}
use Rattle.clap.specs.Words.{App, app_of, new_app, with_subcommand}
use Rattle.clap.specs.Simple.{app_of_fields, on_top}
use Rattle.clap.specs.declared.builder.command.Command.TheViews.{out-Command}
use Rattle.lb_words.specs.Parser.{bare_app, alone_apps, generator_app}
use Rattle.lb_words.proofs.parser.parser.Goals as goal

pub returns : goal.returns
returns c =
    let top_of = λ (a : App). a.top in
    let fields : out-Command c.subcommand_required.result ≡ record (out-Command c.new.result) {
      no_binary_name = true;
      disable_help_flag = true;
      disable_help_subcommand = true;
      subcommand_required = true;
    } =
    rw (c.subcommand_required.ensures, c.disable_help_subcommand.ensures, c.disable_help_flag.ensures, c.no_binary_name.ensures)
    refl in
    let bare : app_of c.subcommand_required.result ≡ bare_app =
    ap app_of_fields fields
    ∙ ap (on_top (λ s. record s {
      no_binary_name = true;
      disable_help_flag = true;
      disable_help_subcommand = true;
      subcommand_required = true;
    }))
    c.new.ensures.app in
    let with_step : app_of c.in_ok-subcommand.field-0 ≡ with_subcommand bare_app (new_app (codes "step")).top =
    c.in_ok-subcommand.ensures.shape c.new-2.ensures.local ∙ ap₂ with_subcommand bare (ap top_of c.new-2.ensures.app) in
    let with_run : app_of c.in_ok-subcommand-2.field-0
    ≡ with_subcommand (with_subcommand bare_app (new_app (codes "step")).top) (new_app (codes "run")).top =
    c.in_ok-subcommand-2.ensures.shape c.new-3.ensures.local ∙ ap₂ with_subcommand with_step (ap top_of c.new-3.ensures.app) in
    let with_topo : app_of c.in_ok-subcommand-3.field-0
    ≡ with_subcommand (with_subcommand (with_subcommand bare_app (new_app (codes "step")).top) (new_app (codes "run")).top)
    (new_app (codes "topo")).top =
    c.in_ok-subcommand-3.ensures.shape c.new-4.ensures.local ∙ ap₂ with_subcommand with_run (ap top_of c.new-4.ensures.app) in
    let with_check : app_of c.in_ok-command.command ≡ alone_apps =
    c.in_ok-command.ensures.shape c.new-5.ensures.local ∙ ap₂ with_subcommand with_topo (ap top_of c.new-5.ensures.app) in
    let with_gen : app_of c.in_ok-command-2.command ≡ with_subcommand alone_apps (generator_app (codes "gen")).top =
    c.in_ok-command-2.ensures.shape c.in_ok-generator.ensures.local
    ∙ ap₂ with_subcommand with_check (ap top_of c.in_ok-generator.ensures.app) in
    IfOk-weaker c.subcommand-6.result _ _
    (λ m h. h.shape c.in_ok-generator-2.ensures.local ∙ ap₂ with_subcommand with_gen (ap top_of c.in_ok-generator-2.ensures.app))
    c.subcommand-6.ensures
