-- How it is read what an entry says: the fields behind the word of its kind. It is trusted: by Entries, FirstBad and Laws
-- rest on it.
-- Cited by the contracts of `what_in`, `row_in`, `adopt_in` and others.
use Rattle.std.specs.Prelude.{ℕ, List, Option}
use Rattle.lb_base.specs.declared.shape.Kind.{Kind}
use Rattle.lb_queue.specs.declared.answers.Reply.{Reply}
use Rattle.lb_queue.specs.declared.answers.AskReply.{AskReply}
use Rattle.lb_queue.specs.declared.answers.OutCause.{OutCause}
use Rattle.lb_core.specs.declared.entry.OutcomeWord.{OutcomeWord}
use Rattle.lb_read.specs.declared.kinds.WhatKind.{WhatKind}
use Rattle.std.specs.Option.{option_map}
use Rattle.lb_base.specs.declared.mask.Mask.{Mask}
use Rattle.lb_core.specs.declared.entry.FigName.{FigName}
use Rattle.lb_imbalance.specs.declared.decision.Decision.{Decision}
use Rattle.lb_trace.specs.declared.trace.Command.{Command}
use Rattle.lb_core.specs.declared.entry.What.{What}
use Rattle.lb_core.specs.declared.entry.What.TheVariants as whats
use Rattle.lb_read.specs.declared.kinds.WhatKind.TheVariants as kinds
use Rattle.lb_read.specs.Exact.{by_word, take_field, next_to, ending, if_none_left, whole, named}
use Rattle.lb_read.specs.Words.{turn_words, reply_words, request_words, cause_words, outcome_words}
use Rattle.lb_read.specs.KindWords.{decision_words, command_words}
use Rattle.lb_read.specs.Fields.{short_in, long_in, mask_in, ids_in, figures_in, target_in}
use Rattle.lb_read.specs.Commands.{command_in}
use Rattle.lb_read.specs.Decisions.{decision_in}

abbrev pub row_from : ℕ × (Command × ℕ) → What
row_from p = whats.Row p.0 p.1.1 p.1.0

abbrev pub adopt_from : (ℕ × Kind) × ℕ → What
adopt_from p = whats.Adopt p.0.0 p.0.1 p.1

abbrev pub look_from : ((ℕ × Mask) × List FigName) × Decision → What
look_from p = whats.Look p.0.0.0 p.0.0.1 p.0.1 p.1

abbrev pub scan_from : List FigName × Option ℕ → What
scan_from p = whats.Scan p.0 p.1

abbrev pub end_from : Mask → What
end_from mask = whats.End mask

abbrev pub did_from : Reply → What
did_from reply = whats.Did reply

abbrev pub out_from : (OutCause × ℕ) × List ℕ → What
out_from p = whats.Out p.0.0 p.0.1 p.1

abbrev pub landed_from : List ℕ → What
landed_from ids = whats.Landed ids

abbrev pub turn_from : Mask → What
turn_from mask = whats.Turn mask

abbrev pub close_from : ((ℕ × OutcomeWord) × ℕ) × ℕ → What
close_from p = whats.Close p.0.0.0 p.0.0.1 p.0.1 p.1

abbrev pub ask_from : AskReply → What
ask_from reply = whats.Ask reply

abbrev pub kick_from : AskReply → What
kick_from reply = whats.Kick reply

abbrev pub pub_from : ℕ → What
pub_from version = whats.Pub version

unfoldable pub what_in : WhatKind → List (List ℕ) → Option What
what_in kinds.Row fields = option_map row_from (ending (take_field long_in) (by_word command_words command_in) fields)
what_in kinds.Adopt fields =
    option_map adopt_from
    (whole (next_to (next_to (take_field long_in) (take_field (named turn_words))) (take_field short_in)) fields)
what_in kinds.Look fields =
    option_map look_from
    (ending (next_to (next_to (take_field short_in) (take_field mask_in)) (take_field figures_in))
    (by_word decision_words decision_in) fields)
what_in kinds.Scan fields = option_map scan_from (whole (next_to (take_field figures_in) (take_field target_in)) fields)
what_in kinds.End fields = option_map end_from (whole (take_field mask_in) fields)
what_in kinds.Did fields = option_map did_from (whole (take_field (named reply_words)) fields)
what_in kinds.Out fields =
    option_map out_from
    (whole (next_to (next_to (take_field (named cause_words)) (take_field short_in)) (take_field ids_in)) fields)
what_in kinds.Landed fields = option_map landed_from (whole (take_field ids_in) fields)
what_in kinds.Turn fields = option_map turn_from (whole (take_field mask_in) fields)
what_in kinds.Shut fields = if_none_left whats.Shut fields
what_in kinds.Close fields =
    option_map close_from
    (whole
    (next_to
    (next_to (next_to (take_field short_in) (take_field (named outcome_words))) (take_field long_in))
    (take_field short_in))
    fields)
what_in kinds.Ask fields = option_map ask_from (whole (take_field (named request_words)) fields)
what_in kinds.Kick fields = option_map kick_from (whole (take_field (named request_words)) fields)
what_in kinds.Over fields = if_none_left whats.Over fields
what_in kinds.Pub fields = option_map pub_from (whole (take_field long_in) fields)
