-- For `start` of src/fields.rt: a reader of the fields of a text's lines, which stands at the start of the
-- first one.
use Rattle.std.proofs.Common.{Some, ap, inr, ◌∙◌, rules}
use Rattle.lb_fields.proofs.MarkFacts.{no_mark}
use Rattle.lb_fields.proofs.fields.start.Goals as goal

pub returns-clause-unmarked : goal.returns-clause-unmarked
returns-clause-unmarked c unmarked =
    let made = c.from_reader.ensures in
    record {
      config = search rules;
      flexible = search rules;
      trim = search rules;
      ready = inr (inr (search rules, made.headers));
      state = made.state;
      source = made.source ∙ ap Some unmarked;
    }

pub returns-clause-plain : goal.returns-clause-plain
returns-clause-plain c line lines cut plain = returns-clause-unmarked c (no_mark c.args.text.now line lines cut plain)
