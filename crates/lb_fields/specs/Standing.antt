-- Where a reader of fields stands between two lines: its next read begins at the start of a line, and
-- it is known which text it reads from there on.
-- Cited by the contracts of `start` and `next_fields`; also by `lb_trace`.
use Rattle.std.specs.Prelude.{◌≡◌, ℕ, true, false, List, Some, None}
use Rattle.std.specs.Borrow.{Bor}
use Rattle.csv.specs.Reading.{source_of, Ready, reader_config, reader_trim, reader_state, is_flexible}
use Rattle.csv.specs.declared.reader.Reader.{Reader}
use Rattle.csv.specs.declared.reader.Trim.TheVariants as trim
use Rattle.csv.specs.declared.parser.Config.{Config}
use Rattle.csv.specs.declared.parser.Terminator.TheVariants as terminators
use Rattle.csv.specs.declared.parser.State.TheVariants as states
use Rattle.lb_text.specs.declared.marks.TheConstants.{COMMA, LINE_FEED}

-- fields end at commas and lines at line feeds, and no byte is a quote
abbrev pub plain_config : Config
plain_config = record {
  delimiter = COMMA;
  quote = 34;
  escape = None;
  double_quote = true;
  quoting = false;
  comment = None;
  terminator = terminators.Any LINE_FEED;
}

-- the reader is at the start of a line, and this text is left; lines may differ in how many fields
-- they have, and no field is trimmed
pub record Stands (reader : Reader (Bor (List ℕ))) (text : List ℕ) : Type 0 where
  pub config : reader_config reader ≡ plain_config
  pub flexible : is_flexible reader ≡ true
  pub trim : reader_trim reader ≡ trim.None
  pub ready : Ready reader
  pub state : reader_state reader ≡ states.StartRecord
  pub source : source_of (λ (rest : Bor (List ℕ)). Some rest.now) reader ≡ Some text
