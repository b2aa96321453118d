-- The items that the test of a journal draws fit the empty list.
-- For `row_item` and `pub_item`.
use Rattle.std.proofs.Common.{◌≡◌, ℕ, ◌<◌, false, [], length, refl, arith}
use Rattle.std.proofs.lemmas.List.Elements.{All-nil}
use Rattle.lb_base.specs.Sets.{are_apart, is_below}
use Rattle.lb_trace.specs.declared.trace.Header.{Header}
use Rattle.lb_trace.specs.declared.trace.Command.TheVariants.{Rebuild}
use Rattle.lb_core.specs.declared.entry.Owner.TheVariants.{Lane, Publisher}
use Rattle.lb_core.specs.declared.entry.What.TheVariants.{Row, Pub}
use Rattle.lb_core.specs.declared.rule.Rule.{Rule}
use Rattle.lb_core.specs.declared.rule.Rule.TheVariants.{Stage, Row as RowRule, Reply as ReplyRule, Version, Figure, Decision, Pick, Flight, Counters, Owed}
use Rattle.lb_core.specs.Course.{opening_course}
use Rattle.lb_core.specs.Stage.{draws, stage_allows}
use Rattle.lb_core.specs.Rules.{breaks_here}
use Rattle.lb_core.specs.CourseAfter.{comes_to_rest, course_after}
use Rattle.lb_journal.specs.Journal.{Journal, Fits, sight_in}
use Rattle.lb_thread_tests.specs.Drawing.{asked_course}

-- lane 0 takes up its row
abbrev pub row_of : Header → Journal
row_of h = record {
  header = h;
  entry = record { owner = Lane 0; lane = 0; prev = 0; what = Row 1 0 (Rebuild []) };
  course = opening_course (length h.cpus);
  after = asked_course (length h.cpus);
  masks = [];
  figs = [];
}

row_allowed : (h : Header) (rule : Rule) → breaks_here rule (sight_in [] (row_of h)) (row_of h).entry ≡ false
unfolding draws stage_allows sight_in is_below are_apart
row_allowed h Stage = refl
row_allowed h RowRule = refl
row_allowed h ReplyRule = refl
row_allowed h Version = refl
row_allowed h Figure = refl
row_allowed h Decision = refl
row_allowed h Pick = refl
row_allowed h Flight = refl
row_allowed h Counters = refl
row_allowed h Owed = refl
row_allowed h rule = refl

pub row_fits : (h : Header) → h.lanes ≡ 1 → Fits [] (row_of h)
unfolding course_after sight_in
row_fits h one = record {
  header = All-nil _;
  declared = rw one refl;
  allowed = row_allowed h;
  after = refl;
  first = λ e. record { course = refl; allowed = refl };
  masks = refl;
  figs = refl;
  turn = tt;
}

-- the publisher answers it
abbrev pub pub_of : Header → ℕ → Journal
pub_of h row = record {
  header = h;
  entry = record { owner = Publisher; lane = 0; prev = row; what = Pub 2 };
  course = asked_course (length h.cpus);
  after = record (comes_to_rest (asked_course (length h.cpus))) { named_version = 2 };
  masks = [];
  figs = [];
}

pub_allowed : (h : Header) (row : ℕ) (rule : Rule) →
    breaks_here rule (sight_in [] (pub_of h row)) (pub_of h row).entry ≡ false
unfolding draws stage_allows sight_in
pub_allowed h row Stage = refl
pub_allowed h row RowRule = refl
pub_allowed h row ReplyRule = refl
pub_allowed h row Version = refl
pub_allowed h row Figure = refl
pub_allowed h row Decision = refl
pub_allowed h row Pick = refl
pub_allowed h row Flight = refl
pub_allowed h row Counters = refl
pub_allowed h row Owed = refl
pub_allowed h row rule = refl

pub pub_fits : (h : Header) (row : ℕ) → h.lanes ≡ 1 → 0 < row → Fits [] (pub_of h row)
unfolding course_after sight_in
pub_fits h row one some = record {
  header = All-nil _;
  declared = rw one refl;
  allowed = pub_allowed h row;
  after = refl;
  first = λ e. absurd (omega arith);
  masks = refl;
  figs = refl;
  turn = tt;
}
