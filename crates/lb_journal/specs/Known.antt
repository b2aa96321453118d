-- What the seats of the lanes know when the book is closed: of each lane that drew a row, its last
-- entry, by a fact whose ticket nobody quotes.
-- Cited by the law `known_rest`; also by `lb_cpu`, `lb_journal_rows` and `lb_threads`.
use Rattle.std.specs.Prelude.{ℕ, ◌≡◌, ◌<◌, ◌≤◌, false, List}
use base.Stored.{Coded}
use Rattle.lb_ticket.specs.declared.item.Drawn.{Drawn}
use Rattle.lb_ticket.specs.declared.view.Fact.{Fact}
use Rattle.lb_ticket.specs.Tickets.{Closes}
use Rattle.lb_ticket.specs.Facts.{HasFact, AllUnquoted}
use Rattle.lb_trace.specs.declared.trace.Header.{Header}
use Rattle.lb_core.specs.declared.course.Course.{Course}
use Rattle.lb_core.specs.declared.course.Form.TheVariants.{Rest}
use Rattle.lb_core.specs.declared.entry.Owner.TheVariants.{Lane}
use Rattle.lb_journal.specs.Journal.{Journal, Left, number_of, is_nil, meaning_of_journal}
use Rattle.lb_journal.specs.Merge.{list_of, Each, ClosingLast, ClosingBegins, HasEnd, LeavesAtRest}

-- one of the facts is of the lane, and left it at rest
pub record KnowsRest (code : Coded Left) (facts : List Fact) (lane : ℕ) : Type 0 where
  pub fact : Fact
  pub there : HasFact fact facts
  pub lane_is : fact.lane ≡ lane
  pub course : Course
  pub left : fact.left ≡ code.code (record { course = course; lane = lane })
  pub rest : course.form ≡ Rest

-- the closing finds all lanes at rest where, of the facts that the seats hold, one is of each declared
-- lane but lane 0 that drew a row, and left it at rest
abbrev pub KnownRest : Type 0
KnownRest =
    (h : Header) (code : Coded Left) (lists : List (List (Drawn Journal))) (facts : List Fact) →
    Closes meaning_of_journal lists → AllUnquoted meaning_of_journal code facts lists →
    Each (λ d. d.1.header ≡ h) lists → ClosingLast lists → ClosingBegins lists → HasEnd lists →
    ((lane : ℕ) → 1 ≤ lane → lane < h.lanes → is_nil (list_of lists (number_of (Lane lane))) ≡ false →
    KnowsRest code facts lane)
    →
    LeavesAtRest lists
