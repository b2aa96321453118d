-- Which rules an entry breaks by what its own step reads, the rule `stage` of its course among them.
-- Each rule is a test of one field or two against the value that the course, the queue and the named
-- figures fix.
-- For the definitions of `Step`, and so for the laws `permitted`, `permitted_stays` and others; cited by `lb_cell`,
-- `lb_due` and other crates.
use Rattle.std.specs.Prelude.{ℕ, ◌+◌, max, ◌==◌, nat_lt, Bool, true, false, not, ◌&&◌, ◌||◌, Option, Some, None, is_some, is_none, List, map, length}
use Rattle.std.specs.List.{list_any, list_all}
use Rattle.lb_base.specs.declared.mask.Mask.{Mask}
use Rattle.lb_base.specs.Mask.{members, without}
use Rattle.lb_base.specs.Sets.{is_below, are_disjoint, least}
use Rattle.lb_imbalance.specs.Decision.{decision}
use Rattle.lb_interval.specs.declared.Counters.{Counters}
use Rattle.lb_interval.specs.declared.Outcome.{Outcome}
use Rattle.lb_interval.specs.declared.Outcome.TheVariants.{NotMine as NotMineEnd, Balanced as BalancedEnd, Moved as MovedEnd, Pinned as PinnedEnd, Failed as FailedEnd, Asking as AskingEnd}
use Rattle.lb_queue.specs.declared.answers.OutCause.{OutCause}
use Rattle.lb_queue.specs.declared.answers.Reply.TheVariants.{NotHere}
use Rattle.lb_queue.specs.Tasks.{ids}
use Rattle.lb_queue.specs.Queue.{QueueState, away}
use Rattle.lb_queue.specs.Requests.{has_owed, ask_active, kick}
use Rattle.lb_queue.specs.Turns.{positions_found, counters_closed}
use Rattle.lb_trace.specs.declared.trace.Command.{Command}
use Rattle.lb_trace.specs.declared.trace.Command.TheVariants.{Wake, Sleep, Exit, SetMask, Nice, Tick, Rebuild}
use Rattle.lb_trace.specs.declared.trace.Header.{Header}
use Rattle.lb_core.specs.declared.course.Form.{Form}
use Rattle.lb_core.specs.declared.course.Form.TheVariants.{ScanDue}
use Rattle.lb_core.specs.declared.entry.FigName.{FigName}
use Rattle.lb_core.specs.declared.entry.OutcomeWord.{OutcomeWord}
use Rattle.lb_core.specs.declared.entry.OutcomeWord.TheVariants.{NotMine as NotMineWord, Balanced as BalancedWord, Moved as MovedWord, Pinned as PinnedWord, Failed as FailedWord, Asking as AskingWord}
use Rattle.lb_core.specs.declared.entry.What.{What}
use Rattle.lb_core.specs.declared.entry.What.TheVariants.{Row, Adopt, Look, Scan, Did, Out, Landed, Turn, Shut, Close, Ask, Kick, Pub}
use Rattle.lb_core.specs.declared.entry.Entry.{Entry}
use Rattle.lb_core.specs.declared.rule.Rule.{Rule}
use Rattle.lb_core.specs.declared.rule.Rule.TheVariants.{Stage, Row as RowRule, Reply as ReplyRule, Version, Figure, Decision as DecisionRule, Pick, Flight, Counters as CountersRule, Owed}
use Rattle.lb_core.specs.Same.{same_numbers, same_number, same_mask, same_reply, same_ask, same_cause, same_word, same_decision}
use Rattle.lb_core.specs.Course.{is_tick, turn_kind, turn_domains, turn_domain, widest_span, shapes_of, named_at, outcome_of, flag_of}
use Rattle.lb_core.specs.Sight.{Sight, by_cpu, tickless_in}
use Rattle.lb_core.specs.Stage.{stage_allows}
use Rattle.lb_core.specs.Leaving.{Leaving, leaving}
use Rattle.lb_core.specs.QueueAfter.{answer_to}

-- ---- row: the next number, and only what is declared; masks that share no CPU
abbrev pub is_undeclared : Header → Command → Bool
is_undeclared h (Wake t) = not (nat_lt t (length h.tasks))
is_undeclared h (Sleep t) = not (nat_lt t (length h.tasks))
is_undeclared h (Exit t) = not (nat_lt t (length h.tasks))
is_undeclared h (SetMask t m) = not (nat_lt t (length h.tasks))
is_undeclared h (Nice t n) = not (nat_lt t (length h.tasks))
is_undeclared h (Tick cpu) = not (nat_lt cpu (length h.cpus))
is_undeclared h (Rebuild parts) = not (list_all (λ m. is_below m (length h.cpus)) parts) || not (are_disjoint parts)

abbrev pub breaks_row : Sight → What → Bool
breaks_row s (Row n at command) = not (n == s.course.rows + 1) || is_undeclared s.header command
breaks_row s w = false

-- ---- reply: what the queue answers, and the next version
-- the woken task leaves the queue, and no `did` is due
abbrev pub leaves_instead : Option Command → QueueState → Bool
leaves_instead (Some (Wake t)) q = is_some (away q t)
leaves_instead command q = false

abbrev pub breaks_reply : Sight → What → Bool
breaks_reply s (Did r) =
    leaves_instead s.course.command s.queue || same_reply r NotHere || not (same_reply r (answer_to s.course.command s.course.at s.queue).0)
breaks_reply s (Turn ps) = is_some s.queue.open_turn
breaks_reply s Shut = is_none s.queue.open_turn
breaks_reply s (Ask r) = not (same_ask r (ask_active s.queue s.course.at s.course.cpu).0)
breaks_reply s (Kick r) = not (same_ask r (kick s.queue s.course.at).0)
breaks_reply s (Pub v) = not (v == s.count + 2)
breaks_reply s w = false

-- ---- version: at least 1, and at least each that the lane used or published
abbrev pub breaks_version : Sight → What → Bool
breaks_version s (Adopt v k cpu) = nat_lt v (max s.course.named_version 1)
breaks_version s w = false

-- ---- figure: of each CPU that is left, at least each number that the lane drew or named
-- the CPUs whose figures are due
abbrev pub figures_due : Form → Sight → Mask
figures_due ScanDue s = without (widest_span s.header s.course) s.course.excluded
figures_due f s = without (turn_domain s.header s.course).shape.span s.course.excluded

abbrev pub are_wrong : Sight → List FigName → Bool
are_wrong s names =
    not (same_numbers (map (λ f. f.cpu) names) (members (figures_due s.course.form s)))
    || list_any (λ f. nat_lt f.n (named_at s.course f.cpu)) names

abbrev pub breaks_figure : Sight → What → Bool
breaks_figure s (Look p x names d) = are_wrong s names
breaks_figure s (Scan names t) = are_wrong s names
breaks_figure s w = false

-- ---- decision: position, excluded CPUs, and what the named figures decide
abbrev pub breaks_decision : Sight → What → Bool
breaks_decision s (Look p x names d) =
    not (p == s.course.position) || not (same_mask x s.course.excluded)
    || not (same_decision d (decision (turn_domain s.header s.course).shape (turn_domain s.header s.course).groups
    (by_cpu s.figs) s.course.cpu (turn_kind s.course) s.course.excluded))
breaks_decision s (Scan names t) = not (same_number t (least (tickless_in s.figs)))
breaks_decision s (Close p w i f) = not (p == s.course.position)
breaks_decision s w = false

-- ---- pick: the `out` that is due
abbrev pub is_other_out : Option Leaving → OutCause → ℕ → List ℕ → Bool
is_other_out None cause to tasks = true
is_other_out (Some l) cause to tasks = not (same_cause cause l.cause) || not (to == l.to) || not (same_numbers tasks (ids l.hand))

abbrev pub breaks_pick : Sight → What → Bool
breaks_pick s (Out cause to tasks) = is_other_out (leaving s) cause to tasks
breaks_pick s w = false

-- ---- flight: the tasks in the hand, in their order
abbrev pub breaks_flight : Sight → What → Bool
breaks_flight s (Landed tasks) = not (same_numbers tasks (ids s.course.hand))
breaks_flight s w = false

-- ---- counters: the positions of a turn, and how one ends
abbrev pub word_of : Outcome → OutcomeWord
word_of NotMineEnd = NotMineWord
word_of BalancedEnd = BalancedWord
word_of (MovedEnd n) = MovedWord
word_of PinnedEnd = PinnedWord
word_of FailedEnd = FailedWord
word_of AskingEnd = AskingWord

-- the positions that the turn balances
abbrev pub positions_due : Sight → Mask
positions_due s = positions_found s.queue s.course.at (turn_kind s.course) s.course.version (shapes_of (turn_domains s.header s.course))

-- the counters that the close leaves
unfoldable pub closed_counters : Sight → Counters
closed_counters s =
    counters_closed s.queue s.course.at (turn_domain s.header s.course).shape (outcome_of s.header s.course) (flag_of s.course.taken)

abbrev pub breaks_counters : Sight → What → Bool
breaks_counters s (Turn ps) = not (same_mask ps (positions_due s))
breaks_counters s (Close p w i f) =
    not (same_word w (word_of (outcome_of s.header s.course)))
    || not (i == (closed_counters s).interval) || not (f == (closed_counters s).failures)
breaks_counters s w = false

-- ---- owed: no tick while a stop request is owed
abbrev pub breaks_owed : Sight → What → Bool
breaks_owed s (Did r) = is_tick s.course.command && has_owed s.queue
breaks_owed s w = false

-- whether the entry breaks a rule by what its step reads
abbrev pub breaks_here : Rule → Sight → Entry → Bool
breaks_here Stage s e = not (stage_allows s e)
breaks_here RowRule s e = breaks_row s e.what
breaks_here ReplyRule s e = breaks_reply s e.what
breaks_here Version s e = breaks_version s e.what
breaks_here Figure s e = breaks_figure s e.what
breaks_here DecisionRule s e = breaks_decision s e.what
breaks_here Pick s e = breaks_pick s e.what
breaks_here Flight s e = breaks_flight s e.what
breaks_here CountersRule s e = breaks_counters s e.what
breaks_here Owed s e = breaks_owed s e.what
breaks_here r s e = false
