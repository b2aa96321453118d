-- Lists that miss one thing of all that the merge asks for, and the premises of the merge that several of them meet.
-- Cited by the laws `undeclared_lane`, `unpublished_figure` and `closing_before_all_rest`.
use Rattle.std.specs.Prelude.{ℕ, ◌≡◌, true, List, [], ◌∷◌, ◌++◌, map}
use Rattle.lb_trace.specs.declared.trace.Header.{Header}
use Rattle.lb_trace.specs.declared.trace.Command.TheVariants.{Rebuild}
use Rattle.lb_core.specs.declared.entry.Entry.{Entry}
use Rattle.lb_core.specs.declared.entry.OutcomeWord.TheVariants.{Balanced as BalancedWord}
use Rattle.lb_core.specs.declared.entry.What.{What}
use Rattle.lb_core.specs.declared.entry.What.TheVariants.{Row, Look, Pub, Landed, Close, Over, End}
use Rattle.lb_core.specs.declared.entry.CpuFig.{CpuFig}
use Rattle.lb_core.specs.declared.history.History.{History}
use Rattle.lb_core.specs.Course.{opening_course}
use Rattle.lb_rows.specs.Lines.{cpus, one_cpu, by_lane, by_publisher, at_queue}
use Rattle.lb_rows.specs.Lanes.{closing_before_all_rest_history}
use Rattle.lb_rows.specs.Faults.{unpublished_figure_history}
use Rattle.lb_ticket.specs.declared.item.Drawn.{Drawn}
use Rattle.lb_journal.specs.Journal.{Journal}
use Rattle.lb_journal.specs.Merge.{Each, both_tick, is_closing, ClosesBy, CarriesRead, CarriesVersion, ClosingLast, ClosingBegins, HasEnd, figures_of}
use Rattle.lb_journal_rows.specs.Lists.{by_owner}
use Rattle.lb_journal_rows.specs.Seats.{item_on, drawn}

-- the premises of the merge but two: the figures that items carry, and how the lanes are left
pub record MeetsOthers (h : Header) (lists : List (List (Drawn Journal))) : Type 0 where
  pub headers : Each (λ d. d.1.header ≡ h) lists
  pub ticks : Each (λ d. Each (λ e. both_tick d.1 e.1 ≡ true → d.1.entry.lane ≡ e.1.entry.lane) lists) lists
  pub closing_last : ClosingLast lists
  pub closes : Each (λ d. is_closing lists d.1 ≡ true → ClosesBy h lists d.0 d.1.entry.what d.1.entry.owner) lists
  pub begins : ClosingBegins lists
  pub ends : HasEnd lists
  pub masks : Each (λ d. CarriesVersion h lists d.0 d.1 d.1.entry.what) lists

abbrev pub CarriesFigures : Header → List (List (Drawn Journal)) → Type 0
CarriesFigures h lists = Each (λ d. CarriesRead h lists d.0 d.1 d.1.entry.what) lists

-- ---- a lane that is not declared: it takes up a row, the publisher answers it, and lane 0 draws the end
abbrev pub lone_header : ℕ → Header
lone_header lanes = one_cpu lanes []

abbrev pub stray_row : ℕ → Journal
stray_row lanes = item_on (lone_header lanes) (by_lane 1 0 (Row 1 0 (Rebuild (cpus 1 ∷ [])))) (opening_course 1)

abbrev pub stray_pub : ℕ → Journal
stray_pub lanes = item_on (lone_header lanes) (by_publisher 1 1 (Pub 2)) (stray_row lanes).after

abbrev pub lone_end : ℕ → Journal
lone_end lanes = item_on (lone_header lanes) (by_lane 0 0 (End (cpus 0))) (opening_course 1)

-- the lists of the publisher, of lane 0 and of lane 1, on a machine of so many lanes
abbrev pub stray_lists : ℕ → List (List (Drawn Journal))
stray_lists lanes =
    (drawn 2 (stray_pub lanes) ∷ []) ∷ (drawn 3 (lone_end lanes) ∷ []) ∷ (drawn 1 (stray_row lanes) ∷ []) ∷ []

-- ---- the look of a figure that is not published, and the entries that end the turn and the history
abbrev pub after_the_look : List Entry
after_the_look = at_queue 0 0 5 (Close 0 BalancedWord 4 0) ∷ at_queue 0 0 6 Over ∷ by_lane 0 7 (End (cpus 0)) ∷ []

abbrev pub early_look_history : History
early_look_history = record unpublished_figure_history {
  entries = unpublished_figure_history.entries ++ after_the_look;
}

-- a look carries figures with the names that it gives, as its lists have them
abbrev pub figures_for : What → List CpuFig → List CpuFig
figures_for (Look p x names d) figs = figures_of early_look_history.header (by_owner early_look_history) names
figures_for w figs = figs

abbrev pub with_figures : Drawn Journal → Drawn Journal
with_figures d = record d { item = record d.item { figs = figures_for d.item.entry.what d.item.figs } }

abbrev pub early_look_lists : List (List (Drawn Journal))
early_look_lists = map (λ ds. map with_figures ds) (by_owner early_look_history)

-- ---- a stop that is served at rest while lane 1 is not, its landing, and the end
abbrev pub after_the_stop : List Entry
after_the_stop = at_queue 0 0 6 (Landed (0 ∷ [])) ∷ by_lane 0 7 (End (cpus 0)) ∷ []

abbrev pub early_closing_history : History
early_closing_history = record closing_before_all_rest_history {
  entries = closing_before_all_rest_history.entries ++ after_the_stop;
}
