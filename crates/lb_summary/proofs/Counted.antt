-- What the code adds up is what the summary says: entry by entry, and without going past 64 bits.
-- For the lemmas of `Going`, `Once` and `Places`, and so for the laws `tasks_count_once` and `steps_are_places`.
use Rattle.std.proofs.Common.{arith, ◌≡◌, ℕ, ◌+◌, ◌*◌, ◌≤◌, Bool, true, false, cond, ◌&&◌, List, [], ◌∷◌, length, filter, refl, sym, ◌∙◌, ap, zero-add}
use Rattle.std.specs.Prelude.{sum_by}
use Rattle.std.proofs.lemmas.Bool.{and_parts}
use Rattle.std.proofs.lemmas.List.Sums.{sum_by-cons}
use Rattle.lb_base.specs.declared.shape.LevelName.{LevelName}
use Rattle.lb_base.specs.declared.shape.LevelName.TheVariants.{Smt, Mc, Pkg, Numa}
use Rattle.lb_queue.specs.declared.answers.OutCause.TheVariants.{Wake, Stop, Pull, Push}
use Rattle.lb_trace.specs.declared.trace.TheConstants.{MAX_TASKS}
use Rattle.lb_core.specs.declared.entry.What.{What}
use Rattle.lb_core.specs.declared.entry.What.TheVariants.{Row, Out}
use Rattle.lb_core.specs.declared.entry.Entry.{Entry}
use Rattle.lb_core.specs.Legal.{MayBeAdded, MayFollow}
use Rattle.lb_core.specs.Machine.{MachineState}
use Rattle.lb_core.specs.Ranges.{is_long, owner_fits, what_fits, entry_fits, fit_from}
use Rattle.lb_core.specs.Step.{after}
use Rattle.lb_ready.specs.Laws.{StaysReady, ReadsInRange}
use Rattle.lb_ready.specs.Ready.{IsReady}
use Rattle.lb_summary.specs.declared.summary.Summary.{Summary}
use Rattle.lb_summary.specs.Summary.{Step, steps_from, takes_up_row, leaves_for, tasks_in, level_balanced, is_smt, is_mc, is_pkg, is_numa, pulls_at, steps_where, tasks_where, summary_of}
use Rattle.lb_summary.specs.Counting.{counting, AreAtMost, MayCount}
use Rattle.lb_summary.proofs.Leaving.{may_count}

-- ---- both counts together
abbrev pub plus : Summary → Summary → Summary
plus a b =
    record {
      rows = a.rows + b.rows;
      entries = a.entries + b.entries;
      pulled_smt = a.pulled_smt + b.pulled_smt;
      pulled_mc = a.pulled_mc + b.pulled_mc;
      pulled_pkg = a.pulled_pkg + b.pulled_pkg;
      pulled_numa = a.pulled_numa + b.pulled_numa;
      pushed = a.pushed + b.pushed;
      stopped = a.stopped + b.stopped;
    }

-- ---- one step more
-- what a step is worth, where it passes a test or not
abbrev pub worth : Bool → ℕ → ℕ
worth passes n = cond {A = ℕ} passes n 0

pub more_tasks : (test : Step → Bool) (s : Step) (ss : List Step) →
    tasks_where test (s ∷ ss) ≡ worth (test s) (tasks_in s.entry.what) + tasks_where test ss
more_tasks test s ss = by_test (test s)
  where
    f : Step → ℕ
    f x = tasks_in x.entry.what

    by_test : (b : Bool) → sum_by f (cond b (s ∷ filter test ss) (filter test ss)) ≡ worth b (f s) + sum_by f (filter test ss)
    by_test true = sum_by-cons f s (filter test ss)
    by_test false = sym (zero-add _)

more_steps : (test : Step → Bool) (s : Step) (ss : List Step) →
    steps_where test (s ∷ ss) ≡ worth (test s) 1 + steps_where test ss
more_steps test s ss = by_test (test s)
  where
    by_test : (b : Bool) → length (cond b (s ∷ filter test ss) (filter test ss)) ≡ worth b 1 + length (filter test ss)
    by_test true = omega arith
    by_test false = omega arith

-- ---- the numbers after one entry
gains : Bool → ℕ → ℕ → ℕ
gains true n a = a + n
gains false n a = a

-- each number gains what its test of the entry lets pass
gained : What → LevelName → Summary → Summary
gained w level a =
    record {
      rows = gains (takes_up_row w) 1 a.rows;
      entries = a.entries + 1;
      pulled_smt = gains (leaves_for Pull w && is_smt level) (tasks_in w) a.pulled_smt;
      pulled_mc = gains (leaves_for Pull w && is_mc level) (tasks_in w) a.pulled_mc;
      pulled_pkg = gains (leaves_for Pull w && is_pkg level) (tasks_in w) a.pulled_pkg;
      pulled_numa = gains (leaves_for Pull w && is_numa level) (tasks_in w) a.pulled_numa;
      pushed = gains (leaves_for Push w) (tasks_in w) a.pushed;
      stopped = gains (leaves_for Stop w) (tasks_in w) a.stopped;
    }

counted : (w : What) (level : LevelName) (a : Summary) → counting w level a ≡ gained w level a
unfolding counting gained gains
counted (Row number at command) level a = refl
counted (Out Pull to ids) Smt a = refl
counted (Out Pull to ids) Mc a = refl
counted (Out Pull to ids) Pkg a = refl
counted (Out Pull to ids) (Numa d) a = refl
counted (Out Push to ids) level a = refl
counted (Out Stop to ids) level a = refl
counted (Out Wake to ids) level a = refl
counted w level a = refl

-- what is gained now is not left to be gained
now_or_later : (passes : Bool) (n a x y : ℕ) → y ≡ worth passes n + x → gains passes n a + x ≡ a + y
unfolding gains
now_or_later true n a x y e = omega arith
now_or_later false n a x y e = omega arith

-- so an entry that is counted is a step less to be counted
pub one_more : (a : Summary) (s : Step) (ss : List Step) →
    plus (counting s.entry.what (level_balanced s.before s.entry.lane) a) (summary_of ss) ≡ plus a (summary_of (s ∷ ss))
unfolding summary_of gained
one_more a s ss =
    let w = s.entry.what in
    let pulled : (test : LevelName → Bool) (n : ℕ) →
    gains (pulls_at test s) (tasks_in w) n + tasks_where (pulls_at test) ss ≡ n + tasks_where (pulls_at test) (s ∷ ss) =
    λ test n. now_or_later (pulls_at test s) (tasks_in w) n _ _ (more_tasks (pulls_at test) s ss) in
    let left : (test : Step → Bool) (n : ℕ) →
    gains (test s) (tasks_in w) n + tasks_where test ss ≡ n + tasks_where test (s ∷ ss) =
    λ test n. now_or_later (test s) (tasks_in w) n _ _ (more_tasks test s ss) in
    let rows = now_or_later (takes_up_row w) 1 a.rows _ _ (more_steps (λ x. takes_up_row x.entry.what) s ss) in
    let entries : a.entries + 1 + length ss ≡ a.entries + length (s ∷ ss) = omega arith in
    ap (λ (b : Summary). plus b (summary_of ss)) (counted w (level_balanced s.before s.entry.lane) a)
    ∙ (λ t. record {
      rows = rows t;
      entries = entries t;
      pulled_smt = pulled is_smt a.pulled_smt t;
      pulled_mc = pulled is_mc a.pulled_mc t;
      pulled_pkg = pulled is_pkg a.pulled_pkg t;
      pulled_numa = pulled is_numa a.pulled_numa t;
      pushed = left (λ x. leaves_for Push x.entry.what) a.pushed t;
      stopped = left (λ x. leaves_for Stop x.entry.what) a.stopped t;
    })

-- ---- how large the numbers are
-- each entry of a legal front keeps the machine ready, and may be counted
abbrev pub AllMayCount : MachineState → List Entry → Type 0
AllMayCount m [] = Unit {0}
AllMayCount m (e ∷ es) = MayCount e.what m e.lane × AllMayCount (after m e) es

few_in : (w : What) (m : MachineState) (lane : ℕ) → MayCount w m lane → tasks_in w ≤ MAX_TASKS
few_in (Out cause to ids) m lane h = h.1
few_in w m lane h = omega arith

at_most_worth : (b : Bool) (n most : ℕ) → n ≤ most → worth b n ≤ most
at_most_worth true n most h = h
at_most_worth false n most h = omega arith

few_tasks : (test : Step → Bool) (m : MachineState) (es : List Entry) → AllMayCount m es
    → tasks_where test (steps_from m es) ≤ MAX_TASKS * length es
few_tasks test m [] h = omega arith
few_tasks test m (e ∷ es) h =
    let s : Step = record { before = m; entry = e } in
    let more = more_tasks test s (steps_from (after m e) es) in
    let this = at_most_worth (test s) (tasks_in e.what) MAX_TASKS (few_in e.what m e.lane h.0) in
    let rest = few_tasks test (after m e) es h.1 in
    omega arith

few_steps : (test : Step → Bool) (ss : List Step) → steps_where test ss ≤ length ss
few_steps test [] = omega arith
few_steps test (s ∷ ss) =
    let more = more_steps test s ss in
    let this = at_most_worth (test s) 1 1 (omega arith) in
    let rest = few_steps test ss in
    omega arith

pub as_many : (m : MachineState) (es : List Entry) → length (steps_from m es) ≡ length es
as_many m [] = refl
as_many m (e ∷ es) = let k = as_many (after m e) es in omega arith

-- so no number is above 4,096 for each entry
pub at_most : (m : MachineState) (es : List Entry) → AllMayCount m es
    → AreAtMost (MAX_TASKS * length es) (summary_of (steps_from m es))
unfolding summary_of
at_most m es h =
    let n = as_many m es in
    record {
      rows = (let k = few_steps (λ s. takes_up_row s.entry.what) (steps_from m es) in omega arith);
      entries = omega arith;
      pulled_smt = few_tasks _ m es h;
      pulled_mc = few_tasks _ m es h;
      pulled_pkg = few_tasks _ m es h;
      pulled_numa = few_tasks _ m es h;
      pushed = few_tasks _ m es h;
      stopped = few_tasks _ m es h;
    }

-- what an entry in range says is in range, and it keeps the machine ready
pub says_fit : (n : ℕ) (e : Entry) → entry_fits n e ≡ true → what_fits e.what ≡ true
unfolding entry_fits
says_fit n e h = (and_parts (is_long n && owner_fits e.owner e.lane && is_long e.prev) (what_fits e.what) h).1

pub step_ready : StaysReady → ReadsInRange → (m : MachineState) (e : Entry) (n : ℕ) → IsReady m → MayBeAdded m e
    → entry_fits n e ≡ true → IsReady (after m e)
step_ready stays reads m e n k h f = stays m e k h (reads e.what (says_fit n e f))

pub all_may_count : StaysReady → ReadsInRange → (m : MachineState) (es : List Entry) (n : ℕ) → IsReady m
    → MayFollow es m → fit_from n es ≡ true → AllMayCount m es
all_may_count stays reads m [] n k h f = tt
all_may_count stays reads m (e ∷ es) n k h fit =
    let f = and_parts (entry_fits n e) _ fit in
    let s = step_ready stays reads m e n k h.0 f.0 in
    (may_count m e.owner e.lane e.prev e.what k h.0 s, all_may_count stays reads (after m e) es (n + 1) s h.1 f.1)
