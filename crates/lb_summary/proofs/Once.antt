-- Each task that leaves a queue counts on one line, or left by a wake.
-- For the law `tasks_count_once`.
use Rattle.std.proofs.Common.{arith, ◌≡◌, ◌+◌, true, ◌&&◌, [], ◌∷◌, refl}
use Rattle.lb_base.specs.declared.shape.LevelName.{LevelName}
use Rattle.lb_base.specs.declared.shape.LevelName.TheVariants.{Smt, Mc, Pkg, Numa}
use Rattle.lb_queue.specs.declared.answers.OutCause.TheVariants.{Wake, Stop, Pull, Push}
use Rattle.lb_core.specs.declared.entry.What.{What}
use Rattle.lb_core.specs.declared.entry.What.TheVariants.{Out}
use Rattle.lb_summary.specs.Summary.{leaves_for, tasks_in, level_balanced, is_smt, is_mc, is_pkg, is_numa, pulls_at, summary_of}
use Rattle.lb_summary.specs.Laws.{TasksCountOnce}
use Rattle.lb_summary.proofs.Counted.{worth, more_tasks}

-- what one entry is worth on each line
one_line : (w : What) (level : LevelName) →
    let n = tasks_in w in
    worth (leaves_for Pull w && is_smt level) n + worth (leaves_for Pull w && is_mc level) n
    + worth (leaves_for Pull w && is_pkg level) n
    + worth (leaves_for Pull w && is_numa level) n
    + worth (leaves_for Push w) n
    + worth (leaves_for Stop w) n
    + worth (leaves_for Wake w) n ≡ n
one_line (Out Pull to ids) Smt = omega arith
one_line (Out Pull to ids) Mc = omega arith
one_line (Out Pull to ids) Pkg = omega arith
one_line (Out Pull to ids) (Numa d) = omega arith
one_line (Out Push to ids) level = omega arith
one_line (Out Stop to ids) level = omega arith
one_line (Out Wake to ids) level = omega arith
one_line w level = omega arith

pub tasks_count_once : TasksCountOnce
unfolding summary_of
tasks_count_once [] = refl
tasks_count_once (s ∷ ss) =
    let all = more_tasks (λ x. true) s ss in
    let smt = more_tasks (pulls_at is_smt) s ss in
    let mc = more_tasks (pulls_at is_mc) s ss in
    let pkg = more_tasks (pulls_at is_pkg) s ss in
    let numa = more_tasks (pulls_at is_numa) s ss in
    let pushed = more_tasks (λ x. leaves_for Push x.entry.what) s ss in
    let stopped = more_tasks (λ x. leaves_for Stop x.entry.what) s ss in
    let woken = more_tasks (λ x. leaves_for Wake x.entry.what) s ss in
    let this = one_line s.entry.what (level_balanced s.before s.entry.lane) in
    let rest = tasks_count_once ss in
    omega arith
