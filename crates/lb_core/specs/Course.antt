-- What a course says: the opening course of a lane, the command in service, the domains of the turn
-- that is due or open, the last look and take, and what a take asks for.
-- For the definitions of `Asks`, `CourseAfter` and others, and so for the laws `turns_stay_open`, `permitted` and
-- others; cited by `lb_act`, `lb_cell` and other crates.
use Rattle.std.specs.Prelude.{ℕ, ◌-◌, ◌+◌, nat_lt, Bool, true, false, not, ◌&&◌, if◌then◌else◌, Option, Some, None, is_some, unwrap_or, List, [], length, map, replicate}
use Rattle.std.specs.List.{slice_index_or}
use Rattle.lb_base.specs.declared.mask.Mask.{Mask}
use Rattle.lb_base.specs.declared.shape.Kind.{Kind}
use Rattle.lb_base.specs.declared.shape.Kind.TheVariants.{Tick as TickTurn, Idle, Nohz}
use Rattle.lb_base.specs.declared.shape.LevelName.TheVariants.{Smt}
use Rattle.lb_base.specs.declared.shape.Shape.{Shape}
use Rattle.lb_base.specs.Mask.{no_cpus, without}
use Rattle.lb_base.specs.Sets.{is_empty}
use Rattle.lb_active.specs.Choice.{is_wanted}
use Rattle.lb_detach.specs.declared.Env.{Env}
use Rattle.lb_domain.specs.declared.domain.Domain.{Domain}
use Rattle.lb_domain.specs.Domains.{domains_of}
use Rattle.lb_imbalance.specs.declared.decision.Decision.{Decision}
use Rattle.lb_imbalance.specs.declared.decision.Decision.TheVariants.{NotMine, Balanced, Pull}
use Rattle.lb_imbalance.specs.Decision.{group_at}
use Rattle.lb_interval.specs.declared.Outcome.{Outcome}
use Rattle.lb_interval.specs.declared.Outcome.TheVariants.{NotMine as NotMineEnd, Balanced as BalancedEnd, Moved as MovedEnd, Pinned as PinnedEnd, Failed as FailedEnd, Asking as AskingEnd}
use Rattle.lb_queue.specs.declared.answers.Taken.{Taken}
use Rattle.lb_queue.specs.Turns.{counters_at, tries_of}
use Rattle.lb_trace.specs.declared.trace.Command.{Command}
use Rattle.lb_trace.specs.declared.trace.Command.TheVariants.{Wake, Sleep, Exit, SetMask, Nice, Tick, Rebuild}
use Rattle.lb_trace.specs.declared.trace.Header.{Header}
use Rattle.lb_core.specs.declared.course.Course.{Course}
use Rattle.lb_core.specs.declared.course.Form.TheVariants.{Rest}

-- the course of a lane that has drawn nothing, on a machine of n CPUs
abbrev pub opening_course : ℕ → Course
opening_course n =
    record {
      form = Rest;
      rows = 0;
      at = 0;
      command = None;
      cause = None;
      to = 0;
      moment = 0;
      hand = [];
      version = 0;
      masks = [];
      cpu = 0;
      kind = None;
      positions = no_cpus;
      position = 0;
      counters = [];
      excluded = no_cpus;
      decision = None;
      idle = false;
      took = 0;
      taken = None;
      awake = 0;
      pushed = false;
      figures = [];
      named_version = 0;
      named = replicate n 0;
    }

-- ---- the command in service
-- the CPU that it ticks
abbrev pub ticked_cpu : Option Command → Option ℕ
ticked_cpu (Some (Tick cpu)) = Some cpu
ticked_cpu command = None

abbrev pub is_tick : Option Command → Bool
is_tick command = is_some (ticked_cpu command)

abbrev pub is_wake : Option Command → Bool
is_wake (Some (Wake t)) = true
is_wake command = false

abbrev pub is_rebuild : Option Command → Bool
is_rebuild (Some (Rebuild parts)) = true
is_rebuild command = false

-- the task that it is about
abbrev pub task_of : Option Command → Option ℕ
task_of None = None
task_of (Some (Wake t)) = Some t
task_of (Some (Sleep t)) = Some t
task_of (Some (Exit t)) = Some t
task_of (Some (SetMask t m)) = Some t
task_of (Some (Nice t n)) = Some t
task_of (Some (Tick cpu)) = None
task_of (Some (Rebuild parts)) = None

-- ---- the turn that is due or open
abbrev pub turn_kind : Course → Kind
turn_kind c = unwrap_or c.kind TickTurn

abbrev pub is_newly : Kind → Bool
is_newly TickTurn = false
is_newly Idle = true
is_newly Nohz = false

-- stands where there is no domain
abbrev pub no_domain : Domain
no_domain = record { shape = record { name = Smt; below = None; position = 0; span = no_cpus }; groups = [] }

abbrev pub domain_at : List Domain → ℕ → Domain
domain_at domains p = slice_index_or domains p no_domain

abbrev pub shapes_of : List Domain → List Shape
shapes_of domains = map (λ d. d.shape) domains

-- the domains of its CPU, in the version of its `use`
abbrev pub turn_domains : Header → Course → List Domain
turn_domains h c = domains_of h.cpus h.distances c.masks c.cpu

-- the domain of the position in work
abbrev pub turn_domain : Header → Course → Domain
turn_domain h c = domain_at (turn_domains h c) c.position

-- the span of the CPU's widest domain
abbrev pub widest_span : Header → Course → Mask
widest_span h c = (domain_at (turn_domains h c) (length (turn_domains h c) - 1)).shape.span

-- the greatest number of a CPU's figures that the lane drew or named
abbrev pub named_at : Course → ℕ → ℕ
named_at c cpu = slice_index_or c.named cpu 0

-- ---- the last look
abbrev pub is_pull : Option Decision → Bool
is_pull None = false
is_pull (Some NotMine) = false
is_pull (Some Balanced) = false
is_pull (Some (Pull s k i)) = true

-- the source of the pull
abbrev pub source_of : Option Decision → ℕ
source_of None = 0
source_of (Some NotMine) = 0
source_of (Some Balanced) = 0
source_of (Some (Pull s k i)) = s

-- what a take by this decision asks for
abbrev pub env_by : Header → Course → Option Decision → Option Env
env_by h c None = None
env_by h c (Some NotMine) = None
env_by h c (Some Balanced) = None
env_by h c (Some (Pull s k i)) =
    Some (record {
      to = c.cpu;
      idle = c.idle;
      newly = is_newly (turn_kind c);
      kind = k;
      imbalance = i;
      failures = (counters_at c.counters c.position).failures;
      tries = tries_of (turn_domain h c).shape.name;
    })

-- what the take that is due asks for
abbrev pub env_of : Header → Course → Option Env
env_of h c = env_by h c c.decision

-- ---- the last take
-- it examined something, and all of that was pinned
abbrev pub is_all_pinned : Option Taken → Bool
is_all_pinned None = false
is_all_pinned (Some t) = t.all_pinned

-- the CPUs of the span that are neither excluded nor in the local group
abbrev pub others_left : Header → Course → Mask
others_left h c = without (without (turn_domain h c).shape.span c.excluded) (group_at (turn_domain h c).groups 0)

-- a further look is due where the take examined something, all of that was pinned, and one of these CPUs
-- is left
abbrev pub looks_again : Header → Course → Bool
looks_again h c = is_all_pinned c.taken && not (is_empty (others_left h c))

-- how a position ends after a take: pinned, moved, or else failed or asking
abbrev pub outcome_after : Bool → ℕ → ℕ → ℕ → Kind → Outcome
outcome_after true took failures tries kind = PinnedEnd
outcome_after false took failures tries kind =
    if nat_lt 0 took then MovedEnd took
    else if is_wanted (failures + 1) tries kind then AskingEnd else FailedEnd

abbrev pub outcome_by : Option Decision → Header → Course → Outcome
outcome_by None h c = BalancedEnd
outcome_by (Some NotMine) h c = NotMineEnd
outcome_by (Some Balanced) h c = if is_some c.taken then PinnedEnd else BalancedEnd
outcome_by (Some (Pull s k i)) h c =
    outcome_after (is_all_pinned c.taken) c.took (counters_at c.counters c.position).failures
    (tries_of (turn_domain h c).shape.name) (turn_kind c)

-- how the position in work ends, if it ends now
unfoldable pub outcome_of : Header → Course → Outcome
outcome_of h c = outcome_by c.decision h c

-- the imbalance flag that it leaves: some task pinned, and something left to move
abbrev pub flag_of : Option Taken → Option Bool
flag_of None = None
flag_of (Some t) = Some (t.some_pinned && nat_lt 0 t.left)
