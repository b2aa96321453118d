-- The law Passes: in every legal front each look belongs to the last `use` of its lane, whose turn is
-- open at the queue of the CPU that balances, in the version of the `use`. Its domain is one of that CPU's
-- in this version, and its position one of the turn's. It leaves out the sources of the position's pulls
-- so far, and names one figure for each other CPU of the domain's span, in order: that of the queue after
-- the named entry, which is an earlier one. Its decision is that of these figures. And where it pulls, the
-- lane's next entry takes exactly what the rules pick from the source as it then is; what the take asks
-- for is said by this decision, the kind of the turn, these figures and the counters of the queue of the
-- CPU that balances. Once that has landed, the lane looks at this position again exactly where something
-- was examined, all of it was pinned, and a CPU of the span outside the local group is left that was no
-- source.
-- Cited by the law `permitted`; also by `lb`.
use Rattle.std.specs.Prelude.{ℕ, zero, suc, ◌≡◌, ◌≤◌, ◌<◌, ◌+◌, Bool, true, not, ◌&&◌, if◌then◌else◌, Option, Some, None, unwrap_or, List, [], ◌∷◌, ◌++◌, length, map, All}
use Rattle.std.specs.List.{slice_index_or}
use Rattle.lb_base.specs.declared.mask.Mask.{Mask}
use Rattle.lb_base.specs.declared.figure.Fig.{Fig}
use Rattle.lb_base.specs.declared.view.MoveKind.{MoveKind}
use Rattle.lb_base.specs.Mask.{has, members, no_cpus, only, either, without}
use Rattle.lb_base.specs.Sets.{is_empty}
use Rattle.lb_base.specs.Figures.{no_fig}
use Rattle.lb_detach.specs.declared.Env.{Env}
use Rattle.lb_detach.specs.Picks.{picked_ids, kept_ids, all_pinned}
use Rattle.lb_domain.specs.declared.domain.Domain.{Domain}
use Rattle.lb_domain.specs.Domains.{domains_of}
use Rattle.lb_imbalance.specs.declared.decision.Decision.{Decision}
use Rattle.lb_imbalance.specs.declared.decision.Decision.TheVariants.{Pull}
use Rattle.lb_imbalance.specs.Decision.{decision, group_at}
use Rattle.lb_imbalance.specs.Destination.{is_busy}
use Rattle.lb_queue.specs.declared.answers.OutCause.TheVariants.{Pull as PullOut}
use Rattle.lb_queue.specs.Tasks.{awake_ids}
use Rattle.lb_queue.specs.Values.{views}
use Rattle.lb_queue.specs.Figures.{figure}
use Rattle.lb_queue.specs.Turns.{counters_at, tries_of}
use Rattle.lb_trace.specs.declared.trace.Header.{Header}
use Rattle.lb_core.specs.declared.entry.FigName.{FigName}
use Rattle.lb_core.specs.declared.entry.Owner.TheVariants.{Queue}
use Rattle.lb_core.specs.declared.entry.What.{What}
use Rattle.lb_core.specs.declared.entry.What.TheVariants.{Look, Out, Turn, Close}
use Rattle.lb_core.specs.declared.entry.Entry.{Entry}
use Rattle.lb_core.specs.Same.{same_owner}
use Rattle.lb_core.specs.Course.{domain_at, is_newly}
use Rattle.lb_core.specs.Sight.{by_cpu}
use Rattle.lb_core.specs.Machine.{MachineState, queue_at, masks_at, figures_at, figures_named, start}
use Rattle.lb_core.specs.Step.{after}
use Rattle.lb_core.specs.Legal.{run, IsLegalFront}
use Rattle.lb_core.specs.LaneEntries.{next_of, until, beyond, last_said, last_row, Use, last_use}

-- ---- the CPUs that are left out
-- the CPUs that a further look of the position leaves out: the source of each pull before; none where
-- a position begins
abbrev pub left_out : What → Mask → Mask
left_out (Look p x names (Pull source kind imbalance)) earlier = either x (only source)
left_out (Turn positions) earlier = no_cpus
left_out (Close p outcome interval failures) earlier = no_cpus
left_out w earlier = earlier

-- ---- figures
-- how many entries of a queue there are
abbrev pub drawn_at : ℕ → List Entry → ℕ
drawn_at cpu [] = 0
drawn_at cpu (e ∷ es) = (if same_owner e.owner (Queue cpu) then 1 else 0) + drawn_at cpu es

-- the entries up to the n-th one of a queue; none, where n is 0
abbrev pub up_to : ℕ → ℕ → List Entry → List Entry
up_to cpu zero es = []
up_to cpu (suc n) [] = []
up_to cpu (suc n) (e ∷ es) = e ∷ up_to cpu (if same_owner e.owner (Queue cpu) then n else suc n) es

-- the figure of that name is the queue's after its n-th entry, at that entry's ticket, and this entry
-- is an earlier one; number 0 is the opening one, at ticket 0
pub record IsFigureOf (h : Header) (before : List Entry) (name : FigName) (fig : Fig) : Type 0 where
  pub earlier : name.n ≤ drawn_at name.cpu before
  pub value : let front = up_to name.cpu name.n before in
      fig ≡ figure (queue_at (run front (start h)).queues name.cpu) name.n (length front)

-- ---- the domain
-- the domains of the CPU that balances, in the version that was taken up
abbrev pub use_domains : Header → MachineState → Use → List Domain
use_domains h m u = domains_of h.cpus h.distances (masks_at m u.version) u.cpu

-- the CPUs of the span that are neither left out nor in the local group
abbrev pub others_of : Domain → Mask → Mask
others_of domain x = without (without domain.shape.span x) (group_at domain.groups 0)

-- ---- the take
-- what a take asks for
abbrev pub env_of_pass : Header → MachineState → Use → ℕ → List FigName → MoveKind → ℕ → Env
env_of_pass h m u p names kind imbalance =
    record {
      to = u.cpu;
      idle = not (is_busy u.kind (by_cpu (figures_named m.figures names)) u.cpu);
      newly = is_newly u.kind;
      kind = kind;
      imbalance = imbalance;
      failures = (counters_at (unwrap_or (queue_at m.queues u.cpu).counters []) p).failures;
      tries = tries_of (domain_at (use_domains h m u) p).shape.name;
    }

-- the position that is looked at, if it is a look
abbrev pub looked_at : What → Option ℕ
looked_at (Look p x names d) = Some p
looked_at w = None

-- the entry, if there is one, is a look at position p where another look is due, and else no look
abbrev pub LooksAgain : Bool → ℕ → Option Entry → Type 0
LooksAgain again p None = Unit {0}
LooksAgain again p (Some e) = looked_at e.what ≡ (if again then Some p else None)

-- the take is drawn at its source, and is what the rules pick there in the state just before, at the
-- moment of the lane's row; the others stay, in the order that the examination leaves; after the landing
-- comes `next`
pub record IsTake (env : Env) (p : ℕ) (others : Mask) (source at : ℕ) (m : MachineState) (o : Entry) (next : Option Entry) : Type 0 where
  pub owner : o.owner ≡ Queue source
  pub what : o.what ≡ Out PullOut env.to (picked_ids env (views (queue_at m.queues source) at))
  pub stays : awake_ids (queue_at (after m o).queues source).awake ≡ kept_ids env (views (queue_at m.queues source) at)
  pub again : LooksAgain (all_pinned env (views (queue_at m.queues source) at) && not (is_empty others)) p next

-- where the look pulls, the lane's next entry, if there is one, is the take
abbrev pub Takes : Decision → (MoveKind → ℕ → Env) → ℕ → (ℕ → Mask) → ℕ → MachineState → Option Entry → Option Entry → Type 0
Takes (Pull source kind imbalance) env p others at m (Some o) next = IsTake (env kind imbalance) p (others source) source at m o next
Takes d env p others at m o next = Unit {0}

-- ---- the pass
-- the turn of the `use` is open, in its version, at the queue of the CPU that balances, and the position
-- is one of its
pub record IsTurnOpen (lane p : ℕ) (u : Use) (m : MachineState) : Type 0 where
  pub positions : Mask
  pub opened : (queue_at m.queues u.cpu).open_turn ≡ Some (record { lane = lane; kind = u.kind; positions = positions })
  pub version : (queue_at m.queues u.cpu).version ≡ u.version
  pub one : has positions p ≡ true

-- the look at position p without the CPUs x, over these figures, with this decision
pub record IsPass (h : Header) (before : List Entry) (e : Entry) (later : List Entry) (p : ℕ) (x : Mask)
    (names : List FigName) (d : Decision) : Type 0 where
  pub used : Use
  pub is_last : last_use e.lane before ≡ Some used
  pub from_first : 1 ≤ used.version
  pub published : used.version ≤ length (run before (start h)).versions
  pub opened : IsTurnOpen e.lane p used (run before (start h))
  pub below : p < length (use_domains h (run before (start h)) used)
  pub excluded : x ≡ last_said left_out e.lane no_cpus before
  pub read : map (λ name. name.cpu) names ≡ members (without (domain_at (use_domains h (run before (start h)) used) p).shape.span x)
  pub figures : All (λ name. IsFigureOf h before name
      (slice_index_or (figures_at (run before (start h)).figures name.cpu) name.n no_fig)) names
  pub decided :
      let domain = domain_at (use_domains h (run before (start h)) used) p in
      d ≡ decision domain.shape domain.groups (by_cpu (figures_named (run before (start h)).figures names)) used.cpu used.kind x
  pub taken :
      let m = run before (start h) in
      let others : ℕ → Mask = λ source. others_of (domain_at (use_domains h m used) p) (either x (only source)) in
      Takes d (env_of_pass h m used p names) p others (last_row e.lane before).1
      (run (before ++ e ∷ until e.lane later) (start h)) (next_of e.lane later)
      (next_of e.lane (beyond e.lane (beyond e.lane later)))

abbrev pub PassAt : Header → List Entry → Entry → List Entry → What → Type 0
PassAt h before e later (Look p x names d) = IsPass h before e later p x names d
PassAt h before e later w = Unit {0}

abbrev pub PassesAlways : Type 0
PassesAlways = (h : Header) (before later : List Entry) (e : Entry) → IsLegalFront h (before ++ e ∷ later) → PassAt h before e later e.what
