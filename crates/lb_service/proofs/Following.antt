-- What follows from an entry of a service: what the course that it leaves still asks for.
-- For the lemmas of `Entries` and `Turning`, and so for `serve_scan`, `serve_kick` and others.
use Rattle.std.proofs.Common.{ℕ, ◌≡◌, ◌+◌, ◌<◌, Bool, true, false, ◌&&◌, ◌==◌, ltb, cond, List, [], ◌∷◌, Option, Some, None, length, find, zero, suc, if◌then◌else◌, refl, sym, ap, subst, ◌∙◌, arith, All, inl, inr}
use Rattle.std.specs.Prelude.{nat_lt}
use Rattle.std.proofs.lemmas.Bool.{and_parts, ltb-true, eqb-true}
use Rattle.lb_base.specs.declared.figure.Fig.{Fig}
use Rattle.lb_base.specs.declared.shape.Kind.{Kind}
use Rattle.lb_base.specs.declared.shape.Kind.TheVariants.{Tick as TickTurn, Idle, Nohz}
use Rattle.lb_base.specs.Mask.{has}
use Rattle.lb_base.specs.Sets.{least, least_above}
use Rattle.lb_base.specs.Figures.{is_tickless, no_fig}
use Rattle.lb_queue.specs.Queue.{QueueState}
use Rattle.lb_queue.specs.declared.answers.AskReply.{AskReply}
use Rattle.lb_queue.specs.declared.answers.AskReply.TheVariants.{New, Old}
use Rattle.lb_trace.specs.declared.trace.Header.{Header}
use Rattle.lb_core.specs.declared.course.Course.{Course}
use Rattle.lb_core.specs.declared.course.Form.TheVariants as forms
use Rattle.lb_core.specs.declared.entry.CpuFig.{CpuFig}
use Rattle.lb_core.specs.declared.entry.Owner.TheVariants.{Queue}
use Rattle.lb_core.specs.Course.{turn_kind, turn_domains}
use Rattle.lb_core.specs.Sight.{fig_or_none, tickless_in}
use Rattle.lb_core.specs.Stage.{target_of}
use Rattle.lb_core.specs.CourseAfter.{drew, kicks_next, kicked, scanned, turn_ends, turn_ends_by, comes_to_rest, begins_anew}
use Rattle.lb_core.proofs.Positions.{least_has, above_has}
use Rattle.lb_ready.proofs.Figures.{by_cpu_at, tickless_at}
use Rattle.lb_service.specs.Services.{StillDue, ScannedAreDeclared}

-- ---- tickless CPUs
none_tickless : is_tickless no_fig ≡ true → ⊥
unfolding is_tickless
none_tickless h = let y : ⊥ = cc h in y

named_below : (figs : List CpuFig) (k n : ℕ) → All (λ f. f.cpu < n) figs
    → is_tickless (fig_or_none (find (λ f. f.cpu == k) figs)) ≡ true → k < n
named_below [] k n all h = absurd (none_tickless h)
named_below (f ∷ fs) k n all h =
    by_first (f.cpu == k) refl (named_below fs k n (λ i d lt. all (suc i) d (omega arith))) h
  where
    by_first : (b : Bool) → (f.cpu == k) ≡ b
        → (is_tickless (fig_or_none (find (λ g. g.cpu == k) fs)) ≡ true → k < n)
        → is_tickless (fig_or_none (cond b (Some f) (find (λ g. g.cpu == k) fs))) ≡ true → k < n
    by_first true e rest t = let s = eqb-true f.cpu k e in let first = all 0 f (omega arith) in omega arith
    by_first false e rest t = rest t

-- a CPU that the figures show tickless is one of theirs
pub tickless_below : (figs : List CpuFig) (n k : ℕ) → All (λ f. f.cpu < n) figs → has (tickless_in figs) k ≡ true → k < n
tickless_below figs n k all h =
    let t = tickless_at figs k h in
    named_below figs k n all (subst (λ (f : Fig). is_tickless f ≡ true) (by_cpu_at figs k t.0) t.1)

-- ---- forms
next_serves : (o : Option ℕ) (h : Header) (c : Course) (cpu n : ℕ) → ((p : ℕ) → o ≡ Some p → p < length h.cpus)
    → ScannedAreDeclared h Nohz c → StillDue h (drew (Queue cpu) n (kicks_next o c))
next_serves None h c cpu n below kicks = tt
next_serves (Some p) h c cpu n below kicks = (below p refl, kicks)

ends_serve : (k : Kind) (h : Header) (c : Course) (cpu n : ℕ) → ScannedAreDeclared h k c
    → StillDue h (drew (Queue cpu) n (turn_ends_by k h c))
ends_serve TickTurn h c cpu n kicks =
    by (nat_lt 1 c.awake) (nat_lt 0 (length (turn_domains h c))) (λ e. ltb-true 0 (length (turn_domains h c)) e)
  where
    by : (a b : Bool) → (b ≡ true → 0 < length (turn_domains h c))
        → StillDue h (drew (Queue cpu) n (if a && b then record (begins_anew c) { form = forms.ScanDue } else comes_to_rest c))
    by true true f = f refl
    by true false f = tt
    by false true f = tt
    by false false f = tt
ends_serve Idle h c cpu n kicks = tt
ends_serve Nohz h c cpu n kicks =
    next_serves (least_above (tickless_in c.figures) c.cpu) h c cpu n
    (λ p e. tickless_below c.figures (length h.cpus) p kicks ((above_has (tickless_in c.figures) c.cpu p e).1)) kicks

-- a turn ends, or is shut
pub end_serves : (h : Header) (c : Course) (cpu n : ℕ) → ScannedAreDeclared h (turn_kind c) c
    → StillDue h (drew (Queue cpu) n (turn_ends h c))
unfolding turn_ends
end_serves h c cpu n kicks = ends_serve (turn_kind c) h c cpu n kicks

-- a kick is answered
pub kick_serves : (r : AskReply) (h : Header) (c : Course) (cpu n : ℕ) → ScannedAreDeclared h Nohz c
    → StillDue h (drew (Queue cpu) n (kicked r c))
kick_serves New h c cpu n kicks =
    next_serves (target_of c) h c cpu n
    (λ p e. tickless_below c.figures (length h.cpus) p kicks (least_has (tickless_in c.figures) p e)) kicks
kick_serves Old h c cpu n kicks = tt
