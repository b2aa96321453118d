-- For `head_of` of src/header.rt: reads the lines at the head that can be repeated.
use Rattle.std.proofs.Common.{◌≡◌, ℕ, ◌+◌, ◌-◌, ◌<◌, Bool, true, false, ◌&&◌, ◌||◌, List, length, sym, ap, subst, ◌∙◌, arith}
use Rattle.lb_trace.specs.declared.trace.TheConstants.{MAX_BYTES}
use Rattle.lb_read.specs.Repeats.{can_repeat, is_parts, has_room}
use Rattle.lb_read.proofs.HeadFacts.{HeadSoFar, so_far_more, head_other, head_stopped, head_end}
use Rattle.lb_read.proofs.header.head_of.Goals as goal

pub returns-in_default-repeated : goal.returns-in_default-repeated
returns-in_default-repeated c =
    let f =
    head_other _ _ _ _ _ _ c.in-Some.after.now c.loop-line.invariant c.in-Some.ensures.lines c.in_default-repeated.ensures in
    record { trace = f.trace_is; lines = f.lines_is; few = f.few; stopped = f.stopped_is; rest = f.rest_is; within = f.within }

pub returns-then-not-branch : goal.returns-then-not-branch
returns-then-not-branch c =
    let body = c.in-Some-repeated.body.now in
    let used : c.len.result ≡ length c.loop-line.trace.items = c.len.ensures ∙ c.loop-line.trace.ok.0 in
    let cannot : (can_repeat c.loop-line.parted body && has_room (MAX_BYTES - length c.loop-line.trace.items) body) ≡ false =
    ap (λ n. can_repeat c.loop-line.parted body && has_room (MAX_BYTES - n) body) (sym used) ∙ sym c.in_ok-can_follow.ensures
    ∙ c.if-not-branch.true in
    let f =
    head_stopped _ _ _ _ _ _ c.in-Some.after.now body c.loop-line.invariant c.in-Some.ensures.lines
    c.in-Some-repeated.ensures.0 c.in-Some-repeated.ensures.1 cannot in
    record { trace = f.trace_is; lines = f.lines_is; few = f.few; stopped = f.stopped_is; rest = f.rest_is; within = f.within }

pub loop-line-preserved : goal.loop-line-preserved
loop-line-preserved c =
    let body = c.in-Some-repeated.body.now in
    let used : c.len.result ≡ length c.loop-line.trace.items = c.len.ensures ∙ c.loop-line.trace.ok.0 in
    let can : (can_repeat c.loop-line.parted body && has_room (MAX_BYTES - length c.loop-line.trace.items) body) ≡ true =
    ap (λ n. can_repeat c.loop-line.parted body && has_room (MAX_BYTES - n) body) (sym used) ∙ sym c.in_ok-can_follow.ensures
    ∙ c.if-not-branch.false in
    let lt : length c.in-Some.after.now < length c.loop-line.rest.now = c.in-Some.ensures.shorter in
    let more =
    so_far_more _ _ _ _ _ _ c.in-Some.after.now body c.loop-line.invariant c.in-Some.ensures.lines
    (omega (arith, lt)) c.in-Some-repeated.ensures.0 c.in-Some-repeated.ensures.1 can in
    subst (λ (p : Bool). HeadSoFar c.args.text.now c.add_line.new.trace.items
    (c.loop-line.lines + 1) p c.in-Some.after.now) (sym c.parted_by-parted.ensures)
    (subst (λ (t : List ℕ). HeadSoFar c.args.text.now t (c.loop-line.lines + 1)
    (c.loop-line.parted || is_parts body) c.in-Some.after.now) (sym c.in_ok-add_line.ensures) more)

pub returns : goal.returns
returns c =
    let f = head_end _ _ _ _ _ c.loop-line.invariant c.in_default.ensures.lines in
    record { trace = f.trace_is; lines = f.lines_is; few = f.few; stopped = f.stopped_is; rest = f.rest_is; within = f.within }
