-- A turn of a service: what is known of it once it has opened, or was shut; and after each of its positions.
-- For `open_turn` and `pass_position`.
use Rattle.std.proofs.Common.{ℕ, ◌≡◌, ◌+◌, ◌<◌, Bool, true, false, not, ◌==◌, cond, List, Option, Some, None, MatchOption, length, map, All, [], ◌⊎◌, if◌then◌else◌, refl, sym, ap, subst, ◌∙◌, arith, inl, inr}
use Rattle.std.proofs.lemmas.Bool.{and_parts, eqb-true}
use Rattle.std.proofs.lemmas.List.{length-map}
use base.Stored.{Coded}
use Rattle.atomic_table.specs.Seated.{TableId}
use Rattle.lb_base.specs.declared.mask.Mask.{Mask}
use Rattle.lb_base.specs.declared.shape.Kind.{Kind}
use Rattle.lb_base.specs.declared.shape.Kind.TheVariants.{Tick as TickTurn, Idle, Nohz}
use Rattle.lb_base.specs.declared.shape.Shape.{Shape}
use Rattle.lb_base.specs.Mask.{has}
use Rattle.lb_base.specs.Sets.{least, least_above}
use Rattle.lb_domain.specs.declared.domain.Domain.{Domain}
use Rattle.lb_interval.specs.declared.Counters.{Counters}
use Rattle.lb_interval.specs.declared.Outcome.{Outcome}
use Rattle.lb_interval.specs.declared.Outcome.TheVariants.{NotMine, Balanced, Moved, Pinned, Failed, Asking}
use Rattle.lb_queue.specs.Queue.{QueueState}
use Rattle.lb_queue.specs.Turns.{FitCounters}
use Rattle.lb_queue.specs.declared.answers.AskReply.{AskReply}
use Rattle.lb_queue.specs.declared.answers.TurnReply.{TurnReply}
use Rattle.lb_queue.specs.declared.answers.TurnReply.TheVariants.{Opened, TurnOpen}
use Rattle.lb_trace.specs.declared.trace.Header.{Header}
use Rattle.lb_core.specs.declared.course.Course.{Course}
use Rattle.lb_core.specs.declared.course.Form.{Form}
use Rattle.lb_core.specs.declared.course.Form.TheVariants as forms
use Rattle.lb_core.specs.declared.entry.Owner.TheVariants.{Queue}
use Rattle.lb_core.specs.declared.entry.What.TheVariants as whats
use Rattle.lb_core.specs.declared.rule.Rule.TheVariants.{Counters as CountersRule}
use Rattle.lb_core.specs.Asks.{OpeningAsks}
use Rattle.lb_core.specs.Course.{is_newly, shapes_of, turn_domains, turn_kind}
use Rattle.lb_core.specs.Same.{same_kind, same_number}
use Rattle.lb_core.specs.Rules.{positions_due}
use Rattle.lb_core.specs.CourseAfter.{course_after, drew, goes_to}
use Rattle.lb_core.proofs.Positions.{AreMany, above_has, least_has, positions_below}
use Rattle.lb_journal.specs.Journal.{Journal}
use Rattle.lb_cell.specs.Cells.{CellIs, LaneIs as SideIs}
use Rattle.lb_cell.specs.Draws.{MayDraw, course_left, sight_at}
use Rattle.lb_cell.specs.Own.{own_left}
use Rattle.lb_lane.specs.declared.chosen.Chosen.{Chosen}
use Rattle.lb_lane.specs.declared.turns.Began.{Began}
use Rattle.lb_lane.specs.declared.turns.Began.TheVariants.{Turn, PushFirst}
use Rattle.lb_lane.specs.Began.{TurnAnswered}
use Rattle.lb_lane.specs.Lanes.{LaneIs}
use Rattle.lb_lane.specs.Uses.{use_due}
use Rattle.lb_lane_laws.specs.Stays.{BeginsAt, ComesTo, SameRows, SameTurn, next_position}
use Rattle.lb_lane_laws.proofs.Courses.{AskLeft, ask_left}
use Rattle.lb_lane_laws.proofs.Lanes.{there_course}
use Rattle.lb_cpu.specs.Turns.{AskedThere, BeganAt, BeganThere}
use Rattle.lb_pass.specs.Passes.{GoesOnAfter}
use Rattle.lb_service.specs.Services.{DueIn, IsAt, StillDue, IsTurning, ScannedAreDeclared}
use Rattle.lb_service.proofs.Following.{end_serves}
use Rattle.lb_service.proofs.Rows.{rows_left}

-- ---- a `use`
-- the course has taken up a turn of this kind, of this CPU
pub record TookUp (c : Course) (kind : Kind) (cpu : ℕ) (c' : Course) : Type 0 where
  pub cpu_is : c'.cpu ≡ cpu
  pub kind_is : turn_kind c' ≡ kind
  pub figures : c'.figures ≡ c.figures
  pub rows : c'.rows ≡ c.rows

adopt_left : (h : Header) (l : SideIs) (v : ℕ) (kind : Kind) (cpu : ℕ) (masks : List Mask)
    → TookUp l.course kind cpu (own_left h l (whats.Adopt v kind cpu) masks [])
unfolding course_after
adopt_left h l v kind cpu masks = record { cpu_is = refl; kind_is = refl; figures = refl; rows = refl }

took_up : (h : Header) (c c' : CellIs) (l l' : LaneIs) (x : Chosen) (kind : Kind) (r : TurnReply)
    → (a : TurnAnswered h c c' l l' x kind r) → TookUp l.side.course kind x.cpu a.mid.side.course
took_up h c c' l l' x kind r a =
    let left = adopt_left h a.adopted.followed x.version kind x.cpu x.masks in
    let taken : TookUp a.adopted.followed.course kind x.cpu a.mid.side.course =
    subst (TookUp a.adopted.followed.course kind x.cpu) (sym a.adopted.drew.course) left in
    record {
      cpu_is = taken.cpu_is;
      kind_is = taken.kind_is;
      figures = taken.figures ∙ ap (λ (z : Course). z.figures) a.adopted.same.course;
      rows = taken.rows ∙ ap (λ (z : Course). z.rows) a.adopted.same.course;
    }

pub kicks_still : (h : Header) (kind : Kind) (c c' : Course) → c'.figures ≡ c.figures → ScannedAreDeclared h kind c
    → ScannedAreDeclared h kind c'
kicks_still h TickTurn c c' e k = tt
kicks_still h Idle c c' e k = tt
kicks_still h Nohz c c' e k = subst (λ fs. All (λ f. f.cpu < length h.cpus) fs) (sym e) k

-- ---- what a turn finds
are_many : (o : Option (List Counters)) (n : ℕ) → MatchOption o (Unit {0}) (λ cs. n ≡ length cs) → AreMany o n
are_many None n h = tt
are_many (Some cs) n h = sym h

same_bits : (a b : Mask) → not (a.bits == b.bits) ≡ false → a ≡ b
same_bits a b e = ap (λ (n : ℕ). record { bits = n }) (eqb-true a.bits b.bits (by (a.bits == b.bits) e))
  where
    by : (t : Bool) → not t ≡ false → t ≡ true
    by true f = refl
    by false f = let y : ⊥ = cc f in absurd y

positions_inside : (h : Header) (c : CellIs) (l : SideIs) (ps : Mask) → MayDraw h c l (whats.Turn ps)
    → OpeningAsks h c.queue.state l.course → (p : ℕ) → has ps p ≡ true → p < length (turn_domains h l.course)
positions_inside h c l ps may asks p there =
    let due = positions_due (sight_at h c l) in
    let is : ps ≡ due = same_bits ps due (may.allowed CountersRule) in
    let below = positions_below c.queue.state l.course.at (turn_kind l.course) l.course.version p
    (shapes_of (turn_domains h l.course))
    (λ same. are_many c.queue.state.counters (length (shapes_of (turn_domains h l.course))) (asks.fit same))
    (subst (λ (m : Mask). has m p ≡ true) is there) in
    subst (λ (n : ℕ). p < n) (length-map (turn_domains h l.course) (λ (d : Domain). d.shape)) below

turned_by : (o : Option ℕ) (h : Header) (c : Course) (ps : Mask) (counters : List Counters) (cpu n : ℕ) → least ps ≡ o
    → c.cpu < length h.cpus → ((p : ℕ) → has ps p ≡ true → p < length (turn_domains h c)) → ScannedAreDeclared h (turn_kind c) c
    → IsTurning h (drew (Queue cpu) n (goes_to o (record c { positions = ps; counters = counters })))
turned_by None h c ps counters cpu n e inside within kicks = record {
  cpu = inside;
  within = within;
  kicks = kicks_still h (turn_kind c) c _ refl kicks;
  comes = inr refl;
}
turned_by (Some p) h c ps counters cpu n e inside within kicks = record {
  cpu = inside;
  within = within;
  kicks = kicks_still h (turn_kind c) c _ refl kicks;
  comes = inl (record { form = refl; position_is = refl; anew = refl }, least_has ps p e);
}

open_left : (h : Header) (c : CellIs) (l : SideIs) (ps : Mask) → l.course.cpu < length h.cpus
    → ((p : ℕ) → has ps p ≡ true → p < length (turn_domains h l.course)) → ScannedAreDeclared h (turn_kind l.course) l.course
    → IsTurning h (course_left h c l (whats.Turn ps))
unfolding course_after
open_left h c l ps inside within kicks =
    turned_by (least ps) h l.course ps _ c.log.writer.cpu (length c.log.seat.list + 1) refl inside within kicks

shut_left : (h : Header) (c : CellIs) (l : SideIs) → ScannedAreDeclared h (turn_kind l.course) l.course
    → StillDue h (course_left h c l whats.Shut)
unfolding course_after
shut_left h c l kicks = end_serves h l.course c.log.writer.cpu (length c.log.seat.list + 1) kicks

-- ---- a turn begins
module _ (h : Header) (book : TableId) (board : List TableId) (code : Coded Journal) (l l' : LaneIs) (kind : Kind) (cpu : ℕ) where
  kicks_of : (c c' : CellIs) (m m' : LaneIs) (x : Chosen) (r : TurnReply) → m.side.course ≡ l.side.course
      → ScannedAreDeclared h kind l.side.course → (a : TurnAnswered h c c' m m' x kind r)
      → ScannedAreDeclared h (turn_kind a.mid.side.course) a.mid.side.course
  kicks_of c c' m m' x r same kicks a =
      let t = took_up h c c' m m' x kind r a in
      subst (λ (k : Kind). ScannedAreDeclared h k a.mid.side.course) (sym t.kind_is)
      (kicks_still h kind l.side.course a.mid.side.course (t.figures ∙ ap (λ (z : Course). z.figures) same) kicks)

  pub began_open : (ps : Mask) → cpu < length h.cpus → ScannedAreDeclared h kind l.side.course
      → BeganThere h book board code l l' kind cpu (Turn (Opened ps)) → IsTurning h l'.side.course
  began_open ps inside kicks b =
      let a = b.there.came in
      let t = took_up h b.there.before b.there.after b.mid b.there.mid b.x kind (Opened ps) a in
      let within = positions_inside h b.there.before a.mid.side ps a.answered.may a.asks in
      let here = subst (λ (n : ℕ). n < length h.cpus) (sym (t.cpu_is ∙ b.of_cpu)) inside in
      let left = open_left h b.there.before a.mid.side ps here within
      (kicks_of b.there.before b.there.after b.mid b.there.mid b.x (Opened ps) b.looks.side.course kicks a) in
      subst (IsTurning h) (sym (b.there.read.same.course ∙ a.answered.course)) left

  pub began_shut : ScannedAreDeclared h kind l.side.course → BeganThere h book board code l l' kind cpu (Turn TurnOpen)
      → StillDue h l'.side.course
  began_shut kicks b =
      let a = b.there.came in
      let left = shut_left h b.there.before a.mid.side
      (kicks_of b.there.before b.there.after b.mid b.there.mid b.x TurnOpen b.looks.side.course kicks a) in
      subst (StillDue h) (sym (b.there.read.same.course ∙ a.answered.course)) left

  pub began_push : (to : ℕ) → StillDue h l.side.course → BeganThere h book board code l l' kind cpu (PushFirst to)
      → StillDue h l'.side.course
  began_push to serving b =
      subst (StillDue h)
      (sym (b.there.read.same.course
      ∙ (ap (λ (z : LaneIs). z.side.course) b.there.came.1 ∙ b.looks.side.course))) serving

  -- it is the same lane, with as many rows taken up
  pub turn_same : (r : TurnReply) → BeganThere h book board code l l' kind cpu (Turn r) → SameRows l l'
  turn_same r b =
      let a = b.there.came in
      let t = took_up h b.there.before b.there.after b.mid b.there.mid b.x kind r a in
      record {
        number = b.there.read.same.number ∙
            (a.answered.number ∙ (a.adopted.drew.number ∙ (a.adopted.same.number ∙ b.looks.side.number)));
        rows = b.there.rest.rows ∙ (a.rest.rows ∙ (a.adopted.rows ∙ b.looks.rows));
        taken_up =
            ap (λ (z : Course). z.rows) (b.there.read.same.course ∙ a.answered.course)
            ∙ (rows_left h b.there.before a.mid.side _ a.answered.may.of_queue
            ∙ (t.rows ∙ ap (λ (z : Course). z.rows) b.looks.side.course));
      }

  pub push_same : (to : ℕ) → BeganThere h book board code l l' kind cpu (PushFirst to) → SameRows l l'
  push_same to b =
      let is = b.there.came.1 in
      record {
        number = b.there.read.same.number ∙ (ap (λ (z : LaneIs). z.side.number) is ∙ b.looks.side.number);
        rows = b.there.rest.rows ∙ (ap (λ (z : LaneIs). z.rows) is ∙ b.looks.rows);
        taken_up =
            ap (λ (z : Course). z.rows) b.there.read.same.course
            ∙ (ap (λ (z : LaneIs). z.side.course.rows) is ∙ ap (λ (z : Course). z.rows) b.looks.side.course);
      }

-- ---- a position is passed
next_in : (outcome : Outcome) (kind : Kind) (ps : Mask) (p q : ℕ) → next_position outcome kind ps p ≡ Some q → has ps q ≡ true
next_in NotMine kind ps p q e = let y : ⊥ = cc e in absurd y
next_in Balanced kind ps p q e = (above_has ps p q e).1
next_in Pinned kind ps p q e = (above_has ps p q e).1
next_in Failed kind ps p q e = (above_has ps p q e).1
next_in Asking kind ps p q e = (above_has ps p q e).1
next_in (Moved n) kind ps p q e = by (is_newly kind) e
  where
    by : (b : Bool) → (if b then None else least_above ps p) ≡ Some q → has ps q ≡ true
    by true f = let y : ⊥ = cc f in absurd y
    by false f = (above_has ps p q f).1

-- the turn is as it was, but for its position
turns_on : (o : Option ℕ) (h : Header) (c c' : Course) → IsTurning h c → SameTurn c c'
    → ((q : ℕ) → o ≡ Some q → has c.positions q ≡ true) → ComesTo o c' → IsTurning h c'
turns_on o h c c' t same there comes =
    let cpu : c'.cpu ≡ c.cpu = ap (λ (x : Course). x.cpu) same in
    let positions : c'.positions ≡ c.positions = ap (λ (x : Course). x.positions) same in
    let masks : c'.masks ≡ c.masks = ap (λ (x : Course). x.masks) same in
    let kind : turn_kind c' ≡ turn_kind c = ap turn_kind same in
    let domains : turn_domains h c' ≡ turn_domains h c =
    (λ i. turn_domains h (record c { masks = masks i; cpu = cpu i })) in
    record {
      cpu = subst (λ (n : ℕ). n < length h.cpus) (sym cpu) t.cpu;
      within = λ p at.
          subst (λ (ds : List Domain). p < length ds) (sym domains)
          (t.within p (subst (λ (m : Mask). has m p ≡ true) positions at));
      kicks = subst (λ (k : Kind). ScannedAreDeclared h k c') (sym kind)
          (kicks_still h (turn_kind c) c c' (ap (λ (x : Course). x.figures) same) t.kicks);
      comes = by o there comes positions;
    }
  where
    by : (o : Option ℕ) → ((q : ℕ) → o ≡ Some q → has c.positions q ≡ true) → ComesTo o c' → c'.positions ≡ c.positions
        → IsAt c' ⊎ (c'.form ≡ forms.Done)
    by None f d e = inr d
    by (Some q) f d e = inl (
      record { form = d.form; position_is = refl; anew = d.anew },
      subst (λ (m : Mask). has m c'.position ≡ true) (sym e)
          (subst (λ (n : ℕ). has c.positions n ≡ true) (sym d.position_is) (f q refl)),
    )

comes_to : (outcome : Outcome) (h : Header) (kind : Kind) (c c' : Course) → (outcome ≡ Asking → ⊥)
    → GoesOnAfter h outcome kind c c' → ComesTo (next_position outcome kind c.positions c.position) c'
comes_to NotMine h kind c c' other g = g
comes_to Balanced h kind c c' other g = g
comes_to Pinned h kind c c' other g = g
comes_to Failed h kind c c' other g = g
comes_to (Moved n) h kind c c' other g = g
comes_to Asking h kind c c' other g = absurd (other refl)

pub passed_on : (h : Header) (c c' : Course) (outcome : Outcome) (kind : Kind) → IsTurning h c → SameTurn c c'
    → (outcome ≡ Asking → ⊥) → GoesOnAfter h outcome kind c c' → IsTurning h c'
passed_on h c c' outcome kind t same other g =
    turns_on (next_position outcome kind c.positions c.position) h c c' t same
    (λ q e. next_in outcome kind c.positions c.position q e) (comes_to outcome h kind c c' other g)

pub asked_on : (h : Header) (book : TableId) (board : List TableId) (code : Coded Journal) (l m l' : LaneIs) (cpu : ℕ)
    (r : AskReply) → IsTurning h l.side.course → SameTurn l.side.course m.side.course
    → AskedThere h book board code m l' cpu r → IsTurning h l'.side.course
asked_on h book board code l m l' cpu r t same x =
    let left : AskLeft m.side.course l'.side.course =
    subst (AskLeft m.side.course) (sym (there_course h book board code m l' cpu (whats.Ask r) x.there))
    (ask_left h x.there.before m.side r) in
    let positions : m.side.course.positions ≡ l.side.course.positions = ap (λ (c : Course). c.positions) same in
    turns_on (least_above m.side.course.positions m.side.course.position) h l.side.course l'.side.course t (left.turn ∙ same)
    (λ q e.
    subst (λ (ps : Mask). has ps q ≡ true) positions (above_has m.side.course.positions m.side.course.position q e).1) left.comes

-- the turn that is due is of the kind for which figures were kept
pub due_kicks : (h : Header) (c : Course) (kind : Kind) (cpu : ℕ) → StillDue h c → use_due c.form c kind cpu ≡ true
    → ScannedAreDeclared h kind c
due_kicks h c TickTurn cpu s e = tt
due_kicks h c Idle cpu s e = tt
due_kicks h c Nohz cpu s e = by c.form s e
  where
    kinds : (k : Kind) → same_kind Nohz k ≡ true → ScannedAreDeclared h k c → ScannedAreDeclared h Nohz c
    kinds TickTurn f k = let y : ⊥ = cc f in absurd y
    kinds Idle f k = let y : ⊥ = cc f in absurd y
    kinds Nohz f k = k

    by : (f : Form) → DueIn f h c → use_due f c Nohz cpu ≡ true → ScannedAreDeclared h Nohz c
    by forms.Due a u = kinds (turn_kind c) ((and_parts (same_kind Nohz (turn_kind c)) (cpu == c.cpu) u).0) a.1
    by forms.Serving a u = let y : ⊥ = cc u in absurd y
    by forms.Rest a u = let y : ⊥ = cc u in absurd y
    by forms.ScanDue a u = let y : ⊥ = cc u in absurd y
    by forms.Kicking a u = let y : ⊥ = cc u in absurd y
    by forms.Asked a u = absurd a
    by forms.Flight a u = absurd a
    by forms.Used a u = absurd a
    by forms.Position a u = absurd a
    by forms.Looked a u = absurd a
    by forms.Landed a u = absurd a
    by forms.Closed a u = absurd a
    by forms.Done a u = absurd a
    by forms.Ended a u = absurd a
