-- Which forms of a course draw no entry of a kind: all but those that do.
-- For `draws_did`, `draws_close`, `draws_look` and others.
use Rattle.std.proofs.Common.{◌≡◌, ℕ, Bool, false, refl, Option, List}
use Rattle.lb_base.specs.declared.mask.Mask.{Mask}
use Rattle.lb_base.specs.declared.shape.Kind.{Kind}
use Rattle.lb_imbalance.specs.declared.decision.Decision.{Decision}
use Rattle.lb_queue.specs.declared.answers.AskReply.{AskReply}
use Rattle.lb_queue.specs.declared.answers.OutCause.{OutCause}
use Rattle.lb_queue.specs.declared.answers.Reply.{Reply}
use Rattle.lb_queue.specs.Queue.{QueueState}
use Rattle.lb_trace.specs.declared.trace.Command.{Command}
use Rattle.lb_trace.specs.declared.trace.Header.{Header}
use Rattle.lb_core.specs.declared.course.Course.{Course}
use Rattle.lb_core.specs.declared.course.Form.{Form}
use Rattle.lb_core.specs.declared.course.Form.TheVariants.{Rest, Asked, Flight, Serving, Due, Used, Position, Looked, Landed as LandedForm, Closed, Done, ScanDue, Kicking}
use Rattle.lb_core.specs.declared.entry.FigName.{FigName}
use Rattle.lb_core.specs.declared.entry.OutcomeWord.{OutcomeWord}
use Rattle.lb_core.specs.declared.entry.What.{What}
use Rattle.lb_core.specs.declared.entry.What.TheVariants.{Row, Adopt, Look, Scan, End, Did, Out, Landed, Turn, Shut, Close, Ask, Kick, Over, Pub}
use Rattle.lb_core.specs.Stage.{draws}
use Rattle.lb_core.specs.Elsewhere.{is_rest}
use Rattle.lb_judge.specs.Forms.{same_form}

pub row_drawn : (f : Form) (h : Header) (c : Course) (q : QueueState) (lane : ℕ) (n at : ℕ) (k : Command)
    → is_rest f ≡ draws f h c q lane (Row n at k)
unfolding draws
row_drawn Rest h c q lane n at k = refl
row_drawn f h c q lane n at k = refl

pub use_undrawn : (f : Form) (h : Header) (c : Course) (q : QueueState) (lane : ℕ) (v : ℕ) (k : Kind) (u : ℕ)
    → (f ≡ Serving → ⊥) → (f ≡ Due → ⊥) → false ≡ draws f h c q lane (Adopt v k u)
unfolding draws
use_undrawn Serving h c q lane v k u n0 n1 = absurd (n0 refl)
use_undrawn Due h c q lane v k u n0 n1 = absurd (n1 refl)
use_undrawn f h c q lane v k u n0 n1 = refl

pub look_undrawn : (f : Form) (h : Header) (c : Course) (q : QueueState) (lane : ℕ) (p : ℕ) (x : Mask)
    (names : List FigName) (d : Decision) → (f ≡ Position → ⊥) → (f ≡ LandedForm → ⊥) → false ≡ draws f h c q lane
    (Look p x names d)
unfolding draws
look_undrawn Position h c q lane p x names d n0 n1 = absurd (n0 refl)
look_undrawn LandedForm h c q lane p x names d n0 n1 = absurd (n1 refl)
look_undrawn f h c q lane p x names d n0 n1 = refl

pub end_undrawn : (f : Form) (h : Header) (c : Course) (q : QueueState) (lane : ℕ) (cpus : Mask) → (f ≡ Rest → ⊥)
    → false ≡ draws f h c q lane (End cpus)
unfolding draws
end_undrawn Rest h c q lane cpus n0 = absurd (n0 refl)
end_undrawn f h c q lane cpus n0 = refl

pub did_undrawn : (f : Form) (h : Header) (c : Course) (q : QueueState) (lane : ℕ) (r : Reply) → (f ≡ Asked → ⊥)
    → false ≡ draws f h c q lane (Did r)
unfolding draws
did_undrawn Asked h c q lane r n0 = absurd (n0 refl)
did_undrawn f h c q lane r n0 = refl

pub out_undrawn : (f : Form) (h : Header) (c : Course) (q : QueueState) (lane : ℕ) (cause : OutCause) (to : ℕ)
    (ids : List ℕ) → (f ≡ Rest → ⊥) → (f ≡ Asked → ⊥) → (f ≡ Serving → ⊥) → (f ≡ Looked → ⊥)
    → false ≡ draws f h c q lane (Out cause to ids)
unfolding draws
out_undrawn Rest h c q lane cause to ids n0 n1 n2 n3 = absurd (n0 refl)
out_undrawn Asked h c q lane cause to ids n0 n1 n2 n3 = absurd (n1 refl)
out_undrawn Serving h c q lane cause to ids n0 n1 n2 n3 = absurd (n2 refl)
out_undrawn Looked h c q lane cause to ids n0 n1 n2 n3 = absurd (n3 refl)
out_undrawn f h c q lane cause to ids n0 n1 n2 n3 = refl

pub close_undrawn : (f : Form) (h : Header) (c : Course) (q : QueueState) (lane : ℕ) (p : ℕ) (w : OutcomeWord)
    (i n : ℕ) → (f ≡ Looked → ⊥) → (f ≡ LandedForm → ⊥) → false ≡ draws f h c q lane (Close p w i n)
unfolding draws
close_undrawn Looked h c q lane p w i n n0 n1 = absurd (n0 refl)
close_undrawn LandedForm h c q lane p w i n n0 n1 = absurd (n1 refl)
close_undrawn f h c q lane p w i n n0 n1 = refl

pub kick_undrawn : (f : Form) (h : Header) (c : Course) (q : QueueState) (lane : ℕ) (r : AskReply) → (f ≡ Kicking → ⊥)
    → false ≡ draws f h c q lane (Kick r)
unfolding draws
kick_undrawn Kicking h c q lane r n0 = absurd (n0 refl)
kick_undrawn f h c q lane r n0 = refl

pub pub_undrawn : (f : Form) (h : Header) (c : Course) (q : QueueState) (lane : ℕ) (v : ℕ) → (f ≡ Asked → ⊥)
    → false ≡ draws f h c q lane (Pub v)
unfolding draws
pub_undrawn Asked h c q lane v n0 = absurd (n0 refl)
pub_undrawn f h c q lane v n0 = refl

pub scan_drawn : (f : Form) (h : Header) (c : Course) (q : QueueState) (lane : ℕ) (names : List FigName)
    (t : Option ℕ) → same_form f ScanDue ≡ draws f h c q lane (Scan names t)
unfolding draws
scan_drawn ScanDue h c q lane names t = refl
scan_drawn f h c q lane names t = refl

pub landed_drawn : (f : Form) (h : Header) (c : Course) (q : QueueState) (lane : ℕ) (ids : List ℕ)
    → same_form f Flight ≡ draws f h c q lane (Landed ids)
unfolding draws
landed_drawn Flight h c q lane ids = refl
landed_drawn f h c q lane ids = refl

pub turn_drawn : (f : Form) (h : Header) (c : Course) (q : QueueState) (lane : ℕ) (ps : Mask)
    → same_form f Used ≡ draws f h c q lane (Turn ps)
unfolding draws
turn_drawn Used h c q lane ps = refl
turn_drawn f h c q lane ps = refl

pub shut_drawn : (f : Form) (h : Header) (c : Course) (q : QueueState) (lane : ℕ) → same_form f Used ≡ draws f h c q lane Shut
unfolding draws
shut_drawn Used h c q lane = refl
shut_drawn f h c q lane = refl

pub ask_drawn : (f : Form) (h : Header) (c : Course) (q : QueueState) (lane : ℕ) (r : AskReply)
    → same_form f Closed ≡ draws f h c q lane (Ask r)
unfolding draws
ask_drawn Closed h c q lane r = refl
ask_drawn f h c q lane r = refl

pub over_drawn : (f : Form) (h : Header) (c : Course) (q : QueueState) (lane : ℕ) → same_form f Done ≡ draws f h c q lane Over
unfolding draws
over_drawn Done h c q lane = refl
over_drawn f h c q lane = refl

pub told : (b : Bool) (f : Form) (h : Header) (c : Course) (q : QueueState) (lane : ℕ) (w v : What) → w ≡ v
    → b ≡ draws f h c q lane v → b ≡ draws f h c q lane w
told b f h c q lane w v e k = rw e k
