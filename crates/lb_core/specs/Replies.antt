-- The law Replies: each row of a legal history has the next number of its lane, from 1, and its reply:
-- its lane's next entry, which is drawn by the queue where the row's task then stands, by the queue of
-- the CPU that it ticks, or by the publisher; and its value is what the queue, as it then is, answers
-- to the command, or the next version.
-- Cited by the law `replies`; also by `lb`.
use Rattle.std.specs.Prelude.{ℕ, ◌≡◌, ◌+◌, Bool, true, false, Option, Some, None, List, [], ◌∷◌, ◌++◌, length}
use Rattle.lb_queue.specs.declared.answers.OutCause.TheVariants.{Wake as WakeOut}
use Rattle.lb_queue.specs.declared.answers.Reply.{Reply}
use Rattle.lb_queue.specs.Queue.{QueueState, away}
use Rattle.lb_queue.specs.Commands.{wake}
use Rattle.lb_trace.specs.declared.trace.Command.{Command}
use Rattle.lb_trace.specs.declared.trace.Command.TheVariants.{Wake, Sleep, Exit, SetMask, Nice, Tick, Rebuild}
use Rattle.lb_trace.specs.declared.trace.Header.{Header}
use Rattle.lb_core.specs.declared.entry.Owner.{Owner}
use Rattle.lb_core.specs.declared.entry.Owner.TheVariants.{Publisher, Queue}
use Rattle.lb_core.specs.declared.entry.What.{What}
use Rattle.lb_core.specs.declared.entry.What.TheVariants.{Row, Did, Out, Pub}
use Rattle.lb_core.specs.declared.entry.Entry.{Entry}
use Rattle.lb_core.specs.Same.{same_owner}
use Rattle.lb_core.specs.QueueAfter.{answer_to}
use Rattle.lb_core.specs.Machine.{MachineState, course_at, place_at, owned_queue, start}
use Rattle.lb_core.specs.Elsewhere.{is_rest, is_at}
use Rattle.lb_core.specs.Legal.{run, IsLegalHistory}
use Rattle.lb_core.specs.LaneEntries.{next_of, until, last_row}

-- whom a command asks: the queue where its task stands, the queue of the CPU that it ticks, or the
-- publisher
abbrev pub is_asked : Command → MachineState → Owner → Bool
is_asked (Wake t) m o = is_at (place_at m t) o
is_asked (Sleep t) m o = is_at (place_at m t) o
is_asked (Exit t) m o = is_at (place_at m t) o
is_asked (SetMask t mask) m o = is_at (place_at m t) o
is_asked (Nice t nice) m o = is_at (place_at m t) o
is_asked (Tick cpu) m o = same_owner o (Queue cpu)
is_asked (Rebuild parts) m o = same_owner o Publisher

-- a task that may not wake here leaves for the least CPU of its mask
abbrev pub woken : Option ℕ → ℕ → Reply → What
woken (Some to) t r = Out WakeOut to (t ∷ [])
woken None t r = Did r

-- what is replied to a command at a moment
abbrev pub reply_of : Command → ℕ → MachineState → QueueState → What
reply_of (Rebuild parts) at m q = Pub (length m.versions + 1)
reply_of (Wake t) at m q = woken (away q t) t (wake q at t).0
reply_of command at m q = Did (answer_to (Some command) at q).0

pub record IsReply (command : Command) (at : ℕ) (m : MachineState) (e : Entry) : Type 0 where
  pub asked : is_asked command m e.owner ≡ true
  pub value : e.what ≡ reply_of command at m (owned_queue e.owner m)

-- the row has the next number of its lane, and the lane's next entry is the reply
pub record HasReply (h : Header) (before : List Entry) (e : Entry) (later : List Entry) (n at : ℕ) (command : Command) : Type 0 where
  pub number : n ≡ (last_row e.lane before).0 + 1
  pub reply : Entry
  pub next : next_of e.lane later ≡ Some reply
  pub is : IsReply command at (run (before ++ e ∷ until e.lane later) (start h)) reply

abbrev pub ReplyAt : Header → List Entry → Entry → List Entry → What → Type 0
ReplyAt h before e later (Row n at command) = HasReply h before e later n at command
ReplyAt h before e later w = Unit {0}

abbrev pub RepliesAlways : Type 0
RepliesAlways = (h : Header) (before later : List Entry) (e : Entry) → IsLegalHistory h (before ++ e ∷ later)
    → ReplyAt h before e later e.what

-- in a legal history each lane that is at work has a next entry, until the end
abbrev pub NextAlways : Type 0
NextAlways = (h : Header) (before later : List Entry) (lane : ℕ) → IsLegalHistory h (before ++ later)
    → is_rest (course_at (run before (start h)).courses lane).form ≡ false → (run before (start h)).ended ≡ false →
    (e : Entry) × (next_of lane later ≡ Some e)
