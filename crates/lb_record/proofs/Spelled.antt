-- Which bytes stand in the fields of an entry and in the lines of a header. What reads a history cites
-- `runs_over`, `entry_over`, `line_over` and `header_over`.
-- For the laws `has_its_lines` and `has_its_fields`; cited by `lb_read` too.
use Rattle.std.proofs.Common.{◌≡◌, ℕ, Option, Some, None, true, eqb, List, [], ◌∷◌, ◌++◌, map, refl, arith, inl, inr}
use Rattle.std.specs.Prelude.{decimal, codes}
use Rattle.std.specs.Fmt.{signed_decimal}
use Rattle.std.proofs.lemmas.Bool.{cases_Bool}
use Rattle.lb_base.specs.declared.mask.Mask.{Mask}
use Rattle.lb_base.specs.Mask.{members}
use Rattle.lb_base.specs.Sets.{is_empty}
use Rattle.lb_base.specs.declared.shape.Kind.{Kind}
use Rattle.lb_base.specs.declared.shape.Kind.TheVariants as kinds
use Rattle.lb_base.specs.declared.view.MoveKind.{MoveKind}
use Rattle.lb_base.specs.declared.view.MoveKind.TheVariants as moves
use Rattle.lb_levels.specs.declared.cpu_row.CpuRow.{CpuRow}
use Rattle.lb_text.specs.Lists.{Run}
use Rattle.lb_text.specs.Runs.{runs_of, run_text, runs_text, list_text}
use Rattle.lb_imbalance.specs.declared.decision.Decision.{Decision}
use Rattle.lb_imbalance.specs.declared.decision.Decision.TheVariants as decisions
use Rattle.lb_queue.specs.declared.answers.Reply.{Reply}
use Rattle.lb_queue.specs.declared.answers.Reply.TheVariants as replies
use Rattle.lb_queue.specs.declared.answers.AskReply.{AskReply}
use Rattle.lb_queue.specs.declared.answers.AskReply.TheVariants as requests
use Rattle.lb_queue.specs.declared.answers.OutCause.{OutCause}
use Rattle.lb_queue.specs.declared.answers.OutCause.TheVariants as causes
use Rattle.lb_trace.specs.declared.trace.Command.{Command}
use Rattle.lb_trace.specs.declared.trace.Command.TheVariants as commands
use Rattle.lb_trace.specs.declared.trace.TaskRow.{TaskRow}
use Rattle.lb_trace.specs.declared.trace.Header.{Header}
use Rattle.lb_core.specs.declared.entry.FigName.{FigName}
use Rattle.lb_core.specs.declared.entry.OutcomeWord.{OutcomeWord}
use Rattle.lb_core.specs.declared.entry.OutcomeWord.TheVariants as outcomes
use Rattle.lb_core.specs.declared.entry.Owner.{Owner}
use Rattle.lb_core.specs.declared.entry.Owner.TheVariants as owners
use Rattle.lb_core.specs.declared.entry.What.{What}
use Rattle.lb_core.specs.declared.entry.What.TheVariants as whats
use Rattle.lb_core.specs.declared.entry.Entry.{Entry}
use Rattle.lb_text.specs.Lines.{joined, numbered}
use Rattle.lb_record.specs.Words.{turn_word, move_word, reply_word, request_word, cause_word, outcome_word}
use Rattle.lb_record.specs.Fields.{ids_text, figure_text, figures_text, target_text}
use Rattle.lb_record.specs.Header.{repeated, cpu_line, distances_line, parts_line, lanes_line, task_line, header_lines}
use Rattle.lb_record.specs.Entries.{owner_text, command_fields, decision_fields, what_fields, entry_fields, entry_line}
use Rattle.lb_record.specs.History.{history_lines, history_text}
use Rattle.lb_record.specs.Laws.{HasItsLines, HasItsFields}
use Rattle.lb_record.proofs.Bytes.{over, EachOver, over_append, over_cons, over_weaker, each_weaker, each_append, each_map, each_numbered, joined_over, between_over, decimal_over, signed_over}
use Rattle.lb_record.proofs.Cut.{cut_lines, cut_fields}

number : (n : ℕ) → over 32 (decimal n) ≡ true
number n = decimal_over 32 n (omega arith)

-- lists of CPUs

run_over : (run : Run) → over 44 (run_text run) ≡ true
run_over run = elim (cases_Bool (eqb run.0 run.1)) [
  | inl e ↦ rw e (decimal_over 44 run.0 (omega arith))
  | inr e ↦ rw e (over_append 44 (decimal run.0) (45 ∷ decimal run.1) (decimal_over 44 run.0 (omega arith))
      (over_cons 44 45 (decimal run.1) (omega arith) (decimal_over 44 run.1 (omega arith))))
]

pub runs_over : (mask : Mask) → over 44 (runs_text mask) ≡ true
unfolding runs_text
runs_over mask = between_over 44 59 (map run_text (runs_of (members mask))) (omega arith)
    (each_map 44 run_text (runs_of (members mask)) run_over)

list_over : (mask : Mask) → over 32 (list_text mask) ≡ true
unfolding list_text
list_over mask = elim (cases_Bool (is_empty mask)) [
  | inl e ↦ rw e refl
  | inr e ↦ rw e (over_weaker 32 44 (runs_text mask) (omega arith) (runs_over mask))
]

-- words

turn_over : (kind : Kind) → over 32 (turn_word kind) ≡ true
turn_over kinds.Tick = refl
turn_over kinds.Idle = refl
turn_over kinds.Nohz = refl

move_over : (kind : MoveKind) → over 32 (move_word kind) ≡ true
move_over moves.Load = refl
move_over moves.Util = refl
move_over moves.Tasks = refl

reply_over : (reply : Reply) → over 32 (reply_word reply) ≡ true
reply_over replies.Done = refl
reply_over replies.Already = refl
reply_over replies.NotHere = refl
reply_over replies.Gone = refl
reply_over replies.BadMask = refl

request_over : (reply : AskReply) → over 32 (request_word reply) ≡ true
request_over requests.New = refl
request_over requests.Old = refl

cause_over : (cause : OutCause) → over 32 (cause_word cause) ≡ true
cause_over causes.Wake = refl
cause_over causes.Stop = refl
cause_over causes.Pull = refl
cause_over causes.Push = refl

outcome_over : (outcome : OutcomeWord) → over 32 (outcome_word outcome) ≡ true
outcome_over outcomes.NotMine = refl
outcome_over outcomes.Balanced = refl
outcome_over outcomes.Moved = refl
outcome_over outcomes.Pinned = refl
outcome_over outcomes.Failed = refl
outcome_over outcomes.Asking = refl

-- fields

ids_over : (ids : List ℕ) → over 32 (ids_text ids) ≡ true
ids_over [] = refl
ids_over (id ∷ ids) = joined_over 32 59 (map decimal (id ∷ ids)) (omega arith) (each_map 32 decimal (id ∷ ids) number)

figures_over : (figures : List FigName) → over 32 (figures_text figures) ≡ true
figures_over figures =
    joined_over 32 44 (map figure_text figures) (omega arith)
    (each_map 32 figure_text figures
    (λ f. over_append 32 (decimal f.cpu) (58 ∷ decimal f.n) (number f.cpu)
    (over_cons 32 58 (decimal f.n) (omega arith) (number f.n))))

target_over : (target : Option ℕ) → over 32 (target_text target) ≡ true
target_over None = refl
target_over (Some cpu) = number cpu

owner_over : (owner : Owner) (lane : ℕ) → over 32 (owner_text owner lane) ≡ true
unfolding owner_text
owner_over owners.Publisher lane = over_append 32 (codes "P@") (decimal lane) refl (number lane)
owner_over (owners.Lane l) lane = over_append 32 (codes "L") (decimal l) refl (number l)
owner_over (owners.Queue cpu) lane =
    over_append 32 (codes "Q") (decimal cpu ++ (codes "@" ++ decimal lane)) refl
    (over_append 32 (decimal cpu) (codes "@" ++ decimal lane) (number cpu)
    (over_append 32 (codes "@") (decimal lane) refl (number lane)))

command_over : (command : Command) (at : ℕ) → EachOver 32 (command_fields command at)
unfolding command_fields
command_over (commands.Wake task) at = (refl, (number task, (number at, tt)))
command_over (commands.Sleep task) at = (refl, (number task, (number at, tt)))
command_over (commands.Exit task) at = (refl, (number task, (number at, tt)))
command_over (commands.SetMask task mask) at = (refl, (number task, (number at, (list_over mask, tt))))
command_over (commands.Nice task nice) at = (refl, (number task, (number at, (signed_over 32 nice (omega arith), tt))))
command_over (commands.Tick cpu) at = (refl, (number cpu, (number at, tt)))
command_over (commands.Rebuild parts) at = (refl, (number at, each_map 32 list_text parts list_over))

decision_over : (decision : Decision) → EachOver 32 (decision_fields decision)
unfolding decision_fields
decision_over decisions.NotMine = (refl, tt)
decision_over decisions.Balanced = (refl, tt)
decision_over (decisions.Pull source kind imbalance) = (refl, (number source, (move_over kind, (number imbalance, tt))))

what_over : (what : What) → EachOver 32 (what_fields what)
unfolding what_fields
what_over (whats.Row n at command) = (refl, (number n, command_over command at))
what_over (whats.Adopt version kind cpu) = (refl, (number version, (turn_over kind, (number cpu, tt))))
what_over (whats.Look position excluded figures decision) =
    (refl, (number position, (list_over excluded, (figures_over figures, decision_over decision))))
what_over (whats.Scan figures target) = (refl, (figures_over figures, (target_over target, tt)))
what_over (whats.End unserved) = (refl, (list_over unserved, tt))
what_over (whats.Did reply) = (refl, (reply_over reply, tt))
what_over (whats.Out cause to ids) = (refl, (cause_over cause, (number to, (ids_over ids, tt))))
what_over (whats.Landed ids) = (refl, (ids_over ids, tt))
what_over (whats.Turn positions) = (refl, (list_over positions, tt))
what_over whats.Shut = (refl, tt)
what_over (whats.Close position outcome interval failures) =
    (refl, (number position, (outcome_over outcome, (number interval, (number failures, tt)))))
what_over (whats.Ask reply) = (refl, (request_over reply, tt))
what_over (whats.Kick reply) = (refl, (request_over reply, tt))
what_over whats.Over = (refl, tt)
what_over (whats.Pub version) = (refl, (number version, tt))

pub entry_over : (ticket : ℕ) (entry : Entry) → EachOver 32 (entry_fields ticket entry)
entry_over ticket entry = (number ticket, (owner_over entry.owner entry.lane, (number entry.prev, what_over entry.what)))

pub line_over : (ticket : ℕ) (entry : Entry) → over 31 (entry_line ticket entry) ≡ true
unfolding entry_line
line_over ticket entry = joined_over 31 32 (entry_fields ticket entry) (omega arith)
    (each_weaker 31 32 (entry_fields ticket entry) (omega arith) (entry_over ticket entry))

-- lines of a header

digits_over : (n : ℕ) → over 31 (decimal n) ≡ true
digits_over n = decimal_over 31 n (omega arith)

cpus_over : (mask : Mask) → over 31 (runs_text mask) ≡ true
cpus_over mask = over_weaker 31 44 (runs_text mask) (omega arith) (runs_over mask)

repeated_over : (fields : List (List ℕ)) → EachOver 31 fields → over 31 (repeated fields) ≡ true
repeated_over fields e = over_append 31 (codes "= ") (joined 44 fields) refl (joined_over 31 44 fields (omega arith) e)

cpu_over : (id : ℕ) (cpu : CpuRow) → over 31 (cpu_line id cpu) ≡ true
unfolding cpu_line
cpu_over id cpu = repeated_over
    (codes "cpu" ∷ decimal id ∷ decimal cpu.core ∷ decimal cpu.cache ∷ decimal cpu.node ∷ [])
    (refl, (digits_over id, (digits_over cpu.core, (digits_over cpu.cache, (digits_over cpu.node, tt)))))

distances_over : (distances : List ℕ) → over 31 (distances_line distances) ≡ true
unfolding distances_line
distances_over distances = repeated_over (codes "dist" ∷ map decimal distances) (refl, each_map 31 decimal distances digits_over)

parts_over : (parts : List Mask) → over 31 (parts_line parts) ≡ true
unfolding parts_line
parts_over parts = repeated_over (codes "parts" ∷ map runs_text parts) (refl, each_map 31 runs_text parts cpus_over)

lanes_over : (lanes : ℕ) → over 31 (lanes_line lanes) ≡ true
unfolding lanes_line
lanes_over lanes = repeated_over (codes "lanes" ∷ decimal lanes ∷ []) (refl, (digits_over lanes, tt))

task_over : (id : ℕ) (task : TaskRow) → over 31 (task_line id task) ≡ true
unfolding task_line
task_over id task =
    repeated_over (codes "task" ∷ decimal id ∷ signed_decimal task.nice ∷ decimal task.home ∷ runs_text task.mask ∷
    []) (refl, (digits_over id, (signed_over 31 task.nice (omega arith), (digits_over task.home, (cpus_over task.mask, tt)))))

pub header_over : (header : Header) → EachOver 31 (header_lines header)
unfolding header_lines
header_over header =
    let cpus : EachOver 31 (codes "lbhist 1" ∷ numbered cpu_line 0 header.cpus) =
    (refl, each_numbered 31 cpu_line 0 header.cpus cpu_over) in
    let tasks = parts_line header.parts ∷ lanes_line header.lanes ∷ numbered task_line 0 header.tasks in
    let rest : EachOver 31 tasks = (
      parts_over header.parts,
      (lanes_over header.lanes, each_numbered 31 task_line 0 header.tasks task_over),
    ) in
    each_append 31 (codes "lbhist 1" ∷ numbered cpu_line 0 header.cpus) (map distances_line header.distances ++ tasks) cpus
    (each_append 31 (map distances_line header.distances) tasks (each_map 31 distances_line header.distances distances_over) rest)

-- the laws

pub has_its_lines : HasItsLines
unfolding history_lines history_text
has_its_lines h =
    let lines = header_lines h.header ++ numbered entry_line 1 h.entries in
    let each : EachOver 31 lines = each_append 31 (header_lines h.header) (numbered entry_line 1 h.entries)
    (header_over h.header) (each_numbered 31 entry_line 1 h.entries line_over) in
    cut_lines lines (each_weaker 10 31 lines (omega arith) each)

pub has_its_fields : HasItsFields
unfolding entry_line
has_its_fields ticket entry = cut_fields 32 (decimal ticket)
    (owner_text entry.owner entry.lane ∷ decimal entry.prev ∷ what_fields entry.what) (entry_over ticket entry)
