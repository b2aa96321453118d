-- Worked lines: entries of every kind, and lines of a header, each beside the text that it has.
-- Cited by the law `spells_worked_lines`.
use Rattle.std.specs.Prelude.{◌≡◌, ℕ, negsuc, pos, ◌-◌, List, [], ◌∷◌, map, codes, Some, None}
use Rattle.lb_base.specs.declared.mask.Mask.{Mask}
use Rattle.lb_base.specs.declared.shape.Kind.TheVariants as kinds
use Rattle.lb_base.specs.declared.view.MoveKind.TheVariants as moves
use Rattle.lb_imbalance.specs.declared.decision.Decision.TheVariants as decisions
use Rattle.lb_queue.specs.declared.answers.Reply.TheVariants as replies
use Rattle.lb_queue.specs.declared.answers.AskReply.TheVariants as requests
use Rattle.lb_queue.specs.declared.answers.OutCause.TheVariants as causes
use Rattle.lb_trace.specs.declared.trace.Command.TheVariants as commands
use Rattle.lb_core.specs.declared.entry.FigName.{FigName}
use Rattle.lb_core.specs.declared.entry.OutcomeWord.TheVariants as outcomes
use Rattle.lb_core.specs.declared.entry.Owner.{Owner}
use Rattle.lb_core.specs.declared.entry.Owner.TheVariants.{Publisher, Lane, Queue}
use Rattle.lb_core.specs.declared.entry.What.{What}
use Rattle.lb_core.specs.declared.entry.What.TheVariants as whats
use Rattle.lb_record.specs.Entries.{entry_line}
use Rattle.lb_record.specs.Header.{header_lines}

-- a text, and the one that is wanted
abbrev pub Pair : Type 0
Pair = List ℕ × List ℕ

-- ---- short forms
-- the line of an entry that lane 0 draws right after its entry of the ticket before
abbrev pub line : ℕ → Owner → What → List ℕ
line ticket owner what = entry_line ticket (record { owner = owner; lane = 0; prev = ticket - 1; what = what })

abbrev pub cpus : ℕ → Mask
cpus bits = record { bits = bits }

abbrev pub figure : ℕ → ℕ → FigName
figure cpu n = record { cpu = cpu; n = n }

-- ---- rows, and what answers them
abbrev pub row_lines : List Pair
row_lines =
    (line 1 (Lane 0) (whats.Row 1 0 (commands.Wake 0)), codes "1 L0 0 row 1 wake 0 0")
    ∷ (line 3 (Lane 0) (whats.Row 2 1000000000000000 (commands.Sleep 4095)), codes "3 L0 2 row 2 sleep 4095 1000000000000000")
    ∷ (line 5 (Lane 0) (whats.Row 3 500 (commands.Exit 7)), codes "5 L0 4 row 3 exit 7 500")
    ∷ (line 1 (Lane 0) (whats.Row 1 0 (commands.SetMask 0 (cpus 0))), codes "1 L0 0 row 1 mask 0 0 -")
    ∷ (line 9 (Lane 0) (whats.Row 5 7 (commands.SetMask 1 (cpus 9223372036854775855))), codes "9 L0 8 row 5 mask 1 7 0-3;5;63")
    ∷ (line 11 (Lane 0) (whats.Row 6 0 (commands.Nice 1 (negsuc 19))), codes "11 L0 10 row 6 nice 1 0 -20")
    ∷ (line 7 (Lane 0) (whats.Row 4 2000000 (commands.Tick 0)), codes "7 L0 6 row 4 tick 0 2000000")
    ∷ (
      line 1 (Lane 0) (whats.Row 1 0 (commands.Rebuild (cpus 15 ∷ cpus 0 ∷ cpus 112 ∷ []))),
      codes
          "1 L0 0 row 1 rebuild 0 0-3 - 4-6",
    )
    ∷ (line 2 Publisher (whats.Pub 2), codes "2 P@0 1 pub 2")
    ∷ (entry_line 8 (record { owner = Queue 3; lane = 15; prev = 5; what = whats.Over }), codes "8 Q3@15 5 over")
    ∷ (line 2 (Queue 1) (whats.Did replies.Done), codes "2 Q1@0 1 did done")
    ∷ (line 4 (Queue 0) (whats.Did replies.Already), codes "4 Q0@0 3 did already")
    ∷ (line 6 (Queue 0) (whats.Did replies.Gone), codes "6 Q0@0 5 did gone")
    ∷ (line 2 (Queue 0) (whats.Did replies.BadMask), codes "2 Q0@0 1 did badmask")
    ∷ []

-- ---- tasks that move
abbrev pub move_lines : List Pair
move_lines =
    (line 2 (Queue 0) (whats.Out causes.Wake 1 (0 ∷ [])), codes "2 Q0@0 1 out wake 1 0")
    ∷ (line 7 (Queue 1) (whats.Out causes.Stop 0 (0 ∷ [])), codes "7 Q1@0 6 out stop 0 0")
    ∷ (line 43 (Queue 1) (whats.Out causes.Push 0 (0 ∷ [])), codes "43 Q1@0 42 out push 0 0")
    ∷ (line 20 (Queue 1) (whats.Out causes.Pull 0 []), codes "20 Q1@0 19 out pull 0 -")
    ∷ (line 21 (Queue 0) (whats.Landed []), codes "21 Q0@0 20 in -")
    ∷ (line 24 (Queue 0) (whats.Landed (32 ∷ 5 ∷ 33 ∷ [])), codes "24 Q0@0 23 in 32;5;33")
    ∷ []

-- ---- turns and looks
abbrev pub turn_lines : List Pair
turn_lines =
    (line 9 (Lane 0) (whats.Adopt 1 kinds.Tick 1), codes "9 L0 8 use 1 tick 1")
    ∷ (line 11 (Lane 0) (whats.Adopt 1 kinds.Idle 0), codes "11 L0 10 use 1 idle 0")
    ∷ (line 19 (Lane 0) (whats.Adopt 1 kinds.Nohz 0), codes "19 L0 18 use 1 nohz 0")
    ∷ (line 10 (Queue 1) (whats.Turn (cpus 0)), codes "10 Q1@0 9 turn -")
    ∷ (line 20 (Queue 0) (whats.Turn (cpus 1)), codes "20 Q0@0 19 turn 0")
    ∷ (line 12 (Queue 1) whats.Shut, codes "12 Q1@0 11 shut")
    ∷ (
      line 7 (Lane 0) (whats.Look 0 (cpus 0) (figure 0 2 ∷ figure 1 1 ∷ []) decisions.Balanced),
      codes
          "7 L0 6 look 0 - 0:2,1:1 balanced",
    )
    ∷ (line 21 (Lane 0) (whats.Look 0 (cpus 0) (figure 0 3 ∷ []) decisions.NotMine), codes "21 L0 20 look 0 - 0:3 notmine")
    ∷ (
      line 22 (Lane 0) (whats.Look 0 (cpus 2) (figure 0 3 ∷ figure 2 3 ∷ []) (decisions.Pull 2 moves.Tasks 1)),
      codes "22 L0 21 look 0 1 0:3,2:3 pull 2 tasks 1",
    )
    ∷ (
      line 21 (Lane 0) (whats.Look 0 (cpus 10) (figure 0 18446744073709551615 ∷ figure 2 0 ∷ [])
          (decisions.Pull 2 moves.Load 85)),
      codes "21 L0 20 look 0 1;3 0:18446744073709551615,2:0 pull 2 load 85",
    )
    ∷ (
      line 21 (Lane 0) (whats.Look 0 (cpus 0) (figure 0 3 ∷ []) (decisions.Pull 63 moves.Util 1)),
      codes
          "21 L0 20 look 0 - 0:3 pull 63 util 1",
    )
    ∷ []

-- ---- how positions end, and what follows
abbrev pub end_lines : List Pair
end_lines =
    (line 8 (Queue 0) (whats.Close 0 outcomes.Balanced 4 0), codes "8 Q0@0 7 close 0 balanced 4 0")
    ∷ (line 8 (Queue 0) (whats.Close 0 outcomes.NotMine 2 0), codes "8 Q0@0 7 close 0 notmine 2 0")
    ∷ (line 14 (Queue 0) (whats.Close 0 outcomes.Moved 2 0), codes "14 Q0@0 13 close 0 moved 2 0")
    ∷ (line 23 (Queue 0) (whats.Close 0 outcomes.Pinned 12 0), codes "23 Q0@0 22 close 0 pinned 12 0")
    ∷ (line 21 (Queue 0) (whats.Close 0 outcomes.Failed 2 3), codes "21 Q0@0 20 close 0 failed 2 3")
    ∷ (line 39 (Queue 0) (whats.Close 0 outcomes.Asking 2 2), codes "39 Q0@0 38 close 0 asking 2 2")
    ∷ (line 40 (Queue 1) (whats.Ask requests.New), codes "40 Q1@0 39 ask new")
    ∷ (line 40 (Queue 1) (whats.Ask requests.Old), codes "40 Q1@0 39 ask old")
    ∷ (line 49 (Lane 0) (whats.Scan (figure 0 21 ∷ figure 1 11 ∷ []) None), codes "49 L0 48 scan 0:21,1:11 -")
    ∷ (line 17 (Lane 0) (whats.Scan (figure 0 3 ∷ figure 1 6 ∷ []) (Some 0)), codes "17 L0 16 scan 0:3,1:6 0")
    ∷ (line 18 (Queue 0) (whats.Kick requests.New), codes "18 Q0@0 17 kick new")
    ∷ (line 18 (Queue 0) (whats.Kick requests.Old), codes "18 Q0@0 17 kick old")
    ∷ (line 50 (Lane 0) (whats.End (cpus 2)), codes "50 L0 49 end 1")
    ∷ []

-- each text is the one that is wanted
abbrev pub AreAsWanted : List Pair → Type 0
AreAsWanted pairs = map (λ p. p.0) pairs ≡ map (λ p. p.1) pairs

-- ---- a header
abbrev pub HasLines : Type 0
HasLines =
    header_lines (record {
      cpus = record { core = 0; cache = 0; node = 0 } ∷ record { core = 2; cache = 1; node = 1 } ∷ [];
      distances = (10 ∷ 20 ∷ []) ∷ (20 ∷ 10 ∷ []) ∷ [];
      parts = cpus 11 ∷ cpus 0 ∷ cpus 4 ∷ [];
      lanes = 16;
      tasks = record { nice = negsuc 19; home = 3; mask = cpus 11 } ∷ record { nice = pos 19; home = 0; mask = cpus 4 } ∷ [];
    })
    ≡ codes "lbhist 1"
    ∷ codes "= cpu,0,0,0,0"
    ∷ codes "= cpu,1,2,1,1"
    ∷ codes "= dist,10,20"
    ∷ codes "= dist,20,10"
    ∷ codes "= parts,0-1;3,,2"
    ∷ codes "= lanes,16"
    ∷ codes "= task,0,-20,3,0-1;3"
    ∷ codes "= task,1,19,0,2"
    ∷ []
