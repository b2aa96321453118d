-- The loops of `run_lanes` of src/run.rt: runs the machine of a trace, each lane on a thread of its own, and
-- answers a legal history of it: it has the trace's header, keeps all rules of a legal history, and holds
-- each lane's rows once, in file order.
use Rattle.lb_threads.proofs.run.run_lanes.Given as goal

-- the names are those of the machine before any entry
abbrev pub ghosts-run_blank-N-Names : goal.ghosts-run_blank-N-Names
ghosts-run_blank-N-Names g a = record { header = a.blank.header; book = a.blank.book; board = a.blank.board }

abbrev pub ghosts-run_blank-N-Versions : goal.ghosts-run_blank-N-Versions
ghosts-run_blank-N-Versions g a = record { versions = a.blank.versions }
