-- The loops of `a_wake_stands_on_three_lists` of src/machine.rt.
use Rattle.lb_thread_tests.proofs.machine.a_wake_stands_on_three_lists.Given as goal

-- the names are those of the machine before any entry
abbrev pub ghosts-one_lane-N-Names : goal.ghosts-one_lane-N-Names
ghosts-one_lane-N-Names g a = record { header = a.blank.header; book = a.blank.book; board = a.blank.board }

abbrev pub ghosts-one_lane-N-Versions : goal.ghosts-one_lane-N-Versions
ghosts-one_lane-N-Versions g a = record { versions = a.blank.versions }
