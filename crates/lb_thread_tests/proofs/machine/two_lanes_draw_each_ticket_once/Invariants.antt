-- The loops of `two_lanes_draw_each_ticket_once` of src/machine.rt.
use Rattle.lb_thread_tests.proofs.machine.two_lanes_draw_each_ticket_once.Given as goal

-- the names are those of the machine before any entry
abbrev pub ghosts-two_lanes-N-Names : goal.ghosts-two_lanes-N-Names
ghosts-two_lanes-N-Names g a = record { header = a.blank.header; book = a.blank.book; board = a.blank.board }

abbrev pub ghosts-two_lanes-N-Versions : goal.ghosts-two_lanes-N-Versions
ghosts-two_lanes-N-Versions g a = record { versions = a.blank.versions }
