-- A test whether two forms of a course are one.
-- Cited by the contract of `is_form`.
use Rattle.std.specs.Prelude.{ℕ, ◌==◌, Bool}
use Rattle.lb_core.specs.declared.course.Form.{Form}
use Rattle.lb_core.specs.declared.course.Form.TheVariants.{Rest, Asked, Flight, Serving, Due, Used, Position, Looked, Landed, Closed, Done, ScanDue, Kicking, Ended}

abbrev pub rank_of : Form → ℕ
rank_of Rest = 0
rank_of Asked = 1
rank_of Flight = 2
rank_of Serving = 3
rank_of Due = 4
rank_of Used = 5
rank_of Position = 6
rank_of Looked = 7
rank_of Landed = 8
rank_of Closed = 9
rank_of Done = 10
rank_of ScanDue = 11
rank_of Kicking = 12
rank_of Ended = 13

abbrev pub same_form : Form → Form → Bool
same_form a b = rank_of a == rank_of b
