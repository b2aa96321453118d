-- The worked lines have their texts, by computing them.
-- For the law `spells_worked_lines`.
use Rattle.std.proofs.Common.{refl}
use Rattle.std.specs.Fmt.{digits}
use Rattle.lb_base.specs.Mask.{has, members, members_below}
use Rattle.lb_base.specs.Sets.{least}
use Rattle.lb_text.specs.Runs.{runs_text, list_text}
use Rattle.lb_record.specs.Header.{cpu_line, distances_line, parts_line, lanes_line, task_line, header_lines}
use Rattle.lb_record.specs.Entries.{owner_text, command_fields, decision_fields, what_fields, entry_line}
use Rattle.lb_record.specs.Rows.{AreAsWanted, HasLines, row_lines, move_lines, turn_lines, end_lines}

pub rows : AreAsWanted row_lines
unfolding entry_line owner_text what_fields command_fields list_text runs_text least members members_below has digits
rows = refl

pub moves : AreAsWanted move_lines
unfolding entry_line owner_text what_fields digits
moves = refl

pub turns : AreAsWanted turn_lines
unfolding entry_line owner_text what_fields decision_fields list_text runs_text least members members_below has digits
turns = refl

pub ends : AreAsWanted end_lines
unfolding entry_line owner_text what_fields list_text runs_text least members members_below has digits
ends = refl

pub header : HasLines
unfolding header_lines cpu_line distances_line parts_line lanes_line task_line runs_text members members_below has digits
header = refl
