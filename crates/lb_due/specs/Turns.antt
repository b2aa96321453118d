-- What is asked of a course where the domains of its turn are looked at, and what a look over named figures reads.
-- Cited by the contract of `decision_among`; also by `lb_draw` and `lb_judge`.
use Rattle.std.specs.Prelude.{List, []}
use Rattle.lb_core.specs.declared.course.Course.{Course}
use Rattle.lb_core.specs.declared.course.Form.{Form}
use Rattle.lb_core.specs.declared.course.Form.TheVariants.{Landed as LandedForm}
use Rattle.lb_core.specs.Machine.{MachineState, no_queue, figures_named}
use Rattle.lb_core.specs.declared.entry.FigName.{FigName}
use Rattle.lb_core.specs.Sight.{Sight}
use Rattle.lb_engine.specs.Asks.{HasPosition}

-- in the form that comes after a take, the lane has a position in work
abbrev pub TurnInForm : Form → MachineState → Course → Type 0
TurnInForm LandedForm m c = HasPosition m c
TurnInForm f m c = Unit {0}

-- what a look over named figures reads
abbrev pub named_sight : MachineState → Course → List FigName → Sight
named_sight m c names = record {
  header = m.header;
  course = c;
  queue = no_queue;
  count = 0;
  masks = [];
  figs = figures_named m.figures names;
}
