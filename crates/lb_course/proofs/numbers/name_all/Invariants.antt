-- The loops of `name_all` of src/numbers.rt: the named numbers are the greatest now.
use Rattle.std.proofs.Common.{◌≡◌, drop, length}
use Rattle.lb_core.specs.CourseAfter.{raised_numbers}
use Rattle.lb_course.proofs.numbers.name_all.Given as goal

abbrev pub invariant-loop-figure : goal.invariant-loop-figure
invariant-loop-figure l = record {
  room : length l.named ≡ length l.initial.named;
  so_far : raised_numbers l.figures l.initial.named ≡ raised_numbers (drop l.figure-index l.figures) l.named;
}
