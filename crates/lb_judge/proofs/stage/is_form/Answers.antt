-- For `is_form` of src/stage.rt: whether a form is this one.
use Rattle.std.proofs.Common.{◌≡◌, refl, ◌∙◌}
use denote.Enum.Declared.{tag_of}
use Rattle.lb_core.specs.contracts.course.Form.{the_type}
use Rattle.lb_core.specs.declared.course.Form.{Form}
use Rattle.lb_core.specs.declared.course.Form.TheVariants.{Rest, Asked, Flight, Serving, Due, Used, Position, Looked, Landed, Closed, Done, ScanDue, Kicking, Ended}
use Rattle.lb_judge.specs.Forms.{rank_of}
use Rattle.lb_judge.proofs.stage.is_form.Goals as goal

tag_is : (f : Form) → tag_of the_type f ≡ rank_of f
tag_is Rest = refl
tag_is Asked = refl
tag_is Flight = refl
tag_is Serving = refl
tag_is Due = refl
tag_is Used = refl
tag_is Position = refl
tag_is Looked = refl
tag_is Landed = refl
tag_is Closed = refl
tag_is Done = refl
tag_is ScanDue = refl
tag_is Kicking = refl
tag_is Ended = refl

pub returns : goal.returns
returns c = c.eq.ensures ∙ rw (tag_is c.args.form, tag_is c.args.one) refl
