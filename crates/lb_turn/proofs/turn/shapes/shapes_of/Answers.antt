-- For `shapes_of` of src/turn/shapes.rt: the shapes of domains.
use Rattle.std.proofs.Common.{ℕ, ◌≡◌, ◌<◌, length, arith, sym, ap, take, ◌∙◌}
use Rattle.std.proofs.Math.Seq.{take-length}
use Rattle.std.proofs.Math.ListN.{length-set}
use Rattle.std.proofs.lemmas.List.{length-map, get_or-map}
use Rattle.lb_base.specs.declared.shape.Shape.{Shape}
use Rattle.lb_domain.specs.declared.domain.Domain.{Domain}
use Rattle.lb_core.specs.Course.{shapes_of}
use Rattle.lb_turn.proofs.Filling.{filled_more}
use Rattle.lb_turn.proofs.turn.shapes.shapes_of.Goals as goal

pub loop-i-preserved : goal.loop-i-preserved
loop-i-preserved c =
    let l = c.loop-i in
    let f : Domain → Shape = λ d. d.shape in
    let ds = c.args.domains.now in
    let inside : l.i < length l.list = omega arith in
    let there : l.i < length ds = omega arith in
    let many : l.i < length (shapes_of ds) = omega (arith, there, length-map ds f) in
    let none = c.index-domains-i.result in
    let read = sym (get_or-map f ds l.i none none.shape there) in
    record {
      room = length-set l.list l.i _ ∙ l.invariant.room;
      so_far = filled_more (shapes_of ds) l.list l.i _ none.shape inside many read l.invariant.so_far;
    }

pub returns : goal.returns
returns c =
    let l = c.loop-i in
    let f : Domain → Shape = λ d. d.shape in
    let ds = c.args.domains.now in
    let all : length ds ≡ l.i = omega arith in
    let end : l.i ≡ length (shapes_of ds) = omega (arith, length-map ds f) in
    ap (λ (n : ℕ). take n l.list) all ∙ l.invariant.so_far ∙ ap (λ (n : ℕ). take n (shapes_of ds)) end
    ∙ take-length (shapes_of ds)
