-- For `lines_from` of src/read.rt: reads all lines of a text.
use Rattle.std.proofs.Common.{◌≡◌, ◌≤◌, ◌+◌, ◌∷◌, ◌++◌, length, length-append, true, List, ℕ, refl, sym, ap, ◌∙◌, arith, rules}
use Rattle.std.specs.List.{join_with_byte}
use Rattle.std.proofs.lemmas.List.Splits.{join_with_byte-slice_split}
use Rattle.lb_fields.specs.Pieces.{pieces, is_plain}
use Rattle.lb_fields.specs.Standing.{Stands}
use Rattle.lb_trace.specs.declared.trace.TheConstants.{MAX_BYTES}
use Rattle.lb_trace.specs.Grammar.{lines_from}
use Rattle.lb_trace.proofs.FirstBadLines.{line_next}
use Rattle.lb_trace.proofs.SoundFacts.{sound_start, sound_line}
use Rattle.lb_trace.proofs.read.lines_from.Goals as goal

pub loop-next-init : goal.loop-next-init
loop-next-init c =
    let text = c.args.text.now in
    let line = c.in-Some.line.now in
    let lines = c.next_piece.new.self in
    let cut : pieces 10 text ≡ line ∷ lines = search rules in
    let whole : join_with_byte 10 (line ∷ lines) ≡ text = ap (join_with_byte 10) (sym cut) ∙ join_with_byte-slice_split 10 text in
    let size = ap (λ (t : List ℕ). length t) whole in
    let most : length text ≤ MAX_BYTES = c.requires in
    record {
      sound = rw c.new-reading.ensures sound_start;
      ticked = rw c.new-reading.ensures c.none_ticked-ticked.ensures;
      some = rw c.new-reading.ensures (omega arith);
      room = rw c.new-reading.ensures (omega (arith, size, most));
      from = rw (c.new-reading.ensures, cut) refl;
      stands = λ plain. rw whole (c.start-reader.ensures.plain line lines cut plain);
    }

pub loop-next-preserved : goal.loop-next-preserved
unfolding lines_from
loop-next-preserved c =
    let inv = c.loop-next.invariant in
    let old = c.loop-next.reading in
    let new = c.take_line.new.self in
    let line = c.loop-next.line.now in
    let next = c.in-Some-next_piece.next.now in
    let rest = c.next_piece-in-loop-next.new.self in
    let left = join_with_byte 10 (next ∷ rest) in
    let more : c.loop-next.lines ≡ next ∷ rest = search rules in
    let stands : is_plain line ≡ true → Stands c.loop-next.reader (line ++ 10 ∷ left) = rw more at inv.stands in
    let step = c.in-Ok.ensures.step left stands in
    let some = inv.some in
    let room : old.line + length (line ++ 10 ∷ left) ≤ MAX_BYTES + 1 = rw more at inv.room in
    let size = length-append line (10 ∷ left) in
    let up = line_next old new line step.0 in
    record {
      sound = sound_line old new line (omega (arith, some, room, size)) inv.sound step.0;
      ticked = c.in-Ok.ensures.ticked;
      some = omega (arith, some, up);
      room = omega (arith, room, size, up);
      from = sym (rw step.0 refl) ∙ (rw more at inv.from);
      stands = λ plain. step.1;
    }

pub returns-in-Err-Bad-clause-reading : goal.returns-in-Err-Bad-clause-reading
unfolding lines_from
returns-in-Err-Bad-clause-reading c =
    let inv = c.loop-next.invariant in
    let line = c.loop-next.line.now in
    let next = c.in-Some-next_piece.next.now in
    let rest = c.next_piece-in-loop-next.new.self in
    let more : c.loop-next.lines ≡ next ∷ rest = search rules in
    let stands : is_plain line ≡ true → Stands c.loop-next.reader (line ++ 10 ∷ join_with_byte 10 (next ∷ rest)) = rw
    more at inv.stands in
    let step = rw c.in-Err-Bad.field-0-is at (c.in-Err-Bad.ensures.step (join_with_byte 10 (next ∷ rest)) stands) in
    rw c.in-Err-Bad.field-0-is (sym (rw more at inv.from) ∙ rw step.0 refl)
