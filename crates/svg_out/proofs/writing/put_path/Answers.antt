-- The loop's invariant: the text of the pieces behind the walk is written, and there is room for the rest.
use mathlib.Core.Path.{refl, ◌∙◌}
use Rattle.checked.specs.Along.{lists_of}
use Rattle.svg_out.proofs.WriteLaws.{writing_begins, room-for-part, writing-goes}
use Rattle.svg_out.proofs.writing.put_path.Goals as goal

pub loop-walk-init : goal.loop-walk-init
loop-walk-init c = let a = c.args in
    (writing_begins a.curve.degree (lists_of a.curve) a.out.now c.requires.accepted c.requires.room c.start-walk.result (c.start-walk.ensures.answer a.curve.knots.now a.curve.passes c.requires.clamped) c.start-walk.ensures.first, refl)

pub put_part-requires-clause-piece_in_bounds : goal.put_part-requires-clause-piece_in_bounds
put_part-requires-clause-piece_in_bounds c = let a = c.args in
    let so = c.loop-walk in
    room-for-part a.curve.degree (lists_of a.curve) a.out.now c.requires.accepted c.requires.room so.pen.out.now so.walk so.pen.at so.invariant.0 c.loop-walk-test.true c.in-Ok.piece c.in-Ok.next c.in-Ok.ensures.answer

pub loop-walk-preserved : goal.loop-walk-preserved
loop-walk-preserved c = let a = c.args in
    let so = c.loop-walk in (
      writing-goes a.curve.degree (lists_of a.curve) a.out.now c.requires.accepted c.requires.room so.pen.out.now so.walk so.pen.at so.invariant.0 c.loop-walk-test.true c.in-Ok.piece c.in-Ok.next c.in-Ok.ensures.answer _ _ c.put_part.ensures.result,
      c.put_part.ensures.name ∙ so.invariant.1,
    )
