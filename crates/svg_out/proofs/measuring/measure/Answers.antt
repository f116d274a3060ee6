-- The loop's invariant: the length so far is that of the pieces behind the walk.
use mathlib.Core.Path.{refl}
use native.Mathlib.Omega.{arith}
use Rattle.checked.specs.Along.{lists_of}
use Rattle.svg_out.proofs.StepLaws.{text-short, handed_on-grid}
use Rattle.svg_out.proofs.MeasureLaws.{measuring-begins, still-at, still-so, measuring-goes}
use Rattle.svg_out.proofs.measuring.measure.Goals as goal

pub loop-walk-init : goal.loop-walk-init
loop-walk-init c = let curve = c.args.curve in
    measuring-begins curve.degree (lists_of curve) c.start-walk.result 0 (c.start-walk.ensures.answer curve.knots.now curve.passes c.requires) c.start-walk.ensures.first refl

pub part_length-length-requires : goal.part_length-length-requires
part_length-length-requires c = let curve = c.args.curve in
    let so = c.loop-walk in
    let at = still-at curve.degree (lists_of curve) so.walk so.length so.invariant c.loop-walk-test.true in
    (curve.sizes.degree-most, handed_on-grid curve.degree (lists_of curve) so.walk at c.in_ok-piece.piece c.in_ok-piece.next c.in_ok-piece.ensures.answer)

pub overflow_add-length : goal.overflow_add-length
overflow_add-length c = let curve = c.args.curve in
    let so = c.loop-walk in let test = c.loop-walk-test.true in
    let at = still-at curve.degree (lists_of curve) so.walk so.length so.invariant test in
    omega (arith, still-so curve.degree (lists_of curve) so.walk so.length so.invariant test, text-short curve.degree (lists_of curve) so.walk at, c.part_length-length.ensures.answer.1)

pub loop-walk-preserved : goal.loop-walk-preserved
loop-walk-preserved c = let curve = c.args.curve in
    let so = c.loop-walk in
    measuring-goes curve.degree (lists_of curve) so.walk so.length so.invariant c.loop-walk-test.true c.in_ok-piece.piece c.in_ok-piece.next c.part_length-length.result c.part_length-length.ensures.answer.0 c.in_ok-piece.ensures.answer
