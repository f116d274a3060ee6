-- The listed knots stand at the fronts of the work lists; the lines are written from there.
use mathlib.Core.Path.{sym, ap, ◌∙◌}
use native.Mathlib.Omega.{arith}
use lib.Seq.{length-take-le}
use Rattle.boxes.specs.Widening.{widened}
use Rattle.span_walk.specs.SpansMet.{spans_met, low_knots, high_knots}
use Rattle.span_walk.specs.SpanLists.{SpanLists}
use Rattle.clamp_lines.specs.Places.{spans_most}
use Rattle.clamp_lines.proofs.ListedLaws.{Counted, Front, counted, counted-lines, lows-front, highs-front, refused-lines}
use Rattle.clamp_lines.proofs.ClampPartLaws.{put-nothing}
use Rattle.clamp_lines.proofs.put_met.Goals.{In-Ok}
use Rattle.clamp_lines.proofs.put_met.Goals as goal

-- the count, and the fronts of both lists
counts : (c : In-Ok) → let a = c.args in let v = a.curve in Counted v.degree v.knots.now v.xs.now v.ys.now a.clamp a.radius spans_most spans_most c.in-Ok.count
counts c =
    let a = c.args in let v = a.curve in
    counted v.degree v.knots.now v.xs.now v.ys.now a.clamp a.radius spans_most spans_most v.passes c.in-Ok.count c.list_checked.result c.in-Ok.is c.list_checked.ensures.answer

low : (c : In-Ok) → let a = c.args in let v = a.curve in Front v.degree v.knots.now v.xs.now v.ys.now a.clamp a.radius spans_most spans_most c.in-Ok.count c.list_checked.new.lows (low_knots v.knots.now (spans_met (widened a.radius a.clamp) v.degree v.knots.now v.xs.now v.ys.now))
low c =
    let a = c.args in let v = a.curve in
    lows-front v.degree v.knots.now v.xs.now v.ys.now a.clamp a.radius spans_most spans_most c.in-Ok.count _ c.list_checked.new.lows (counts c) (ap (λ (s : SpanLists). s.lows) c.list_checked.ensures.result)

high : (c : In-Ok) → let a = c.args in let v = a.curve in Front v.degree v.knots.now v.xs.now v.ys.now a.clamp a.radius spans_most spans_most c.in-Ok.count c.list_checked.new.highs (high_knots v.knots.now (spans_met (widened a.radius a.clamp) v.degree v.knots.now v.xs.now v.ys.now))
high c =
    let a = c.args in let v = a.curve in
    highs-front v.degree v.knots.now v.xs.now v.ys.now a.clamp a.radius spans_most spans_most c.in-Ok.count _ c.list_checked.new.highs (counts c) (ap (λ (s : SpanLists). s.highs) c.list_checked.ensures.result)

pub slice_bounds-lows-end : goal.slice_bounds-lows-end
slice_bounds-lows-end c = (low (goal.at.slice_bounds-lows-end c).In-Ok).fits

pub slice_bounds-put_listed-end : goal.slice_bounds-put_listed-end
slice_bounds-put_listed-end c = sym (length-take-le c.in-Ok.count c.list_checked.new.lows (low (goal.at.slice_bounds-put_listed-end c).In-Ok).fits)

pub slice_bounds-highs-end : goal.slice_bounds-highs-end
slice_bounds-highs-end c = (high (goal.at.slice_bounds-highs-end c).In-Ok).fits

pub slice_bounds-put_listed-end-in-Ok : goal.slice_bounds-put_listed-end-in-Ok
slice_bounds-put_listed-end-in-Ok c = sym (length-take-le c.in-Ok.count c.list_checked.new.highs (high (goal.at.slice_bounds-put_listed-end-in-Ok c).In-Ok).fits)

pub put_listed-requires : goal.put_listed-requires
put_listed-requires c = let n = c.in-Ok.count in let at = (goal.at.put_listed-requires c).In-Ok in (
  c.requires.0,
  length-take-le n c.list_checked.new.highs (high at).fits ∙ sym (length-take-le n c.list_checked.new.lows (low at).fits),
  omega (arith, length-take-le n c.list_checked.new.lows (low at).fits, (counts at).few),
  c.requires.1,
)

pub returns-in-Ok-clause-result : goal.returns-in-Ok-clause-result
returns-in-Ok-clause-result c = let a = c.args in let v = a.curve in let at = (goal.at.returns-in-Ok-clause-result c).In-Ok in
    rw (counted-lines v.degree v.knots.now v.xs.now v.ys.now a.clamp a.radius spans_most spans_most c.in-Ok.count a.number (counts at))
    (rw ((low at).holds, (high at).holds) at c.put_listed.ensures.result)

pub returns-in_default-clause-result : goal.returns-in_default-clause-result
returns-in_default-clause-result c = let a = c.args in let v = a.curve in
    put-nothing a.pen.now.out.now a.pen.now.at (refused-lines v.degree v.knots.now v.xs.now v.ys.now a.clamp a.radius spans_most spans_most v.passes c.in_default.field-0 c.list_checked.result a.number c.in_default.is c.list_checked.ensures.answer (omega arith) (omega arith))
