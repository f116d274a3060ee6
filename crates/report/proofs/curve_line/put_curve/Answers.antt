-- The sizes of a curve that passes the check bound its line.
use native.Mathlib.Omega.{arith}
use lib.ListN.{length}
use Rattle.span_walk.specs.SpansMet.{span_count}
use Rattle.lines.proofs.LengthLaws.{curve_line-most}
use Rattle.clamp_lines.proofs.CountLaws.{span_count-most}
use Rattle.report.proofs.curve_line.put_curve.Goals as goal

pub overflow_cast-spans : goal.overflow_cast-spans
overflow_cast-spans c = let a = c.args.curve in
    let size = a.sizes in
    omega (arith, c.count_spans-spans.ensures.count, span_count-most a.degree a.knots.now (length a.xs.now), size.most)

pub put_curve_line-requires : goal.put_curve_line-requires
put_curve_line-requires c = let a = c.args.curve in
    let size = a.sizes in
    rw c.count_spans-spans.ensures.count
    (omega (arith, c.requires, curve_line-most a.degree (length a.xs.now) (span_count a.degree a.knots.now (length a.xs.now)) (omega (arith, size.degree-most)) (omega (arith, size.most)) (omega (arith, span_count-most a.degree a.knots.now (length a.xs.now), size.most))))
