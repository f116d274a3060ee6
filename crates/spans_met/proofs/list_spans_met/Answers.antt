-- Each return cites the refusal that its tests have shown; the walk's contract gives the lists.
use Rattle.std.proofs.Common.{rules}
use Rattle.spans_met.proofs.AnswerLaws.{number-unchecked, ends-refused}
use Rattle.spans_met.proofs.list_spans_met.Goals as goal

pub returns-in_err-curve : goal.returns-in_err-curve
returns-in_err-curve c = let a = c.args in
    let e = c.in_err-curve.field-0.0 in
    let whole = ends-refused a.degree a.knots.now a.xs.now a.ys.now a.clamp a.radius a.lows.now a.highs.now e c.from_residual.result (search rules)
    (number-unchecked a.degree a.knots.now a.xs.now a.ys.now a.clamp a.radius _ _ e c.in_err-curve.ensures.answer) in
    record { answer = whole.0; result = whole.1 }
