-- The span of an accepted parameter has the degree's points to its left.
use mathlib.Core.Path.{sym}
use native.Mathlib.Omega.{arith}
use Rattle.domain.proofs.ParameterLaws.{accepted-within}
use Rattle.tsaghnobir.proofs.questions.first_of.Goals as goal

pub overflow_sub-result : goal.overflow_sub-result
overflow_sub-result c =
    let k = c.in_ok-curve.curve in
    let same = c.in_ok-curve.ensures.result in
    let within = accepted-within k.degree k.knots.now k.xs.now k.ys.now c.args.t c.span_of-i.result
    (rw (same.0, same.1, same.2, same.3) (sym c.in_ok-curve.ensures.answer)) c.span_of-i.ensures.answer in omega arith
