-- The invariant: the points passed are whole and on the grid.
use native.Mathlib.Omega.{arith}
use Rattle.refusal.proofs.JudgingLaws.{test-failed}
use Rattle.unclamp_parts.proofs.PointLaws.{point-refuses, points-accept}
use mathlib.Core.Path.{ap}
use mathlib.Core.Bool.{not}
use Rattle.unclamp_parts.proofs.judging.points_open.Goals as goal

pub returns-then-not-point_fits : goal.returns-then-not-point_fits
returns-then-not-point_fits c = record {
  answer = let a = c.args in
      point-refuses a.end.degree a.end.knots.now a.end.points.now a.end.ending c.loop-k.k (omega (arith, c.loop-k-test.true)) (test-failed (ap not c.if-not-point_fits.true) c.point_fits.ensures.answer);
}

pub returns : goal.returns
returns c = record {
  answer = let a = c.args in
      let l = c.loop-k in points-accept a.end.degree a.end.knots.now a.end.points.now a.end.ending c.requires (λ k i. l.invariant k (omega (arith, c.loop-k-test.false)));
}
