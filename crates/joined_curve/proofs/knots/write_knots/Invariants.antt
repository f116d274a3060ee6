-- The knots up to parameter i are stored.
use Rattle.joined_curve.proofs.GrowthLaws.{KnotsGrown}
use Rattle.joined_curve.proofs.knots.write_knots.Given as goal

abbrev pub invariant-loop-i : goal.invariant-loop-i
invariant-loop-i l = KnotsGrown l.inner l.points.params.now l.initial.out l.out l.at l.i
