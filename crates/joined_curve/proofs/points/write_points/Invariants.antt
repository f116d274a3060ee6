-- The points up to the i-th piece are stored.
use Rattle.joined_curve.proofs.GrowthLaws.{PointsGrown}
use Rattle.joined_curve.proofs.points.write_points.Given as goal

abbrev pub invariant-loop-i : goal.invariant-loop-i
invariant-loop-i l = PointsGrown l.inner l.points.params.now l.points.ps.now l.points.ds.now l.initial.out l.out l.at l.i
