-- What the whole list says is what the rest says from one more than the parameter before it.
use Rattle.std.specs.Prelude.{◌≡◌}
use lib.ListN.{drop}
use Rattle.joining.specs.SplinePoints.{rises_strictly_from}
use Rattle.joining.proofs.spline_points.rises_strictly.Given as goal

abbrev pub invariant-loop-s : goal.invariant-loop-s
invariant-loop-s l = rises_strictly_from 0 l.params ≡ rises_strictly_from l.low (drop l.s-index l.params)
