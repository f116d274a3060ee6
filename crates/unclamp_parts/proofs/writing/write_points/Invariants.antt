-- The points in front are copied, and the last m - 1 are stored one by one (the invariant).
use Rattle.lent.proofs.StoreLaws.{Stored}
use Rattle.unclamping.specs.Unclamping.{open_points}
use Rattle.unclamp_parts.proofs.writing.write_points.Given as goal

abbrev pub invariant-loop-j : goal.invariant-loop-j
invariant-loop-j l = Stored (open_points l.end.degree l.end.knots.now l.end.points.now) l.initial.out l.out l.j
