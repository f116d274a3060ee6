-- The old knots are copied, and those of both ends are stored over them.
use lib.ListN.{length}
use Rattle.insertion.specs.Insertion.{entries}
use Rattle.clamping.specs.Clamping.{clamped_knot}
use Rattle.clamp_ends.proofs.MendLaws.{Mended}
use Rattle.clamp_ends.proofs.writing.write_knots.Given as goal

abbrev pub invariant-loop-k : goal.invariant-loop-k
invariant-loop-k l = Mended 0 (entries (clamped_knot l.line.degree l.line.knots.now (length l.line.points.now)) (length l.line.knots.now)) l.initial.out l.out l.line.degree l.k
