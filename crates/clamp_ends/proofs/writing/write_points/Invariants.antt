-- The old points are copied, and those of both ends are stored over them.
use Prim.Native.Nat.{◌-◌}
use lib.IntN.{pos}
use Rattle.clamping.specs.Clamping.{clamped_points}
use Rattle.clamp_ends.proofs.MendLaws.{Mended}
use Rattle.clamp_ends.proofs.writing.write_points.Given as goal

abbrev pub invariant-loop-k : goal.invariant-loop-k
invariant-loop-k l = Mended (pos 0) (clamped_points l.line.degree l.line.knots.now l.line.points.now) l.initial.out l.out (l.line.degree - 1) l.k
