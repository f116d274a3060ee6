-- The knots up to t_{n+1} are copied, and the new ones are stored one by one (the invariant).
use Prim.Native.Nat.{◌+◌}
use lib.ListN.{length}
use Rattle.lent.proofs.StoreLaws.{Stored}
use Rattle.insertion.specs.Insertion.{entries}
use Rattle.unclamping.specs.Unclamping.{open_knot}
use Rattle.unclamp_parts.proofs.writing.write_knots.Given as goal

abbrev pub invariant-loop-k : goal.invariant-loop-k
invariant-loop-k l = Stored (entries (open_knot l.curve.knots.now (length l.curve.xs.now)) (length l.curve.knots.now)) l.initial.out l.out ((length l.curve.xs.now) + l.k)
