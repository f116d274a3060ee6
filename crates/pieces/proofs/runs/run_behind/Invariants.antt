-- The loop's invariant: the first s knots behind are the same; some knot is larger, so the loop stops before it.
use Prim.Native.Nat.{◌-◌}
use lib.ListN.{length}
use Rattle.pieces.proofs.RunLaws.{SoFar}
use Rattle.pieces.proofs.runs.run_behind.Given as goal

abbrev pub invariant-loop-s : goal.invariant-loop-s
invariant-loop-s l = SoFar l.knots l.i l.s

abbrev pub decreases-loop-s : goal.decreases-loop-s
decreases-loop-s l = length l.knots - l.s
