-- The loop's invariant: the length so far is that of the pieces behind the walk.
use Prim.Native.Nat.{◌-◌}
use lib.ListN.{length}
use Rattle.checked.specs.Along.{lists_of}
use Rattle.svg_out.proofs.MeasureLaws.{Measuring}
use Rattle.svg_out.proofs.measuring.measure.Given as goal

abbrev pub invariant-loop-walk : goal.invariant-loop-walk
invariant-loop-walk l = Measuring l.curve.degree (lists_of l.curve) l.walk l.length

abbrev pub decreases-loop-walk : goal.decreases-loop-walk
decreases-loop-walk l = lib.ListN.length l.curve.xs.now - l.walk.span
