-- The loop's invariant: the whole answer is that of the bytes not yet judged.
use mathlib.Core.Path.{◌≡◌}
use Prim.Native.Nat.{◌-◌, ◌≤◌}
use Rattle.grid.specs.Limits.{clamps_most}
use Rattle.clamps.specs.Tail.{clamps_from, clamps_behind}
use Rattle.clamps.proofs.clamps_behind.Given as goal

abbrev pub invariant-loop-at : goal.invariant-loop-at
invariant-loop-at l = (l.count ≤ clamps_most) × (clamps_behind l.bytes l.start ≡ clamps_from (clamps_most - l.count) l.bytes l.at l.count)

abbrev pub decreases-loop-at : goal.decreases-loop-at
decreases-loop-at l = clamps_most - l.count
