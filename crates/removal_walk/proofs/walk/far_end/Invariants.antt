-- The invariant: behind `far`, up to i, every knot is v.
use mathlib.Core.Path.{◌≡◌}
use Prim.Native.Nat.{ℕ, ◌≤◌, ◌<◌}
use lib.ListN.{get_or}
use Rattle.removal_walk.proofs.walk.far_end.Given as goal

abbrev pub invariant-loop-far : goal.invariant-loop-far
invariant-loop-far l = (l.first ≤ l.far) × (l.far ≤ l.i) × ((j : ℕ) → l.far < j → j ≤ l.i → get_or l.ks j 0 ≡ l.v)

abbrev pub decreases-loop-far : goal.decreases-loop-far
decreases-loop-far l = l.far
