-- The invariant: the points passed are whole and on the grid.
use mathlib.Core.Bool.{true}
use mathlib.Core.Path.{◌≡◌}
use Prim.Native.Nat.{ℕ, ◌<◌}
use Rattle.clamping.specs.EndRows.{finish_of}
use Rattle.unclamping.specs.Unclamping.{open_number}
use Rattle.unclamp_parts.specs.Standing.{fits}
use Rattle.unclamp_parts.proofs.judging.points_open.Given as goal

abbrev pub invariant-loop-k : goal.invariant-loop-k
invariant-loop-k l = (i : ℕ) → i < l.k → fits (open_number (finish_of l.end.knots.now l.end.points.now) l.end.degree i) ≡ true
