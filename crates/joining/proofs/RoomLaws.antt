-- Row 15 in numbers: the places that the joined curve needs.
use mathlib.Core.Path.{◌≡◌}
use Prim.Native.Nat.{ℕ, ◌+◌, ◌-◌, ◌*◌, ◌≤◌}
use native.Mathlib.Omega.{arith}
use lib.ListN.{length}
use Rattle.curve.specs.Lists.{Lists}
use Rattle.curve.specs.HandingOver.{enough, room_for}
use Rattle.joined_curve.proofs.CurveLaws.{points-length, knots-length}
use Rattle.joining.specs.SplinePoints.{SplinePoints}
use Rattle.joining.specs.Answer.{joined_lists}

pub room-is : (inner : ℕ) → 2 ≤ inner → (s : SplinePoints) (lent : Lists) → 2 ≤ length s.params → let points = inner * (length s.params - 2) + 4 in
    room_for (joined_lists inner s) lent ≡ enough (points + 4) points points (length lent.knots) (length lent.xs) (length lent.ys)
room-is inner least s lent some =
    let knots : inner * (length s.params - 2) + 8 ≡ inner * (length s.params - 2) + 4 + 4 = omega arith in
    rw (knots-length inner s.params s.xs s.dxs some, points-length inner least s.params s.xs s.dxs some, points-length inner least s.params s.ys s.dys some, knots)
