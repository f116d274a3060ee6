-- What is promised of unclamping at the right end (heading "Ends that are not clamped"): it keeps the exact curve over the domain, is done exactly where some polygon
-- on the grid does, and clamping gives the curve back.
use Rattle.std.specs.Prelude.{true, ◌↔◌, ◌≡◌, ℕ, ◌+◌, ◌≤◌, ◌<◌, length, get_or}
use Rattle.refusal.specs.Numbers.{accepted}
use Rattle.curve.specs.Lists.{Lists}
use Rattle.grid.specs.Check.{Passes}
use Rattle.checked.specs.Checked.{Clamped}
use Rattle.insertion.specs.Insertion.{point_at}
use Rattle.clamping.specs.Clamping.{clamped, clamps_whole}
use Rattle.unclamping.specs.Unclamping.{unclamped, opens, unclamp_number}
use Rattle.knots_exact.specs.SameCurve.{SameCurve}

-- whenever unclamping is not refused, the unclamped curve is the old one
abbrev pub UnclampKeepsCurve : Type 0
UnclampKeepsCurve = (m : ℕ) (c lent : Lists) → unclamp_number m c lent ≡ accepted → SameCurve m c (unclamped m c)

-- the last m+1 knots of c agree, and d is a curve that passes the check, on the knots that go on in the steps of the last span; all points but the last m are as
-- they were, and it has the exact curve of c over the domain
pub record UnclampedPolygon (m : ℕ) (c d : Lists) : Type 0 where
  pub agree : (k : ℕ) → k ≤ m → get_or c.knots (length c.xs + k) 0 ≡ get_or c.knots (length c.xs) 0
  pub passes : Passes m d.knots d.xs d.ys
  pub knots : d.knots ≡ (unclamped m c).knots
  pub x : (j : ℕ) → j + m < length c.xs → point_at d.xs j ≡ point_at c.xs j
  pub y : (j : ℕ) → j + m < length c.xs → point_at d.ys j ≡ point_at c.ys j
  pub same : SameCurve m c d

-- row 23 does not apply exactly where there is one; and there is no other than the unclamped curve
abbrev pub UnclampExactly : Type 0
UnclampExactly =
    (m : ℕ) (c : Lists) → Passes m c.knots c.xs c.ys
    → ((opens m c ≡ true) ↔ ((d : Lists) × UnclampedPolygon m c d))
    × ((d : Lists) → UnclampedPolygon m c d → d ≡ unclamped m c)

-- unclamping and then clamping gives the curve back, where both of its ends are clamped
abbrev pub UnclampedClampsBack : Type 0
UnclampedClampsBack =
    (m : ℕ) (c : Lists) → Passes m c.knots c.xs c.ys → opens m c ≡ true → Clamped m c.knots (length c.xs)
    → (clamps_whole m (unclamped m c) ≡ true) × (clamped m (unclamped m c) ≡ c)
