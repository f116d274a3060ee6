-- What is promised of clamping (heading "Ends that are not clamped"): it keeps the exact curve over the domain, and is done exactly where some polygon of whole
-- points on the clamped knots does; that polygon is the only one.
use Rattle.std.specs.Prelude.{true, ◌↔◌, ◌≡◌, ℕ, ◌+◌, length}
use Rattle.refusal.specs.Numbers.{accepted}
use Rattle.curve.specs.Lists.{Lists}
use Rattle.grid.specs.Check.{Passes}
use Rattle.clamping.specs.Clamping.{clamped, clamps_whole, clamp_number}
use Rattle.knots_exact.specs.SameCurve.{SameCurve}

-- whenever clamping is not refused, the clamped curve is the old one
abbrev pub ClampKeepsCurve : Type 0
ClampKeepsCurve = (m : ℕ) (c lent : Lists) → clamp_number m c lent ≡ accepted → SameCurve m c (clamped m c)

-- d is a polygon of whole points on the clamped knots, with as many points as these carry, and has the exact curve of c over the domain
pub record ClampedPolygon (m : ℕ) (c d : Lists) : Type 0 where
  pub knots : d.knots ≡ (clamped m c).knots
  pub points : length d.knots ≡ length d.xs + m + 1
  pub as_many : length d.ys ≡ length d.xs
  pub same : SameCurve m c d

-- row 11 does not apply exactly where there is one; and there is no other than the clamped curve
abbrev pub ClampExactly : Type 0
ClampExactly =
    (m : ℕ) (c : Lists) → Passes m c.knots c.xs c.ys
    → ((clamps_whole m c ≡ true) ↔ ((d : Lists) × ClampedPolygon m c d))
    × ((d : Lists) → ClampedPolygon m c d → d ≡ clamped m c)
