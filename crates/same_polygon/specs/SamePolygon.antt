-- The curve determines its polygon (heading "Ends that are not clamped"): two polygons on the same knots with the same exact curve over the domain agree in every
-- point that carries a span of it, and in all points where the first span and the last are not empty.
use Rattle.std.specs.Prelude.{List, ◌≡◌, ℕ, ◌+◌, ◌-◌, ◌≤◌, ◌<◌, length, get_or}
use Rattle.curve.specs.Lists.{Lists}
use Rattle.grid.specs.Check.{Passes}
use Rattle.insertion.specs.Insertion.{point_at}
use Rattle.knots_exact.specs.SameCurve.{SameCurve}

-- of `count` points P_j carries the span i of the domain, which is not empty
pub record CarriesSpan (m : ℕ) (ts : List ℕ) (count j i : ℕ) : Type 0 where
  pub from : m ≤ i
  pub to : i < count
  pub first : i ≤ j + m
  pub last : j ≤ i
  pub some : get_or ts i 0 < get_or ts (i + 1) 0

-- two curves that pass the check, on the same knots, with the same exact curve
pub record OneCurve (m : ℕ) (c d : Lists) : Type 0 where
  pub passes : Passes m c.knots c.xs c.ys
  pub passes_too : Passes m d.knots d.xs d.ys
  pub knots : d.knots ≡ c.knots
  pub same : SameCurve m c d

-- each point that carries some span is the same
abbrev pub CurveFixesCarriers : Type 0
CurveFixesCarriers =
    (m : ℕ) (c d : Lists) → OneCurve m c d → (j i : ℕ) → CarriesSpan m c.knots (length c.xs) j i
    → (point_at d.xs j ≡ point_at c.xs j) × (point_at d.ys j ≡ point_at c.ys j)

-- where t_m < t_{m+1} and t_n < t_{n+1} every point carries one, and the two are one curve
abbrev pub CurveFixesPolygon : Type 0
CurveFixesPolygon =
    (m : ℕ) (c d : Lists) → OneCurve m c d → get_or c.knots m 0 < get_or c.knots (m + 1) 0
    → get_or c.knots (length c.xs - 1) 0 < get_or c.knots (length c.xs) 0 → d ≡ c
