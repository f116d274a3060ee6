-- The computed point near the exact one (heading "The point at a parameter"): `answer_of` is the answer that the call's contract names, and
-- `PointNearExact` the whole statement, with no condition but that the curve passes the check and that the domain holds the parameter.
use Rattle.std.specs.Prelude.{true, List, ◌≡◌, ℕ, ◌-◌, ℤ, length}
use Rattle.exact.specs.ExactCurve.{exact_at}
use Rattle.grid.specs.Check.{Passes}
use Rattle.span.specs.Span.{in_domain}
use Rattle.point_at.specs.declared.PointAnswer.TheVariants.{At}
use Rattle.point_at.specs.Point.{point_of, answer_of}
use Rattle.point_at_exact.specs.NearExact.{NearExact}

-- both coordinates of the computed point are finite and less than 2 ^ -30 from the exact point's
pub record PointNear (m : ℕ) (ts : List ℕ) (xs ys : List ℤ) (t : ℕ) : Type 0 where
  pub x : NearExact (point_of m ts xs ys t).x (exact_at m ts xs t 1)
  pub y : NearExact (point_of m ts xs ys t).y (exact_at m ts ys t 1)

-- for every curve that passes the check and every whole parameter of its domain, the call answers a point, and that point is near the exact one
abbrev pub PointNearExact : Type 0
PointNearExact =
    (m : ℕ) (ts : List ℕ) (xs ys : List ℤ) (t : ℕ) → Passes m ts xs ys → in_domain ts m (length xs - 1) t 1 ≡ true
    → (answer_of m ts xs ys t ≡ At (point_of m ts xs ys t)) × PointNear m ts xs ys t
