-- The point of a checked curve at a whole parameter of its domain is near the exact point.
use mathlib.Core.Bool.{Bool, true, cond}
use mathlib.Core.Path.{◌≡◌, refl, sym, ap, ◌∙◌, subst}
use mathlib.Core.List.{List}
use Prim.Native.Nat.{ℕ, ◌-◌, ◌≤◌, ◌<◌}
use native.Mathlib.Nat.{le_trans}
use native.Mathlib.Omega.{arith}
use lib.Dec.{eqb, lit≤, leb→le}
use lib.IntN.{ℤ, pos, negsuc, nat_abs}
use lib.ListN.{length, get_or}
use Rattle.grid.specs.Limits.{coordinate_most}
use Rattle.grid.specs.Check.{Passes}
use Rattle.checked.specs.Checked.{Checked, OnGrid}
use Rattle.checked.proofs.CheckedLaws.{checked-of-passes}
use Rattle.refusal.specs.Judging.{unless}
use Rattle.refusal.specs.Numbers.{accepted, parameter_refused}
use Rattle.domain.proofs.ParameterLaws.{curve-passed}
use Rattle.point_at.specs.declared.PointAnswer.TheVariants.{At, Refused}
use Rattle.point_at.specs.Point.{point_of, answer_of}
use Rattle.span.specs.Span.{span_of, in_domain}
use Rattle.exact.specs.ExactPoint.{exact_coordinate}
use Rattle.exact.proofs.DomainLaws.{domain-carried}
use Rattle.triangle.specs.FloatTriangle.{coordinate_of}
use Rattle.rounding.proofs.Binary64.{largest_coordinate}
use Rattle.point_at_exact.specs.NearExact.{NearExact}
use Rattle.point_at_exact.specs.PointNear.{PointNear, PointNearExact}
use Rattle.point_at_exact.proofs.CoordinateNear.{coordinate-near}

-- a coordinate on the grid is small enough
on-grid-size : (z : ℤ) → OnGrid z → nat_abs z ≤ largest_coordinate
on-grid-size (pos n) h = leb→le n coordinate_most h.high.le
on-grid-size (negsuc n) h =
    let l : n ≤ 262143 = leb→le n 262143 h.low.le in
    omega arith

-- one axis
pub axis-near : (m : ℕ) (ts : List ℕ) (xs ys ps : List ℤ) (t : ℕ) → Checked m ts xs ys → length ps ≡ length xs → ((a : ℕ) → a < length ps → OnGrid (get_or ps a (pos 0)))
    → in_domain ts m (length xs - 1) t 1 ≡ true → NearExact (coordinate_of m ts ps (span_of ts m (length xs - 1) t 1) t) (exact_coordinate ts ps m (span_of ts m (length xs - 1) t 1) t 1)
axis-near m ts xs ys ps t c same grid inside =
    let i = span_of ts m (length xs - 1) t 1 in
    let carried = domain-carried m ts xs ys c ps same t 1 (lit≤ tt) inside in
    coordinate-near ts ps m i t c.sizes.degree-most carried
    (λ k l. le_trans (c.largest k (omega (arith, c.sizes.knots, carried.inside, same))) (lit≤ tt))
    (λ j l h. on-grid-size (get_or ps j (pos 0)) (grid j (omega (arith, carried.inside))))

pub checked-near : (m : ℕ) (ts : List ℕ) (xs ys : List ℤ) (t : ℕ) → Checked m ts xs ys → in_domain ts m (length xs - 1) t 1 ≡ true → PointNear m ts xs ys t
checked-near m ts xs ys t c inside = record {
  x = axis-near m ts xs ys xs t c refl c.grid_x inside;
  y =
      subst (λ (n : ℕ). NearExact (coordinate_of m ts ys (span_of ts m (length xs - 1) t 1) t) (exact_coordinate ts ys m (span_of ts m (n - 1) t 1) t 1)) (sym c.sizes.as_many)
      (axis-near m ts xs ys ys t c c.sizes.as_many c.grid_y inside);
}

-- nothing is refused inside the domain of a curve that passes
answer_at : (m : ℕ) (ts : List ℕ) (xs ys : List ℤ) (t : ℕ) → Passes m ts xs ys → in_domain ts m (length xs - 1) t 1 ≡ true → answer_of m ts xs ys t ≡ At (point_of m ts xs ys t)
answer_at m ts xs ys t h inside =
    ap (λ (n : ℕ). cond (eqb n 0) (At (point_of m ts xs ys t)) (Refused n))
    (curve-passed m ts xs ys t h ∙ ap (λ (b : Bool). unless b parameter_refused accepted) inside)

pub point-near-exact : PointNearExact
point-near-exact m ts xs ys t h inside = (answer_at m ts xs ys t h inside, checked-near m ts xs ys t (checked-of-passes m ts xs ys h) inside)
