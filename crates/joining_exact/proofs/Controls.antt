-- Closed case, worked by hand (heading "Joining spline points"): parameters 0 3 9, points 0 -6 12, tangents 1 -2 3.
use mathlib.Core.List.{List, [], ◌∷◌}
use mathlib.Core.Path.{refl}
use Prim.Native.Nat.{ℕ}
use lib.IntN.{ℤ, pos, negsuc}
use Rattle.algebra.specs.Ring.{numeral}
use Rattle.fractions.specs.Fraction.{over, whole, sum, product, negation, turned, reciprocal}
use Rattle.fractions.specs.Order.{Equals}
use Rattle.splines.specs.Basis.{basis, sum_of, curve_at}
use Rattle.span.specs.Span.{span_of}
use Rattle.exact.specs.ExactPoint.{exact_coordinate}
use Rattle.exact.specs.ExactCurve.{exact_at}
use Rattle.joining_exact.specs.HermitePoint.{hermite_coordinate}

abbrev params : List ℕ
params = 0 ∷ 3 ∷ 9 ∷ []

abbrev points : List ℤ
points = pos 0 ∷ negsuc 5 ∷ pos 12 ∷ []

abbrev tangents : List ℤ
tangents = pos 1 ∷ negsuc 1 ∷ pos 3 ∷ []

-- the cubic of the first interval at 3/2: (-6)/2 + 1·3/8 + (-2)·(-3/8); that of the second at 5: (-6)·20/27 + 12·7/27 + (-2)·8/9 + 3·(-4/9)
first-at-3/2 : Equals (hermite_coordinate params points tangents 0 3 2) (over (negsuc 14) 8)
unfolding hermite_coordinate numeral sum product negation turned reciprocal
first-at-3/2 = refl

second-at-5 : Equals (hermite_coordinate params points tangents 1 5 1) (over (negsuc 39) 9)
unfolding hermite_coordinate numeral sum product negation turned reciprocal
second-at-5 = refl

-- the joined curve's knots and points, with three inner knots and with two, and both exact curves at the same two parameters and where the pieces meet
abbrev knots : List ℕ
knots = 0 ∷ 0 ∷ 0 ∷ 0 ∷ 3 ∷ 3 ∷ 3 ∷ 9 ∷ 9 ∷ 9 ∷ 9 ∷ []

abbrev joined : List ℤ
joined = pos 0 ∷ pos 1 ∷ negsuc 3 ∷ negsuc 5 ∷ negsuc 9 ∷ pos 6 ∷ pos 12 ∷ []

abbrev twice-knots : List ℕ
twice-knots = 0 ∷ 0 ∷ 0 ∷ 0 ∷ 3 ∷ 3 ∷ 9 ∷ 9 ∷ 9 ∷ 9 ∷ []

abbrev twice-joined : List ℤ
twice-joined = pos 0 ∷ pos 1 ∷ negsuc 3 ∷ negsuc 9 ∷ pos 6 ∷ pos 12 ∷ []

joined-at-3/2 : Equals (exact_at 3 knots joined 3 2) (over (negsuc 14) 8) × Equals (exact_at 3 twice-knots twice-joined 3 2) (over (negsuc 14) 8)
unfolding span_of exact_coordinate curve_at sum_of basis sum product negation turned reciprocal
joined-at-3/2 = (refl, refl)

joined-at-5 : Equals (exact_at 3 knots joined 5 1) (over (negsuc 39) 9) × Equals (exact_at 3 twice-knots twice-joined 5 1) (over (negsuc 39) 9)
unfolding span_of exact_coordinate curve_at sum_of basis sum product negation turned reciprocal
joined-at-5 = (refl, refl)

joined-at-3 : Equals (exact_at 3 knots joined 3 1) (whole (negsuc 5)) × Equals (exact_at 3 twice-knots twice-joined 3 1) (whole (negsuc 5))
unfolding span_of exact_coordinate curve_at sum_of basis sum product negation turned reciprocal
joined-at-3 = (refl, refl)
