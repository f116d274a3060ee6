-- Closed cases of the exact point, against values worked by hand from the basis.
use mathlib.Core.Path.{refl}
use mathlib.Core.List.{List, [], ◌∷◌}
use Prim.Native.Nat.{ℕ}
use lib.IntN.{ℤ, pos, negsuc}
use Rattle.fractions.specs.Fraction.{over, whole, sum, product, negation, turned, reciprocal}
use Rattle.fractions.specs.Order.{Equals}
use Rattle.splines.specs.Basis.{basis, sum_of, curve_at}
use Rattle.span.specs.Span.{span_of}
use Rattle.exact.specs.ExactPoint.{exact_coordinate}
use Rattle.exact.specs.ExactCurve.{exact_at}

-- curve A: degree 3, points (0,0) (0,8) (8,8) (8,0)
abbrev knots_a : List ℕ
knots_a = 0 ∷ 0 ∷ 0 ∷ 0 ∷ 4 ∷ 4 ∷ 4 ∷ 4 ∷ []

abbrev xs_a : List ℤ
xs_a = pos 0 ∷ pos 0 ∷ pos 8 ∷ pos 8 ∷ []

abbrev ys_a : List ℤ
ys_a = pos 0 ∷ pos 8 ∷ pos 8 ∷ pos 0 ∷ []

-- A at 1/2 is (11/32, 21/8)
half-on-A-x : Equals (exact_coordinate knots_a xs_a 3 3 1 2) (over (pos 11) 32)
unfolding exact_coordinate curve_at sum_of basis sum product negation turned reciprocal
half-on-A-x = refl

half-on-A-y : Equals (exact_coordinate knots_a ys_a 3 3 1 2) (over (pos 21) 8)
unfolding exact_coordinate curve_at sum_of basis sum product negation turned reciprocal
half-on-A-y = refl

-- A at its right end 4 is (8, 0), in the last span that is not empty
end_of-A-x : Equals (exact_coordinate knots_a xs_a 3 3 4 1) (whole (pos 8))
unfolding exact_coordinate curve_at sum_of basis sum product negation turned reciprocal
end_of-A-x = refl

end_of-A-y : Equals (exact_coordinate knots_a ys_a 3 3 4 1) (whole (pos 0))
unfolding exact_coordinate curve_at sum_of basis sum product negation turned reciprocal
end_of-A-y = refl

-- curve B: degree 2, points (0,0) (4,8) (8,8) (12,0)
abbrev knots_b : List ℕ
knots_b = 0 ∷ 0 ∷ 0 ∷ 2 ∷ 4 ∷ 4 ∷ 4 ∷ []

abbrev xs_b : List ℤ
xs_b = pos 0 ∷ pos 4 ∷ pos 8 ∷ pos 12 ∷ []

abbrev ys_b : List ℤ
ys_b = pos 0 ∷ pos 8 ∷ pos 8 ∷ pos 0 ∷ []

-- B at 3/2 is (39/8, 15/2)
three-halves-on-B-x : Equals (exact_coordinate knots_b xs_b 2 2 3 2) (over (pos 39) 8)
unfolding exact_coordinate curve_at sum_of basis sum product negation turned reciprocal
three-halves-on-B-x = refl

three-halves-on-B-y : Equals (exact_coordinate knots_b ys_b 2 2 3 2) (over (pos 15) 2)
unfolding exact_coordinate curve_at sum_of basis sum product negation turned reciprocal
three-halves-on-B-y = refl

-- a cubic with a doubled inner knot: points (0,0) (0,8) (4,8) (8,-8) (12,-8) (12,0)
abbrev knots_doubled : List ℕ
knots_doubled = 0 ∷ 0 ∷ 0 ∷ 0 ∷ 2 ∷ 2 ∷ 4 ∷ 4 ∷ 4 ∷ 4 ∷ []

abbrev xs_doubled : List ℤ
xs_doubled = pos 0 ∷ pos 0 ∷ pos 4 ∷ pos 8 ∷ pos 12 ∷ pos 12 ∷ []

abbrev ys_doubled : List ℤ
ys_doubled = pos 0 ∷ pos 8 ∷ pos 8 ∷ negsuc 7 ∷ negsuc 7 ∷ pos 0 ∷ []

-- at 5/2 its basis is 0, 0, 27/128, 81/128, 9/64, 1/64, and its point (249/32, -9/2)
five-halves-on-doubled-x : Equals (exact_coordinate knots_doubled xs_doubled 3 5 5 2) (over (pos 249) 32)
unfolding exact_coordinate curve_at sum_of basis sum product negation turned reciprocal
five-halves-on-doubled-x = refl

five-halves-on-doubled-y : Equals (exact_coordinate knots_doubled ys_doubled 3 5 5 2) (over (negsuc 8) 2)
unfolding exact_coordinate curve_at sum_of basis sum product negation turned reciprocal
five-halves-on-doubled-y = refl

-- at the doubled knot 2 itself, the point is halfway between (4,8) and (8,-8)
doubled-knot-x : Equals (exact_coordinate knots_doubled xs_doubled 3 5 2 1) (whole (pos 6))
unfolding exact_coordinate curve_at sum_of basis sum product negation turned reciprocal
doubled-knot-x = refl

doubled-knot-y : Equals (exact_coordinate knots_doubled ys_doubled 3 5 2 1) (whole (pos 0))
unfolding exact_coordinate curve_at sum_of basis sum product negation turned reciprocal
doubled-knot-y = refl

-- B at its right end 4, in the span that the span rule gives, is (12, 0)
end_of-B-x : Equals (exact_at 2 knots_b xs_b 4 1) (whole (pos 12))
unfolding span_of exact_coordinate curve_at sum_of basis sum product negation turned reciprocal
end_of-B-x = refl

end_of-B-y : Equals (exact_at 2 knots_b ys_b 4 1) (whole (pos 0))
unfolding span_of exact_coordinate curve_at sum_of basis sum product negation turned reciprocal
end_of-B-y = refl
