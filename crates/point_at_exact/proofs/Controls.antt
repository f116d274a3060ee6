-- Closed cases: that curve A at 1 is near its exact point is computed outright, and a third shows that the bound is not idle.
use mathlib.Core.Bool.{true}
use mathlib.Core.List.{List, [], ◌∷◌}
use mathlib.Core.Path.{◌≡◌, refl}
use Prim.Native.Nat.{ℕ, ◌^◌}
use lib.IntN.{ℤ, pos}
use lib.Ieee.{of_int, add, mul, div}
use Rattle.fractions.specs.Fraction.{over, sum, product, negation, turned, reciprocal}
use Rattle.fractions.specs.Order.{DistanceBelow}
use Rattle.grid.specs.Check.{checked_then, check_number, Passes}
use Rattle.grid.specs.Rows.{degree_ok, point_count_ok, knot_count_ok, knot_order_ok, rises_from, ends_ok, repeats_ok, repeats_within, repeats_most, occurrences, range_ok, all_on_grid, on_grid}
use Rattle.span.specs.Span.{span_of, in_domain}
use Rattle.splines.specs.Basis.{basis, sum_of, curve_at}
use Rattle.exact.specs.ExactPoint.{exact_coordinate}
use Rattle.triangle.specs.FloatTriangle.{entry_of, coordinate_of}
use Rattle.rounding.specs.FloatFraction.{float_fraction}
use Rattle.point_at_exact.specs.NearExact.{NearExact}
use Rattle.exact.specs.ExactCurve.{exact_at}
use Rattle.point_at_exact.specs.PointNear.{PointNear}

-- curve A: degree 3, points (0,0) (0,8) (8,8) (8,0)
abbrev knots_a : List ℕ
knots_a = 0 ∷ 0 ∷ 0 ∷ 0 ∷ 4 ∷ 4 ∷ 4 ∷ 4 ∷ []

abbrev xs_a : List ℤ
xs_a = pos 0 ∷ pos 0 ∷ pos 8 ∷ pos 8 ∷ []

abbrev ys_a : List ℤ
ys_a = pos 0 ∷ pos 8 ∷ pos 8 ∷ pos 0 ∷ []

-- it passes the check, 1 lies in its domain, and the computed point at 1 is near the exact one
curve-a-passes : Passes 3 knots_a xs_a ys_a
unfolding check_number checked_then degree_ok point_count_ok knot_count_ok knot_order_ok rises_from ends_ok repeats_ok repeats_within repeats_most occurrences range_ok all_on_grid on_grid
curve-a-passes = refl

one-in-domain-a : in_domain knots_a 3 3 1 1 ≡ true
unfolding in_domain
one-in-domain-a = refl

curve-a-near : PointNear 3 knots_a xs_a ys_a 1
unfolding span_of entry_of of_int add mul div exact_coordinate curve_at sum_of basis sum product negation turned reciprocal
curve-a-near = record {
  x = record { is_finite = tt; distance = record { above = record { lt = tt }; under = record { lt = tt } } };
  y = record { is_finite = tt; distance = record { above = record { lt = tt }; under = record { lt = tt } } };
}

-- curve B, degree 2, points (0,0) (4,8) (8,8) (12,0), at its right end
abbrev knots_b : List ℕ
knots_b = 0 ∷ 0 ∷ 0 ∷ 2 ∷ 4 ∷ 4 ∷ 4 ∷ []

abbrev xs_b : List ℤ
xs_b = pos 0 ∷ pos 4 ∷ pos 8 ∷ pos 12 ∷ []

end-of-b-near : NearExact (coordinate_of 2 knots_b xs_b 3 4) (exact_at 2 knots_b xs_b 4 1)
unfolding span_of entry_of of_int add mul div exact_coordinate curve_at sum_of basis sum product negation turned reciprocal
end-of-b-near = record { is_finite = tt; distance = record { above = record { lt = tt }; under = record { lt = tt } } }

-- a line from 0 to 262144 over 0 to 3, at 1: near 87381 and a third, but not within 2 ^ -40
abbrev knots_line : List ℕ
knots_line = 0 ∷ 0 ∷ 3 ∷ 3 ∷ []

abbrev xs_line : List ℤ
xs_line = pos 0 ∷ pos 262144 ∷ []

third-near : NearExact (coordinate_of 1 knots_line xs_line 1 1) (exact_coordinate knots_line xs_line 1 1 1 1)
unfolding entry_of of_int add mul div exact_coordinate curve_at sum_of basis sum product negation turned reciprocal
third-near = record { is_finite = tt; distance = record { above = record { lt = tt }; under = record { lt = tt } } }

third-not-nearer : DistanceBelow (float_fraction (coordinate_of 1 knots_line xs_line 1 1)) (exact_coordinate knots_line xs_line 1 1 1 1) (over (pos 1) (2 ^ 40)) → ⊥
unfolding entry_of of_int add mul div exact_coordinate curve_at sum_of basis sum product negation turned reciprocal
third-not-nearer h = h.under.lt
