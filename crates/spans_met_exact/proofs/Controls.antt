-- Two closed cases of the whole statement. Curve A crosses the clamp 2..3, 5..9 at 3/2, and the span 0..4 is on the list.
-- A straight line ends 3 left of and 4 below the corner of a clamp: a cutter of radius 5 just reaches it there.
use mathlib.Core.Bool.{true}
use mathlib.Core.List.{List, [], ◌∷◌}
use mathlib.Core.Path.{◌≡◌, refl}
use Prim.Native.Nat.{ℕ, ◌*◌}
use lib.IntN.{ℤ, pos}
use Rattle.refusal.specs.Numbers.{accepted}
use Rattle.grid.specs.Check.{checked_then}
use Rattle.grid.specs.Rows.{degree_ok, point_count_ok, knot_count_ok, knot_order_ok, rises_from, ends_ok, repeats_ok, repeats_within, repeats_most, occurrences, range_ok, all_on_grid, on_grid, axis_ok, rectangle_ok, radius_ok}
use Rattle.curve.specs.Lists.{lists}
use Rattle.boxes.specs.declared.Rectangle.{Rectangle}
use Rattle.boxes.specs.Widening.{widened}
use Rattle.boxes.specs.Meeting.{some_at_most, some_at_least, meets_on_axis}
use Rattle.fractions.specs.Fraction.{whole_n, sum, product, negation, turned, reciprocal}
use Rattle.fractions.specs.Order.{AtMost}
use Rattle.splines.specs.Basis.{basis, sum_of, curve_at}
use Rattle.exact.specs.ExactPoint.{exact_coordinate}
use Rattle.exact.specs.ExactCurve.{exact_at}
use Rattle.span.specs.Span.{span_of, in_domain}
use Rattle.span_walk.specs.SpansMet.{up_from, keep, box_meets, span_count, spans_met, low_knots, high_knots}
use Rattle.span_walk.specs.SpanLists.{span_lists}
use Rattle.spans_met.specs.Answer.{number_with_places, list_number}
use Rattle.spans_met_exact.specs.Crossing.{InClamp, squared_gap, Reached}

abbrev knots_a : List ℕ
knots_a = 0 ∷ 0 ∷ 0 ∷ 0 ∷ 4 ∷ 4 ∷ 4 ∷ 4 ∷ []

abbrev xs_a : List ℤ
xs_a = pos 0 ∷ pos 0 ∷ pos 8 ∷ pos 8 ∷ []

abbrev ys_a : List ℤ
ys_a = pos 0 ∷ pos 8 ∷ pos 8 ∷ pos 0 ∷ []

abbrev clamp : Rectangle
clamp = record { low_x = pos 2; high_x = pos 3; low_y = pos 5; high_y = pos 9 }

-- the call refuses nothing
clamp-accepted : list_number 3 (lists knots_a xs_a ys_a) clamp 0 (span_lists (0 ∷ []) (0 ∷ [])) ≡ accepted
unfolding number_with_places checked_then degree_ok point_count_ok knot_count_ok knot_order_ok rises_from ends_ok repeats_ok repeats_within repeats_most occurrences range_ok all_on_grid on_grid radius_ok axis_ok rectangle_ok span_count keep up_from
clamp-accepted = refl

-- 3/2 lies in the domain
parameter-inside : in_domain knots_a 3 3 3 2 ≡ true
unfolding in_domain
parameter-inside = refl

-- the exact point there lies in the clamp
point-inside : InClamp clamp 3 knots_a xs_a ys_a 3 2
unfolding span_of exact_coordinate curve_at sum_of basis sum product negation turned reciprocal
point-inside = record {
  x = record { above = record { le = tt }; under = record { le = tt } };
  y = record { above = record { le = tt }; under = record { le = tt } };
}

-- the list holds span 3, from 0 to 4
span-listed : spans_met clamp 3 knots_a xs_a ys_a ≡ 3 ∷ []
unfolding spans_met keep up_from box_meets meets_on_axis some_at_most some_at_least
span-listed = refl

low-listed : low_knots knots_a (3 ∷ []) ≡ 0 ∷ []
unfolding low_knots
low-listed = refl

high-listed : high_knots knots_a (3 ∷ []) ≡ 4 ∷ []
unfolding high_knots
high-listed = refl

-- ---- the line from (0, 0) to (8, 0), and the clamp 11..20, 4..9

abbrev knots_line : List ℕ
knots_line = 0 ∷ 0 ∷ 4 ∷ 4 ∷ []

abbrev xs_line : List ℤ
xs_line = pos 0 ∷ pos 8 ∷ []

abbrev ys_line : List ℤ
ys_line = pos 0 ∷ pos 0 ∷ []

abbrev far : Rectangle
far = record { low_x = pos 11; high_x = pos 20; low_y = pos 4; high_y = pos 9 }

far-accepted : list_number 1 (lists knots_line xs_line ys_line) far 5 (span_lists (0 ∷ []) (0 ∷ [])) ≡ accepted
unfolding number_with_places checked_then degree_ok point_count_ok knot_count_ok knot_order_ok rises_from ends_ok repeats_ok repeats_within repeats_most occurrences range_ok all_on_grid on_grid radius_ok axis_ok rectangle_ok span_count keep up_from
far-accepted = refl

end-inside : in_domain knots_line 1 1 4 1 ≡ true
unfolding in_domain
end-inside = refl

-- the exact point (8, 0) is exactly 5 away from the corner (11, 4): 9 + 16 = 25
corner-reached : Reached far 5 1 knots_line xs_line ys_line 4 1
unfolding squared_gap span_of exact_coordinate curve_at sum_of basis sum product negation turned reciprocal
corner-reached = record {
  u = whole_n 11;
  v = whole_n 4;
  on-x = record { above = record { le = tt }; under = record { le = tt } };
  on-y = record { above = record { le = tt }; under = record { le = tt } };
  near = record { le = tt };
}

-- and more than 4 away
corner-not-reached : AtMost (sum (squared_gap (exact_at 1 knots_line xs_line 4 1) (whole_n 11)) (squared_gap (exact_at 1 knots_line ys_line 4 1) (whole_n 4))) (whole_n (4 * 4)) → ⊥
unfolding squared_gap span_of exact_coordinate curve_at sum_of basis sum product negation turned reciprocal
corner-not-reached h = h.le

-- the clamp widened by 5 lists the span; widened by 3 it would miss the cut
cut-listed : spans_met (widened 5 far) 1 knots_line xs_line ys_line ≡ 1 ∷ []
unfolding widened spans_met keep up_from box_meets meets_on_axis some_at_most some_at_least
cut-listed = refl

cut-missed : spans_met (widened 3 far) 1 knots_line xs_line ys_line ≡ []
unfolding widened spans_met keep up_from box_meets meets_on_axis some_at_most some_at_least
cut-missed = refl
