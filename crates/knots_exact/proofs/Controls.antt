-- Closed cases of the main statements: curve B, with 1 inserted, at 1/2, and back.
use mathlib.Core.List.{[], ◌∷◌}
use mathlib.Core.Path.{◌≡◌, refl, subst}
use native.Mathlib.Omega.{arith}
use lib.IntN.{pos}
use Rattle.curve.specs.Lists.{Lists, lists}
use Rattle.curve.specs.HandingOver.{enough}
use Rattle.span.specs.Span.{span_of, in_domain, strictly_inside}
use Rattle.signed.specs.Division.{divides}
use Rattle.fractions.specs.Fraction.{over, sum, product, negation, turned, reciprocal}
use Rattle.fractions.specs.Order.{Equals}
use Rattle.splines.specs.Basis.{basis, sum_of, curve_at}
use Rattle.exact.specs.ExactPoint.{exact_coordinate}
use Rattle.exact.specs.ExactCurve.{exact_at}
use Rattle.grid.specs.Rows.{degree_ok, point_count_ok, knot_count_ok, rises_from, knot_order_ok, ends_ok, occurrences, repeats_most, repeats_within, repeats_ok, on_grid, all_on_grid, range_ok}
use Rattle.grid.specs.Check.{checked_then}
use Rattle.insertion.specs.Insertion.{knots_up_to, insertion_span, inserted_knots, weighted_sum, weight, inserted_point, entries, inserted_points, whole_from, whole_points, inserted}
use Rattle.insertion.specs.Judged.{value_ok, place_ok, whole_ok, insertable_then, insertion_number}
use Rattle.removal.specs.Removal.{without_one, Removes}
use Rattle.knots_exact.specs.SameCurve.{SameCurve, InsertKeepsCurve, RemoveKeepsCurve}

curve_b : Lists
curve_b = lists (0 ∷ 0 ∷ 0 ∷ 2 ∷ 4 ∷ 4 ∷ 4 ∷ []) (pos 0 ∷ pos 4 ∷ pos 8 ∷ pos 12 ∷ []) (pos 0 ∷ pos 8 ∷ pos 8 ∷ pos 0 ∷ [])

-- B with 1 inserted
curve_b1 : Lists
curve_b1 = lists (0 ∷ 0 ∷ 0 ∷ 1 ∷ 2 ∷ 4 ∷ 4 ∷ 4 ∷ []) (pos 0 ∷ pos 2 ∷ pos 5 ∷ pos 8 ∷ pos 12 ∷ []) (pos 0 ∷ pos 4 ∷ pos 8 ∷ pos 8 ∷ pos 0 ∷ [])

inserted-is : inserted 2 curve_b 1 ≡ curve_b1
unfolding curve_b curve_b1 knots_up_to insertion_span inserted_knots weighted_sum weight inserted_point entries inserted_points
inserted-is = refl

inserts : insertion_number 2 curve_b 1 curve_b1 ≡ 0
unfolding curve_b curve_b1 enough strictly_inside divides degree_ok point_count_ok knot_count_ok rises_from knot_order_ok ends_ok occurrences repeats_most repeats_within repeats_ok on_grid all_on_grid range_ok checked_then knots_up_to insertion_span inserted_knots weighted_sum weight inserted_point entries inserted_points whole_from whole_points value_ok place_ok whole_ok insertable_then insertion_number
inserts = refl

removes : Removes 2 1 curve_b1 curve_b
unfolding curve_b curve_b1 without_one enough strictly_inside divides degree_ok point_count_ok knot_count_ok rises_from knot_order_ok ends_ok occurrences repeats_most repeats_within repeats_ok on_grid all_on_grid range_ok checked_then knots_up_to insertion_span inserted_knots weighted_sum weight inserted_point entries inserted_points whole_from whole_points value_ok place_ok whole_ok insertable_then insertion_number
removes = record { fewer = refl; accepts = refl; gives = refl }

-- at 1/2 B is (15/8, 7/2); so is B with 1 inserted, worked out on its own five points
half-x : Equals (exact_at 2 curve_b.knots curve_b.xs 1 2) (over (pos 15) 8)
unfolding curve_b exact_coordinate curve_at sum_of basis sum product negation turned reciprocal span_of
half-x = refl

half-y : Equals (exact_at 2 curve_b.knots curve_b.ys 1 2) (over (pos 7) 2)
unfolding curve_b exact_coordinate curve_at sum_of basis sum product negation turned reciprocal span_of
half-y = refl

half-x-inserted : Equals (exact_at 2 curve_b1.knots curve_b1.xs 1 2) (over (pos 15) 8)
unfolding curve_b1 exact_coordinate curve_at sum_of basis sum product negation turned reciprocal span_of
half-x-inserted = refl

half-y-inserted : Equals (exact_at 2 curve_b1.knots curve_b1.ys 1 2) (over (pos 7) 2)
unfolding curve_b1 exact_coordinate curve_at sum_of basis sum product negation turned reciprocal span_of
half-y-inserted = refl

-- what inserting and removing keep is said of these two curves and this parameter, whatever proves it
inserting-says : InsertKeepsCurve → Equals (exact_at 2 curve_b1.knots curve_b1.xs 1 2) (exact_at 2 curve_b.knots curve_b.xs 1 2)
unfolding curve_b in_domain
inserting-says keeps = (subst (SameCurve 2 curve_b) inserted-is (keeps 2 curve_b 1 curve_b1 inserts)).x.point 1 2 (omega arith) refl

removing-says : RemoveKeepsCurve → Equals (exact_at 2 curve_b.knots curve_b.ys 1 2) (exact_at 2 curve_b1.knots curve_b1.ys 1 2)
unfolding curve_b1 in_domain
removing-says keeps = (keeps 2 1 curve_b1 curve_b removes).y.point 1 2 (omega arith) refl
