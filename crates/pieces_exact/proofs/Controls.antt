-- Closed cases: curve B is cut at 2 into two pieces, and at 1 the first of them is (3.5, 6), as the curve is.
use mathlib.Core.List.{[], ◌∷◌}
use mathlib.Core.Path.{◌≡◌, refl}
use native.Mathlib.Omega.{arith}
use lib.IntN.{pos}
use lib.ListN.{length}
use Rattle.curve.specs.Lists.{Lists, lists}
use Rattle.checked.specs.declared.Axis.TheVariants.{X, Y}
use Rattle.span.specs.Span.{span_of, strictly_inside}
use Rattle.signed.specs.Division.{divides}
use Rattle.fractions.specs.Fraction.{over, whole, sum, product, negation, turned, reciprocal}
use Rattle.fractions.specs.Order.{Equals}
use Rattle.splines.specs.Basis.{basis, sum_of, curve_at}
use Rattle.splines.specs.Bezier.{casteljau}
use Rattle.exact.specs.ExactPoint.{exact_coordinate}
use Rattle.exact.specs.ExactCurve.{exact_at}
use Rattle.grid.specs.Rows.{degree_ok, point_count_ok, knot_count_ok, rises_from, knot_order_ok, ends_ok, occurrences, repeats_most, repeats_within, repeats_ok, on_grid, all_on_grid, range_ok}
use Rattle.grid.specs.Check.{checked_then}
use Rattle.checked.specs.Checked.{Clamped}
use Rattle.insertion.specs.Insertion.{knots_up_to, insertion_span, inserted_knots, weighted_sum, weight, inserted_point, entries, inserted_points, whole_from, whole_points}
use Rattle.insertion.specs.Judged.{value_ok, place_ok, whole_ok, insertable_then}
use Rattle.span_walk.specs.SpansMet.{up_from, keep, span_count, high_knots}
use Rattle.cutting.specs.Cutting.{ends_from, lacking, inserted_each, insertable_each_then, cut_then, cuts, cut_number}
use Rattle.cutting.specs.Pieces.{four_from, piece_of, pieces}
use Rattle.cutting.specs.declared.Piece.{Piece}
use Rattle.cut_whole.proofs.ClampedLaws.{runs-clamped}
use Rattle.pieces_exact.specs.BezierPoint.{bezier_at}
use Rattle.pieces_exact.specs.PieceCurve.{PieceIsCurve}

curve_b : Lists
curve_b = lists (0 ∷ 0 ∷ 0 ∷ 2 ∷ 4 ∷ 4 ∷ 4 ∷ []) (pos 0 ∷ pos 4 ∷ pos 8 ∷ pos 12 ∷ []) (pos 0 ∷ pos 8 ∷ pos 8 ∷ pos 0 ∷ [])

-- from 0 to 2 and from 2 to 4; the fourth place is not used
first : Piece
first = record { low = 0; high = 2; xs = pos 0 ∷ pos 4 ∷ pos 6 ∷ pos 0 ∷ []; ys = pos 0 ∷ pos 8 ∷ pos 8 ∷ pos 0 ∷ [] }

second : Piece
second = record { low = 2; high = 4; xs = pos 6 ∷ pos 8 ∷ pos 12 ∷ pos 0 ∷ []; ys = pos 8 ∷ pos 8 ∷ pos 0 ∷ pos 0 ∷ [] }

cut-at-two : cuts 2 curve_b ≡ 2 ∷ []
unfolding curve_b lacking ends_from high_knots keep up_from occurrences
cut-at-two = refl

nothing-refused : cut_number 2 curve_b ≡ 0
unfolding curve_b lacking ends_from high_knots keep up_from cut_then insertable_each_then strictly_inside divides degree_ok point_count_ok knot_count_ok rises_from knot_order_ok ends_ok occurrences repeats_most repeats_within repeats_ok on_grid all_on_grid range_ok checked_then knots_up_to insertion_span weighted_sum weight whole_from whole_points value_ok place_ok whole_ok insertable_then
nothing-refused = refl

ends-clamped : Clamped 2 curve_b.knots (length curve_b.xs)
unfolding curve_b
ends-clamped = runs-clamped 2 0 4 (2 ∷ [])

two-pieces : pieces 2 curve_b ≡ first ∷ second ∷ []
unfolding curve_b first second lacking ends_from high_knots keep up_from occurrences knots_up_to insertion_span inserted_knots weighted_sum weight inserted_point entries inserted_points inserted_each span_count four_from piece_of pieces
two-pieces = refl

-- at 1 the first piece is (7/2, 6)
at-one-x : Equals (bezier_at 2 0 2 first.xs 1 1) (over (pos 7) 2)
unfolding first bezier_at casteljau sum product negation turned reciprocal
at-one-x = refl

at-one-y : Equals (bezier_at 2 0 2 first.ys 1 1) (whole (pos 6))
unfolding first bezier_at casteljau sum product negation turned reciprocal
at-one-y = refl

-- and so is the curve, worked out from its own four points
curve-at-one-x : Equals (exact_at 2 curve_b.knots curve_b.xs 1 1) (over (pos 7) 2)
unfolding curve_b exact_coordinate curve_at sum_of basis sum product negation turned reciprocal span_of
curve-at-one-x = refl

-- what is promised of pieces is said of this curve, this piece and this parameter, and of the right end of the piece too, whatever proves it
promise-says : PieceIsCurve → Equals (bezier_at 2 0 2 first.xs 1 1) (exact_at 2 curve_b.knots curve_b.xs 1 1)
unfolding curve_b first second lacking ends_from high_knots keep up_from occurrences knots_up_to insertion_span inserted_knots weighted_sum weight inserted_point entries inserted_points inserted_each span_count four_from piece_of pieces
promise-says says = says X 2 curve_b 0 first nothing-refused ends-clamped (omega arith) 1 1 (omega arith) (omega arith) (omega arith)

promise-says-end : PieceIsCurve → Equals (bezier_at 2 0 2 first.ys 2 1) (exact_at 2 curve_b.knots curve_b.ys 2 1)
unfolding curve_b first second lacking ends_from high_knots keep up_from occurrences knots_up_to insertion_span inserted_knots weighted_sum weight inserted_point entries inserted_points inserted_each span_count four_from piece_of pieces
promise-says-end says = says Y 2 curve_b 0 first nothing-refused ends-clamped (omega arith) 2 1 (omega arith) (omega arith) (omega arith)
