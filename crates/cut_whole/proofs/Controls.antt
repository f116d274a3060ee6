-- Closed cases, worked by hand: curve B cut at 2, the knots of its two spans; and B with another second point, where cutting is refused by 11.
use mathlib.Core.List.{[], ◌∷◌}
use mathlib.Core.Path.{◌≡◌, refl}
use native.Mathlib.Omega.{arith}
use lib.IntN.{pos}
use lib.ListN.{length}
use Rattle.curve.specs.Lists.{Lists, lists}
use Rattle.signed.specs.Division.{divides}
use Rattle.span.specs.Span.{strictly_inside}
use Rattle.grid.specs.Rows.{degree_ok, point_count_ok, knot_count_ok, rises_from, knot_order_ok, ends_ok, occurrences, repeats_most, repeats_within, repeats_ok, on_grid, all_on_grid, range_ok}
use Rattle.grid.specs.Check.{checked_then, check_number, Passes}
use Rattle.checked.specs.Checked.{Clamped}
use Rattle.insertion.specs.Insertion.{knots_up_to, insertion_span, inserted_knots, weighted_sum, weight, inserted_point, entries, inserted_points, whole_from, whole_points}
use Rattle.insertion.specs.Judged.{value_ok, place_ok, whole_ok, insertable_then}
use Rattle.span_walk.specs.SpansMet.{up_from, keep, span_count, high_knots}
use Rattle.cutting.specs.Cutting.{ends_from, lacking, inserted_each, insertable_each_then, cut_then, cuts, cut, cut_number}
use Rattle.cutting.specs.Pieces.{piece_count}
use Rattle.cut_whole.specs.Sentences.{own_number, InnerKnot, span_at, low_at, high_at, FirstFailing, CutNumberIs}
use Rattle.cut_whole.proofs.ClampedLaws.{runs-clamped}

curve_b : Lists
curve_b = lists (0 ∷ 0 ∷ 0 ∷ 2 ∷ 4 ∷ 4 ∷ 4 ∷ []) (pos 0 ∷ pos 4 ∷ pos 8 ∷ pos 12 ∷ []) (pos 0 ∷ pos 8 ∷ pos 8 ∷ pos 0 ∷ [])

-- the second point is (4, 7): the point between it and (8, 8) would be (6, 7.5)
curve_odd : Lists
curve_odd = lists (0 ∷ 0 ∷ 0 ∷ 2 ∷ 4 ∷ 4 ∷ 4 ∷ []) (pos 0 ∷ pos 4 ∷ pos 8 ∷ pos 12 ∷ []) (pos 0 ∷ pos 7 ∷ pos 8 ∷ pos 0 ∷ [])

inner-knot : InnerKnot 2 curve_b 2
unfolding curve_b occurrences
inner-knot = record { above = omega arith; below = omega arith; stands = omega arith }

cut-once : cuts 2 curve_b ≡ 2 ∷ []
unfolding curve_b lacking ends_from high_knots keep up_from occurrences
cut-once = refl

cut-is : cut 2 curve_b ≡ lists (0 ∷ 0 ∷ 0 ∷ 2 ∷ 2 ∷ 4 ∷ 4 ∷ 4 ∷ []) (pos 0 ∷ pos 4 ∷ pos 6 ∷ pos 8 ∷ pos 12 ∷ []) (pos 0 ∷ pos 8 ∷ pos 8 ∷ pos 8 ∷ pos 0 ∷ [])
unfolding curve_b lacking ends_from high_knots keep up_from occurrences knots_up_to insertion_span inserted_knots weighted_sum weight inserted_point entries inserted_points inserted_each
cut-is = refl

-- spans 2 and 3 are not empty: from 0 to 2, and from 2 to 4
two-spans : piece_count 2 curve_b ≡ 2
unfolding curve_b span_count keep up_from
two-spans = refl

second-span : (span_at 2 curve_b 1 ≡ 3) × (low_at 2 curve_b 1 ≡ 2) × (high_at 2 curve_b 1 ≡ 4)
unfolding curve_b keep up_from
second-span = (refl, refl, refl)

odd-passes : Passes 2 curve_odd.knots curve_odd.xs curve_odd.ys
unfolding curve_odd check_number checked_then degree_ok point_count_ok knot_count_ok rises_from knot_order_ok ends_ok occurrences repeats_most repeats_within repeats_ok on_grid all_on_grid range_ok
odd-passes = refl

odd-clamped : Clamped 2 curve_odd.knots (length curve_odd.xs)
unfolding curve_odd
odd-clamped = runs-clamped 2 0 4 (2 ∷ [])

odd_refused : cut_number 2 curve_odd ≡ 11
unfolding curve_odd lacking ends_from high_knots keep up_from cut_then insertable_each_then strictly_inside divides degree_ok point_count_ok knot_count_ok rises_from knot_order_ok ends_ok occurrences repeats_most repeats_within repeats_ok on_grid all_on_grid range_ok checked_then knots_up_to insertion_span weighted_sum weight whole_from whole_points value_ok place_ok whole_ok insertable_then
odd_refused = refl

-- what is said of the number is said of this curve, whatever proves it
number-says : CutNumberIs → FirstFailing 2 (cuts 2 curve_odd) curve_odd (λ d v. own_number 2 d v ≡ 11)
number-says says = (((says 2 curve_odd).0 odd-passes odd-clamped).first 11 (omega arith)).0 odd_refused
