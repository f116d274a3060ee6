-- Closed cases, worked by hand: curve A's path data has 19 bytes, so that 18 places are refused by 15; of curve B with (4,7) the insertion of 2 is refused by
-- 11, however long the list is; a curve with an open start begins at the first point of its clamped copy, and is refused by 11 where that is not whole; and what is
-- said of every curve is said of these.
use mathlib.Core.List.{List, [], ◌∷◌}
use mathlib.Core.Logic.{◌⊎◌}
use mathlib.Core.Path.{◌≡◌, refl}
use Prim.Native.Nat.{ℕ}
use native.Mathlib.Omega.{arith}
use lib.IntN.{pos}
use lib.ListN.{length, replicate}
use Rattle.curve.specs.Lists.{Lists, lists}
use Rattle.signed.specs.Division.{divides}
use Rattle.span.specs.Span.{span_of, strictly_inside}
use Rattle.grid.specs.Rows.{degree_ok, point_count_ok, knot_count_ok, rises_from, knot_order_ok, ends_ok, occurrences, repeats_most, repeats_within, repeats_ok, on_grid, all_on_grid, range_ok}
use Rattle.grid.specs.Check.{checked_then}
use Rattle.insertion.specs.Insertion.{knots_up_to, insertion_span, weighted_sum, weight, entries, whole_from, whole_points}
use Rattle.insertion.specs.Judged.{value_ok, place_ok, whole_ok, insertable_then}
use Rattle.clamping.specs.EndRows.{mean, end_row}
use Rattle.clamping.specs.Clamping.{clamped_knot, clamped_number, all_whole, clamped, clamps_whole, clamp_then}
use Rattle.clamping.specs.Sentences.{ClampNotWhole}
use Rattle.span_walk.specs.SpansMet.{up_from, keep, span_count, high_knots}
use Rattle.digits.specs.Decimal.{digits_of, decimal}
use Rattle.digits.specs.Quoted.{quoted}
use Rattle.cutting.specs.Cutting.{ends_from, lacking, inserted_each, insertable_each_then, cut_then}
use Rattle.cutting.specs.Pieces.{four_from, piece_of, pieces}
use Rattle.path_data.specs.Text.{pairs_text, segment_text, segments_text, move_text, path_text}
use Rattle.svg_out.specs.Svg.{svg_text, draw_then, svg_number}
use Rattle.svg_whole.specs.Outcome.{NotWholeFirst, SvgAnswersFirst}

curve_a : Lists
curve_a = lists (0 ∷ 0 ∷ 0 ∷ 0 ∷ 4 ∷ 4 ∷ 4 ∷ 4 ∷ []) (pos 0 ∷ pos 0 ∷ pos 8 ∷ pos 8 ∷ []) (pos 0 ∷ pos 8 ∷ pos 8 ∷ pos 0 ∷ [])

-- curve B with its second point (4,7): between it and (8,8) the point (6, 7.5) would be needed
curve_odd : Lists
curve_odd = lists (0 ∷ 0 ∷ 0 ∷ 2 ∷ 4 ∷ 4 ∷ 4 ∷ []) (pos 0 ∷ pos 4 ∷ pos 8 ∷ pos 12 ∷ []) (pos 0 ∷ pos 7 ∷ pos 8 ∷ pos 0 ∷ [])

places : ℕ → List ℕ
places n = replicate n 0

-- "M 0 0 C 0 8 8 8 8 0"
text-has-19 : length (svg_text 3 curve_a) ≡ 19
unfolding curve_a span_of mean end_row clamped_knot clamped_number clamped lacking ends_from high_knots keep up_from occurrences inserted_each span_count entries four_from piece_of pieces path_text move_text segments_text segment_text pairs_text decimal digits_of
text-has-19 = refl

enough : svg_number 3 curve_a (places 19) ≡ 0
unfolding curve_a places svg_number draw_then clamp_then span_of mean end_row clamped_knot clamped_number all_whole clamped clamps_whole cut_then lacking ends_from high_knots keep up_from insertable_each_then strictly_inside divides degree_ok point_count_ok knot_count_ok rises_from knot_order_ok ends_ok occurrences repeats_most repeats_within repeats_ok on_grid all_on_grid range_ok checked_then inserted_each span_count entries four_from piece_of pieces path_text move_text segments_text segment_text pairs_text decimal digits_of
enough = refl

one-short : svg_number 3 curve_a (places 18) ≡ 15
unfolding curve_a places svg_number draw_then clamp_then span_of mean end_row clamped_knot clamped_number all_whole clamped clamps_whole cut_then lacking ends_from high_knots keep up_from insertable_each_then strictly_inside divides degree_ok point_count_ok knot_count_ok rises_from knot_order_ok ends_ok occurrences repeats_most repeats_within repeats_ok on_grid all_on_grid range_ok checked_then inserted_each span_count entries four_from piece_of pieces path_text move_text segments_text segment_text pairs_text decimal digits_of
one-short = refl

-- 11 comes before 15
not-whole-first : svg_number 2 curve_odd (places 0) ≡ 11
unfolding curve_odd places svg_number draw_then clamp_then span_of mean end_row clamped_knot clamped_number all_whole clamped clamps_whole cut_then lacking ends_from high_knots keep up_from insertable_each_then strictly_inside divides degree_ok point_count_ok knot_count_ok rises_from knot_order_ok ends_ok occurrences repeats_most repeats_within repeats_ok on_grid all_on_grid range_ok checked_then knots_up_to insertion_span weighted_sum weight entries whole_from whole_points value_ok place_ok whole_ok insertable_then
not-whole-first = refl

-- what is said of the rows is said of this curve, whatever proves it
rows-say : SvgAnswersFirst → ClampNotWhole 2 curve_odd ⊎ NotWholeFirst 2 curve_odd
rows-say says = (((says 2 curve_odd (places 0)).first 7 (omega arith)).0 not-whole-first).0

-- an open start, and (4, y) for the second point: the copy's first point is the mean of this one and (0, 0)
curve_open : ℕ → Lists
curve_open y = lists (0 ∷ 1 ∷ 2 ∷ 3 ∷ 3 ∷ 3 ∷ []) (pos 0 ∷ pos 4 ∷ pos 8 ∷ []) (pos 0 ∷ pos y ∷ pos 0 ∷ [])

open-text : svg_text 2 (curve_open 8) ≡ quoted "M 2 4 Q 4 8 8 0"
unfolding curve_open span_of mean end_row clamped_knot clamped_number clamped lacking ends_from high_knots keep up_from occurrences inserted_each span_count entries four_from piece_of pieces path_text move_text segments_text segment_text pairs_text decimal digits_of
open-text = refl

open-enough : svg_number 2 (curve_open 8) (places 15) ≡ 0
unfolding curve_open places svg_number draw_then clamp_then span_of mean end_row clamped_knot clamped_number all_whole clamped clamps_whole cut_then lacking ends_from high_knots keep up_from insertable_each_then strictly_inside divides degree_ok point_count_ok knot_count_ok rises_from knot_order_ok ends_ok occurrences repeats_most repeats_within repeats_ok on_grid all_on_grid range_ok checked_then inserted_each span_count entries four_from piece_of pieces path_text move_text segments_text segment_text pairs_text decimal digits_of
open-enough = refl

-- with (4, 7) it would be (2, 3.5)
open-not-whole : svg_number 2 (curve_open 7) (places 0) ≡ 11
unfolding curve_open places svg_number draw_then clamp_then span_of mean end_row clamped_number all_whole clamps_whole divides degree_ok point_count_ok knot_count_ok rises_from knot_order_ok ends_ok occurrences repeats_most repeats_within repeats_ok on_grid all_on_grid range_ok checked_then
open-not-whole = refl
