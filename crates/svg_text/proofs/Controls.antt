-- Closed cases, worked by hand: the text of the record of curve A; of curve B, which is cut at 2; of B with another second point, where cutting is refused by
-- 11; of a curve with an open start, which begins at the first point of its clamped copy, or is refused by 11 where that is not whole; and of no bytes.
use mathlib.Core.List.{List, [], ◌∷◌}
use mathlib.Core.Path.{◌≡◌, refl, ap}
use Prim.Native.Nat.{ℕ}
use native.Mathlib.Omega.{arith}
use lib.IntN.{pos}
use lib.ListN.{length}
use Rattle.signed.specs.Division.{divides}
use Rattle.curve.specs.Lists.{Lists, lists}
use Rattle.span.specs.Span.{span_of, strictly_inside}
use Rattle.grid.specs.Rows.{degree_ok, point_count_ok, knot_count_ok, rises_from, knot_order_ok, ends_ok, occurrences, repeats_most, repeats_within, repeats_ok, on_grid, all_on_grid, range_ok}
use Rattle.grid.specs.Check.{checked_then, check_number, Passes}
use Rattle.insertion.specs.Insertion.{knots_up_to, insertion_span, inserted_knots, weighted_sum, weight, inserted_point, entries, inserted_points, whole_from, whole_points}
use Rattle.insertion.specs.Judged.{value_ok, place_ok, whole_ok, insertable_then}
use Rattle.clamping.specs.EndRows.{mean, end_row}
use Rattle.clamping.specs.Clamping.{clamped_knot, clamped_number, all_whole, clamped, clamps_whole, clamp_then}
use Rattle.span_walk.specs.SpansMet.{up_from, keep, span_count, high_knots}
use Rattle.cutting.specs.Cutting.{ends_from, lacking, inserted_each, insertable_each_then, cut_then}
use Rattle.cutting.specs.Pieces.{four_from, piece_of, pieces}
use Rattle.path_data.specs.Text.{pairs_text, segment_text, segments_text, move_text, path_text}
use Rattle.digits.specs.Decimal.{digits_of, decimal}
use Rattle.digits.specs.Quoted.{quoted}
use Rattle.lines.specs.Lines.{one_number, two_numbers}
use Rattle.format.specs.Format.{form1, record_bytes, IsRecord}
use Rattle.format.proofs.SizeLaws.{length-record}
use Rattle.fault.specs.Fault.{ends_early}
use Rattle.round_trip.proofs.StorableLaws.{passes-storable}
use Rattle.svg_out.specs.Svg.{draw_then}
use Rattle.svg_text.specs.Text.{drawn_text, SvgTextOf, is_record, is_broken}

curve_a : Lists
curve_a =
    lists (0 ∷ 0 ∷ 0 ∷ 0 ∷ 4 ∷ 4 ∷ 4 ∷ 4 ∷ [])
    (pos 0 ∷ pos 0 ∷ pos 8 ∷ pos 8 ∷ [])
    (pos 0 ∷ pos 8 ∷ pos 8 ∷ pos 0 ∷ [])

-- curve B, whose second point is (4, y)
curve_b : ℕ → Lists
curve_b y = lists (0 ∷ 0 ∷ 0 ∷ 2 ∷ 4 ∷ 4 ∷ 4 ∷ []) (pos 0 ∷ pos 4 ∷ pos 8 ∷ pos 12 ∷ []) (pos 0 ∷ pos y ∷ pos 8 ∷ pos 0 ∷ [])

-- the text of the record of a curve that passes the check
of-record : (m : ℕ) (c : Lists) (text : List ℕ) → Passes m c.knots c.xs c.ys → text ≡ drawn_text m c → SvgTextOf (record_bytes form1 m c) text
of-record m c text passes e = is_record (record { m = m; c = c; storable = passes-storable m c passes; same = refl }) e

cubic-text : SvgTextOf (record_bytes form1 3 curve_a) (quoted "M 0 0 C 0 8 8 8 8 0\n")
unfolding drawn_text curve_a check_number draw_then clamp_then span_of mean end_row clamped_knot clamped_number all_whole clamped clamps_whole cut_then insertable_each_then inserted_each lacking ends_from high_knots keep up_from span_count checked_then degree_ok point_count_ok knot_count_ok rises_from knot_order_ok ends_ok occurrences repeats_most repeats_within repeats_ok on_grid all_on_grid range_ok divides entries four_from piece_of pieces pairs_text segment_text segments_text move_text path_text digits_of decimal
cubic-text = of-record 3 curve_a (quoted "M 0 0 C 0 8 8 8 8 0\n") refl refl

-- the point where it is cut is (6, 8)
quadratics-text : SvgTextOf (record_bytes form1 2 (curve_b 8)) (quoted "M 0 0 Q 4 8 6 8 Q 8 8 12 0\n")
unfolding drawn_text curve_b check_number draw_then clamp_then span_of mean end_row clamped_knot clamped_number all_whole clamped clamps_whole cut_then insertable_each_then inserted_each lacking ends_from high_knots keep up_from span_count checked_then degree_ok point_count_ok knot_count_ok rises_from knot_order_ok ends_ok occurrences repeats_most repeats_within repeats_ok on_grid all_on_grid range_ok strictly_inside divides knots_up_to insertion_span inserted_knots weighted_sum weight inserted_point inserted_points whole_from whole_points value_ok place_ok whole_ok insertable_then entries four_from piece_of pieces pairs_text segment_text segments_text move_text path_text digits_of decimal
quadratics-text = of-record 2 (curve_b 8) (quoted "M 0 0 Q 4 8 6 8 Q 8 8 12 0\n") refl refl

-- with (4, 7) it would be (6, 7.5)
odd-text : SvgTextOf (record_bytes form1 2 (curve_b 7)) (quoted "refused 11\n")
unfolding drawn_text curve_b check_number draw_then clamp_then span_of mean end_row clamped_knot clamped_number all_whole clamped clamps_whole cut_then insertable_each_then inserted_each lacking ends_from high_knots keep up_from span_count checked_then degree_ok point_count_ok knot_count_ok rises_from knot_order_ok ends_ok occurrences repeats_most repeats_within repeats_ok on_grid all_on_grid range_ok strictly_inside divides knots_up_to insertion_span inserted_knots weighted_sum weight inserted_point inserted_points whole_from whole_points value_ok place_ok whole_ok insertable_then entries four_from piece_of pieces pairs_text segment_text segments_text move_text path_text digits_of decimal one_number
odd-text = of-record 2 (curve_b 7) (quoted "refused 11\n") refl refl

-- an open start, and (4, y) for the second point: the copy's first point is the mean of this one and (0, 0)
curve_open : ℕ → Lists
curve_open y = lists (0 ∷ 1 ∷ 2 ∷ 3 ∷ 3 ∷ 3 ∷ []) (pos 0 ∷ pos 4 ∷ pos 8 ∷ []) (pos 0 ∷ pos y ∷ pos 0 ∷ [])

open-text : SvgTextOf (record_bytes form1 2 (curve_open 8)) (quoted "M 2 4 Q 4 8 8 0\n")
unfolding drawn_text curve_open check_number draw_then clamp_then span_of mean end_row clamped_knot clamped_number all_whole clamped clamps_whole cut_then insertable_each_then inserted_each lacking ends_from high_knots keep up_from span_count checked_then degree_ok point_count_ok knot_count_ok rises_from knot_order_ok ends_ok occurrences repeats_most repeats_within repeats_ok on_grid all_on_grid range_ok divides entries four_from piece_of pieces pairs_text segment_text segments_text move_text path_text digits_of decimal
open-text = of-record 2 (curve_open 8) (quoted "M 2 4 Q 4 8 8 0\n") refl refl

-- with (4, 7) it would be (2, 3.5)
open-odd-text : SvgTextOf (record_bytes form1 2 (curve_open 7)) (quoted "refused 11\n")
unfolding drawn_text curve_open check_number draw_then clamp_then span_of mean end_row clamped_number all_whole clamps_whole checked_then degree_ok point_count_ok knot_count_ok rises_from knot_order_ok ends_ok occurrences repeats_most repeats_within repeats_ok on_grid all_on_grid range_ok divides digits_of decimal one_number
open-odd-text = of-record 2 (curve_open 7) (quoted "refused 11\n") refl refl

-- no bytes at all end where the degree's tag is due
no_record : IsRecord form1 [] → ⊥
no_record w = omega (arith, ap length w.same, length-record form1 w.m w.c)

empty-text : SvgTextOf [] (quoted "refused 16 at 0\n")
unfolding curve_a check_number checked_then degree_ok point_count_ok knot_count_ok rises_from knot_order_ok ends_ok occurrences repeats_most repeats_within repeats_ok on_grid all_on_grid range_ok digits_of decimal one_number two_numbers
empty-text = is_broken (ends_early no_record (record_bytes form1 3 curve_a, record { m = 3; c = curve_a; storable = passes-storable 3 curve_a refl; same = refl })) refl
