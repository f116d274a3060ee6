-- Closed cases of clamping, worked by hand.
use mathlib.Core.List.{[], ◌∷◌}
use mathlib.Core.Path.{◌≡◌, refl}
use lib.IntN.{pos}
use Rattle.signed.specs.Division.{divides}
use Rattle.curve.specs.Lists.{Lists, lists}
use Rattle.curve.specs.HandingOver.{enough}
use Rattle.span.specs.Span.{span_of}
use Rattle.grid.specs.Rows.{degree_ok, point_count_ok, knot_count_ok, rises_from, knot_order_ok, ends_ok, occurrences, repeats_most, repeats_within, repeats_ok, on_grid, all_on_grid, range_ok}
use Rattle.grid.specs.Check.{checked_then}
use Rattle.insertion.specs.Insertion.{entries}
use Rattle.clamping.specs.EndRows.{mean, end_row}
use Rattle.clamping.specs.Clamping.{clamped_knot, clamped_number, all_whole, clamped, clamps_whole, clamp_then, clamp_number}

-- evenly spaced knots and points on a line: 6·(t - 2) at the mean of the three knots behind it, before and after
line : clamped 3 (lists (0 ∷ 1 ∷ 2 ∷ 3 ∷ 4 ∷ 5 ∷ 6 ∷ 7 ∷ []) (pos 0 ∷ pos 6 ∷ pos 12 ∷ pos 18 ∷ []) (pos 0 ∷ pos 6 ∷ pos 12 ∷ pos 18 ∷ []))
    ≡ lists (3 ∷ 3 ∷ 3 ∷ 3 ∷ 4 ∷ 4 ∷ 4 ∷ 4 ∷ []) (pos 6 ∷ pos 8 ∷ pos 10 ∷ pos 12 ∷ []) (pos 6 ∷ pos 8 ∷ pos 10 ∷ pos 12 ∷ [])
unfolding span_of entries mean end_row clamped_knot clamped_number clamped
line = refl

-- the domain begins at 2, where two knots stand: the first point carries nothing, and goes; the end at 5 has a mean of 8 and 12 for its last point
abbrev doubled : Lists
doubled =
    lists (0 ∷ 1 ∷ 2 ∷ 2 ∷ 3 ∷ 5 ∷ 7 ∷ 9 ∷ []) (pos 9 ∷ pos 0 ∷ pos 4 ∷ pos 8 ∷ pos 12 ∷ []) (pos 9 ∷ pos 1 ∷ pos 1 ∷ pos 1 ∷ pos 1 ∷ [])

abbrev doubled-clamped : Lists
doubled-clamped = lists (2 ∷ 2 ∷ 2 ∷ 3 ∷ 5 ∷ 5 ∷ 5 ∷ []) (pos 0 ∷ pos 4 ∷ pos 8 ∷ pos 10 ∷ []) (pos 1 ∷ pos 1 ∷ pos 1 ∷ pos 1 ∷ [])

fewer : clamped 2 doubled ≡ doubled-clamped
unfolding span_of entries mean end_row clamped_knot clamped_number clamped
fewer = refl

-- what is clamped already comes back
again : clamped 2 doubled-clamped ≡ doubled-clamped
unfolding span_of entries mean end_row clamped_knot clamped_number clamped
again = refl

-- 0 where lists as long as the result are lent; 11 for a mean that is no whole number; 15 where a place for y is lacking
numbers : clamp_number 2 doubled doubled-clamped
    ∷ clamp_number 2 (lists (0 ∷ 1 ∷ 2 ∷ 3 ∷ 4 ∷ 5 ∷ []) (pos 0 ∷ pos 1 ∷ pos 3 ∷ []) (pos 0 ∷ pos 0 ∷ pos 0 ∷ [])) doubled-clamped
    ∷ clamp_number 2 doubled (lists doubled-clamped.knots doubled-clamped.xs (pos 0 ∷ pos 0 ∷ pos 0 ∷ []))
    ∷ []
    ≡ 0 ∷ 11 ∷ 15 ∷ []
unfolding clamp_number clamp_then checked_then degree_ok point_count_ok knot_count_ok rises_from knot_order_ok ends_ok occurrences repeats_most repeats_within repeats_ok on_grid all_on_grid range_ok enough divides span_of entries mean end_row clamped_knot clamped_number all_whole clamps_whole clamped
numbers = refl
