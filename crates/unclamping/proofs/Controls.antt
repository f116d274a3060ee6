-- Closed cases of unclamping, worked by hand.
use mathlib.Core.Bool.{true, false}
use mathlib.Core.List.{[], ◌∷◌}
use mathlib.Core.Path.{◌≡◌, refl}
use lib.IntN.{pos, negsuc}
use Rattle.signed.specs.Division.{divides}
use Rattle.curve.specs.Lists.{lists}
use Rattle.curve.specs.HandingOver.{enough}
use Rattle.grid.specs.Rows.{degree_ok, point_count_ok, knot_count_ok, rises_from, knot_order_ok, ends_ok, occurrences, repeats_most, repeats_within, repeats_ok, on_grid, all_on_grid, range_ok}
use Rattle.grid.specs.Check.{checked_then}
use Rattle.insertion.specs.Insertion.{entries}
use Rattle.clamping.specs.Clamping.{all_whole}
use Rattle.unclamping.specs.Unclamping.{end_clamped, open_knot, knots_fit, open_second, open_first, open_number, open_points, unclamped, opens_on, opens, unclamp_number}

-- degree 1: the last span is 3 wide, and no point changes
one : unclamped 1 (lists (0 ∷ 0 ∷ 2 ∷ 5 ∷ 5 ∷ []) (pos 1 ∷ pos 7 ∷ pos 4 ∷ []) (pos 0 ∷ pos 2 ∷ negsuc 5 ∷ []))
    ≡ lists (0 ∷ 0 ∷ 2 ∷ 5 ∷ 8 ∷ []) (pos 1 ∷ pos 7 ∷ pos 4 ∷ []) (pos 0 ∷ pos 2 ∷ negsuc 5 ∷ [])
unfolding entries open_knot open_second open_first open_number open_points unclamped
one = refl

-- degree 2: the last point is 2·9 - 5 = 13 on x, 2·1 + 2 = 4 on y
two : unclamped 2 (lists (0 ∷ 0 ∷ 0 ∷ 2 ∷ 4 ∷ 4 ∷ 4 ∷ []) (pos 1 ∷ pos 3 ∷ pos 5 ∷ pos 9 ∷ []) (pos 0 ∷ pos 4 ∷ negsuc 1 ∷ pos 1 ∷ []))
    ≡ lists (0 ∷ 0 ∷ 0 ∷ 2 ∷ 4 ∷ 6 ∷ 8 ∷ []) (pos 1 ∷ pos 3 ∷ pos 5 ∷ pos 13 ∷ []) (pos 0 ∷ pos 4 ∷ negsuc 1 ∷ pos 4 ∷ [])
unfolding entries open_knot open_second open_first open_number open_points unclamped
two = refl

-- degree 3: the last span is 2 wide, the last two are 3 wide; on x the last point but one is 4 + 2·(4 - 1)/3 = 6 and the last 6·6 - 3·4 - 2·6 = 12, on y
-- -3 - 2·3/3 = -5 and -6 + 9 + 10 = 13; three lists as long as these have room
three : unclamped 3 (lists (0 ∷ 0 ∷ 0 ∷ 0 ∷ 1 ∷ 3 ∷ 3 ∷ 3 ∷ 3 ∷ []) (pos 0 ∷ pos 0 ∷ pos 1 ∷ pos 4 ∷ pos 6 ∷ []) (pos 2 ∷ pos 1 ∷ pos 0 ∷ negsuc 2 ∷ negsuc 0 ∷ []))
    ≡ lists (0 ∷ 0 ∷ 0 ∷ 0 ∷ 1 ∷ 3 ∷ 5 ∷ 7 ∷ 9 ∷ []) (pos 0 ∷ pos 0 ∷ pos 1 ∷ pos 6 ∷ pos 12 ∷ []) (pos 2 ∷ pos 1 ∷ pos 0 ∷ negsuc 4 ∷ pos 13 ∷ [])
unfolding entries open_knot open_second open_first open_number open_points unclamped
three = refl

three-accepted : unclamp_number 3 (lists (0 ∷ 0 ∷ 0 ∷ 0 ∷ 1 ∷ 3 ∷ 3 ∷ 3 ∷ 3 ∷ []) (pos 0 ∷ pos 0 ∷ pos 1 ∷ pos 4 ∷ pos 6 ∷ []) (pos 2 ∷ pos 1 ∷ pos 0 ∷ negsuc 2 ∷ negsuc 0 ∷ []))
    (lists (0 ∷ 0 ∷ 0 ∷ 0 ∷ 0 ∷ 0 ∷ 0 ∷ 0 ∷ 0 ∷ []) (pos 0 ∷ pos 0 ∷ pos 0 ∷ pos 0 ∷ pos 0 ∷ []) (pos 0 ∷ pos 0 ∷ pos 0 ∷ pos 0 ∷ pos 0 ∷ []))
    ≡ 0
unfolding
    divides enough degree_ok point_count_ok knot_count_ok rises_from knot_order_ok ends_ok occurrences repeats_most repeats_within repeats_ok on_grid all_on_grid range_ok checked_then
    entries all_whole end_clamped open_knot knots_fit open_second open_first open_number open_points unclamped opens_on opens unclamp_number
three-accepted = refl

-- of degree 3 over the same knots, where the last point but one would be 1 + 2·1/3; nothing is lent, but 23 comes first
third : unclamp_number 3 (lists (0 ∷ 0 ∷ 0 ∷ 0 ∷ 1 ∷ 3 ∷ 3 ∷ 3 ∷ 3 ∷ []) (pos 0 ∷ pos 0 ∷ pos 0 ∷ pos 1 ∷ pos 6 ∷ []) (pos 0 ∷ pos 0 ∷ pos 0 ∷ pos 0 ∷ pos 0 ∷ [])) (lists [] [] [])
    ≡ 23
unfolding
    divides enough degree_ok point_count_ok knot_count_ok rises_from knot_order_ok ends_ok occurrences repeats_most repeats_within repeats_ok on_grid all_on_grid range_ok checked_then
    entries all_whole end_clamped open_knot knots_fit open_second open_first open_number open_points unclamped opens_on opens unclamp_number
third = refl

-- an end that is not clamped
not-clamped : opens 1 (lists (0 ∷ 0 ∷ 2 ∷ 5 ∷ 6 ∷ []) (pos 1 ∷ pos 7 ∷ pos 4 ∷ []) (pos 0 ∷ pos 2 ∷ pos 5 ∷ [])) ≡ false
unfolding end_clamped opens
not-clamped = refl

-- a new knot at 16,383, and one at 16,384
knot-at-limit : opens 1 (lists (1 ∷ 1 ∷ 8192 ∷ 8192 ∷ []) (pos 0 ∷ pos 1 ∷ []) (pos 0 ∷ pos 1 ∷ [])) ≡ true
unfolding divides on_grid all_on_grid entries all_whole end_clamped open_knot knots_fit open_second open_first open_number open_points opens_on opens
knot-at-limit = refl

knot-past-limit : opens 1 (lists (0 ∷ 0 ∷ 8192 ∷ 8192 ∷ []) (pos 0 ∷ pos 1 ∷ []) (pos 0 ∷ pos 1 ∷ [])) ≡ false
unfolding end_clamped open_knot knots_fit opens
knot-past-limit = refl

-- a point at the edge of the grid, and one past it
point-at-edge : opens_on 2 (0 ∷ 0 ∷ 0 ∷ 4 ∷ 4 ∷ 4 ∷ []) (pos 0 ∷ pos 262142 ∷ pos 262143 ∷ []) ≡ true
unfolding divides on_grid all_on_grid entries all_whole open_second open_first open_number open_points opens_on
point-at-edge = refl

point-past-edge : opens_on 2 (0 ∷ 0 ∷ 0 ∷ 4 ∷ 4 ∷ 4 ∷ []) (pos 0 ∷ pos 262143 ∷ pos 262144 ∷ []) ≡ false
unfolding divides on_grid all_on_grid entries all_whole open_second open_first open_number open_points opens_on
point-past-edge = refl
