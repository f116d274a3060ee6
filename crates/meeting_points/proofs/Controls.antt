-- Closed cases, worked by hand: parameters 0 3 9, so that one value is inner, with points 0 -6 12 and tangents 1 -2 3 on x, points 4 -2 7 and
-- tangents 0 1 -1 on y.
use mathlib.Core.List.{List, [], ◌∷◌}
use mathlib.Core.Path.{◌≡◌, refl}
use Prim.Native.Nat.{ℕ}
use lib.IntN.{pos, negsuc}
use Rattle.signed.specs.Division.{divides}
use Rattle.curve.specs.Lists.{Lists, lists}
use Rattle.curve.specs.HandingOver.{enough}
use Rattle.grid.specs.Rows.{degree_ok, point_count_ok, knot_count_ok, rises_from, knot_order_ok, ends_ok, occurrences, repeats_most, repeats_within, repeats_ok, on_grid, all_on_grid, range_ok}
use Rattle.grid.specs.Check.{checked_then}
use Rattle.span.specs.Span.{strictly_inside}
use Rattle.insertion.specs.Insertion.{knots_up_to, insertion_span, inserted_knots, weighted_sum, weight, inserted_point, entries, inserted_points, whole_from, whole_points}
use Rattle.insertion.specs.Judged.{value_ok, place_ok, whole_ok, insertable_then, insertion_number}
use Rattle.spline_pieces.specs.Pieces.{Piece, third, piece_of, piece_at, pieces_from, pieces}
use Rattle.joined_curve.specs.Curve.{inner_twice, inner_thrice, knots_after, joined_knots, points_after, joined_points}
use Rattle.meeting_points.specs.Inserting.{inner_parameters, InsertsEach}

abbrev params : List ℕ
params = 0 ∷ 3 ∷ 9 ∷ []

abbrev on_x : List Piece
on_x = pieces params (pos 0 ∷ negsuc 5 ∷ pos 12 ∷ []) (pos 1 ∷ negsuc 1 ∷ pos 3 ∷ [])

abbrev on_y : List Piece
on_y = pieces params (pos 4 ∷ negsuc 1 ∷ pos 7 ∷ []) (pos 0 ∷ pos 1 ∷ negsuc 0 ∷ [])

-- the curve without the meeting point (-6, -2), and the curve with it
without_meeting : Lists
without_meeting = lists (0 ∷ 0 ∷ 0 ∷ 0 ∷ 3 ∷ 3 ∷ 9 ∷ 9 ∷ 9 ∷ 9 ∷ [])
    (pos 0 ∷ pos 1 ∷ negsuc 3 ∷ negsuc 9 ∷ pos 6 ∷ pos 12 ∷ [])
    (pos 4 ∷ pos 4 ∷ negsuc 2 ∷ pos 0 ∷ pos 9 ∷ pos 7 ∷ [])

with_meeting : Lists
with_meeting = lists (0 ∷ 0 ∷ 0 ∷ 0 ∷ 3 ∷ 3 ∷ 3 ∷ 9 ∷ 9 ∷ 9 ∷ 9 ∷ [])
    (pos 0 ∷ pos 1 ∷ negsuc 3 ∷ negsuc 5 ∷ negsuc 9 ∷ pos 6 ∷ pos 12 ∷ [])
    (pos 4 ∷ pos 4 ∷ negsuc 2 ∷ negsuc 1 ∷ pos 0 ∷ pos 9 ∷ pos 7 ∷ [])

joined-twice : lists (joined_knots inner_twice on_x) (joined_points inner_twice on_x) (joined_points inner_twice on_y) ≡ without_meeting
unfolding without_meeting knots_after joined_knots points_after joined_points third piece_of piece_at pieces_from pieces
joined-twice = refl

joined-thrice : lists (joined_knots inner_thrice on_x) (joined_points inner_thrice on_x) (joined_points inner_thrice on_y) ≡ with_meeting
unfolding with_meeting knots_after joined_knots points_after joined_points third piece_of piece_at pieces_from pieces
joined-thrice = refl

-- inserting 3 is accepted and gives the meeting point back: -6 = (3·(-10) + 6·(-4)) / 9, and -2 = (3·0 + 6·(-3)) / 9
meeting-inserted : InsertsEach 3 (inner_parameters params) without_meeting with_meeting
unfolding without_meeting with_meeting inner_parameters enough strictly_inside divides degree_ok point_count_ok knot_count_ok rises_from knot_order_ok ends_ok occurrences repeats_most repeats_within repeats_ok on_grid all_on_grid range_ok checked_then knots_up_to insertion_span inserted_knots weighted_sum weight inserted_point entries inserted_points whole_from whole_points value_ok place_ok whole_ok insertable_then insertion_number
meeting-inserted = (refl, refl)

-- of four parameters two are inner; of two none is
inner-of-four : inner_parameters (0 ∷ 3 ∷ 9 ∷ 12 ∷ []) ≡ 3 ∷ 9 ∷ []
unfolding inner_parameters
inner-of-four = refl

inner-of-two : inner_parameters (0 ∷ 3 ∷ []) ≡ []
unfolding inner_parameters
inner-of-two = refl
