-- Closed case, worked by hand (heading "Joining spline points"): parameters 0 3 9, points 0 -6 12, tangents 1 -2 3.
use mathlib.Core.List.{List, [], ◌∷◌}
use mathlib.Core.Path.{◌≡◌, refl}
use lib.IntN.{pos, negsuc}
use Rattle.spline_pieces.specs.Pieces.{Piece, pieces, pieces_from, piece_at, piece_of, third}
use Rattle.joined_curve.specs.Curve.{inner_twice, inner_thrice, knots_after, joined_knots, points_after, joined_points}

abbrev two : List Piece
two = pieces (0 ∷ 3 ∷ 9 ∷ []) (pos 0 ∷ negsuc 5 ∷ pos 12 ∷ []) (pos 1 ∷ negsuc 1 ∷ pos 3 ∷ [])

-- ends four times, the inner parameter twice or three times
twice-knots-of-two : joined_knots inner_twice two ≡ 0 ∷ 0 ∷ 0 ∷ 0 ∷ 3 ∷ 3 ∷ 9 ∷ 9 ∷ 9 ∷ 9 ∷ []
unfolding joined_knots knots_after pieces pieces_from piece_at piece_of third
twice-knots-of-two = refl

knots-of-two : joined_knots inner_thrice two ≡ 0 ∷ 0 ∷ 0 ∷ 0 ∷ 3 ∷ 3 ∷ 3 ∷ 9 ∷ 9 ∷ 9 ∷ 9 ∷ []
unfolding joined_knots knots_after pieces pieces_from piece_at piece_of third
knots-of-two = refl

-- 0, 0 + 3·1/3, -6 - 3·(-2)/3, then -6 or not, -6 + 6·(-2)/3, 12 - 6·3/3, 12
twice-points-of-two : joined_points inner_twice two ≡ pos 0 ∷ pos 1 ∷ negsuc 3 ∷ negsuc 9 ∷ pos 6 ∷ pos 12 ∷ []
unfolding joined_points points_after pieces pieces_from piece_at piece_of third
twice-points-of-two = refl

points-of-two : joined_points inner_thrice two ≡ pos 0 ∷ pos 1 ∷ negsuc 3 ∷ negsuc 5 ∷ negsuc 9 ∷ pos 6 ∷ pos 12 ∷ []
unfolding joined_points points_after pieces pieces_from piece_at piece_of third
points-of-two = refl
