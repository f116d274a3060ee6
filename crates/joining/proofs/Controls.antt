-- Closed cases, worked by hand: each row of joining once, in its order, and each limit on both sides (heading "Numbers of refusal").
use mathlib.Core.Bool.{true, false}
use mathlib.Core.List.{[], ◌∷◌}
use mathlib.Core.Path.{◌≡◌, refl, sym, ◌∙◌}
use Prim.Native.Nat.{ℕ}
use lib.IntN.{ℤ, pos, negsuc}
use lib.ListN.{replicate}
use Rattle.std.specs.Prelude.{Result, Ok, Err}
use Rattle.refusal.specs.declared.Refusal.{Refusal}
use Rattle.refusal.specs.declared.Refusal.TheVariants.{JoinedRange}
use Rattle.refusal.proofs.AnswerLaws.{answers-one}
use Rattle.signed.specs.Division.{divides}
use Rattle.curve.specs.Lists.{Lists, lists}
use Rattle.curve.specs.HandingOver.{enough}
use Rattle.grid.specs.Rows.{on_grid, all_on_grid, range_ok}
use Rattle.spline_pieces.specs.Pieces.{pieces, pieces_from, piece_at, piece_of, third, third_whole, every_piece, piece_on_grid}
use Rattle.joined_curve.specs.Curve.{inner_twice, inner_thrice, knots_after, joined_knots, points_after, joined_points}
use Rattle.joining.specs.SplinePoints.{SplinePoints, spline_points, spline_count_ok, counts_agree, rises_strictly_from, spline_points_ok}
use Rattle.joining.specs.Answer.{joinable_then, join_number, JoinOutcome}

-- 2 to 342 spline points
counts : spline_count_ok 1 ∷ spline_count_ok 2 ∷ spline_count_ok 342 ∷ spline_count_ok 343 ∷ [] ≡ false ∷ true ∷ true ∷ false ∷ []
unfolding spline_count_ok
counts = refl

-- parameters 0 12, points from (x,0) to (12,0), tangents (d,0) at both
abbrev from : ℕ → ℤ → ℤ → SplinePoints
from s x d = spline_points (0 ∷ s ∷ []) (x ∷ pos 12 ∷ []) (pos 0 ∷ pos 0 ∷ []) (d ∷ d ∷ []) (pos 0 ∷ pos 0 ∷ [])

-- lists for one piece, and with one place of x too few
abbrev room : ℕ → Lists
room places = lists (replicate 8 0) (replicate places (pos 0)) (replicate 4 (pos 0))

answers : join_number inner_thrice (from 12 (pos 0) (pos 1)) (room 4)
    -- 17: one parameter twice, one that falls, the largest, one above it, a list too long
    ∷ join_number inner_thrice (from 0 (pos 0) (pos 1)) (room 4)
    ∷ join_number inner_thrice (spline_points (5 ∷ 3 ∷ []) (pos 0 ∷ pos 0 ∷ []) (pos 0 ∷ pos 0 ∷ []) (pos 0 ∷ pos 0 ∷ []) (pos 0 ∷ pos 0 ∷ [])) (room 4)
    ∷ join_number inner_thrice (from 16383 (pos 0) (pos 0)) (room 4)
    ∷ join_number inner_thrice (from 16384 (pos 0) (pos 0)) (room 4)
    ∷ join_number inner_thrice (spline_points (0 ∷ 3 ∷ []) (pos 0 ∷ pos 0 ∷ []) (pos 0 ∷ pos 0 ∷ []) (pos 0 ∷ pos 0 ∷ []) (pos 0 ∷ pos 0 ∷ pos 0 ∷ [])) (room 4)
    -- 7 for a point and for a tangent, though the tangent's third is not whole
    ∷ join_number inner_thrice (from 4 (pos 262145) (pos 1)) (room 4)
    ∷ join_number inner_thrice (from 4 (pos 0) (negsuc 262144)) (room 4)
    -- 11, though a point would be off the grid as well
    ∷ join_number inner_thrice (from 4 (pos 262144) (pos 1)) (room 3)
    -- 18, though there is no room
    ∷ join_number inner_thrice (from 3 (pos 262144) (pos 1)) (room 3)
    -- 15
    ∷ join_number inner_thrice (from 12 (pos 0) (pos 1)) (room 3)
    ∷ []
    ≡ 0 ∷ 17 ∷ 17 ∷ 0 ∷ 17 ∷ 17 ∷ 7 ∷ 7 ∷ 11 ∷ 18 ∷ 15 ∷ []
unfolding joinable_then spline_points_ok spline_count_ok counts_agree rises_strictly_from range_ok all_on_grid on_grid pieces pieces_from piece_at piece_of third third_whole divides every_piece piece_on_grid enough joined_knots knots_after joined_points points_after
answers = refl

-- three spline points at 0 3 9, of which the last has this x and these tangents
abbrev three : ℤ → ℤ → SplinePoints
three x d = spline_points (0 ∷ 3 ∷ 9 ∷ []) (pos 0 ∷ pos 6 ∷ x ∷ []) (pos 0 ∷ negsuc 5 ∷ pos 0 ∷ []) (pos 1 ∷ pos 1 ∷ d ∷ []) (negsuc 1 ∷ pos 0 ∷ pos 5 ∷ [])

-- so many places for knots, x and y
abbrev places : ℕ → ℕ → ℕ → Lists
places knots xs ys = lists (replicate knots 0) (replicate xs (pos 0)) (replicate ys (pos 0))

-- 15 goes by the result: 10 knots and 6 points where the meeting point drops out, 11 and 7 where it stays; 18 is the same for both
either-answers : join_number inner_twice (three (pos 12) (pos 1)) (places 10 6 6)
    ∷ join_number inner_twice (three (pos 12) (pos 1)) (places 9 6 6)
    ∷ join_number inner_twice (three (pos 12) (pos 1)) (places 10 5 6)
    ∷ join_number inner_twice (three (pos 12) (pos 1)) (places 10 6 5)
    ∷ join_number inner_thrice (three (pos 12) (pos 1)) (places 10 6 6)
    ∷ join_number inner_thrice (three (pos 12) (pos 1)) (places 11 7 7)
    ∷ join_number inner_twice (three (pos 262143) (negsuc 0)) (places 10 6 6)
    ∷ join_number inner_thrice (three (pos 262143) (negsuc 0)) (places 11 7 7)
    ∷ []
    ≡ 0 ∷ 15 ∷ 15 ∷ 15 ∷ 15 ∷ 0 ∷ 18 ∷ 18 ∷ []
unfolding joinable_then spline_points_ok spline_count_ok counts_agree rises_strictly_from range_ok all_on_grid on_grid pieces pieces_from piece_at piece_of third third_whole divides every_piece piece_on_grid enough joined_knots knots_after joined_points points_after
either-answers = refl

-- joining with room for one piece has this answer, leaves this in the lent lists, and ends in no other way
abbrev Joins : SplinePoints → Result ℕ Refusal → Lists → Type 0
Joins s answer now =
    JoinOutcome inner_thrice s (room 4) answer now
    × ((other : Result ℕ Refusal) (then : Lists) → JoinOutcome inner_thrice s (room 4) other then → (other ≡ answer) × (then ≡ now))

joins : (s : SplinePoints) (answer : Result ℕ Refusal) (now : Lists) → JoinOutcome inner_thrice s (room 4) answer now → Joins s answer now
joins s answer now o = (o, λ other then p. (answers-one _ _ other answer p.answers o.answers, p.hands ∙ sym o.hands))

-- the one piece from (0,0) to (12,0): 4 points; 18 where a point between would be off the grid
straight : Lists
straight =
    lists (0 ∷ 0 ∷ 0 ∷ 0 ∷ 12 ∷ 12 ∷ 12 ∷ 12 ∷ []) (pos 0 ∷ pos 4 ∷ pos 8 ∷ pos 12 ∷ []) (pos 0 ∷ pos 0 ∷ pos 0 ∷ pos 0 ∷ [])

joined-or-refused : Joins (from 12 (pos 0) (pos 1)) (Ok 4) straight × Joins (from 3 (pos 262144) (pos 1)) (Err JoinedRange) (room 4)
unfolding joinable_then spline_points_ok spline_count_ok counts_agree rises_strictly_from range_ok all_on_grid on_grid pieces pieces_from piece_at piece_of third third_whole divides every_piece piece_on_grid enough joined_knots knots_after joined_points points_after straight
joined-or-refused = (
  joins (from 12 (pos 0) (pos 1)) (Ok 4) straight (record { answers = (refl, refl); hands = refl }),
  joins (from 3 (pos 262144) (pos 1)) (Err JoinedRange) (room 4) (record { answers = (refl, tt); hands = refl }),
)
