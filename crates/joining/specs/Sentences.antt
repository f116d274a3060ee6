-- Joining's rows of the heading "Numbers of refusal", each as a sentence over all entries: it holds where the row applies.
use Rattle.std.specs.Prelude.{List, [], ◌∷◌, ◌⊎◌, ◌≡◌, ℕ, suc, ◌≤◌, ◌<◌, length, get_or}
use Rattle.refusal.specs.Chain.{Row, row, AnswersFirst}
use Rattle.curve.specs.Lists.{Lists}
use Rattle.grid.specs.Limits.{knot_most, spline_points_least, spline_points_most}
use Rattle.curve.specs.Sentences.{RoomWrong}
use Rattle.checked.specs.Sentences.{RangeWrong}
use Rattle.spline_pieces.specs.Sentences.{NotWhole}
use Rattle.joined_curve.specs.Curve.{inner_thrice}
use Rattle.joining.specs.SplinePoints.{SplinePoints}
use Rattle.joining.specs.Answer.{joined_lists, join_number}

-- some parameter is above 16,383, or not below the next one
abbrev pub ParametersWrong : List ℕ → Type 0
ParametersWrong ss =
    (k : ℕ) × (k < length ss) × ((knot_most < get_or ss k 0) ⊎ ((suc k < length ss) × (get_or ss (suc k) 0 ≤ get_or ss k 0)))

-- a list of x, y or their tangents is not as long as the list of the parameters
abbrev pub ListsUnequal : SplinePoints → Type 0
ListsUnequal s =
    ((length s.xs ≡ length s.params → ⊥) ⊎ (length s.ys ≡ length s.params → ⊥) ⊎ (length s.dxs ≡ length s.params → ⊥))
    ⊎ (length s.dys ≡ length s.params → ⊥)

-- row 17: one spline point or none, or more than 342; five lists that are not equally long; a parameter above 16,383, or not above the one before it
abbrev pub SplinePointsWrong : SplinePoints → Type 0
SplinePointsWrong s =
    ((length s.params < spline_points_least) ⊎ (spline_points_most < length s.params)) ⊎ ListsUnequal s ⊎ ParametersWrong s.params

-- the rows in the order of joining: 7 for points and tangents, 11 and 18 for all four points of each piece, which are those of the curve with the meeting
-- points, and 15 for the three lent lists against the result, in which an inner parameter stands `inner` times
abbrev pub join_rows : ℕ → SplinePoints → Lists → List Row
join_rows inner s lent =
    row 17 (SplinePointsWrong s)
    ∷ row 7 (RangeWrong s.xs s.ys ⊎ RangeWrong s.dxs s.dys)
    ∷ row 11 (NotWhole s.params s.dxs ⊎ NotWhole s.params s.dys)
    ∷ row 18 (RangeWrong (joined_lists inner_thrice s).xs (joined_lists inner_thrice s).ys)
    ∷ row 15 (RoomWrong (joined_lists inner s) lent)
    ∷ []

-- joining, with either number, answers n exactly when row n applies and none before it does, and 0 exactly when none applies
abbrev pub JoinAnswersFirst : Type 0
JoinAnswersFirst = (inner : ℕ) (s : SplinePoints) (lent : Lists) → AnswersFirst (join_number inner s lent) (join_rows inner s lent)
