-- What the joining call answers (headings "Joining spline points", "Numbers of refusal"). `inner` says how often a knot stands where two pieces meet.
use Rattle.std.specs.Prelude.{◌&&◌, Result, ◌≡◌, ℕ, length}
use Rattle.refusal.specs.Answers.{Answers}
use Rattle.refusal.specs.declared.Refusal.{Refusal}
use Rattle.refusal.specs.Judging.{unless}
use Rattle.refusal.specs.Numbers.{range_refused, not_whole_refused, spline_points_refused, joined_range_refused}
use Rattle.grid.specs.Rows.{range_ok}
use Rattle.curve.specs.Lists.{Lists, lists}
use Rattle.curve.specs.HandingOver.{room_number, handed_over}
use Rattle.spline_pieces.specs.Pieces.{all_whole, all_pieces_on_grid}
use Rattle.joined_curve.specs.Curve.{joined_knots, joined_points}
use Rattle.joining.specs.SplinePoints.{SplinePoints, pieces_x, pieces_y, spline_points_ok}

abbrev pub joined_lists : ℕ → SplinePoints → Lists  -- the joined curve: both axes have the same knots
joined_lists inner s = lists (joined_knots inner (pieces_x s)) (joined_points inner (pieces_x s)) (joined_points inner (pieces_y s))

-- 17, 7, 11, 18 in this order, and then `next`: 11 over all pieces of both axes comes before 18 of any
unfoldable pub joinable_then : SplinePoints → ℕ → ℕ
joinable_then s next =
    unless (spline_points_ok s) spline_points_refused
    (unless (range_ok s.xs s.ys && range_ok s.dxs s.dys) range_refused
    (unless (all_whole (pieces_x s) && all_whole (pieces_y s)) not_whole_refused
    (unless (all_pieces_on_grid (pieces_x s) && all_pieces_on_grid (pieces_y s)) joined_range_refused next)))

abbrev pub join_number : ℕ → SplinePoints → Lists → ℕ  -- the number of refusal, or 0: those of the spline points, then 15
join_number inner s lent = joinable_then s (room_number (joined_lists inner s) lent)

-- the answer, how many points the joined curve has, and this curve handed over; or the number alone
pub record JoinOutcome (inner : ℕ) (s : SplinePoints) (before : Lists) (answer : Result ℕ Refusal) (now : Lists) : Type 0 where
  pub answers : Answers (join_number inner s before) (length (joined_lists inner s).xs) answer
  pub hands : now ≡ handed_over (join_number inner s before) (joined_lists inner s) before
