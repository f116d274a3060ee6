-- A refusal leaves the lists; where there is room the three lists are written, each by its own call.
use Prim.Native.Nat.{◌+◌, ◌-◌, ◌*◌, ◌≤◌}
use native.Mathlib.Omega.{arith}
use lib.ListN.{length}
use Rattle.std.proofs.Common.{rules}
use Rattle.refusal.proofs.AnswerLaws.{required-passed}
use Rattle.curve.proofs.ListLaws.{lists-same}
use Rattle.curve.proofs.RoomLaws.{enough-each}
use Rattle.joined_curve.specs.Curve.{inner_of}
use Rattle.joined_curve.proofs.CurveLaws.{either_of}
use Rattle.joining.specs.SplinePoints.{spline_points}
use Rattle.joining.proofs.StandingLaws.{Joinable, joinable-of}
use Rattle.joining.proofs.AnswerLaws.{outcome_cramped, outcome_joined}
use Rattle.joining.proofs.writing.write_joined.Goals.{Start, In_ok-room}
use Rattle.joining.proofs.writing.write_joined.Goals as goal

-- none of 17, 7, 11, 18 applies
joinable : (c : Start) → let p = c.args.points in
    Joinable (spline_points p.x.params.now p.x.ps.now p.y.ps.now p.x.ds.now p.y.ds.now)
joinable c = joinable-of _ 0 c.args.points.passes

pub returns-in_err-room : goal.returns-in_err-room
returns-in_err-room c = record {
  answer = outcome_cramped (inner_of c.args.meeting) _ _ (either_of c.args.meeting).0 c.args.points.passes _ c.in_err-room.field-0.0 (search rules)
      (rw c.inner.ensures.answer at c.in_err-room.ensures.answer);
}

-- each lent list is long enough
fits : (c : In_ok-room) → let a = c.args in
    let points = inner_of a.meeting * (length a.points.x.params.now - 2) + 4 in
    (points + 4 ≤ length a.into.knots.now) × (points ≤ length a.into.xs.now) × (points ≤ length a.into.ys.now)
fits c = enough-each _ _ _ _ _ _ (rw c.inner.ensures.answer at (required-passed _ _ _ c.in_ok-room.ensures.answer))

pub write_knots-requires : goal.write_knots-requires
write_knots-requires c = record { params_in_bounds = omega (arith, (fits (goal.at.write_knots-requires c).In_ok-room).0) }

pub write_points-requires-clause-points_value : goal.write_points-requires-clause-points_value
write_points-requires-clause-points_value c = (joinable (goal.at.write_points-requires-clause-points_value c).Start).pieces-on-grid.0

pub write_points-requires-clause-params_in_bounds : goal.write_points-requires-clause-params_in_bounds
write_points-requires-clause-params_in_bounds c = (fits (goal.at.write_points-requires-clause-params_in_bounds c).In_ok-room).1

pub write_points-requires-2-clause-points_value : goal.write_points-requires-2-clause-points_value
write_points-requires-2-clause-points_value c =
    rw c.args.points.same (joinable (goal.at.write_points-requires-2-clause-points_value c).Start).pieces-on-grid.1

pub write_points-requires-2-clause-params_in_bounds : goal.write_points-requires-2-clause-params_in_bounds
write_points-requires-2-clause-params_in_bounds c =
    rw c.args.points.same (fits (goal.at.write_points-requires-2-clause-params_in_bounds c).In_ok-room).2

pub returns : goal.returns
returns c = record {
  answer = let p = c.args.points in
      rw c.inner.ensures.answer
      (outcome_joined (inner_of c.args.meeting) _ _ (either_of c.args.meeting).0 p.passes
      (rw c.inner.ensures.answer at (required-passed _ _ _ c.in_ok-room.ensures.answer)) _
      (lists-same (c.write_knots.ensures.result p.x.ps.now p.x.ds.now) c.write_points.ensures.result (rw p.same at c.write_points-2.ensures.result)));
}
