-- What 17 and 7 let pass stands on each axis.
use mathlib.Core.Path.{sym, ◌∙◌}
use Rattle.joining.specs.SplinePoints.{spline_points}
use Rattle.joining.proofs.StandingLaws.{standing-of, points-on-grid}
use Rattle.joining.proofs.joinable.SplinePoints.check.Goals as goal

pub invariant_of-x : goal.invariant_of-x
invariant_of-x c =
    let a = c.args in
    let s = spline_points a.params.now a.xs.now a.ys.now a.dxs.now a.dys.now in record {
      standing = (standing-of s (sym c.spline_points_ok.ensures.answer ∙ c.if-not-spline_points_ok.false)).x-axis;
      in_range = (points-on-grid s (sym c.in_range.ensures.answer ∙ c.if-not-in_range.false)).0;
    }

pub invariant_of-y : goal.invariant_of-y
invariant_of-y c =
    let a = c.args in
    let s = spline_points a.params.now a.xs.now a.ys.now a.dxs.now a.dys.now in record {
      standing = (standing-of s (sym c.spline_points_ok.ensures.answer ∙ c.if-not-spline_points_ok.false)).y-axis;
      in_range = (points-on-grid s (sym c.in_range.ensures.answer ∙ c.if-not-in_range.false)).1;
    }
