-- A part of a clamp that does not stand is empty. The fronts lie within the lists.
use mathlib.Core.Bool.{not}
use mathlib.Core.Path.{sym, ap}
use Prim.Native.Nat.{◌+◌, ◌≤◌}
use native.Mathlib.Omega.{arith}
use lib.ListN.{length}
use lib.Seq.{length-take-le}
use Rattle.refusal.specs.Answers.{number_of}
use Rattle.refusal.proofs.AnswerLaws.{refused-above_zero}
use Rattle.refusal.proofs.JudgingLaws.{test-failed, test-passed}
use Rattle.curve.specs.Lists.{lists}
use Rattle.curve.proofs.RoomLaws.{enough-each}
use Rattle.clamp_lines.proofs.ClampPartLaws.{put-nothing}
use Rattle.report.proofs.PartLaws.{past-clamps, short-of-points, no_room, room-checked, room-refused}
use Rattle.report.proofs.put_job.Goals.{Else-not-room_for}
use Rattle.report.proofs.put_job.Goals as goal

pub returns-then-not-stands-clause-result : goal.returns-then-not-stands-clause-result
returns-then-not-stands-clause-result c = let a = c.args in let job = a.job in
    put-nothing a.pen.now.out.now a.pen.now.at (past-clamps job.degree job.points job.radius job.clamps (lists a.knots.now a.xs.now a.ys.now) a.sides.now a.k (omega (arith, c.if-k-gt0.true)) (test-failed (ap not c.if-not-stands.true) c.stands.ensures.answer))

pub returns-then-xs-points-clause-result : goal.returns-then-xs-points-clause-result
returns-then-xs-points-clause-result c = let a = c.args in let job = a.job in
    put-nothing a.pen.now.out.now a.pen.now.at (short-of-points job.degree job.points job.radius job.clamps (lists a.knots.now a.xs.now a.ys.now) a.sides.now a.k (omega arith))

pub returns-then-not-room_for-clause-result : goal.returns-then-not-room_for-clause-result
returns-then-not-room_for-clause-result c = let a = c.args in let job = a.job in
    put-nothing a.pen.now.out.now a.pen.now.at (no_room job.degree job.points job.radius job.clamps (lists a.knots.now a.xs.now a.ys.now) a.sides.now a.k (test-failed (ap not c.if-not-room_for.true) c.room_for.ensures.answer))

-- each front is no longer than its list
within : (c : Else-not-room_for) → let a = c.args in let job = a.job in (job.points + job.degree + 1 ≤ length a.knots.now) × (job.points ≤ length a.xs.now) × (job.points ≤ length a.ys.now)
within c =
    let a = c.args in let job = a.job in
    enough-each (job.points + job.degree + 1) job.points job.points (length a.knots.now) (length a.xs.now) (length a.ys.now) (test-passed (ap not c.if-not-room_for.false) c.room_for.ensures.answer)

pub slice_bounds-check-end : goal.slice_bounds-check-end
slice_bounds-check-end c = let a = c.args in let job = a.job in
    sym (length-take-le (job.points + job.degree + 1) a.knots.now (within c).0)

pub slice_bounds-check-end-3 : goal.slice_bounds-check-end-3
slice_bounds-check-end-3 c = let a = c.args in sym (length-take-le a.job.points a.ys.now (within c).2)

pub returns-in-Ok-clause-result : goal.returns-in-Ok-clause-result
returns-in-Ok-clause-result c = let a = c.args in let job = a.job in
    let same = c.in-Ok.ensures.result in
    rw (room-checked job.degree job.points job.radius job.clamps (lists a.knots.now a.xs.now a.ys.now) a.sides.now a.k (test-passed (ap not c.if-not-room_for.false) c.room_for.ensures.answer) (sym c.in-Ok.ensures.answer))
    (rw (same.0, same.1, same.2, same.3) at c.put_curve_part.ensures.result)

pub returns-in_default-clause-result : goal.returns-in_default-clause-result
returns-in_default-clause-result c = let a = c.args in let job = a.job in
    let e = c.in_default.field-0 in
    put-nothing a.pen.now.out.now a.pen.now.at (room-refused job.degree job.points job.radius job.clamps (lists a.knots.now a.xs.now a.ys.now) a.sides.now a.k (number_of e) (test-passed (ap not c.if-not-room_for.false) c.room_for.ensures.answer) c.in_default.ensures.answer (refused-above_zero e))
