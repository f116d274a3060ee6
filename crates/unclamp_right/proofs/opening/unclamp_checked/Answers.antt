-- A refusal leaves the lists; an accepted unclamping has every test passed, so the writing is allowed.
use mathlib.Core.Bool.{true, not}
use mathlib.Core.Path.{◌≡◌, refl, sym, ap, ◌∙◌}
use Prim.Native.Nat.{◌≤◌}
use lib.ListN.{length}
use Rattle.std.proofs.Common.{rules}
use Rattle.refusal.specs.declared.Refusal.TheVariants.{Unclamp, Room}
use Rattle.refusal.proofs.AnswerLaws.{required-passed}
use Rattle.refusal.proofs.JudgingLaws.{test-failed, test-passed}
use Rattle.curve.specs.Lists.{Lists, lists}
use Rattle.curve.proofs.ListLaws.{lists-same}
use Rattle.curve.proofs.RoomLaws.{enough-each}
use Rattle.checked.specs.Along.{lists_of}
use Rattle.unclamping.specs.Unclamping.{unclamped, opens}
use Rattle.unclamping.proofs.JudgedLaws.{Opens, opens-parts, unclamped-room, number-closed, number-room}
use Rattle.unclamp_right.proofs.StandingLaws.{knots-ending}
use Rattle.refusal.proofs.AnswerLaws.{not-required}
use Rattle.unclamp_right.proofs.AnswerLaws.{outcome-refused, outcome-unclamped}
use Rattle.unclamp_right.proofs.opening.unclamp_checked.Goals.{Start, Else-not-can_open, In_ok-room}
use Rattle.unclamp_right.proofs.opening.unclamp_checked.Goals as goal

abbrev before : Start → Lists
before s = let into = s.args.into in lists into.knots.now into.xs.now into.ys.now

pub returns-then-not-can_open : goal.returns-then-not-can_open
returns-then-not-can_open c = record {
  answer = let a = c.args in let b = before (goal.at.returns-then-not-can_open c).Start in
      outcome-refused a.curve.degree (lists_of a.curve) b Unclamp
      (number-closed a.curve.degree (lists_of a.curve) b a.curve.passes (test-failed (ap not c.if-not-can_open.true) c.can_open.ensures.answer)) _ refl;
}

-- row 23 has passed
opened : (c : Else-not-can_open) → let a = c.args in opens a.curve.degree (lists_of a.curve) ≡ true
opened c = test-passed (ap not c.if-not-can_open.false) c.can_open.ensures.answer

parts : (c : Else-not-can_open) → let a = c.args in Opens a.curve.degree (lists_of a.curve)
parts c = let a = c.args in opens-parts a.curve.degree (lists_of a.curve) (opened c)

pub returns-in_err-room : goal.returns-in_err-room
returns-in_err-room c = record {
  answer = let a = c.args in let b = before (goal.at.returns-in_err-room c).Start in
      let no = not-required _ _ c.in_err-room.field-0.0 c.in_err-room.ensures.answer in
      outcome-refused a.curve.degree (lists_of a.curve) b Room
      (rw (sym (unclamped-room a.curve.degree (lists_of a.curve) b) ∙ no.0) at (number-room a.curve.degree (lists_of a.curve) b a.curve.passes (opened (goal.at.returns-in_err-room c).Else-not-can_open)))
      _ (search (rules, no.1));
}

-- there is room
room : (c : In_ok-room) → let curve = c.args.curve in let into = c.args.into in
    (length curve.knots.now ≤ length into.knots.now) × (length curve.xs.now ≤ length into.xs.now) × (length curve.ys.now ≤ length into.ys.now)
room c =
    let curve = c.args.curve in let into = c.args.into in
    enough-each (length curve.knots.now) (length curve.xs.now) (length curve.ys.now) (length into.knots.now) (length into.xs.now) (length into.ys.now)
    (required-passed _ _ _ c.in_ok-room.ensures.answer)

pub write_knots-requires-clause-knots_ending : goal.write_knots-requires-clause-knots_ending
write_knots-requires-clause-knots_ending c = let a = c.args in
    knots-ending a.curve.degree (lists_of a.curve) a.curve.passes (parts (goal.at.write_knots-requires-clause-knots_ending c).Else-not-can_open)

pub write_knots-requires-clause-knots_in_bounds : goal.write_knots-requires-clause-knots_in_bounds
write_knots-requires-clause-knots_in_bounds c = (room (goal.at.write_knots-requires-clause-knots_in_bounds c).In_ok-room).0

pub right_end-requires : goal.right_end-requires
right_end-requires c = (parts (goal.at.right_end-requires c).Else-not-can_open).end

pub write_points-requires-clause-ps_value : goal.write_points-requires-clause-ps_value
write_points-requires-clause-ps_value c = let e = c.right_end.ensures in
    rw (e.degree, e.knots, e.points) (parts (goal.at.write_points-requires-clause-ps_value c).Else-not-can_open).x

pub write_points-requires-clause-ps_in_bounds : goal.write_points-requires-clause-ps_in_bounds
write_points-requires-clause-ps_in_bounds c = rw c.right_end.ensures.points (room (goal.at.write_points-requires-clause-ps_in_bounds c).In_ok-room).1

pub right_end-requires-2 : goal.right_end-requires-2
right_end-requires-2 c = (parts (goal.at.right_end-requires-2 c).Else-not-can_open).end

pub write_points-requires-2-clause-ps_value : goal.write_points-requires-2-clause-ps_value
write_points-requires-2-clause-ps_value c = let e = c.right_end-2.ensures in
    rw (e.degree, e.knots, e.points) (parts (goal.at.write_points-requires-2-clause-ps_value c).Else-not-can_open).y

pub write_points-requires-2-clause-ps_in_bounds : goal.write_points-requires-2-clause-ps_in_bounds
write_points-requires-2-clause-ps_in_bounds c = rw c.right_end-2.ensures.points (room (goal.at.write_points-requires-2-clause-ps_in_bounds c).In_ok-room).2

pub returns : goal.returns
unfolding unclamped
returns c = record {
  answer = let a = c.args in let b = before (goal.at.returns c).Start in
      let e = c.right_end.ensures in let f = c.right_end-2.ensures in
      outcome-unclamped a.curve.degree (lists_of a.curve) b
      (sym (rw (sym (unclamped-room a.curve.degree (lists_of a.curve) b) ∙ required-passed _ _ _ c.in_ok-room.ensures.answer) at (number-room a.curve.degree (lists_of a.curve) b a.curve.passes (opened (goal.at.returns c).Else-not-can_open))))
      _ (lists-same c.write_knots.ensures.result (rw (e.degree, e.knots, e.points) at c.write_points.ensures.result) (rw (f.degree, f.knots, f.points) at c.write_points-2.ensures.result));
}
