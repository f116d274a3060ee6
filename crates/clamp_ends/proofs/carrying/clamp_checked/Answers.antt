-- A refusal leaves the lists; where both tests have passed, the writing is allowed.
use mathlib.Core.Path.{refl, sym, ap, ◌∙◌}
use mathlib.Core.Bool.{not}
use Prim.Native.Nat.{◌≤◌}
use lib.ListN.{length}
use Rattle.std.proofs.Common.{rules}
use Rattle.refusal.specs.declared.Refusal.TheVariants.{NotWhole, Room}
use Rattle.refusal.proofs.AnswerLaws.{required-passed}
use Rattle.refusal.proofs.JudgingLaws.{test-failed, test-passed}
use Rattle.curve.specs.Lists.{Lists, lists}
use Rattle.curve.proofs.ListLaws.{lists-same}
use Rattle.curve.proofs.RoomLaws.{enough-each}
use Rattle.clamping.proofs.ClampedLaws.{points-length}
use Rattle.refusal.proofs.AnswerLaws.{not-required}
use Rattle.clamp_ends.proofs.AnswerLaws.{outcome-of-part, outcome-refused, outcome-clamped, part-not-whole, part-without-room, part-accepted}
use Rattle.clamp_ends.proofs.carrying.clamp_checked.Goals.{After-carrying_lines, In_ok-room}
use Rattle.clamp_ends.proofs.carrying.clamp_checked.Goals as goal

-- the part that carries
abbrev part : After-carrying_lines → Lists
part c = let r = c.carrying_lines.result in lists r.0.knots.now r.0.points.now r.1.points.now

abbrev before : After-carrying_lines → Lists
before c = let into = c.args.into in lists into.knots.now into.xs.now into.ys.now

pub returns-then-not-both_whole : goal.returns-then-not-both_whole
returns-then-not-both_whole c = record {
  answer = let a = c.args in let k = c.carrying_lines in let s = (goal.at.returns-then-not-both_whole c).After-carrying_lines in
      outcome-of-part _ _ (before s) a.curve.passes k.result.0.degree k.ensures.degree.0 (part s) k.ensures.answer _ _
      (outcome-refused _ _ _ NotWhole (part-not-whole k.result.0.degree (part s) (before s) (test-failed (ap not c.if-not-both_whole.true) (rw (k.ensures.degree.1 ∙ sym k.ensures.degree.0, k.ensures.knots) at c.both_whole.ensures.answer))) _ refl _ refl);
}

-- there is room
room : (c : In_ok-room) → let r = c.carrying_lines.result in let into = c.args.into in
    (length r.0.knots.now ≤ length into.knots.now) × (length r.0.points.now ≤ length into.xs.now) × (length r.1.points.now ≤ length into.ys.now)
room c =
    let r = c.carrying_lines.result in let into = c.args.into in
    enough-each (length r.0.knots.now) (length r.0.points.now) (length r.1.points.now) (length into.knots.now) (length into.xs.now) (length into.ys.now)
    (required-passed _ _ _ c.in_ok-room.ensures.answer)

pub returns-in_err-room : goal.returns-in_err-room
returns-in_err-room c = record {
  answer = let a = c.args in let k = c.carrying_lines in let s = (goal.at.returns-in_err-room c).After-carrying_lines in
      let no = not-required _ _ c.in_err-room.field-0.0 c.in_err-room.ensures.answer in
      outcome-of-part _ _ (before s) a.curve.passes k.result.0.degree k.ensures.degree.0 (part s) k.ensures.answer _ _
      (outcome-refused _ _ _ Room (part-without-room k.result.0.degree (part s) (before s) (test-passed (ap not c.if-not-both_whole.false) (rw (k.ensures.degree.1 ∙ sym k.ensures.degree.0, k.ensures.knots) at c.both_whole.ensures.answer)) no.0) _ (search (rules, no.1)) _ refl);
}

pub write_knots-requires : goal.write_knots-requires
write_knots-requires c = (room (goal.at.write_knots-requires c).In_ok-room).0

pub write_points-requires : goal.write_points-requires
write_points-requires c = (room (goal.at.write_points-requires c).In_ok-room).1

pub write_points-requires-2 : goal.write_points-requires-2
write_points-requires-2 c = (room (goal.at.write_points-requires-2 c).In_ok-room).2

pub returns : goal.returns
returns c = record {
  answer = let a = c.args in let k = c.carrying_lines in let s = (goal.at.returns c).After-carrying_lines in
      outcome-of-part _ _ (before s) a.curve.passes k.result.0.degree k.ensures.degree.0 (part s) k.ensures.answer _ _
      (outcome-clamped _ _ _ (sym (part-accepted k.result.0.degree (part s) (before s) (test-passed (ap not c.if-not-both_whole.false) (rw (k.ensures.degree.1 ∙ sym k.ensures.degree.0, k.ensures.knots) at c.both_whole.ensures.answer)) (required-passed _ _ _ c.in_ok-room.ensures.answer)))
      _ (sym (points-length k.result.0.degree k.result.0.knots.now k.result.0.points.now)) _ (lists-same c.write_knots.ensures.result c.write_points.ensures.result (rw (k.ensures.degree.1 ∙ sym k.ensures.degree.0, k.ensures.knots) at c.write_points-2.ensures.result)));
}
