-- A refusal leaves the lists; an accepted insertion has every test passed, so the writing is allowed.
use Prim.Native.Nat.{◌+◌}
use native.Mathlib.Omega.{arith}
use Rattle.std.proofs.Common.{rules, length}
use Rattle.refusal.specs.declared.Refusal.TheVariants.{Insertion}
use Rattle.refusal.proofs.AnswerLaws.{required-passed}
use Rattle.curve.proofs.RoomLaws.{enough-each}
use Rattle.checked.proofs.CheckedLaws.{checked-of-passes}
use Rattle.insertion.proofs.CheckedLaws.{inside-ends}
use Rattle.insertion.proofs.JudgedLaws.{value-outside, judged-value}
use Rattle.insert_knot.proofs.AnswerLaws.{outcome_judged, outcome_cramped, outcome_inserted}
use Rattle.insert_knot.proofs.inserting.insert_checked.Goals as goal

pub returns-then-not-strictly_inside : goal.returns-then-not-strictly_inside
returns-then-not-strictly_inside c = record {
  answer = let a = c.args in
      outcome_judged _ _ _ _ a.curve.passes _ Insertion (search rules)
      (judged-value _ _ _ _ (value-outside a.curve.degree a.curve.knots.now a.curve.xs.now a.v (search rules)));
}

pub overflow_cast-v : goal.overflow_cast-v
overflow_cast-v c = let a = c.args in
    let ends = inside-ends a.curve.knots.now a.curve.degree (length a.curve.xs.now) a.v (search rules) in
    omega (arith, ends.1, (checked-of-passes _ _ _ _ a.curve.passes).largest (length a.curve.xs.now) (omega (arith, a.curve.sizes.knots)))

pub returns-in_err-judge : goal.returns-in_err-judge
returns-in_err-judge c = record { answer = outcome_judged _ _ _ _ c.args.curve.passes _ c.in_err-judge.field-0.0 (search rules) (search rules) }

pub returns-in_err-room : goal.returns-in_err-room
returns-in_err-room c = record { answer = outcome_cramped _ _ _ _ c.args.curve.passes (search rules) _ c.in_err-room.field-0.0 (search rules) (search rules) }

pub write-requires : goal.write-requires
write-requires c =
    let a = c.args in
    let room =
    enough-each (length a.curve.knots.now + 1) (length a.curve.xs.now + 1) (length a.curve.ys.now + 1) (length a.into.knots.now) (length a.into.xs.now) (length a.into.ys.now)
    (required-passed _ _ _ c.in_ok-room.ensures.answer) in record { knots_in_bounds = room.0; xs_in_bounds = room.1; ys_in_bounds = room.2 }

pub returns : goal.returns
returns c = record { answer = outcome_inserted _ _ _ _ c.args.curve.passes (search rules) (required-passed _ _ _ c.in_ok-room.ensures.answer) _ c.write.ensures.result }
