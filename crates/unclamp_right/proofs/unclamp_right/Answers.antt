-- The check first, then the rest: the number is the one of what comes first.
use Rattle.std.proofs.Common.{rules}
use mathlib.Core.Path.{◌∙◌}
use Prim.Native.Nat.{◌<◌}
use native.Mathlib.Omega.{arith}
use Rattle.refusal.specs.Answers.{number_of}
use Rattle.refusal.proofs.AnswerLaws.{refused-above_zero}
use Rattle.curve.specs.Lists.{lists}
use Rattle.unclamping.proofs.JudgedLaws.{number-refused}
use Rattle.unclamp_right.proofs.AnswerLaws.{outcome-refused}
use Rattle.unclamp_right.proofs.unclamp_right.Goals as goal

pub returns-in_err-curve : goal.returns-in_err-curve
returns-in_err-curve c = record {
  answer = let a = c.args in let e = c.in_err-curve.field-0.0 in
      let is = c.in_err-curve.ensures.answer in
      let above : 0 < number_of e = refused-above_zero e in
      outcome-refused _ _ _ e
      (is ∙ number-refused a.degree (lists a.knots.now a.xs.now a.ys.now) (lists a.out_knots.now a.out_xs.now a.out_ys.now) (λ z. omega (arith, is, z, above)))
      _ (search rules);
}
