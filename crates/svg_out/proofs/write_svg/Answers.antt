-- The check's refusal, or what is answered of a curve that passes: of its own lists where its ends are clamped, else of a copy.
use mathlib.Core.Path.{◌≡◌}
use borrow.Author.Rules.{rules}
use Rattle.std.specs.Prelude.{Err}
use Rattle.curve.specs.Lists.{lists}
use Rattle.checked.specs.Along.{lists_of}
use Rattle.svg_out.proofs.CopyLaws.{check-refuses, own-answers}
use Rattle.svg_out.proofs.write_svg.Goals as goal

pub returns-in_err-curve : goal.returns-in_err-curve
returns-in_err-curve c = record {
  answer = let a = c.args in
      let refused = c.in_err-curve.field-0.0 in
      let same : c.from_residual.result ≡ Err refused = search rules in
      rw same (check-refuses a.degree (lists a.knots.now a.xs.now a.ys.now) a.out.now refused c.in_err-curve.ensures.answer);
}

pub returns-then-ends_clamped : goal.returns-then-ends_clamped
returns-then-ends_clamped c = record {
  answer = let curve = c.in_ok-curve.curve in
      let same = c.in_ok-curve.ensures.result in
      let said = own-answers curve.degree (lists_of curve) c.args.out.now curve.passes _ _ (c.ends_clamped.ensures.answer c.if-ends_clamped.true) c.write_checked.ensures.answer in
      rw (same.0, same.1, same.2, same.3) at said;
}
