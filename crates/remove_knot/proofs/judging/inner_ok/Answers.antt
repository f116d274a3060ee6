-- Inside the domain, and the last knot up to v is v.
use mathlib.Core.Bool.{true, not}
use mathlib.Core.Path.{◌≡◌, ap}
use native.Mathlib.Omega.{arith}
use lib.ListN.{length}
use Rattle.refusal.proofs.JudgingLaws.{test-failed, test-passed}
use Rattle.span.specs.Span.{strictly_inside}
use Rattle.checked.proofs.CheckedLaws.{checked-of-passes}
use Rattle.grid.proofs.CheckLaws.{passes-tests}
use Rattle.insertion.proofs.CheckedLaws.{inside-ends, insertable-xs}
use Rattle.insertion.proofs.SpanLaws.{up_to-least}
use Rattle.removal.specs.Judged.{inner_ok}
use Rattle.remove_knot.proofs.judging.inner_ok.Goals.{Else-not-strictly_inside}
use Rattle.remove_knot.proofs.judging.inner_ok.Goals as goal

pub returns-then-not-strictly_inside : goal.returns-then-not-strictly_inside
unfolding inner_ok
returns-then-not-strictly_inside c = record { answer = rw (test-failed (ap not c.if-not-strictly_inside.true) c.strictly_inside.ensures.answer) }

-- v lies inside the domain
inside : (c : Else-not-strictly_inside) → strictly_inside c.args.curve.knots.now c.args.curve.degree (length c.args.curve.xs.now) c.args.v ≡ true
inside c = test-passed (ap not c.if-not-strictly_inside.false) c.strictly_inside.ensures.answer

pub overflow_cast-value : goal.overflow_cast-value
overflow_cast-value c = let a = c.args in
    omega (arith, (inside-ends a.curve.knots.now a.curve.degree (length a.curve.xs.now) a.v (inside c)).1, (checked-of-passes _ _ _ _ a.curve.passes).largest (length a.curve.xs.now) (omega (arith, a.curve.sizes.knots)))

pub stands-requires : goal.stands-requires
stands-requires c =
    let a = c.args in
    let ends = inside-ends a.curve.knots.now a.curve.degree (length a.curve.xs.now) a.v (inside (goal.at.stands-requires c).Else-not-strictly_inside) in
    let least = up_to-least a.curve.degree a.curve.knots.now a.curve.xs.now a.v (insertable-xs a.curve.degree a.curve.knots.now a.curve.xs.now a.curve.ys.now a.v a.curve.passes (omega (arith, ends.0)) ends.1) in record { knots_value = (passes-tests a.curve.degree a.curve.knots.now a.curve.xs.now a.curve.ys.now a.curve.passes).order; at_value = c.knots_up_to.ensures.answer; le_times = omega arith; times_le_at = omega (arith, least, c.knots_up_to.ensures.answer) }

pub returns : goal.returns
unfolding inner_ok
returns c = record { answer = rw (inside (goal.at.returns c).Else-not-strictly_inside) c.stands.ensures.answer }
