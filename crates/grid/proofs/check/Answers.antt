-- The check: each row by the function that judges it, in the order of the rows.
use mathlib.Core.Bool.{true}
use mathlib.Core.Path.{◌≡◌}
use native.Mathlib.Omega.{arith}
use Rattle.refusal.proofs.JudgingLaws.{test-failed, test-passed}
use Rattle.grid.specs.Rows.{degree_ok, point_count_ok, knot_count_ok, knot_order_ok, ends_ok, repeats_ok, range_ok}
use Rattle.grid.proofs.CheckLaws.{check-degree, check-points, check-knots, check-order, check-ends, check-repeats, check-range, check-accepts}
use Rattle.grid.proofs.CountLaws.{degree-of-test, points-of-test, knots-of-test}
use mathlib.Core.Path.{ap}
use mathlib.Core.Bool.{not}
use Rattle.grid.proofs.check.Goals.{Else-not-degree_ok, Else-not-ends_ok, Else-not-knot_count_ok, Else-not-knot_order_ok, Else-not-point_count_ok, Else-not-range_ok, Else-not-repeats_ok}
use Rattle.grid.proofs.check.Goals as goal

-- what each test says once it has passed
degree-passed : (c : Else-not-degree_ok) → (let a = c.args in degree_ok a.degree ≡ true)
degree-passed c = test-passed (ap not c.if-not-degree_ok.false) c.degree_ok.ensures.answer

points-passed : (c : Else-not-point_count_ok) → (let a = c.args in point_count_ok a.degree a.xs.now a.ys.now ≡ true)
points-passed c = test-passed (ap not c.if-not-point_count_ok.false) c.point_count_ok.ensures.answer

knots-passed : (c : Else-not-knot_count_ok) → (let a = c.args in knot_count_ok a.degree a.knots.now a.xs.now ≡ true)
knots-passed c = test-passed (ap not c.if-not-knot_count_ok.false) c.knot_count_ok.ensures.answer

order-passed : (c : Else-not-knot_order_ok) → (let a = c.args in knot_order_ok a.knots.now ≡ true)
order-passed c = test-passed (ap not c.if-not-knot_order_ok.false) c.knot_order_ok.ensures.answer

ends-passed : (c : Else-not-ends_ok) → (let a = c.args in ends_ok a.degree a.knots.now ≡ true)
ends-passed c = test-passed (ap not c.if-not-ends_ok.false) c.ends_ok.ensures.answer

repeats-passed : (c : Else-not-repeats_ok) → (let a = c.args in repeats_ok a.degree a.knots.now ≡ true)
repeats-passed c = test-passed (ap not c.if-not-repeats_ok.false) c.repeats_ok.ensures.answer

range-passed : (c : Else-not-range_ok) → (let a = c.args in range_ok a.xs.now a.ys.now ≡ true)
range-passed c = test-passed (ap not c.if-not-range_ok.false) c.range_ok.ensures.answer

pub returns-then-not-degree_ok : goal.returns-then-not-degree_ok
returns-then-not-degree_ok c = record {
  answer = check-degree _ _ _ _
      (test-failed (ap not c.if-not-degree_ok.true) c.degree_ok.ensures.answer);
}

pub point_count_ok-requires : goal.point_count_ok-requires
point_count_ok-requires c = (degree-of-test c.args.degree (degree-passed c)).1

pub returns-then-not-point_count_ok : goal.returns-then-not-point_count_ok
returns-then-not-point_count_ok c = record {
  answer = check-points _ _ _ _
      (degree-passed (goal.at.returns-then-not-point_count_ok c).Else-not-degree_ok)
      (test-failed (ap not c.if-not-point_count_ok.true) c.point_count_ok.ensures.answer);
}

pub knot_count_ok-requires : goal.knot_count_ok-requires
knot_count_ok-requires c = let degree = degree-passed (goal.at.knot_count_ok-requires c).Else-not-degree_ok in
    let points = points-passed c in (
      (degree-of-test c.args.degree degree).1,
      (points-of-test c.args.degree c.args.xs.now c.args.ys.now points).2,
    )

pub returns-then-not-knot_count_ok : goal.returns-then-not-knot_count_ok
returns-then-not-knot_count_ok c = record {
  answer = check-knots _ _ _ _
      (degree-passed (goal.at.returns-then-not-knot_count_ok c).Else-not-degree_ok)
      (points-passed (goal.at.returns-then-not-knot_count_ok c).Else-not-point_count_ok)
      (test-failed (ap not c.if-not-knot_count_ok.true) c.knot_count_ok.ensures.answer);
}

pub knot_order_ok-requires : goal.knot_order_ok-requires
knot_order_ok-requires c = omega (arith, knots-of-test c.args.degree c.args.knots.now c.args.xs.now (knots-passed c))

pub returns-then-not-knot_order_ok : goal.returns-then-not-knot_order_ok
returns-then-not-knot_order_ok c = record {
  answer = check-order _ _ _ _
      (degree-passed (goal.at.returns-then-not-knot_order_ok c).Else-not-degree_ok)
      (points-passed (goal.at.returns-then-not-knot_order_ok c).Else-not-point_count_ok)
      (knots-passed (goal.at.returns-then-not-knot_order_ok c).Else-not-knot_count_ok)
      (test-failed (ap not c.if-not-knot_order_ok.true) c.knot_order_ok.ensures.answer);
}

pub ends_ok-requires : goal.ends_ok-requires
ends_ok-requires c = omega (arith, knots-of-test c.args.degree c.args.knots.now c.args.xs.now (knots-passed (goal.at.ends_ok-requires c).Else-not-knot_count_ok))

pub returns-then-not-ends_ok : goal.returns-then-not-ends_ok
returns-then-not-ends_ok c = record {
  answer = check-ends _ _ _ _
      (degree-passed (goal.at.returns-then-not-ends_ok c).Else-not-degree_ok)
      (points-passed (goal.at.returns-then-not-ends_ok c).Else-not-point_count_ok)
      (knots-passed (goal.at.returns-then-not-ends_ok c).Else-not-knot_count_ok)
      (order-passed (goal.at.returns-then-not-ends_ok c).Else-not-knot_order_ok)
      (test-failed (ap not c.if-not-ends_ok.true) c.ends_ok.ensures.answer);
}

pub repeats_ok-requires : goal.repeats_ok-requires
repeats_ok-requires c = record {
  count = omega (
    arith,
    knots-of-test c.args.degree c.args.knots.now c.args.xs.now (knots-passed (goal.at.repeats_ok-requires c).Else-not-knot_count_ok),
    (points-of-test c.args.degree c.args.xs.now c.args.ys.now (points-passed (goal.at.repeats_ok-requires c).Else-not-point_count_ok)).1,
  );
  order = order-passed (goal.at.repeats_ok-requires c).Else-not-knot_order_ok;
  ends = ends-passed c;
}

pub returns-then-not-repeats_ok : goal.returns-then-not-repeats_ok
returns-then-not-repeats_ok c = record {
  answer = check-repeats _ _ _ _
      (degree-passed (goal.at.returns-then-not-repeats_ok c).Else-not-degree_ok)
      (points-passed (goal.at.returns-then-not-repeats_ok c).Else-not-point_count_ok)
      (knots-passed (goal.at.returns-then-not-repeats_ok c).Else-not-knot_count_ok)
      (order-passed (goal.at.returns-then-not-repeats_ok c).Else-not-knot_order_ok)
      (ends-passed (goal.at.returns-then-not-repeats_ok c).Else-not-ends_ok)
      (test-failed (ap not c.if-not-repeats_ok.true) c.repeats_ok.ensures.answer);
}

pub returns-then-not-range_ok : goal.returns-then-not-range_ok
returns-then-not-range_ok c = record {
  answer = check-range _ _ _ _
      (degree-passed (goal.at.returns-then-not-range_ok c).Else-not-degree_ok)
      (points-passed (goal.at.returns-then-not-range_ok c).Else-not-point_count_ok)
      (knots-passed (goal.at.returns-then-not-range_ok c).Else-not-knot_count_ok)
      (order-passed (goal.at.returns-then-not-range_ok c).Else-not-knot_order_ok)
      (ends-passed (goal.at.returns-then-not-range_ok c).Else-not-ends_ok)
      (repeats-passed (goal.at.returns-then-not-range_ok c).Else-not-repeats_ok)
      (test-failed (ap not c.if-not-range_ok.true) c.range_ok.ensures.answer);
}

pub returns : goal.returns
returns c = record {
  answer = check-accepts _ _ _ _
      (degree-passed (goal.at.returns c).Else-not-degree_ok)
      (points-passed (goal.at.returns c).Else-not-point_count_ok)
      (knots-passed (goal.at.returns c).Else-not-knot_count_ok)
      (order-passed (goal.at.returns c).Else-not-knot_order_ok)
      (ends-passed (goal.at.returns c).Else-not-ends_ok)
      (repeats-passed (goal.at.returns c).Else-not-repeats_ok)
      (range-passed c);
}
