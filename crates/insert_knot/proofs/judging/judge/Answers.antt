-- Each test of the chain in turn.
use mathlib.Core.Bool.{true}
use mathlib.Core.Path.{◌≡◌, sym, ◌∙◌}
use lib.ListN.{length}
use borrow.Author.Tests.{lt-ltb, le-ltb}
use Rattle.curve.specs.Lists.{lists}
use Rattle.grid.specs.Limits.{points_most}
use Rattle.grid.proofs.CheckLaws.{passes-tests}
use Rattle.insertion.specs.Judged.{value_ok, place_ok, whole_ok}
use Rattle.insert_knot.proofs.AskedLaws.{least}
use Rattle.insertion.proofs.JudgedLaws.{value-often, value-seldom, judged-value, judged-place, judged-whole, judged-next}
use Rattle.insert_knot.proofs.judging.judge.Goals.{Else-not-whole_ok, Else-stands, Else-curve-ge-POINTS_MOST}
use Rattle.insert_knot.proofs.judging.judge.Goals as goal

-- rows 9, 10 and 11 have passed
value-passed : (c : Else-stands) → value_ok c.args.asked.curve.degree c.args.asked.curve.knots.now c.args.asked.curve.xs.now c.args.asked.v ≡ true
value-passed c =
    let a = c.args in
    value-seldom a.asked.curve.degree a.asked.curve.knots.now a.asked.curve.xs.now a.asked.v c.args.asked.inside (sym c.stands.ensures.answer ∙ c.if-stands.false)

place-passed : (c : Else-curve-ge-POINTS_MOST) → place_ok c.args.asked.curve.xs.now ≡ true
unfolding place_ok
place-passed c = lt-ltb (length c.args.asked.curve.xs.now) points_most c.if-curve-ge-POINTS_MOST.false

whole-passed : (c : Else-not-whole_ok) → whole_ok c.args.asked.curve.degree (lists c.args.asked.curve.knots.now c.args.asked.curve.xs.now c.args.asked.curve.ys.now) c.args.asked.v ≡ true
whole-passed c = sym c.whole_ok.ensures.answer ∙ c.if-not-whole_ok.false

pub stands-requires : goal.stands-requires
stands-requires c =
    let a = c.args.asked in
    record {
      knots_value = (passes-tests _ _ _ _ a.curve.passes).order;
      at_value = a.place;
      le_times = a.curve.sizes.degree-least;
      times_le_at = least _ _ _ _ _ a.curve.passes a.inside a.at a.place;
    }

pub returns-then-stands : goal.returns-then-stands
returns-then-stands c = record {
  answer = let a = c.args in
      judged-value a.asked.curve.degree (lists a.asked.curve.knots.now a.asked.curve.xs.now a.asked.curve.ys.now) a.asked.v 0
      (value-often a.asked.curve.degree a.asked.curve.knots.now a.asked.curve.xs.now a.asked.v c.args.asked.inside (sym c.stands.ensures.answer ∙ c.if-stands.true));
}

pub returns-then-curve-ge-POINTS_MOST : goal.returns-then-curve-ge-POINTS_MOST
unfolding place_ok
returns-then-curve-ge-POINTS_MOST c = record {
  answer = let a = c.args in
      judged-place a.asked.curve.degree (lists a.asked.curve.knots.now a.asked.curve.xs.now a.asked.curve.ys.now) a.asked.v 0 (value-passed (goal.at.returns-then-curve-ge-POINTS_MOST c).Else-stands) (le-ltb (length a.asked.curve.xs.now) points_most c.if-curve-ge-POINTS_MOST.true);
}

pub returns-then-not-whole_ok : goal.returns-then-not-whole_ok
returns-then-not-whole_ok c = record {
  answer = let a = c.args in
      judged-whole a.asked.curve.degree (lists a.asked.curve.knots.now a.asked.curve.xs.now a.asked.curve.ys.now) a.asked.v 0 (value-passed (goal.at.returns-then-not-whole_ok c).Else-stands) (place-passed (goal.at.returns-then-not-whole_ok c).Else-curve-ge-POINTS_MOST)
      (sym c.whole_ok.ensures.answer ∙ c.if-not-whole_ok.true);
}

pub returns : goal.returns
returns c = record {
  answer = let a = c.args in
      judged-next a.asked.curve.degree (lists a.asked.curve.knots.now a.asked.curve.xs.now a.asked.curve.ys.now) a.asked.v 0 (value-passed (goal.at.returns c).Else-stands) (place-passed (goal.at.returns c).Else-curve-ge-POINTS_MOST) (whole-passed c);
}
