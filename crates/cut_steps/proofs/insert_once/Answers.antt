-- Full, not whole on x or not whole on y, or one insertion further.
use mathlib.Core.Path.{refl}
use native.Mathlib.Omega.{arith}
use Rattle.curve.specs.Lists.{lists}
use Rattle.cut_steps.proofs.InsertLaws.{stands-x, stands-y, full_refuses, broken-x-refuses, broken-y-refuses, insertion-goes}
use Rattle.cut_steps.proofs.insert_once.Goals as goal

pub returns-then-cut-ge-POINTS_MOST : goal.returns-then-cut-ge-POINTS_MOST
returns-then-cut-ge-POINTS_MOST c = record {
  answer = let a = c.args in
      λ cx cy d k st. full_refuses a.m (lists a.knots.now cx cy) d a.i k a.s a.r a.cut st c.requires.1 c.if-cut-ge-POINTS_MOST.true;
}

pub step_axis-requires : goal.step_axis-requires
step_axis-requires c = let a = c.args in
    let p = c.requires.0 in
    stands-x a.m (lists a.knots.now p.0 p.1) p.2 a.i p.3 a.s a.r a.cut p.4 c.requires.1

pub returns-in_default : goal.returns-in_default
returns-in_default c = record {
  answer = let a = c.args in
      λ cx cy d k st. broken-x-refuses a.m (lists a.knots.now cx cy) d a.i k a.s a.r a.cut st c.requires.1 (omega (arith, c.if-cut-ge-POINTS_MOST.false)) c.in_default.ensures.answer.whole;
}

pub step_axis-requires-2 : goal.step_axis-requires-2
step_axis-requires-2 c = let a = c.args in
    let p = c.requires.0 in
    stands-y a.m (lists a.knots.now p.0 p.1) p.2 a.i p.3 a.s a.r a.cut p.4 c.requires.1

pub returns-in_default-step_axis : goal.returns-in_default-step_axis
returns-in_default-step_axis c = record {
  answer = let a = c.args in
      λ cx cy d k st. broken-y-refuses a.m (lists a.knots.now cx cy) d a.i k a.s a.r a.cut st c.requires.1 (omega (arith, c.if-cut-ge-POINTS_MOST.false)) c.in-Some.ensures.answer.whole c.in_default-step_axis.ensures.answer.whole;
}

pub returns : goal.returns
returns c = record {
  answer = let a = c.args in
      let x = c.in-Some.ensures.answer in
      let y = c.in-Some-step_axis.ensures.answer in
      λ cx cy d k st. insertion-goes a.m (lists a.knots.now cx cy) d a.i k a.s a.r a.cut st c.requires.1 (omega (arith, c.if-cut-ge-POINTS_MOST.false)) _ x.whole y.whole x.steps y.steps refl;
}
