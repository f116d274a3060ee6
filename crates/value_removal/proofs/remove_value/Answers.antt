-- The invariant: what is left of the rest is what is left of the whole.
use Prim.Native.Nat.{◌-◌}
use lib.ListN.{get_or}
use Rattle.value_removal.proofs.ValueLaws.{going_on, going-fixed, going-gone}
use Rattle.value_removal.proofs.remove_value.Goals as goal

pub returns-in-Err : goal.returns-in-Err
returns-in-Err c = record {
  answer = let a = c.args in
      let l = c.loop-knots in let o = c.remove_one_knot in
      going-fixed a.m a.n a.knots.now a.xs.now a.ys.now c.requires (get_or a.knots.now (a.n - 1) 0) l.knots l.xs l.ys l.left l.invariant c.loop-knots-test.true o.new.knots o.new.xs o.new.ys c.in-Err.ensures.answer.1;
}

pub loop-knots-preserved : goal.loop-knots-preserved
loop-knots-preserved c = let a = c.args in
    let l = c.loop-knots in let o = c.remove_one_knot in
    going_on a.m a.n a.knots.now a.xs.now a.ys.now c.requires (get_or a.knots.now (a.n - 1) 0) l.knots l.xs l.ys l.left l.invariant c.loop-knots-test.true o.new.knots o.new.xs o.new.ys c.in-Ok.ensures.answer o.auto.knots o.auto.xs o.auto.ys

pub returns : goal.returns
returns c = record {
  answer = let a = c.args in
      let l = c.loop-knots in going-gone a.m a.n a.knots.now a.xs.now a.ys.now c.requires (get_or a.knots.now (a.n - 1) 0) l.knots l.xs l.ys l.left l.invariant c.loop-knots-test.false;
}
