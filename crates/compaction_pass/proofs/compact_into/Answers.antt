-- The invariant: what has come and what is to come are the curve, and what the pass makes of it is what it makes of the whole.
use Rattle.checked.specs.Along.{lists_of}
use Rattle.compaction_pass.proofs.GrowLaws.{growth-begins, held, one_more, growth-on, growth-ends}
use borrow.Author.Rules.{sfits_of}
use mir.Facts.{to_z-of_z}
use Rattle.compaction_pass.proofs.compact_into.Goals as goal

pub loop-taken-init : goal.loop-taken-init
loop-taken-init c = let a = c.args in
    let f = c.copy_first-first in growth-begins a.curve.degree (lists_of a.curve) a.curve.passes a.front.knots.now a.front.xs.now a.front.ys.now c.requires.holding f.result f.new.knots f.new.xs f.new.ys f.ensures.answer f.ensures.result.0 f.ensures.result.1 f.ensures.result.2 f.auto.knots f.auto.xs f.auto.ys

pub remove_value-left-requires : goal.remove_value-left-requires
remove_value-left-requires c = let a = c.args in
    let l = c.loop-taken in let f = c.copy_first-first in rw (to_z-of_z (sfits_of c.xs-in-loop-taken-1.given), to_z-of_z (sfits_of c.ys-in-loop-taken-1.given))
    (one_more a.curve.degree (lists_of a.curve) a.curve.passes f.new.knots f.new.xs f.new.ys (held a.curve.degree (lists_of a.curve) a.curve.passes a.front.knots.now a.front.xs.now a.front.ys.now c.requires.holding f.new.knots f.new.xs f.new.ys f.auto.knots f.auto.xs f.auto.ys) l.knots l.xs l.ys l.left l.taken l.invariant c.loop-taken-test.true)

pub loop-taken-preserved : goal.loop-taken-preserved
loop-taken-preserved c = let a = c.args in
    let l = c.loop-taken in let f = c.copy_first-first in let o = c.remove_value-left in growth-on a.curve.degree (lists_of a.curve) a.curve.passes f.new.knots f.new.xs f.new.ys (held a.curve.degree (lists_of a.curve) a.curve.passes a.front.knots.now a.front.xs.now a.front.ys.now c.requires.holding f.new.knots f.new.xs f.new.ys f.auto.knots f.auto.xs f.auto.ys) l.knots l.xs l.ys l.left l.taken l.invariant c.loop-taken-test.true o.new.knots o.new.xs o.new.ys o.result (rw (to_z-of_z (sfits_of c.xs-in-loop-taken-1.given), to_z-of_z (sfits_of c.ys-in-loop-taken-1.given)) at o.ensures.answer) o.auto.knots
    (rw (to_z-of_z (sfits_of c.xs-in-loop-taken-1.given)) at o.auto.xs) (rw (to_z-of_z (sfits_of c.ys-in-loop-taken-1.given)) at o.auto.ys)

pub returns : goal.returns
returns c = record {
  answer = let a = c.args in
      let l = c.loop-taken in let f = c.copy_first-first in growth-ends a.curve.degree (lists_of a.curve) a.curve.passes f.new.knots f.new.xs f.new.ys (held a.curve.degree (lists_of a.curve) a.curve.passes a.front.knots.now a.front.xs.now a.front.ys.now c.requires.holding f.new.knots f.new.xs f.new.ys f.auto.knots f.auto.xs f.auto.ys) l.knots l.xs l.ys l.left l.taken l.invariant c.loop-taken-test.false;
}
