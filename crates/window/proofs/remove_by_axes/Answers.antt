-- Both axes, or nothing; then the copies.
use mathlib.Core.Path.{sym}
use native.Mathlib.Omega.{arith}
use Rattle.window.specs.Window.{closed}
use Rattle.window.proofs.ClosedLaws.{closed-length, closed-span, closed-reduced}
use Rattle.curve.proofs.HandingLaws.{copied-whole}
use Rattle.window.proofs.remove_by_axes.Goals as goal

pub remove_axis-requires-clause-reduced : goal.remove_axis-requires-clause-reduced
remove_axis-requires-clause-reduced c = let w = c.requires.window in rw c.requires.ks_value (closed-reduced _ _ _ _ w c.args.xs.now w.across)

pub remove_axis-requires-clause-i_value : goal.remove_axis-requires-clause-i_value
remove_axis-requires-clause-i_value c = rw c.requires.ks_value (sym (closed-span _ _ _ _ c.requires.window))

pub remove_axis-requires-2-clause-reduced : goal.remove_axis-requires-2-clause-reduced
remove_axis-requires-2-clause-reduced c = let w = c.requires.window in rw c.requires.ks_value (closed-reduced _ _ _ _ w c.args.ys.now w.up)

pub remove_axis-requires-2-clause-i_value : goal.remove_axis-requires-2-clause-i_value
remove_axis-requires-2-clause-i_value c = rw c.requires.ks_value (sym (closed-span _ _ _ _ c.requires.window))

pub returns : goal.returns
returns c = record {
  answer = let a = c.args in
      let w = c.requires.window in
      let x = c.remove_axis in let y = c.remove_axis-2 in
      let on_x = rw c.requires.ks_value at c.in_ok-remove_axis.ensures.answer in
      let on_y = rw c.requires.ks_value at c.in_ok-remove_axis-2.ensures.answer in
      record {
        px = x.new.out;
        py = y.new.out;
        on_x = on_x;
        on_y = on_y;
        new_knots = copied-whole (closed a.m a.knots.now) a.knots.now _ (omega (arith, closed-length a.m a.knots.now w.knots, w.knots)) (rw c.requires.ks_value at c.copy_into.ensures.result);
        new_xs = copied-whole x.new.out a.xs.now _ (omega (arith, on_x.count)) c.copy_into-2.ensures.result;
        new_ys = copied-whole y.new.out a.ys.now _ (omega (arith, on_y.count)) c.copy_into-3.ensures.result;
      };
}
