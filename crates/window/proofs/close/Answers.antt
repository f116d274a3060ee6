-- Each degree's knots, written out.
use mathlib.Core.Path.{◌≡◌}
use native.Mathlib.Omega.{arith}
use Rattle.window.proofs.WriteLaws.{closed-linear, closed-quadratic, closed-cubic}
use Rattle.window.proofs.close.Goals as goal

pub returns-then-m-eq1 : goal.returns-then-m-eq1
returns-then-m-eq1 c = record {
  result = let e = c.if-m-eq1.true in
      rw e (closed-linear c.args.knots.now (rw e at c.requires.knots_len));
}

pub returns-then-m-eq2 : goal.returns-then-m-eq2
returns-then-m-eq2 c = record {
  result = let e = c.if-m-eq2.true in
      rw e (closed-quadratic c.args.knots.now (rw e at c.requires.knots_len));
}

pub returns : goal.returns
returns c = record {
  result = let e : c.args.m ≡ 3 = omega (arith, c.requires.le_m.0, c.requires.le_m.1, c.if-m-eq1.false, c.if-m-eq2.false) in
      rw e (closed-cubic c.args.knots.now (rw e at c.requires.knots_len));
}
