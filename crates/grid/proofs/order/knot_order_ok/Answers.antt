-- Row 4: the flag says whether a knot that was passed falls; then the last one decides.
use mathlib.Core.Path.{sym, ◌∙◌}
use native.Mathlib.Omega.{arith}
use borrow.Author.Tests.{leb-true, leb-false}
use Rattle.grid.proofs.FlagLaws.{flagged_more}
use Rattle.grid.proofs.OrderLaws.{Falls, order-falls, order-by-last}
use Rattle.grid.proofs.order.knot_order_ok.Goals as goal

pub loop-k-preserved : goal.loop-k-preserved
loop-k-preserved c = flagged_more (Falls c.args.knots.now) 1 c.loop-k.k c.loop-k.fine _ c.loop-k.invariant (λ e w. omega (arith, leb-true _ _ e)) (λ e. omega (arith, leb-false _ _ e))

pub returns-then-fine : goal.returns-then-fine
returns-then-fine c = record {
  answer = let none = c.loop-k.invariant.none c.if-fine.true in
      order-by-last c.args.knots.now (λ j l. none j (omega arith)) (omega arith);
}

pub returns-else-fine : goal.returns-else-fine
returns-else-fine c = record {
  answer = let wrong = c.loop-k.invariant.one c.if-fine.false in
      c.if-fine.false ∙ sym (order-falls c.args.knots.now wrong.0 wrong.2 (omega (arith, wrong.1)) wrong.3);
}
