-- What the flag says of the knots that were passed.
use borrow.Author.Tests.{not-true, not-false, eqb-true, eqb-false}
use Rattle.grid.proofs.FlagLaws.{flagged_more}
use Rattle.grid.proofs.repeats.none_again.Invariants.{Here}
use Rattle.grid.proofs.repeats.none_again.Goals as goal

pub loop-k-preserved : goal.loop-k-preserved
loop-k-preserved c =
    flagged_more (Here c.args.knots.now c.args.past c.args.back) c.args.first c.loop-k.k c.loop-k.fine _ c.loop-k.invariant
    (λ e w. eqb-false _ _ (not-true _ e) w.1) (λ e. (c.loop-k-test.true, eqb-true _ _ (not-false _ e)))
