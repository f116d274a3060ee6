-- Row 4: the flag says whether a knot that was passed falls; then the last one decides.
use Rattle.grid.proofs.FlagLaws.{Flagged}
use Rattle.grid.proofs.OrderLaws.{Falls}
use Rattle.grid.proofs.order.knot_order_ok.Given as goal

abbrev pub invariant-loop-k : goal.invariant-loop-k
invariant-loop-k l = Flagged (Falls l.knots) 1 l.k l.fine
