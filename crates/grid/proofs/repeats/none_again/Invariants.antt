-- What the flag says of the knots that were passed.
use Rattle.std.proofs.Common.{ℕ, ◌<◌, List}
use Rattle.grid.specs.Again.{Again}
use Rattle.grid.proofs.FlagLaws.{Flagged}
use Rattle.grid.proofs.repeats.none_again.Given as goal

-- knot j stands before the end of the run, and comes again
abbrev pub Here : List ℕ → ℕ → ℕ → ℕ → Type 0
Here ts past back j = (j < past) × Again ts back j

abbrev pub invariant-loop-k : goal.invariant-loop-k
invariant-loop-k l = Flagged (Here l.knots l.past l.back) l.first l.k l.fine
