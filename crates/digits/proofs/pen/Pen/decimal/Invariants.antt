-- The loop's invariant: the last digits stand behind the place, and those of what is left are missing.
use Rattle.std.proofs.Common.{◌≡◌}
use Rattle.digits.proofs.LastFirstLaws.{Missing}
use Rattle.digits.proofs.pen.Pen.decimal.Given as goal

abbrev pub invariant-loop-rest : goal.invariant-loop-rest
invariant-loop-rest l =
    Missing l.initial.self.out.now l.initial.self.at l.number l.self.out.now l.place l.rest
    × (l.self.out.ghost_name ≡ l.initial.self.out.ghost_name)

abbrev pub decreases-loop-rest : goal.decreases-loop-rest
decreases-loop-rest l = l.rest
