-- The invariant: what is left of the rest is what is left of the whole.
use Rattle.value_removal.proofs.ValueLaws.{Going}
use Rattle.value_removal.proofs.remove_value.Given as goal

abbrev pub invariant-loop-knots : goal.invariant-loop-knots
invariant-loop-knots l =
    Going l.m l.n l.initial.knots l.initial.xs l.initial.ys l.v l.knots l.xs l.ys l.left

abbrev pub decreases-loop-knots : goal.decreases-loop-knots
decreases-loop-knots l =
    l.left
