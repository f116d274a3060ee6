-- The invariant: the walk has come to j.
use Rattle.removal_walk.proofs.WalkLaws.{Walking}
use Rattle.removal_walk.proofs.walk.from_left.Given as goal

abbrev pub invariant-loop-j : goal.invariant-loop-j
invariant-loop-j l = Walking l.m l.ks l.v l.ps l.out l.far l.last l.j
