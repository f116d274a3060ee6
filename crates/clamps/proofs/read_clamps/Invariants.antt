-- Every turn puts one clamp's sides more.
use Rattle.fields.proofs.LoopLaws.{PutSoFar}
use Rattle.clamps.specs.Clamp.{clamp_sides, clamps_at, sides}
use Rattle.clamps.proofs.read_clamps.Given as goal

abbrev pub invariant-loop-i : goal.invariant-loop-i
invariant-loop-i l = PutSoFar sides clamp_sides 0 (clamps_at l.bytes l.start l.count) l.initial.out l.out l.i
