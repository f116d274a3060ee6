-- The invariant: what has come and what is to come are the curve, and what the pass makes of it is what it makes of the whole.
use Rattle.checked.specs.Along.{lists_of}
use Rattle.compaction_pass.proofs.GrowLaws.{Growth}
use Rattle.compaction_pass.proofs.compact_into.Given as goal

abbrev pub invariant-loop-taken : goal.invariant-loop-taken
invariant-loop-taken l =
    Growth l.curve.degree (lists_of l.curve) l.initial.knots l.initial.xs l.initial.ys l.knots l.xs l.ys l.left l.taken
