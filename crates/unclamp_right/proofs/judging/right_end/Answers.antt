-- What the check says of an end that is clamped.
use Rattle.checked.specs.Along.{lists_of}
use Rattle.unclamp_right.proofs.StandingLaws.{ending-along}
use Rattle.unclamp_right.proofs.judging.right_end.Goals as goal

pub invariant_of-result : goal.invariant_of-result
invariant_of-result c = record { ending = let a = c.args in rw c.along.ensures.result (ending-along a.curve.degree (lists_of a.curve) a.curve.passes c.requires a.axis) }
