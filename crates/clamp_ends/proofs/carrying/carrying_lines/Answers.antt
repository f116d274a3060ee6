-- The parts of the lists are those that carry, on both axes.
use Rattle.checked.specs.Along.{lists_of}
use Rattle.clamp_ends.proofs.CutLaws.{cut-carries, same-part}
use Rattle.clamp_ends.proofs.carrying.carrying_lines.Goals as goal

pub invariant_of-x : goal.invariant_of-x
invariant_of-x c = let a = c.args in let e = c.end_spans-first in
    record { carries = (cut-carries a.curve.degree (lists_of a.curve) a.curve.passes e.result.0 e.result.1 e.ensures.first e.ensures.last).0 }

pub invariant_of-y : goal.invariant_of-y
invariant_of-y c = let a = c.args in let e = c.end_spans-first in
    record { carries = (cut-carries a.curve.degree (lists_of a.curve) a.curve.passes e.result.0 e.result.1 e.ensures.first e.ensures.last).1 }

pub returns-clause-answer : goal.returns-clause-answer
returns-clause-answer c = let a = c.args in let e = c.end_spans-first in
    same-part a.curve.degree (lists_of a.curve) a.curve.passes e.result.0 e.result.1 e.ensures.first e.ensures.last
