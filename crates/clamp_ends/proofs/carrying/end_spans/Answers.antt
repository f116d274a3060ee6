-- The two spans lie inside the lists.
use Rattle.checked.specs.Along.{lists_of}
use Rattle.clamp_ends.proofs.CutLaws.{found}
use Rattle.clamp_ends.proofs.carrying.end_spans.Goals as goal

pub returns-clause-order : goal.returns-clause-order
returns-clause-order c = let a = c.args in
    let f = found a.curve.degree (lists_of a.curve) a.curve.passes c.span_at.result c.span_at-2.result c.span_at.ensures.answer c.span_at-2.ensures.answer in
    (f.from, f.order, f.to)
