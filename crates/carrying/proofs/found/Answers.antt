-- An accepted parameter has its span inside both lists.
use mathlib.Core.Path.{sym}
use native.Mathlib.Omega.{arith}
use Rattle.domain.proofs.ParameterLaws.{Within, accepted-within}
use Rattle.carrying.proofs.found.Goals.{After-span_of-i}
use Rattle.carrying.proofs.found.Goals as goal

within : (c : After-span_of-i) → (let x = c.args in Within x.degree x.knots.now x.xs.now x.ys.now x.t c.span_of-i.result)
within c =
    let x = c.args in
    let same = c.in_ok-curve.ensures.result in
    accepted-within x.degree x.knots.now x.xs.now x.ys.now x.t c.span_of-i.result (sym c.in_ok-curve.ensures.answer)
    (rw (same.0, same.1, same.2) at c.span_of-i.ensures.answer)

pub part-requires : goal.part-requires
part-requires c = let w = within (goal.at.part-requires c).After-span_of-i in omega (arith, c.in_ok-curve.ensures.result.0)

pub part-requires-in-Y : goal.part-requires-in-Y
part-requires-in-Y c = let w = within (goal.at.part-requires-in-Y c).After-span_of-i in omega (arith, c.in_ok-curve.ensures.result.0)
