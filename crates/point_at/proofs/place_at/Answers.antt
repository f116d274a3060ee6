-- An accepted parameter has its span inside the lists.
use mathlib.Core.Path.{sym}
use native.Mathlib.Omega.{arith}
use lib.ListN.{length}
use Rattle.domain.proofs.ParameterLaws.{Within, accepted-within}
use Rattle.point_at.proofs.place_at.Goals.{After-span_of-i}
use Rattle.point_at.proofs.place_at.Goals as goal

within : (c : After-span_of-i) → (let k = c.in_ok-curve.curve in Within k.degree k.knots.now k.xs.now k.ys.now c.args.t c.span_of-i.result)
within c =
    let k = c.in_ok-curve.curve in
    let same = c.in_ok-curve.ensures.result in
    accepted-within k.degree k.knots.now k.xs.now k.ys.now c.args.t c.span_of-i.result
    (rw (same.0, same.1, same.2, same.3) (sym c.in_ok-curve.ensures.answer)) c.span_of-i.ensures.answer

pub overflow_cast-at : goal.overflow_cast-at
overflow_cast-at c =
    let w = within c in
    let same = c.in_ok-curve.ensures.result in
    omega (arith, (rw (same.1, same.2) at w.top), c.type_inv.knots (length c.args.xs.now))

pub coordinate-x-requires : goal.coordinate-x-requires
coordinate-x-requires c = let w = within (goal.at.coordinate-x-requires c).After-span_of-i in omega arith

pub coordinate-y-requires : goal.coordinate-y-requires
coordinate-y-requires c = let w = within (goal.at.coordinate-y-requires c).After-span_of-i in omega arith
