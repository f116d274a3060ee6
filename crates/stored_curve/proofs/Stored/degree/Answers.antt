-- The degree's byte stands within a sound layout.
use native.Mathlib.Omega.{arith}
use Rattle.layout.proofs.SplitLaws.{layout-inside}
use Rattle.stored_curve.proofs.Stored.degree.Goals as goal

pub bounds-self-3 : goal.bounds-self-3
bounds-self-3 c =
    let s = c.args.self in
    omega (arith, layout-inside s.bytes.now s.layout.knots s.layout.xs s.layout.ys s.sound)
