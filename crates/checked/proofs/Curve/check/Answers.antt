-- What the check accepts has the sizes of a curve, and its knots never fall.
use mathlib.Core.Path.{sym}
use Rattle.grid.proofs.SizeLaws.{sizes-of-passes}
use Rattle.checked.proofs.CheckedLaws.{checked-of-passes}
use Rattle.checked.proofs.Curve.check.Goals as goal

pub invariant_of-result : goal.invariant_of-result
invariant_of-result c =
    let passes = sym c.in_ok-check.ensures.answer in record {
      passes = passes;
      sizes = sizes-of-passes _ _ _ _ passes;
      rising = (checked-of-passes _ _ _ _ passes).rising;
    }
