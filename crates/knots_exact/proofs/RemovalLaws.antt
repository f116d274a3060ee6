-- Removing a knot keeps the exact curve: reinserting it gives the old curve back, and insertion keeps the curve.
use mathlib.Core.Path.{◌≡◌, sym, ap, ◌∙◌}
use Prim.Native.Nat.{◌+◌}
use native.Mathlib.Omega.{arith}
use lib.ListN.{length}
use Rattle.grid.proofs.SizeLaws.{sizes-of-passes}
use Rattle.curve.proofs.ListLaws.{same-xs, same-ys}
use Rattle.insertion.proofs.JudgedLaws.{accepted-of-number}
use Rattle.insertion.proofs.PointLaws.{inserted_points-length}
use Rattle.knots_exact.specs.SameCurve.{SameCurve, RemoveKeepsCurve}
use Rattle.knots_exact.proofs.InsertionLaws.{insert-keeps-curve}
use Rattle.knots_exact.proofs.SameLaws.{axis-sym}

pub remove-keeps-curve : RemoveKeepsCurve
remove-keeps-curve m v c d r =
    let there = insert-keeps-curve m d v c r.accepts in
    let size = sizes-of-passes m d.knots d.xs d.ys (accepted-of-number m d v c r.accepts).passes in
    let back : SameCurve m d c = rw r.gives at there in
    let more-x : length c.xs ≡ length d.xs + 1 = sym (ap length (same-xs r.gives)) ∙ inserted_points-length m d.knots d.xs v in
    let more-y : length c.ys ≡ length d.ys + 1 = sym (ap length (same-ys r.gives)) ∙ inserted_points-length m d.knots d.ys v in
    record {
      x = axis-sym m d.knots d.xs c.knots c.xs (omega (arith, size.enough)) (omega arith) back.x;
      y = axis-sym m d.knots d.ys c.knots c.ys (omega (arith, size.enough, size.as_many)) (omega arith) back.y;
    }
