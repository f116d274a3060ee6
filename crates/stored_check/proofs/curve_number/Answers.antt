-- The longest lists hold any fields.
use Rattle.curve.proofs.RoomLaws.{enough-all}
use Rattle.layout.proofs.SplitLaws.{layout-within}
use native.Mathlib.Omega.{arith}
use Rattle.stored_check.proofs.curve_number.Goals as goal

pub check_within-requires-clause-held_by : goal.check_within-requires-clause-held_by
check_within-requires-clause-held_by c =
    let s = c.args.stored in
    let l = s.layout in
    let most = layout-within s.bytes.now l.knots l.xs l.ys s.sound in enough-all _ _ _ _ _ _ (omega (arith, most)) (omega (arith, most)) (omega (arith, most))
