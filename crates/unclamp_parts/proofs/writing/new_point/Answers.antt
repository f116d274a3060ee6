-- The quotient lies on the grid, so that an i32 holds it.
use native.Mathlib.Omega.{arith}
use mir.Syntax.{w64}
use mir.ValLaws.{to_z-of_z}
use Rattle.insertion.proofs.CheckedLaws.{size-of-grid}
use Rattle.clamping.specs.EndRows.{finish_of}
use Rattle.clamping.specs.Clamping.{whole_of}
use Rattle.unclamping.specs.Unclamping.{open_number}
use Rattle.unclamp_parts.proofs.PointLaws.{fits_both}
use borrow.Author.Rules.{sfits_of}
use Rattle.unclamp_parts.proofs.writing.new_point.Goals as goal

pub quotient-requires-clause-d_bound : goal.quotient-requires-clause-d_bound
quotient-requires-clause-d_bound c =
    let a = c.args in
    let n = open_number (finish_of a.end.knots.now a.end.points.now) a.end.degree a.k in
    let u = c.above in
    rw (to_z-of_z w64 u.result (sfits_of u.type_inv), u.ensures.answer, c.below.ensures.answer) (omega (arith, size-of-grid (whole_of n) (fits_both n c.requires.k_value).1))
