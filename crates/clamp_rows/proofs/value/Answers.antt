-- The quotient lies on the grid, so that 32 bits hold it.
use native.Mathlib.Omega.{arith}
use lib.IntN.{pos}
use lib.Signed.{quot_z}
use mir.Syntax.{w64}
use mir.Facts.{to_z-of_z}
use mir.ValLaws.{to_z_pos}
use Rattle.signed.proofs.ReadLaws.{number-as-read}
use Rattle.signed.proofs.FitLaws.{fits32-of-size}
use Rattle.insertion.proofs.MeanLaws.{quot_fits}
use Rattle.clamp_rows.proofs.SizeLaws.{value-within}
use Rattle.clamp_rows.proofs.value.Goals as goal

pub returns : goal.returns
returns c = record {
  answer = let a = c.args.a in
      let given = c.struct_told-1.given.0.1 in
      rw (
        number-as-read w64 a.upper given,
        to_z_pos w64 a.lower c.requires.most,
        to_z-of_z (quot_fits w64 a.upper a.lower (record { sfits = given })),
      )
      (to_z-of_z (fits32-of-size (quot_z a.upper (pos a.lower)) (omega (arith, value-within a.upper a.lower c.requires.range))));
}
