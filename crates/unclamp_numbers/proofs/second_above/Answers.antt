-- The two products are read as they were made, and their difference fits.
use mathlib.Core.Path.{refl}
use Prim.Native.Nat.{◌+◌}
use native.Mathlib.Omega.{arith}
use lib.IntN.{pos, ◌-ℤ◌, ◌*ℤ◌}
use mir.Syntax.{w64}
use mir.ValLaws.{to_z-of_z}
use Rattle.signed.proofs.FitLaws.{read-product, fits64-of-size}
use Rattle.unclamp_numbers.proofs.SizeLaws.{products-size}
use Rattle.unclamp_numbers.proofs.second_above.Goals as goal

pub returns : goal.returns
returns c =
    let a = c.args in
    let f = c.ranges in
    let first = c.product in let second = c.product-2 in let size = products-size a.p a.q f.p f.q (a.two + a.last) a.last c.requires f.last.fits in
    let fit = fits64-of-size (pos (a.two + a.last) *ℤ a.p -ℤ pos a.last *ℤ a.q) (omega (arith, size)) in record { answer = rw (read-product (a.two + a.last) a.p first.result c.requires f.p first.ensures.answer, read-product a.last a.q second.result f.last.fits f.q second.ensures.answer, to_z-of_z w64 (pos (a.two + a.last) *ℤ a.p -ℤ pos a.last *ℤ a.q) fit) (refl); size = rw (read-product (a.two + a.last) a.p first.result c.requires f.p first.ensures.answer, read-product a.last a.q second.result f.last.fits f.q second.ensures.answer, to_z-of_z w64 (pos (a.two + a.last) *ℤ a.p -ℤ pos a.last *ℤ a.q) fit) (size) }
