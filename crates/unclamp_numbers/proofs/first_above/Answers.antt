-- Each number is read as it was made, and each fits.
use Rattle.std.proofs.Common.{rules}
use mathlib.Core.Path.{◌≡◌}
use mir.Val.{to_z, of_z}
use native.Mathlib.Omega.{arith}
use lib.IntN.{pos, ◌-ℤ◌, ◌*ℤ◌}
use mir.Syntax.{w64}
use mir.ValLaws.{to_z-of_z}
use Rattle.signed.proofs.FitLaws.{read-product}
use Rattle.unclamp_numbers.proofs.SizeLaws.{six-three-fits, scaled_fits, doubled_fits, first_fits}
use Rattle.unclamp_numbers.proofs.first_above.Goals as goal

pub overflow_mul-result : goal.overflow_mul-result
overflow_mul-result c = let a = c.args in
    let f = c.ranges in
    let wide : to_z w64 (of_z w64 c.from.result) ≡ pos a.two = search rules in
    let first = c.product in let second = c.product-2 in rw (
      read-product 6 a.p first.result (omega arith) f.p first.ensures.answer,
      read-product 3 a.q second.result (omega arith) f.q second.ensures.answer,
      to_z-of_z w64 (pos 6 *ℤ a.p -ℤ pos 3 *ℤ a.q) (six-three-fits a.p a.q f.p f.q),
      wide,
    )
    (scaled_fits a.p a.q f.p f.q a.two f.two.fits)

pub overflow_sub-result-2 : goal.overflow_sub-result-2
overflow_sub-result-2 c = let a = c.args in
    let f = c.ranges in
    let wide : to_z w64 (of_z w64 c.from.result) ≡ pos a.two = search rules in
    let first = c.product in let second = c.product-2 in rw (
      read-product 6 a.p first.result (omega arith) f.p first.ensures.answer,
      read-product 3 a.q second.result (omega arith) f.q second.ensures.answer,
      to_z-of_z w64 (pos 6 *ℤ a.p -ℤ pos 3 *ℤ a.q) (six-three-fits a.p a.q f.p f.q),
      wide,
      to_z-of_z w64 (pos a.two *ℤ (pos 6 *ℤ a.p -ℤ pos 3 *ℤ a.q)) (scaled_fits a.p a.q f.p f.q a.two f.two.fits),
      to_z-of_z w64 a.second f.second,
      to_z-of_z w64 (pos 2 *ℤ a.second) (doubled_fits a.second c.requires),
    )
    (first_fits a.p a.q f.p f.q a.two f.two.fits a.second c.requires)

pub returns : goal.returns
returns c = record {
  answer = let a = c.args in
      let f = c.ranges in
      let wide : to_z w64 (of_z w64 c.from.result) ≡ pos a.two = search rules in
      let first = c.product in let second = c.product-2 in rw (
        read-product 6 a.p first.result (omega arith) f.p first.ensures.answer,
        read-product 3 a.q second.result (omega arith) f.q second.ensures.answer,
        to_z-of_z w64 (pos 6 *ℤ a.p -ℤ pos 3 *ℤ a.q) (six-three-fits a.p a.q f.p f.q),
        wide,
        to_z-of_z w64 (pos a.two *ℤ (pos 6 *ℤ a.p -ℤ pos 3 *ℤ a.q)) (scaled_fits a.p a.q f.p f.q a.two f.two.fits),
        to_z-of_z w64 a.second f.second,
        to_z-of_z w64 (pos 2 *ℤ a.second) (doubled_fits a.second c.requires),
      )
      (to_z-of_z w64 (pos a.two *ℤ (pos 6 *ℤ a.p -ℤ pos 3 *ℤ a.q) -ℤ pos 2 *ℤ a.second) (first_fits a.p a.q f.p f.q a.two f.two.fits a.second c.requires));
}
