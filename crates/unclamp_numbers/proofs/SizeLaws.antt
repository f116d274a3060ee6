-- An i64 holds what stands above the lines: knots have 16 bits, coordinates 32.
use Prim.Native.Nat.{ℕ, ◌*◌, ◌^◌, ◌≤◌, ◌<◌}
use native.Mathlib.Nat.{mul-le-mul}
use native.Mathlib.Omega.{arith}
use lib.IntN.{ℤ, pos, nat_abs, ◌-ℤ◌, ◌*ℤ◌}
use mir.Syntax.{w32, w64}
use mir.Val.{SFits}
use Rattle.signed.proofs.SizeLaws.{nat_abs_mul}
use Rattle.signed.proofs.BoundLaws.{nat_abs-difference}
use Rattle.signed.proofs.FitLaws.{fits64-of-size, size-of-fits32, product-size}

module _ (p q : ℤ) (hp : SFits w32 p) (hq : SFits w32 q) where
  -- the difference of two products
  pub products-size : (a b : ℕ) → a < 2 ^ 16 → b < 2 ^ 16 → nat_abs (pos a *ℤ p -ℤ pos b *ℤ q) ≤ 2 ^ 48
  products-size a b ha hb = omega (arith, nat_abs-difference (pos a *ℤ p) (pos b *ℤ q), product-size a p ha hp, product-size b q hb hq)

  -- 6·p - 3·q
  six-three-size : nat_abs (pos 6 *ℤ p -ℤ pos 3 *ℤ q) ≤ 9 * 2 ^ 31
  six-three-size =
      omega (arith, nat_abs-difference (pos 6 *ℤ p) (pos 3 *ℤ q), nat_abs_mul (pos 6) p, nat_abs_mul (pos 3) q, size-of-fits32 p hp, size-of-fits32 q hq)

  pub six-three-fits : SFits w64 (pos 6 *ℤ p -ℤ pos 3 *ℤ q)
  six-three-fits = fits64-of-size (pos 6 *ℤ p -ℤ pos 3 *ℤ q) (omega (arith, six-three-size))

  -- 2·p - q
  pub twice-less-fits : SFits w64 (pos 2 *ℤ p -ℤ q)
  twice-less-fits =
      fits64-of-size (pos 2 *ℤ p -ℤ q) (omega (arith, nat_abs-difference (pos 2 *ℤ p) q, nat_abs_mul (pos 2) p, size-of-fits32 p hp, size-of-fits32 q hq))

  module _ (two : ℕ) (short : two < 2 ^ 16) where
    scaled-size : nat_abs (pos two *ℤ (pos 6 *ℤ p -ℤ pos 3 *ℤ q)) ≤ 2 ^ 16 * (9 * 2 ^ 31)
    scaled-size =
        let most : two ≤ 2 ^ 16 = omega arith in
        rw (nat_abs_mul (pos two) (pos 6 *ℤ p -ℤ pos 3 *ℤ q)) (mul-le-mul most six-three-size)

    pub scaled_fits : SFits w64 (pos two *ℤ (pos 6 *ℤ p -ℤ pos 3 *ℤ q))
    scaled_fits = fits64-of-size (pos two *ℤ (pos 6 *ℤ p -ℤ pos 3 *ℤ q)) (omega (arith, scaled-size))

    pub first_fits : (second : ℤ) → nat_abs second ≤ 2 ^ 48 → SFits w64 (pos two *ℤ (pos 6 *ℤ p -ℤ pos 3 *ℤ q) -ℤ pos 2 *ℤ second)
    first_fits second h =
        fits64-of-size (pos two *ℤ (pos 6 *ℤ p -ℤ pos 3 *ℤ q) -ℤ pos 2 *ℤ second)
        (omega (arith, nat_abs-difference (pos two *ℤ (pos 6 *ℤ p -ℤ pos 3 *ℤ q)) (pos 2 *ℤ second), scaled-size, nat_abs_mul (pos 2) second))

-- twice a number of that size
pub doubled_fits : (second : ℤ) → nat_abs second ≤ 2 ^ 48 → SFits w64 (pos 2 *ℤ second)
doubled_fits second h = fits64-of-size (pos 2 *ℤ second) (omega (arith, nat_abs_mul (pos 2) second))
