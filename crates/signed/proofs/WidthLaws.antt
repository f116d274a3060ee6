-- What a signed width holds, whichever it is: a number by its size, and sums, differences and products of bounded numbers.
use Prim.Native.Nat.{ℕ, ◌+◌, ◌*◌, ◌^◌, ◌≤◌, ◌<◌}
use native.Mathlib.Nat.{mul-le-mul}
use native.Mathlib.Omega.{arith}
use lib.IntN.{ℤ, pos, negsuc, nat_abs, ◌+ℤ◌, ◌-ℤ◌, ◌*ℤ◌}
use lib.Signed.{nat_abs-le}
use mir.Syntax.{Width}
use mir.Val.{SFits, hbits}
use Rattle.signed.proofs.SizeLaws.{nat_abs-add, nat_abs_mul}
use Rattle.signed.proofs.BoundLaws.{nat_abs-difference}

module _ (w : Width) where
  pub sfits-of-size : (z : ℤ) → nat_abs z < 2 ^ hbits w → SFits w z
  sfits-of-size (pos n) h = record { sfits = h }
  sfits-of-size (negsuc n) h = record { sfits = omega arith }

  pub size-of-sfits : (z : ℤ) → SFits w z → nat_abs z ≤ 2 ^ hbits w
  size-of-sfits z f = nat_abs-le z f.sfits

  module _ (a b : ℤ) (p q : ℕ) (h : nat_abs a ≤ p) (k : nat_abs b ≤ q) where
    pub sfits-sum : p + q < 2 ^ hbits w → SFits w (a +ℤ b)
    sfits-sum l = sfits-of-size (a +ℤ b) (omega (arith, nat_abs-add a b))

    pub sfits-difference : p + q < 2 ^ hbits w → SFits w (a -ℤ b)
    sfits-difference l = sfits-of-size (a -ℤ b) (omega (arith, nat_abs-difference a b))

    pub sfits-product : p * q < 2 ^ hbits w → SFits w (a *ℤ b)
    sfits-product l = sfits-of-size (a *ℤ b) (omega (arith, nat_abs_mul a b, mul-le-mul h k))
