-- A bound either side of zero is one bound of the size, and back.
use mathlib.Core.Bool.{true}
use mathlib.Core.Path.{◌≡◌}
use Prim.Native.Nat.{ℕ, ◌+◌, ◌≤◌}
use native.Mathlib.Omega.{arith}
use lib.IntN.{ℤ, pos, negsuc, neg_ℤ, nat_abs, ◌-ℤ◌}
use lib.Signed.{le_z}
use Rattle.signed.proofs.PartLaws.{nat_abs-parts, neg-up, neg-down}
use Rattle.signed.proofs.OrderLaws.{le_z-true, le-le_z}
use Rattle.signed.proofs.SizeLaws.{nat_abs-neg, nat_abs-add}

pub nat_abs-difference : (a b : ℤ) → nat_abs (a -ℤ b) ≤ nat_abs a + nat_abs b
nat_abs-difference a b = omega (arith, nat_abs-add a (neg_ℤ b), nat_abs-neg b)

pub size-of-bounds : (b : ℕ) (z : ℤ) → le_z (neg_ℤ (pos b)) z ≡ true → le_z z (pos b) ≡ true → nat_abs z ≤ b
size-of-bounds b (pos n) l h = omega (arith, le_z-true (pos n) (pos b) h)
size-of-bounds b (negsuc n) l h = omega (arith, le_z-true (neg_ℤ (pos b)) (negsuc n) l, neg-up (pos b), neg-down (pos b))

pub low-of-size : (b : ℕ) (z : ℤ) → nat_abs z ≤ b → le_z (neg_ℤ (pos b)) z ≡ true
low-of-size b z h = le-le_z (neg_ℤ (pos b)) z (omega (arith, neg-up (pos b), neg-down (pos b), nat_abs-parts z))

pub high-of-size : (b : ℕ) (z : ℤ) → nat_abs z ≤ b → le_z z (pos b) ≡ true
high-of-size b z h = le-le_z z (pos b) (omega (arith, nat_abs-parts z))
