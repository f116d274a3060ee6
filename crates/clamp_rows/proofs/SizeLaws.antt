-- What 64 bits hold of a mean: its products and their sum.
use mathlib.Core.Path.{◌≡◌}
use Prim.Native.Nat.{ℕ, ◌*◌, ◌≤◌}
use native.Mathlib.Nat.{mul-le-mul, div-le_of_le-mul}
use native.Mathlib.Omega.{arith}
use lib.IntN.{ℤ, pos, nat_abs, ◌+ℤ◌, ◌*ℤ◌}
use lib.Signed.{quot_z}
use mir.Syntax.{w64}
use mir.Val.{SFits, Fits, to_z, of_z}
use mir.Facts.{to_z-of_z}
use mir.ValLaws.{to_z_pos}
use Rattle.signed.proofs.SizeLaws.{nat_abs_mul, nat_abs-quot}
use Rattle.signed.proofs.WidthLaws.{sfits-of-size, sfits-sum}
use Rattle.grid.specs.Limits.{coordinate_most, knot_most}

-- two numbers no larger than a knot, and the product of both
pub two-within : (a b : ℕ) → a ≤ knot_most → b ≤ knot_most → a * b ≤ knot_most * knot_most
two-within a b h k = mul-le-mul h k

-- ... read with a sign
pub two-read : (a b : ℕ) → a ≤ knot_most → b ≤ knot_most → to_z w64 (a * b) ≡ pos (a * b)
two-read a b h k = to_z_pos w64 (a * b) (omega (arith, two-within a b h k))

-- ... and what is above the line of a number
product-within : (a b : ℕ) (z : ℤ) → a ≤ knot_most → b ≤ knot_most → nat_abs z ≤ coordinate_most * knot_most
    → nat_abs (pos (a * b) *ℤ z) ≤ knot_most * knot_most * (coordinate_most * knot_most)
product-within a b z h k l = rw (nat_abs_mul (pos (a * b)) z) (mul-le-mul (two-within a b h k) l)

pub product-fits : (a b : ℕ) (z : ℤ) → a ≤ knot_most → b ≤ knot_most → nat_abs z ≤ coordinate_most * knot_most → SFits w64 (pos (a * b) *ℤ z)
product-fits a b z h k l = sfits-of-size w64 (pos (a * b) *ℤ z) (omega (arith, product-within a b z h k l))

-- what `scaled` answered, read again
pub read-scaled : (a b : ℕ) (z r : ℤ) → a ≤ knot_most → b ≤ knot_most → nat_abs z ≤ coordinate_most * knot_most → r ≡ pos (a * b) *ℤ to_z w64 (of_z w64 z)
    → to_z w64 (of_z w64 r) ≡ pos (a * b) *ℤ z
read-scaled a b z r h k l e = rw (e, to_z-of_z (sfits-of-size w64 z (omega (arith, l)))) (to_z-of_z (product-fits a b z h k l))

-- a number on the grid is no further out than the grid is wide
pub value-within : (z : ℤ) (d : ℕ) → nat_abs z ≤ coordinate_most * d → nat_abs (quot_z z (pos d)) ≤ coordinate_most
value-within z d h = rw (nat_abs-quot z d) (div-le_of_le-mul d (omega (arith, h)))

-- the sum of two such products
pub sum_fits : (a b e f : ℕ) (z y : ℤ) → a ≤ knot_most → b ≤ knot_most → nat_abs z ≤ coordinate_most * knot_most → e ≤ knot_most → f ≤ knot_most → nat_abs y ≤ coordinate_most * knot_most
    → SFits w64 (pos (a * b) *ℤ z +ℤ pos (e * f) *ℤ y)
sum_fits a b e f z y ha hb hz he hf hy =
    sfits-sum w64 (pos (a * b) *ℤ z) (pos (e * f) *ℤ y) (knot_most * knot_most * (coordinate_most * knot_most)) (knot_most * knot_most * (coordinate_most * knot_most))
    (product-within a b z ha hb hz) (product-within e f y he hf hy) (omega arith)

-- three numbers no larger than a knot
pub three-fit : (a b e : ℕ) → a ≤ knot_most → b ≤ knot_most → e ≤ knot_most → Fits w64 (a * (b * e))
three-fit a b e ha hb he = record { fits = omega (arith, mul-le-mul ha (two-within b e hb he)) }
