-- Which signed type holds a number, by its size; and what a number is read as from a wider type.
use mathlib.Core.Path.{◌≡◌}
use Prim.Native.Nat.{ℕ, ◌*◌, ◌^◌, ◌≤◌, ◌<◌}
use native.Mathlib.Nat.{mul-le-mul}
use native.Mathlib.Omega.{arith}
use lib.IntN.{ℤ, pos, nat_abs, ◌*ℤ◌}
use mir.Syntax.{w32, w64}
use mir.Val.{SFits, to_z, of_z}
use mir.ValLaws.{to_z-of_z, to_z_pos}
use Rattle.signed.proofs.WidthLaws.{sfits-of-size, size-of-sfits}
use Rattle.signed.proofs.SizeLaws.{nat_abs_mul}

-- an i64, an i32
pub fits64-of-size : (z : ℤ) → nat_abs z < 2 ^ 63 → SFits w64 z
fits64-of-size = sfits-of-size w64

pub fits32-of-size : (z : ℤ) → nat_abs z < 2 ^ 31 → SFits w32 z
fits32-of-size = sfits-of-size w32

-- how large an i32 can be, and an i64
pub size-of-fits32 : (z : ℤ) → SFits w32 z → nat_abs z ≤ 2 ^ 31
size-of-fits32 = size-of-sfits w32

pub size-of-fits64 : (z : ℤ) → SFits w64 z → nat_abs z ≤ 2 ^ 63
size-of-fits64 = size-of-sfits w64

-- an i32 is an i64
pub fits_wider : (z : ℤ) → SFits w32 z → SFits w64 z
fits_wider z h = fits64-of-size z (omega (arith, size-of-fits32 z h))

-- an i32 that was cast to an i64, and a u16
pub read-wider : (z : ℤ) → SFits w32 z → to_z w64 (of_z w64 (to_z w32 (of_z w32 z))) ≡ z
read-wider z h = rw (to_z-of_z w32 z h) (to_z-of_z w64 z (fits_wider z h))

pub read_short : (n : ℕ) → n < 2 ^ 16 → to_z w64 n ≡ pos n
read_short n h = to_z_pos w64 n (omega arith)

-- a u16 times an i32: how large, and that an i64 holds it
pub product-size : (a : ℕ) (z : ℤ) → a < 2 ^ 16 → SFits w32 z → nat_abs (pos a *ℤ z) ≤ 2 ^ 16 * 2 ^ 31
product-size a z ha hz =
    let short : a ≤ 2 ^ 16 = omega arith in
    rw (nat_abs_mul (pos a) z) (mul-le-mul short (size-of-fits32 z hz))

pub product-fits : (a : ℕ) (z : ℤ) → a < 2 ^ 16 → SFits w32 z → SFits w64 (pos a *ℤ z)
product-fits a z ha hz = fits64-of-size (pos a *ℤ z) (omega (arith, product-size a z ha hz))

-- what `product` answered, read again
pub read-product : (a : ℕ) (z r : ℤ) → a < 2 ^ 16 → SFits w32 z → r ≡ pos a *ℤ to_z w32 (of_z w32 z) → to_z w64 (of_z w64 r) ≡ pos a *ℤ z
read-product a z r ha hz e = rw (e, to_z-of_z w32 z hz) (to_z-of_z w64 (pos a *ℤ z) (product-fits a z ha hz))
