-- A signed number that code reads is the number that was lent.
use mathlib.Core.Bool.{Bool}
use mathlib.Core.Path.{◌≡◌}
use lib.IntN.{ℤ}
use mir.Syntax.{Width}
use mir.Val.{to_z, of_z, SFits, hbits}
use lib.Signed.{mag}
use Prim.Native.Nat.{◌<◌, ◌^◌}
use mir.Facts.{to_z-of_z}

-- a test that code made of two signed numbers is the test of the numbers
pub test-as-read : {w : Width} (test : ℤ → ℤ → Bool) {a b : ℤ} {t : Bool} → SFits w a → SFits w b → test (to_z w (of_z w a)) (to_z w (of_z w b)) ≡ t → test a b ≡ t
test-as-read test fa fb h = rw (to_z-of_z fa, to_z-of_z fb) at h

-- a number within the width's range is read as it was lent
pub number-as-read : (w : Width) (z : ℤ) → mag z < 2 ^ hbits w → to_z w (of_z w z) ≡ z
number-as-read w z h = to_z-of_z (record { sfits = h })
