-- A difference of two numbers is no larger, either way, than the larger of them; so where both fit a signed width, it fits.
use mathlib.Core.Bool.{Bool, true, false, cond}
use Prim.Native.Nat.{ℕ, zero, suc, ◌-◌, ◌<◌}
use native.Mathlib.Nat.{add-zero}
use native.Mathlib.Omega.{arith}
use lib.Dec.{ltb}
use lib.IntN.{pos, negsuc, ◌-ℤ◌}
use lib.Signed.{mag}

pub difference_below : (a b h : ℕ) → a < h → b < h → mag (pos a -ℤ pos b) < h
difference_below a zero h ha hb = simp add-zero ha
difference_below a (suc b) h ha hb = either (ltb a (suc b))
  where
    either : (t : Bool) → mag (cond t (negsuc (suc b - suc a)) (pos (a - suc b))) < h
    either true = omega arith
    either false = omega arith
