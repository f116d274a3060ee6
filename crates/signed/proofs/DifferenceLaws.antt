-- The difference of two numbers that are not below zero.
use mathlib.Core.Path.{◌≡◌, refl, ap}
use Prim.Native.Nat.{ℕ, zero, suc, ◌-◌, ◌≤◌}
use native.Mathlib.Omega.{arith}
use lib.IntN.{pos, ◌-ℤ◌}
use borrow.Author.Tests.{le-ltb}

-- the first no smaller
pub pos-sub : (a b : ℕ) → b ≤ a → pos a -ℤ pos b ≡ pos (a - b)
pos-sub a zero h = ap pos (omega arith)
pos-sub a (suc b) h = rw (le-ltb a (suc b) h) refl
