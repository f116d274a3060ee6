-- An i64 is known by its bits, and the difference of two products of a u16 and an i32 is an i64.
use mathlib.Core.Path.{◌≡◌, sym, ap, ◌∙◌}
use Prim.Native.Nat.{ℕ, ◌<◌, ◌^◌}
use native.Mathlib.Omega.{arith}
use lib.IntN.{ℤ, pos, ◌-ℤ◌, ◌*ℤ◌}
use mir.Syntax.{w32, w64}
use mir.Val.{SFits, to_z, of_z}
use mir.ValLaws.{to_z-of_z}
use Rattle.signed.proofs.FitLaws.{fits64-of-size, product-size}
use Rattle.signed.proofs.BoundLaws.{nat_abs-difference}

pub bits-equal : (a b : ℤ) → SFits w64 a → SFits w64 b → of_z w64 a ≡ of_z w64 b → a ≡ b
bits-equal a b ha hb e = sym (to_z-of_z w64 a ha) ∙ ap (to_z w64) e ∙ to_z-of_z w64 b hb

pub difference-fits : (a b : ℕ) (p q : ℤ) → a < 2 ^ 16 → b < 2 ^ 16 → SFits w32 p → SFits w32 q
    → SFits w64 (pos a *ℤ p -ℤ pos b *ℤ q)
difference-fits a b p q ha hb hp hq =
    fits64-of-size (pos a *ℤ p -ℤ pos b *ℤ q)
    (omega (arith, nat_abs-difference (pos a *ℤ p) (pos b *ℤ q), product-size a p ha hp, product-size b q hb hq))
