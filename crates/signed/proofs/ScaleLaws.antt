-- Order and equality under a sum and under a natural multiple.
use mathlib.Core.Path.{◌≡◌, sym, ◌∙◌, ap}
use Prim.Native.Nat.{ℕ, ◌<◌}
use native.Mathlib.Nat.{eq_of_mul-eq-mul_right}
use native.Mathlib.Omega.{arith}
use lib.IntN.{ℤ, pos, ◌*ℤ◌}
use Rattle.signed.specs.Parts.{up, down}
use Rattle.signed.proofs.PartLaws.{times-up, times_down}
use Rattle.signed.proofs.OrderLaws.{parts-equal}

module _ (a b : ℤ) (n : ℕ) where
  pub times-cancel : 0 < n → a *ℤ pos n ≡ b *ℤ pos n → a ≡ b
  times-cancel p e =
      parts-equal a b
      (omega (
        arith,
        eq_of_mul-eq-mul_right n p (up a) (up b) (sym (times-up a n) ∙ ap up e ∙ times-up b n),
        eq_of_mul-eq-mul_right n p (down a) (down b) (sym (times_down a n) ∙ ap down e ∙ times_down b n),
      ))
