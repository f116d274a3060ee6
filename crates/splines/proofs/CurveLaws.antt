-- What the curve reads, in any arithmetic: of the control numbers those below their number, of the knots those up to the
-- number of points and the degree. So lists that agree there give the same curve. Others may cite `basis-same`, `curve-same`.
use mathlib.Core.Path.{◌≡◌, refl, ap₂}
use Prim.Native.Nat.{ℕ, zero, suc, ◌+◌, ◌≤◌, ◌<◌}
use native.Mathlib.Omega.{arith}
use Rattle.algebra.specs.Operations.{Operations, sub, div}
use Rattle.splines.specs.Basis.{basis, curve_at}
use Rattle.splines.proofs.SumLaws.{sum_same}

module _ (O : Operations) (ts us : ℕ → O.Number) (last : ℕ) (same : (j : ℕ) → j ≤ last → ts j ≡ us j)
    (i : ℕ) (t : O.Number) where
  pub basis-same : (r j : ℕ) → j + r < last → basis O ts i t r j ≡ basis O us i t r j
  unfolding basis
  basis-same zero j h = refl
  basis-same (suc r) j h =
      ap₂ O.add
      (ap₂ O.mul
      (ap₂ (λ w low. div O (sub O t low) (sub O w low)) (same (j + suc r) (omega arith)) (same j (omega arith)))
      (basis-same r j (omega arith)))
      (ap₂ O.mul
      (ap₂ (λ w low. div O (sub O w t) (sub O w low)) (same (j + suc r + 1) (omega arith)) (same (j + 1) (omega arith)))
      (basis-same r (j + 1) (omega arith)))

  pub curve-same : (ps qs : ℕ → O.Number) (m count : ℕ) → count + m ≤ last → ((j : ℕ) → j < count → ps j ≡ qs j)
      → curve_at O ts ps m count i t ≡ curve_at O us qs m count i t
  unfolding curve_at
  curve-same ps qs m count ends agree =
      sum_same O _ _ count (λ j h. ap₂ O.mul (basis-same m j (omega arith)) (agree j h))
