-- A part of a curve has the same triangle as the whole, so many places on; and rows of an end that read the same numbers are the same.
use mathlib.Core.Path.{◌≡◌, ap, ap₂, ◌∙◌}
use Prim.Native.Nat.{ℕ, zero, suc, ◌+◌, ◌-◌, ◌≤◌, ◌<◌}
use native.Mathlib.Omega.{arith}
use Rattle.algebra.specs.Operations.{Operations}
use Rattle.splines.specs.Triangle.{cell, entry}
use Rattle.end_rows.specs.EndRows.{mean, end_row}

-- knots us and control numbers qs are ts and ps from `first` on, as far as span i reads them
module _ (O : Operations) (m : ℕ) (t : O.Number) (ts us ps qs : ℕ → O.Number) (first i : ℕ)
    (knots : (a : ℕ) → a ≤ i + m → us a ≡ ts (first + a)) (points : (a : ℕ) → a ≤ i → qs a ≡ ps (first + a)) where
  rows-moved : (r j : ℕ) → r ≤ m → r ≤ j → j ≤ i → entry O us qs m t r j ≡ entry O ts ps m t r (first + j)
  unfolding entry
  rows-moved zero j s l h = points j h
  rows-moved (suc r) j s l h =
      let high : first + (j + m - r) ≡ first + j + m - r = omega arith in
      let before : first + (j - 1) ≡ first + j - 1 = omega arith in
      ap₂ (λ w low. cell O w t low (entry O us qs m t r (j - 1)) (entry O us qs m t r j))
      (knots (j + m - r) (omega arith) ∙ ap ts high) (knots j (omega arith))
      ∙ ap₂ (cell O (ts (first + j + m - r)) t (ts (first + j)))
      (rows-moved r (j - 1) (omega arith) (omega arith) (omega arith) ∙ ap (entry O ts ps m t r) before)
      (rows-moved r j (omega arith) (omega arith) h)

  pub entry-moved : m ≤ i → entry O us qs m t m i ≡ entry O ts ps m t m (first + i)
  entry-moved l = rows-moved m i (omega arith) l (omega arith)

-- entry k of row r reads the distances inside from k+1 to k+r and those outside below m
module _ (O : Operations) (d e ps f g qs : ℕ → O.Number) (m : ℕ) (some : 1 ≤ m) (outside : (j : ℕ) → j < m → e j ≡ g j) (points : (j : ℕ) → ps j ≡ qs j) where
  pub rows_same : (r k : ℕ) → ((j : ℕ) → k < j → j ≤ k + r → d j ≡ f j) → end_row O d e ps m r k ≡ end_row O f g qs m r k
  unfolding end_row
  rows_same zero k inside = points k
  rows_same (suc r) k inside =
      ap₂ (λ x y. mean O x (end_row O d e ps m r k) y (end_row O d e ps m r (k + 1))) (inside (k + 1) (omega arith) (omega arith)) (outside (m - k - r - 1) (omega arith))
      ∙ ap₂ (λ x y. mean O (f (k + 1)) x (g (m - k - r - 1)) y)
      (rows_same r k (λ j a b. inside j a (omega arith)))
      (rows_same r (k + 1) (λ j a b. inside j (omega arith) (omega arith)))
