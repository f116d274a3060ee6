-- What an entry of the triangle reads, in any arithmetic: lists read one place on give the entry one place on, and lists that
-- agree round a span give the same entry there. Others may cite `same-cell`, `entry-shift`, `entry-same`.
use mathlib.Core.Path.{◌≡◌, refl, ap, ◌∙◌}
use Prim.Native.Nat.{ℕ, zero, suc, ◌+◌, ◌-◌, ◌≤◌}
use native.Mathlib.Omega.{arith}
use Rattle.algebra.specs.Operations.{Operations}
use Rattle.splines.specs.Triangle.{cell, entry}

-- a cell over equal numbers
pub same-cell : (O : Operations) {w upper t at low lower l left r right : O.Number}
    → w ≡ upper → t ≡ at → low ≡ lower → l ≡ left → r ≡ right → cell O w t low l r ≡ cell O upper at lower left right
same-cell O p s q x y = λ i. cell O (p i) (s i) (q i) (x i) (y i)

module _ (O : Operations) (m : ℕ) (t : O.Number) where
  pub entry-shift : (ts ps : ℕ → O.Number) (r j : ℕ) → r ≤ j → r ≤ m
      → entry O (λ a. ts (a + 1)) (λ a. ps (a + 1)) m t r j ≡ entry O ts ps m t r (j + 1)
  unfolding entry
  entry-shift ts ps zero j h l = refl
  entry-shift ts ps (suc r) j h l =
      same-cell O (ap ts high) refl refl
      (entry-shift ts ps r (j - 1) (omega arith) (omega arith) ∙ ap (entry O ts ps m t r) back)
      (entry-shift ts ps r j (omega arith) (omega arith))
    where
      high : j + m - r + 1 ≡ j + 1 + m - r
      high = omega arith

      back : j - 1 + 1 ≡ j + 1 - 1
      back = omega arith

  module _ (ts us ps qs : ℕ → O.Number) (i : ℕ) (mi : m ≤ i) (knots : (j : ℕ) → j ≤ i + m → ts j ≡ us j)
      (points : (j : ℕ) → i ≤ j + m → j ≤ i → ps j ≡ qs j) where
    row_same : (r j : ℕ) → r ≤ m → i + r ≤ j + m → j ≤ i → entry O ts ps m t r j ≡ entry O us qs m t r j
    unfolding entry
    row_same zero j h k l = points j (omega arith) l
    row_same (suc r) j h k l =
        same-cell O (knots (j + m - r) (omega arith)) refl (knots j (omega arith))
        (row_same r (j - 1) (omega arith) (omega arith) (omega arith)) (row_same r j (omega arith) (omega arith) l)

    pub entry-same : entry O ts ps m t m i ≡ entry O us qs m t m i
    entry-same = row_same m i (omega arith) (omega arith) (omega arith)
