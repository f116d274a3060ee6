-- Every entry of row r is a polynomial in t of degree r. Its slope at x, times v - x, is r times the difference that it makes to have v in
-- place of x in one row. Others may cite `entry-smooth`, `entry-slope`.
use mathlib.Core.Path.{◌≡◌, refl, sym}
use mathlib.Core.List.{[], ◌∷◌}
use Prim.Native.Nat.{ℕ, zero, suc, ◌+◌, ◌-◌, ◌≤◌, ◌<◌}
use native.Mathlib.Omega.{arith}
use Rattle.algebra.specs.Operations.{Operations, sub}
use Rattle.algebra.specs.OrderedField.{OrderedField, Below}
use Rattle.algebra.specs.Ring.{field_ring, numeral}
use Rattle.algebra.proofs.Expressions.{var, lit, ◌⊕◌, ◌⊗◌, ◌⊖◌, expressions}
use Rattle.algebra.proofs.Solver.{ring, linear-combination, fact}
use Rattle.splines.specs.Span.{Rising}
use Rattle.splines.specs.Triangle.{cell, entry}
use Rattle.splines.proofs.TriangleLaws.{row, entry-step}
use Rattle.span_points.proofs.Polynomials.{Smooth, cell_slope, constant-smooth, cell-smooth}
use Rattle.span_points.proofs.ExchangeLaws.{row-exchange}

-- the slope of entry j of row r, at x
unfoldable pub entry_slope : (O : Operations) (ts ps : ℕ → O.Number) (m : ℕ) (x : O.Number) → ℕ → ℕ → O.Number
entry_slope O ts ps m x zero j = O.zero
entry_slope O ts ps m x (suc r) j =
    cell_slope O (ts (j + m - r)) x (ts j) (entry O ts ps m x r (j - 1)) (entry O ts ps m x r j)
    (entry_slope O ts ps m x r (j - 1)) (entry_slope O ts ps m x r j)

module _ (F : OrderedField) where
  open F use {operations as O}
  open O use {Number, add, mul, inv}

  pub entry-smooth : (ts ps : ℕ → Number) (m r j : ℕ)
      → Smooth O r (λ t. entry O ts ps m t r j) (λ x. entry_slope O ts ps m x r j)
  unfolding entry entry_slope
  entry-smooth ts ps m zero j = constant-smooth F (ps j)
  entry-smooth ts ps m (suc r) j =
      cell-smooth F (ts (j + m - r)) (ts j) r _ _ _ _ (entry-smooth ts ps m r (j - 1)) (entry-smooth ts ps m r j)

  -- the first row: (v - x) times the slope of a line is its value at v less that at x
  line-slope : (w low left right v x : Number)
      → mul (sub O v x) (cell_slope O w x low left right O.zero O.zero)
      ≡ mul O.one (sub O (cell O w v low left right) (cell O w x low left right))
  line-slope w low left right v x =
      ring (field_ring F) (w ∷ low ∷ left ∷ right ∷ v ∷ x ∷ inv (sub O w low) ∷ [])
      ((var 4 ⊖ var 5) ⊗ cell_slope (expressions [] 6) (var 0) (var 5) (var 1) (var 2) (var 3) (lit 0) (lit 0))
      (lit 1 ⊗ (cell (expressions [] 6) (var 0) (var 4) (var 1) (var 2) (var 3)
      ⊖ cell (expressions [] 6) (var 0) (var 5) (var 1) (var 2) (var 3))) refl

  -- a later row: a and b are the two entries above with v in place of x once, n counts the rows up to them
  next-slope : (w low left right left_slope right_slope a b v x n c : Number)
      → mul (sub O v x) left_slope ≡ mul n (sub O a left) → mul (sub O v x) right_slope ≡ mul n (sub O b right)
      → cell O w v low left right ≡ c → cell O w x low a b ≡ c
      → mul (sub O v x) (cell_slope O w x low left right left_slope right_slope)
      ≡ mul (add n O.one) (sub O c (cell O w x low left right))
  next-slope w low left right left_slope right_slope a b v x n c on_left on_right last first =
      linear-combination (field_ring F)
      (w ∷ low ∷ left ∷ right ∷ v ∷ x ∷ left_slope ∷ right_slope ∷ a ∷ b ∷ n ∷ c ∷ inv (sub O w low) ∷ [])
      ((var 4 ⊖ var 5) ⊗ cell_slope (expressions [] 12) (var 0) (var 5) (var 1) (var 2) (var 3) (var 6) (var 7))
      ((var 10 ⊕ lit 1) ⊗ (var 11 ⊖ cell (expressions [] 12) (var 0) (var 5) (var 1) (var 2) (var 3)))
      (fact ((var 0 ⊖ var 5) ⊗ var 12) ((var 4 ⊖ var 5) ⊗ var 6) (var 10 ⊗ (var 8 ⊖ var 2))
      ∷ fact ((var 5 ⊖ var 1) ⊗ var 12) ((var 4 ⊖ var 5) ⊗ var 7) (var 10 ⊗ (var 9 ⊖ var 3))
      ∷ fact (lit 1) (cell (expressions [] 12) (var 0) (var 4) (var 1) (var 2) (var 3)) (var 11)
      ∷ fact (var 10) (cell (expressions [] 12) (var 0) (var 5) (var 1) (var 8) (var 9)) (var 11)
      ∷ []) (on_left, (on_right, (last, (first, tt)))) refl

  module _ (ts ps : ℕ → Number) (m i : ℕ) (rising : Rising F ts (i + suc m)) (from : m < i)
      (some : Below F (ts i) (ts (i + 1))) (v x : Number) where
    pub entry-slope : (r s j : ℕ) → r + s ≡ m → i + r ≤ j + m → j ≤ i
        → mul (sub O v x) (entry_slope O ts ps (suc m) x (suc r) j)
        ≡ mul (numeral O (suc r)) (sub O (entry O ts (row F ts v ps m) m x r j) (entry O ts ps (suc m) x (suc r) j))
    unfolding entry entry_slope numeral
    entry-slope zero s j e h l = rw same (line-slope (ts (j + suc m)) (ts j) (ps (j - 1)) (ps j) v x)
      where
        same : j + suc m - 0 ≡ j + suc m
        same = omega arith
    entry-slope (suc r) s j e h l =
        rw same
        (next-slope (ts (j + suc s)) (ts j) (before (j - 1)) (before j) _ _ (changed (j - 1)) (changed j) v x
        (numeral O (suc r)) _
        (entry-slope r (suc s) (j - 1) (omega arith) (omega arith) (omega arith))
        (entry-slope r (suc s) j (omega arith) (omega arith) l)
        (row-exchange F ts ps m i rising from some v x (suc r) s j e h l)
        (sym (entry-step F ts x (row F ts v ps m) m r s j e)))
      where
        before : ℕ → Number
        before = entry O ts ps (suc m) x (suc r)

        changed : ℕ → Number
        changed = entry O ts (row F ts v ps m) m x r

        same : j + suc m - suc r ≡ j + suc s
        same = omega arith
