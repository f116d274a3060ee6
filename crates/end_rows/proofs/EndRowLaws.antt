-- Rows of means at an end: a row changes nothing where the outer knot has reached the end value, and what follows the rule of
-- the rows is the rows. Others may cite `end_number-old`, `start-mean`, `end-mean`, `rows_end`.
use mathlib.Core.Path.{◌≡◌, refl, ap, ap₂, sym, ◌∙◌}
use mathlib.Core.List.{[], ◌∷◌}
use Prim.Native.Nat.{ℕ, zero, suc, ◌+◌, ◌-◌, ◌≤◌, ◌<◌}
use native.Mathlib.Omega.{arith}
use native.Mathlib.Decide.{dec_le}
use Rattle.algebra.specs.Operations.{Operations, sub, div}
use Rattle.algebra.specs.OrderedField.{OrderedField}
use Rattle.algebra.specs.Ring.{field_ring}
use Rattle.algebra.proofs.Expressions.{var, lit, ◌⊕◌, ◌⊗◌, ◌⊖◌, expressions}
use Rattle.algebra.proofs.Solver.{ring, linear-combination, fact}
use Rattle.splines.specs.Triangle.{cell}
use Rattle.end_rows.specs.EndRows.{mean, end_row, end_number}

-- from k = m-1 on the point is the old one
pub end_number-old : (O : Operations) (d e ps : ℕ → O.Number) (m k : ℕ) → m ≤ k + 1 → end_number O d e ps m k ≡ ps k
unfolding end_row
end_number-old O d e ps m k h = ap (λ r. end_row O d e ps m r k) none
  where
    none : m - 1 - k ≡ 0
    none = omega arith

module _ (F : OrderedField) where
  open F use {operations as O, laws}
  open O use {Number, add, inv}

  -- a mean with the second weight zero
  mean-alone : (d p e q : Number) → e ≡ O.zero → (d ≡ O.zero → ⊥) → mean O d p e q ≡ p
  mean-alone d p e q none apart =
      linear-combination (field_ring F) (d ∷ p ∷ e ∷ q ∷ inv (add d e) ∷ [])
      (mean (expressions [] 4) (var 0) (var 1) (var 2) (var 3)) (var 1)
      (fact (var 1) ((var 0 ⊕ var 2) ⊗ var 4) (lit 1) ∷ fact ((var 3 ⊖ var 1) ⊗ var 4) (var 2) (lit 0) ∷ [])
      (laws.mul-inv (add d e) (λ h. apart (sym (laws.add-zero d) ∙ ap (add d) (sym none) ∙ h)), (none, tt)) refl

  -- a cell is a mean, with the weights from the start or from the end
  pub start-mean : (w t low left right : Number) → cell O w t low left right ≡ mean O (sub O w t) left (sub O t low) right
  start-mean w t low left right =
      ap (div O _) (ring (field_ring F) (w ∷ t ∷ low ∷ []) (var 0 ⊖ var 2) (var 0 ⊖ var 1 ⊕ (var 1 ⊖ var 2)) refl)

  pub end-mean : (w t low left right : Number) → cell O w t low left right ≡ mean O (sub O t low) right (sub O w t) left
  end-mean w t low left right =
      ap₂ (div O) (laws.add_comm _ _) (ring (field_ring F) (w ∷ t ∷ low ∷ []) (var 0 ⊖ var 2) (var 1 ⊖ var 2 ⊕ (var 0 ⊖ var 1)) refl)

  module _ (d e ps : ℕ → Number) (m count : ℕ) (touch : e 0 ≡ O.zero)
      (apart : (k : ℕ) → k ≤ count → d (k + 1) ≡ O.zero → ⊥) where
    abbrev row : ℕ → ℕ → Number
    row = end_row O d e ps m

    -- from row m-1-k on the k-th number stays
    row_stays : (r k : ℕ) → k ≤ count → m ≤ k + r + 1 → row (suc r) k ≡ row r k
    unfolding end_row
    row_stays r k up h = mean-alone (d (k + 1)) (row r k) _ (row r (k + 1)) (ap e none ∙ touch) (apart k up)
      where
        none : m - k - r - 1 ≡ 0
        none = omega arith

    row_settled : (s k : ℕ) → k ≤ count → row (m - 1 - k + s) k ≡ end_number O d e ps m k
    row_settled zero k up = ap (λ r. row r k) (omega arith)
    row_settled (suc s) k up = ap (λ r. row r k) next ∙ row_stays (m - 1 - k + s) k up (omega arith) ∙ row_settled s k up
      where
        next : m - 1 - k + suc s ≡ suc (m - 1 - k + s)
        next = omega arith

    -- numbers that are made row by row by the same rule; from k = m on nothing is done
    module _ (xs : ℕ → ℕ → Number) (room : m ≤ count) (first : (k : ℕ) → k ≤ count → xs 0 k ≡ ps k)
        (means : (r k : ℕ) → k < m → k ≤ count → xs (suc r) k ≡ mean O (d (k + 1)) (xs r k) (e (m - k - r - 1)) (xs r (k + 1)))
        (stays : (r k : ℕ) → m ≤ k → k ≤ count → xs (suc r) k ≡ xs r k) where
      rows : (r k : ℕ) → k ≤ count → xs r k ≡ row r k
      unfolding end_row
      rows zero k up = first k up
      rows (suc r) k up =
          elim (dec_le m k) [
            | yes h ↦ stays r k h up ∙ rows r k up ∙ sym (row_stays r k up (omega arith))
            | no h ↦
                means r k (omega arith) up
                ∙ ap₂ (λ p q. mean O (d (k + 1)) p (e (m - k - r - 1)) q) (rows r k up) (rows r (k + 1) (omega arith))
          ]

      pub rows_end : (k : ℕ) → k ≤ count → xs m k ≡ end_number O d e ps m k
      rows_end k up = rows m k up ∙ ap (λ r. row r k) split ∙ row_settled (m - (m - 1 - k)) k up
        where
          split : m ≡ m - 1 - k + (m - (m - 1 - k))
          split = omega arith
