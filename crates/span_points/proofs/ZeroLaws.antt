-- A curve that is zero on a span has zeros for its carrying numbers there. It is zero everywhere, and so is its slope; so the curve one
-- degree lower over the control numbers' row at v is zero too, for every v, and with v at either end of a cell that row has the control
-- numbers themselves. Others may cite `zero-span`.
use mathlib.Core.Path.{◌≡◌, refl, ap, sym, ◌∙◌}
use mathlib.Core.List.{[], ◌∷◌}
use Prim.Native.Nat.{ℕ, zero, suc, ◌+◌, ◌-◌, ◌≤◌}
use native.Mathlib.Omega.{arith}
use native.Mathlib.Decide.{dec_le}
use Rattle.algebra.specs.Operations.{sub}
use Rattle.algebra.specs.OrderedField.{OrderedField, AtMost, Below}
use Rattle.algebra.specs.Ring.{field_ring}
use Rattle.algebra.proofs.FieldLaws.{mul-cancel-right}
use Rattle.algebra.proofs.OrderLaws as Order
use Rattle.algebra.proofs.Expressions.{var, lit, ◌⊗◌, ◌⊖◌, minus}
use Rattle.algebra.proofs.Solver.{linear-combination, fact}
use Rattle.splines.specs.Span.{Rising}
use Rattle.splines.specs.Triangle.{entry}
use Rattle.splines.proofs.CellLaws.{cell-at-low, cell-at-high}
use Rattle.splines.proofs.SpanLaws.{apart-round}
use Rattle.splines.proofs.TriangleLaws.{row}
use Rattle.span_points.proofs.Polynomials.{Smooth}
use Rattle.span_points.proofs.RootLaws.{halfway, above-halfway, below-halfway, poly-zero, slope-zero, numeral-apart}
use Rattle.span_points.proofs.SlopeLaws.{entry_slope, entry-smooth, entry-slope}

module _ (F : OrderedField) where
  open F use {operations as O}
  open O use {Number, mul}

  -- what is left of y·s = n·(q - p) where s and p are zero and n is not
  factor-zero : (y s n q p : Number) → (n ≡ O.zero → ⊥) → mul y s ≡ mul n (sub O q p) → s ≡ O.zero → p ≡ O.zero
      → q ≡ O.zero
  factor-zero y s n q p apart e flat none =
      mul-cancel-right F q O.zero n apart
      (linear-combination (field_ring F) (y ∷ s ∷ n ∷ q ∷ p ∷ [])
      (var 3 ⊗ var 2) (lit 0 ⊗ var 2)
      (fact (minus (lit 1)) (var 0 ⊗ var 1) (var 2 ⊗ (var 3 ⊖ var 4))
      ∷ fact (var 0) (var 1) (lit 0)
      ∷ fact (var 2) (var 4) (lit 0)
      ∷ []) (e, (flat, (none, tt))) refl)

  -- the curve is zero on span i, its right end left out
  abbrev pub ZeroOn : (ts ps : ℕ → Number) (m i : ℕ) → Type 0
  ZeroOn ts ps m i =
      (t : Number) → AtMost F (ts i) t → Below F t (ts (i + 1)) → entry O ts ps m t m i ≡ O.zero

  module _ (ts ps : ℕ → Number) (m i : ℕ) (rising : Rising F ts (i + suc m)) (from : suc m ≤ i)
      (some : Below F (ts i) (ts (i + 1))) where
    -- the curve over the row at v
    lower-zero : ZeroOn ts ps (suc m) i → (v t : Number) → entry O ts (row F ts v ps m) m t m i ≡ O.zero
    lower-zero none v t =
        factor-zero _ _ _ _ _ (numeral-apart F m)
        (entry-slope F ts ps m i rising (omega arith) some v t m 0 i (omega arith) (omega arith) (omega arith))
        (sym (smooth.slope t) ∙ slope-zero F (suc m) _ t (smooth.quotient t) everywhere)
        (everywhere t)
      where
        smooth : Smooth O (suc m) (λ t. entry O ts ps (suc m) t (suc m) i) (λ x. entry_slope O ts ps (suc m) x (suc m) i)
        smooth = entry-smooth F ts ps (suc m) (suc m) i

        everywhere : (t : Number) → entry O ts ps (suc m) t (suc m) i ≡ O.zero
        everywhere =
            poly-zero F (suc m) _ smooth.poly (ts i) (halfway F (ts i) (ts (i + 1))) (above-halfway F (ts i) (ts (i + 1)) some)
            (λ t l u. none t (Order.AtMost-of-below F (ts i) t l) (Order.AtMost-below-trans F t _ (ts (i + 1)) u (below-halfway F (ts i) (ts (i + 1)) some)))

    -- from the row at v, for every v, to the control numbers
    ends-zero : ((v : Number) (j : ℕ) → i ≤ j + m → j ≤ i → row F ts v ps m j ≡ O.zero)
        → (j : ℕ) → i ≤ j + suc m → j ≤ i → ps j ≡ O.zero
    ends-zero none j h l =
        elim (dec_le i (j + m)) [
          | yes k ↦
              sym (cell-at-high F (ts (j + suc m)) (ts j) (ps (j - 1)) (ps j) (apart j k l)) ∙ none (ts (j + suc m)) j k l
          | no k ↦
              let back : j ≡ j + 1 - 1 = omega arith in
              ap ps back
              ∙ sym
              (cell-at-low F (ts (j + 1 + suc m)) (ts (j + 1)) (ps (j + 1 - 1)) (ps (j + 1))
              (apart (j + 1) (omega arith) (omega arith)))
              ∙ none (ts (j + 1)) (j + 1) (omega arith) (omega arith)
        ]
      where
        apart : (j : ℕ) → i ≤ j + m → j ≤ i → Below F (ts j) (ts (j + suc m))
        apart j h l = apart-round F ts (i + suc m) i rising some j (j + suc m) l (omega arith) (omega arith)

  pub zero-span : (m : ℕ) (ts ps : ℕ → Number) (i : ℕ) → Rising F ts (i + m) → m ≤ i → Below F (ts i) (ts (i + 1))
      → ZeroOn ts ps m i → (j : ℕ) → i ≤ j + m → j ≤ i → ps j ≡ O.zero
  unfolding entry
  zero-span zero ts ps i rising from some none j h l =
      ap ps same ∙ none (ts i) (Order.AtMost-refl F (ts i)) some
    where
      same : j ≡ i
      same = omega arith
  zero-span (suc m) ts ps i rising from some none j h l =
      ends-zero ts ps m i rising from some
      (λ v.
      zero-span m ts (row F ts v ps m) i (λ a b h k. rising a b h (omega arith)) (omega arith) some
      (λ t l u. lower-zero ts ps m i rising from some none v t)) j h l
