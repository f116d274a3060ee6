-- The curve stays among its m+1 carrying numbers: a property that holds of every number between two of which it holds goes
-- from them to the curve. So the basis adds up to 1, and the curve lies between the least and the greatest of them.
-- Others may cite `curve-among`, `basis-unity`, `curve-bounded`.
use mathlib.Core.Path.{◌≡◌, refl, sym, ◌∙◌, subst}
use mathlib.Core.List.{[], ◌∷◌}
use Prim.Native.Nat.{ℕ, zero, suc, ◌+◌, ◌-◌, ◌≤◌, ◌<◌}
use native.Mathlib.Omega.{arith}
use Rattle.algebra.specs.Operations.{sub, div}
use Rattle.algebra.specs.OrderedField.{OrderedField, AtMost, Below, Side, Bounds}
use Rattle.algebra.specs.Ring.{field_ring}
use Rattle.algebra.proofs.OrderLaws as Order
use Rattle.algebra.proofs.OrderLaws.{mean-bounded, div-nonneg}
use Rattle.algebra.proofs.Expressions.{var, lit, ◌⊕◌, ◌⊗◌, ◌⊖◌, expressions}
use Rattle.algebra.proofs.Solver.{ring, linear-combination, fact}
use Rattle.splines.specs.Basis.{basis, sum_of, curve_at}
use Rattle.splines.specs.Triangle.{cell, entry}
use Rattle.splines.specs.Span.{Rising, InSpan}
use Rattle.splines.proofs.SumLaws.{sum_same}
use Rattle.splines.proofs.SpanLaws.{divisor-inverse, left-of, right_of, apart-round}
use Rattle.splines.proofs.TriangleLaws.{triangle-is-curve}

module _ (F : OrderedField) where
  open F use {operations as O, laws}
  open O use {Number, add, mul, inv}

  -- what holds of two numbers holds of each cell over them
  abbrev pub Convex : (P : Number → Type 0) → Type 0
  Convex P =
      (w t low left right : Number) → AtMost F low t → AtMost F t w → Below F low w → P left → P right
      → P (cell O w t low left right)

  -- the numbers on one side of a bound
  pub side-convex : (side : Side) (bound : Number) → Convex (Bounds F side bound)
  side-convex side bound w t low left right h l some p q =
      subst (Bounds F side bound) mean
      (mean-bounded F side bound left right _ _ (div-nonneg F _ _ l width) (div-nonneg F _ _ h width) whole p q)
    where
      width : AtMost F low w
      width = Order.AtMost-of-below F low w some

      whole : add (div O (sub O w t) (sub O w low)) (div O (sub O t low) (sub O w low)) ≡ O.one
      whole =
          linear-combination (field_ring F) (w ∷ t ∷ low ∷ inv (sub O w low) ∷ [])
          ((var 0 ⊖ var 1) ⊗ var 3 ⊕ (var 1 ⊖ var 2) ⊗ var 3) (lit 1)
          (fact (lit 1) ((var 0 ⊖ var 2) ⊗ var 3) (lit 1) ∷ []) (divisor-inverse F low w some, tt) refl

      mean : add (mul (div O (sub O w t) (sub O w low)) left) (mul (div O (sub O t low) (sub O w low)) right)
          ≡ cell O w t low left right
      mean =
          ring (field_ring F) (w ∷ t ∷ low ∷ left ∷ right ∷ inv (sub O w low) ∷ [])
          ((var 0 ⊖ var 1) ⊗ var 5 ⊗ var 3 ⊕ (var 1 ⊖ var 2) ⊗ var 5 ⊗ var 4)
          (cell (expressions [] 5) (var 0) (var 1) (var 2) (var 3) (var 4)) refl

  -- a single number
  pub point-convex : (c : Number) → Convex (λ x. x ≡ c)
  point-convex c w t low left right h l some p q =
      linear-combination (field_ring F) (c ∷ w ∷ t ∷ low ∷ left ∷ right ∷ inv (sub O w low) ∷ [])
      (cell (expressions [] 6) (var 1) (var 2) (var 3) (var 4) (var 5)) (var 0)
      (fact (var 0) ((var 1 ⊖ var 3) ⊗ var 6) (lit 1)
      ∷ fact ((var 1 ⊖ var 2) ⊗ var 6) (var 4) (var 0)
      ∷ fact ((var 2 ⊖ var 3) ⊗ var 6) (var 5) (var 0)
      ∷ []) (divisor-inverse F low w some, (p, (q, tt))) refl

  module _ (ts : ℕ → Number) (last i : ℕ) (t : Number) (rising : Rising F ts last) (span : InSpan F ts i t) where
    -- row by row, from the carrying numbers up
    entry-among : (P : Number → Type 0) → Convex P → (ps : ℕ → Number) (m : ℕ) → m ≤ i → i + m ≤ last
        → ((j : ℕ) → i ≤ j + m → j ≤ i → P (ps j))
        → (r j : ℕ) → r ≤ m → i + r ≤ j + m → j ≤ i → P (entry O ts ps m t r j)
    unfolding entry
    entry-among P convex ps m mi ends carried zero j h k l = carried j (omega arith) l
    entry-among P convex ps m mi ends carried (suc r) j h k l =
        convex (ts (j + m - r)) t (ts j) _ _
        (left-of F ts last i t rising span j l (omega arith))
        (right_of F ts last i t rising span (j + m - r) (omega arith) (omega arith))
        (apart-round F ts last i rising span.some j (j + m - r) l (omega arith) (omega arith))
        (entry-among P convex ps m mi ends carried r (j - 1) (omega arith) (omega arith) (omega arith))
        (entry-among P convex ps m mi ends carried r j (omega arith) (omega arith) l)

    -- what is convex and holds of the carrying numbers holds of the curve
    pub curve-among : (P : Number → Type 0) → Convex P → (ps : ℕ → Number) (m count : ℕ)
        → m ≤ i → i + m ≤ last → i < count → ((j : ℕ) → i ≤ j + m → j ≤ i → P (ps j)) → P (curve_at O ts ps m count i t)
    curve-among P convex ps m count mi ends inside carried =
        subst P (triangle-is-curve F ts t i count inside ps m mi)
        (entry-among P convex ps m mi ends carried m i (omega arith) (omega arith) (omega arith))

    -- the basis adds up to 1
    pub basis-unity : (r count : ℕ) → r ≤ i → i + r ≤ last → i < count → sum_of O (basis O ts i t r) count ≡ O.one
    unfolding curve_at
    basis-unity r count ri ends inside =
        sum_same O _ _ count (λ j h. sym (laws.mul-one _))
        ∙ curve-among (λ x. x ≡ O.one) (point-convex O.one) (λ _. O.one) r count ri ends inside (λ j h k. refl)

    -- the curve is bounded by what bounds its carrying numbers, on either side
    pub curve-bounded : (side : Side) (bound : Number) (ps : ℕ → Number) (m count : ℕ)
        → m ≤ i → i + m ≤ last → i < count → ((j : ℕ) → i ≤ j + m → j ≤ i → Bounds F side bound (ps j))
        → Bounds F side bound (curve_at O ts ps m count i t)
    curve-bounded side bound = curve-among (Bounds F side bound) (side-convex side bound)
