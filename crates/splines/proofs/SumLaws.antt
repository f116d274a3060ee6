-- Finite sums. Others may cite `sum_same`, `sum-nothing`, `sum-only`, `sum-shift`.
use mathlib.Core.Path.{◌≡◌, refl, ap, ap₂, sym, ◌∙◌}
use mathlib.Core.List.{[], ◌∷◌}
use Prim.Native.Nat.{ℕ, zero, suc, ◌+◌, ◌<◌}
use native.Mathlib.Omega.{arith}
use native.Mathlib.Decide.{ℕ_discrete}
use native.Mathlib.Numerals.{add-one}
use Rattle.algebra.specs.Operations.{Operations}
use Rattle.algebra.specs.OrderedField.{OrderedField}
use Rattle.algebra.specs.Ring.{field_ring}
use Rattle.algebra.proofs.RingLaws as Law
use Rattle.algebra.proofs.Expressions.{var, ◌⊕◌}
use Rattle.algebra.proofs.Solver.{ring}
use Rattle.splines.specs.Basis.{sum_of}

module _ (O : Operations) where
  open O use {Number, add}

  sum-none : (f : ℕ → Number) → sum_of O f zero ≡ O.zero
  unfolding sum_of
  sum-none f = refl

  sum_more : (f : ℕ → Number) (count : ℕ) → sum_of O f (suc count) ≡ add (sum_of O f count) (f count)
  unfolding sum_of
  sum_more f count = refl

  -- sums of equal terms are equal, in any arithmetic
  pub sum_same : (f g : ℕ → Number) (count : ℕ) → ((j : ℕ) → j < count → f j ≡ g j) → sum_of O f count ≡ sum_of O g count
  sum_same f g zero same = rw (sum-none f, sum-none g)
  sum_same f g (suc count) same =
      rw (sum_more f count, sum_more g count)
      (ap₂ add (sum_same f g count (λ j h. same j (omega arith))) (same count (omega arith)))

module _ (F : OrderedField) where
  open F use {operations as O, laws}
  open O use {Number, add}

  -- a sum of zeros
  pub sum-nothing : (f : ℕ → Number) (count : ℕ) → ((j : ℕ) → j < count → f j ≡ O.zero) → sum_of O f count ≡ O.zero
  sum-nothing f zero none = sum-none O f
  sum-nothing f (suc count) none =
      rw (sum_more O f count)
      (ap₂ add (sum-nothing f count (λ j h. none j (omega arith))) (none count (omega arith)) ∙ laws.add-zero _)

  -- a sum of which every term but the one at i is zero
  pub sum-only : (f : ℕ → Number) (count i : ℕ) → i < count → ((j : ℕ) → (j ≡ i → ⊥) → f j ≡ O.zero)
      → sum_of O f count ≡ f i
  sum-only f zero i h none = absurd (omega arith)
  sum-only f (suc count) i h none =
      rw (sum_more O f count)
      (elim (ℕ_discrete i count) [
        | yes e ↦
            ap₂ add (sum-nothing f count (λ j k. none j (λ q. omega arith))) (ap f (sym e)) ∙ Law.zero-add (field_ring F) _
        | no e ↦ ap₂ add (sum-only f count i (omega arith) none) (none count (λ q. e (sym q))) ∙ laws.add-zero _
      ])

  -- the second summands taken one index later: what is left over stands at the two ends
  pub sum-shift : (a b : ℕ → Number) (count : ℕ)
      → add (sum_of O (λ j. add (a j) (b (j + 1))) count) (b 0) ≡ add (sum_of O (λ j. add (a j) (b j)) count) (b count)
  sum-shift a b zero = rw (sum-none O, sum-none O)
  sum-shift a b (suc count) =
      rw (sum_more O (λ j. add (a j) (b (j + 1))) count, sum_more O (λ j. add (a j) (b j)) count, add-one count)
      (exchange _ _ (b 0) ∙ ap (λ x. add x (add (a count) (b (suc count)))) (sum-shift a b count) ∙ regroup _ _ _ _)
    where
      exchange : (x y z : Number) → add (add x y) z ≡ add (add x z) y
      exchange x y z = ring (field_ring F) (x ∷ y ∷ z ∷ []) (var 0 ⊕ var 1 ⊕ var 2) (var 0 ⊕ var 2 ⊕ var 1) refl

      regroup : (x y z w : Number) → add (add x y) (add z w) ≡ add (add x (add z y)) w
      regroup x y z w =
          ring (field_ring F) (x ∷ y ∷ z ∷ w ∷ [])
          (var 0 ⊕ var 1 ⊕ (var 2 ⊕ var 3)) (var 0 ⊕ (var 2 ⊕ var 1) ⊕ var 3) refl
