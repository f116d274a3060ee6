-- Undoing the rows at an end: which numbers there give the old points when the end is clamped, where the knots outside go on in steps of h, the width of the
-- last span.
use mathlib.Core.List.{[], ◌∷◌}
use mathlib.Core.Path.{◌≡◌, refl}
use Rattle.algebra.specs.Operations.{sub}
use Rattle.algebra.specs.OrderedField.{OrderedField}
use Rattle.algebra.specs.Ring.{field_ring}
use Rattle.algebra.proofs.FieldLaws.{mul-cancel-right, div-unique}
use Rattle.algebra.proofs.Expressions.{var, lit, ◌⊕◌, ◌⊗◌, ◌⊖◌, minus}
use Rattle.algebra.proofs.Solver.{linear-combination, fact}
use Rattle.end_rows.specs.EndRows.{mean}

module _ (F : OrderedField) where
  open F use {operations as O, laws}
  open O use {Number, add, mul, inv}

  -- a mean is p exactly where d·x is (d + e)·p - e·q
  pub mean-says : (d x e q p : Number) → (add d e ≡ O.zero → ⊥) → mean O d x e q ≡ p → mul d x ≡ sub O (mul (add d e) p) (mul e q)
  mean-says d x e q p apart h =
      linear-combination (field_ring F) (d ∷ x ∷ e ∷ q ∷ p ∷ inv (add d e) ∷ [])
      (var 0 ⊗ var 1) ((var 0 ⊕ var 2) ⊗ var 4 ⊖ var 2 ⊗ var 3)
      (fact (var 0 ⊕ var 2) ((var 0 ⊗ var 1 ⊕ var 2 ⊗ var 3) ⊗ var 5) (var 4)
      ∷ fact (minus (var 0 ⊗ var 1 ⊕ var 2 ⊗ var 3)) ((var 0 ⊕ var 2) ⊗ var 5) (lit 1)
      ∷ []) (h, (laws.mul-inv (add d e) apart, tt)) refl

  pub mean-from : (d x e q p : Number) → (add d e ≡ O.zero → ⊥) → mul d x ≡ sub O (mul (add d e) p) (mul e q) → mean O d x e q ≡ p
  mean-from d x e q p apart h =
      div-unique F _ (add d e) p apart
      (linear-combination (field_ring F) (d ∷ x ∷ e ∷ q ∷ p ∷ [])
      (var 0 ⊗ var 1 ⊕ var 2 ⊗ var 3) (var 4 ⊗ (var 0 ⊕ var 2))
      (fact (lit 1) (var 0 ⊗ var 1) ((var 0 ⊕ var 2) ⊗ var 4 ⊖ var 2 ⊗ var 3) ∷ []) (h, tt) refl)

  -- twice, three times and six times a number
  abbrev pub twice : Number → Number
  twice x = add x x

  abbrev pub thrice : Number → Number
  thrice x = add (twice x) x

  module _ (h : Number) (some : h ≡ O.zero → ⊥) (double : twice h ≡ O.zero → ⊥) (triple : add h (twice h) ≡ O.zero → ⊥) where
    -- degree 2: the mean of the new last point and the one before it, both weighted with h
    pub second-says : (q p r : Number) → mean O h q h r ≡ p → q ≡ sub O (twice p) r
    second-says q p r e =
        mul-cancel-right F q (sub O (twice p) r) h some
        (linear-combination (field_ring F) (h ∷ q ∷ p ∷ r ∷ []) (var 1 ⊗ var 0) ((var 2 ⊕ var 2 ⊖ var 3) ⊗ var 0)
        (fact (lit 1) (var 0 ⊗ var 1) ((var 0 ⊕ var 0) ⊗ var 2 ⊖ var 0 ⊗ var 3) ∷ []) (mean-says h q h r p double e, tt) refl)

    pub second_from : (q p r : Number) → q ≡ sub O (twice p) r → mean O h q h r ≡ p
    second_from q p r e =
        mean-from h q h r p double
        (linear-combination (field_ring F) (h ∷ q ∷ p ∷ r ∷ []) (var 0 ⊗ var 1) ((var 0 ⊕ var 0) ⊗ var 2 ⊖ var 0 ⊗ var 3)
        (fact (var 0) (var 1) (var 2 ⊕ var 2 ⊖ var 3) ∷ []) (e, tt) refl)

    -- degree 3: the last number is a mean of a mean, where x is the number before it that is already old
    pub third-says : (q r p x : Number) → mean O h (mean O h q (twice h) r) h x ≡ p → q ≡ sub O (sub O (thrice (twice p)) (thrice x)) (twice r)
    third-says q r p x e =
        let inner : mean O h q (twice h) r ≡ sub O (twice p) x = second-says (mean O h q (twice h) r) p x e in
        mul-cancel-right F q (sub O (sub O (thrice (twice p)) (thrice x)) (twice r)) h some
        (linear-combination (field_ring F) (h ∷ q ∷ r ∷ p ∷ x ∷ []) (var 1 ⊗ var 0)
        (((var 3 ⊕ var 3 ⊕ (var 3 ⊕ var 3) ⊕ (var 3 ⊕ var 3)) ⊖ (var 4 ⊕ var 4 ⊕ var 4) ⊖ (var 2 ⊕ var 2)) ⊗ var 0)
        (fact (lit 1) (var 0 ⊗ var 1) ((var 0 ⊕ (var 0 ⊕ var 0)) ⊗ (var 3 ⊕ var 3 ⊖ var 4) ⊖ (var 0 ⊕ var 0) ⊗ var 2) ∷ [])
        (mean-says h q (twice h) r (sub O (twice p) x) triple inner, tt) refl)

    pub third-from : (q r p x : Number) → q ≡ sub O (sub O (thrice (twice p)) (thrice x)) (twice r) → mean O h (mean O h q (twice h) r) h x ≡ p
    third-from q r p x e =
        second_from (mean O h q (twice h) r) p x
        (mean-from h q (twice h) r (sub O (twice p) x) triple
        (linear-combination (field_ring F) (h ∷ q ∷ r ∷ p ∷ x ∷ []) (var 0 ⊗ var 1)
        ((var 0 ⊕ (var 0 ⊕ var 0)) ⊗ (var 3 ⊕ var 3 ⊖ var 4) ⊖ (var 0 ⊕ var 0) ⊗ var 2)
        (fact (var 0) (var 1) ((var 3 ⊕ var 3 ⊕ (var 3 ⊕ var 3) ⊕ (var 3 ⊕ var 3)) ⊖ (var 4 ⊕ var 4 ⊕ var 4) ⊖ (var 2 ⊕ var 2)) ∷ []) (e, tt) refl))
