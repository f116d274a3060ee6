-- Closed uses of the solver, one of each kind.
use mathlib.Core.Path.{◌≡◌, refl}
use mathlib.Core.List.{[], ◌∷◌}
use lib.IntN.{ℤ, pos, negsuc, ◌+ℤ◌, ◌-ℤ◌, ◌*ℤ◌}
use Rattle.algebra.specs.Operations.{Operations, sub, div}
use Rattle.algebra.specs.Ring.{Ring}
use Rattle.algebra.proofs.Expressions.{var, lit, ◌⊕◌, ◌⊗◌, ◌⊖◌, minus, expressions}
use Rattle.algebra.proofs.Solver.{ring, linear-combination, fact}
use Rattle.algebra.proofs.IntegerRing.{integer_ring}

-- (a + b)² = a² + 2ab + b²
abbrev square : (O : Operations) (a b : O.Number) → O.Number
square O a b = O.mul (O.add a b) (O.add a b)

abbrev expanded : (O : Operations) (a b : O.Number) → O.Number
expanded O a b = O.add (O.add (O.mul a a) (O.mul (O.add O.one O.one) (O.mul a b))) (O.mul b b)

square-expanded : (R : Ring) (a b : R.operations.Number) → square R.operations a b ≡ expanded R.operations a b
square-expanded R a b = ring R (a ∷ b ∷ []) (square (expressions [] 2) (var 0) (var 1)) (expanded (expressions [] 2) (var 0) (var 1)) refl

-- (a - b)(a + b) - a² = -b², with negative coefficients
difference-of-squares : (R : Ring) (a b : R.operations.Number) → sub R.operations (R.operations.mul (sub R.operations a b) (R.operations.add a b)) (R.operations.mul a a) ≡ R.operations.neg (R.operations.mul b b)
difference-of-squares R a b = ring R (a ∷ b ∷ []) ((var 0 ⊖ var 1) ⊗ (var 0 ⊕ var 1) ⊖ var 0 ⊗ var 0) (minus (var 1 ⊗ var 1)) refl

-- (w - t)/(w - l) + (t - l)/(w - l) = 1, where (w - l) times its reciprocal is 1
abbrev weights : (O : Operations) (w t l : O.Number) → O.Number
weights O w t l = O.add (div O (sub O w t) (sub O w l)) (div O (sub O t l) (sub O w l))

weights-one : (R : Ring) (w t l : R.operations.Number) → R.operations.mul (sub R.operations w l) (R.operations.inv (sub R.operations w l)) ≡ R.operations.one → weights R.operations w t l ≡ R.operations.one
weights-one R w t l h =
    linear-combination R (w ∷ t ∷ l ∷ R.operations.inv (sub R.operations w l) ∷ []) (weights reading (var 0) (var 1) (var 2)) (lit 1)
    (fact (lit 1) ((var 0 ⊖ var 2) ⊗ var 3) (lit 1) ∷ []) (h, tt) refl
  where
    reading : Operations
    reading = expressions ((var 0 ⊖ var 2) ∷ []) 3

-- (x - 2)(x + 3) = x² + x - 6 at integers
integers-expanded : (x : ℤ) → (x -ℤ pos 2) *ℤ (x +ℤ pos 3) ≡ x *ℤ x +ℤ x +ℤ negsuc 5
integers-expanded x = ring integer_ring (x ∷ []) ((var 0 ⊖ lit 2) ⊗ (var 0 ⊕ lit 3)) (var 0 ⊗ var 0 ⊕ var 0 ⊕ minus (lit 6)) refl
