-- Whole numbers among the rational numbers: sums, products and differences are carried over.
use mathlib.Core.Path.{◌≡◌, refl, ◌∙◌}
use mathlib.Core.List.{[], ◌∷◌}
use lib.IntN.{ℤ, ◌+ℤ◌, ◌-ℤ◌, ◌*ℤ◌}
use Rattle.algebra.specs.Operations.{sub}
use Rattle.algebra.proofs.Expressions.{var, lit, ◌⊕◌, ◌⊗◌, ◌⊖◌, minus}
use Rattle.algebra.proofs.Solver.{ring}
use Rattle.algebra.proofs.IntegerRing.{integer_ring}
use Rattle.fractions.specs.Fraction.{whole, sum, product, negation, fraction_operations}
use Rattle.fractions.proofs.Rational.{class, plus, times, rational_operations, class-of-equals}
use Rattle.fractions.proofs.ClassLaws.{class-sum, class-product, class-sub}

pub whole_sum : (x y : ℤ) → class (whole (x +ℤ y)) ≡ plus (class (whole x)) (class (whole y))
unfolding sum
whole_sum x y =
    class-of-equals {a = whole (x +ℤ y)} {b = sum (whole x) (whole y)}
    (ring integer_ring (x ∷ y ∷ []) ((var 0 ⊕ var 1) ⊗ lit 1) ((var 0 ⊗ lit 1 ⊕ var 1 ⊗ lit 1) ⊗ lit 1) refl)
    ∙ class-sum (whole x) (whole y)

pub whole-product : (x y : ℤ) → class (whole (x *ℤ y)) ≡ times (class (whole x)) (class (whole y))
unfolding product
whole-product x y = class-of-equals {a = whole (x *ℤ y)} {b = product (whole x) (whole y)} refl ∙ class-product (whole x) (whole y)

pub whole-difference : (x y : ℤ) → class (whole (x -ℤ y)) ≡ sub rational_operations (class (whole x)) (class (whole y))
unfolding sum negation
whole-difference x y =
    class-of-equals {a = whole (x -ℤ y)} {b = sub fraction_operations (whole x) (whole y)}
    (ring integer_ring (x ∷ y ∷ []) ((var 0 ⊖ var 1) ⊗ lit 1) ((var 0 ⊗ lit 1 ⊕ minus (var 1) ⊗ lit 1) ⊗ lit 1) refl)
    ∙ class-sub (whole x) (whole y)
