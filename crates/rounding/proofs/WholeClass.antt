-- Whole numbers among the rational numbers: sums, products and differences are carried over, and a fraction times its lower number is its upper.
use mathlib.Core.Path.{◌≡◌, refl, sym, ap, ◌∙◌}
use mathlib.Core.List.{[], ◌∷◌}
use Prim.Native.Nat.{ℕ, suc, ◌+◌, ◌-◌, ◌*◌, ◌<◌}
use native.Mathlib.Omega.{arith}
use lib.IntN.{ℤ, pos, ◌*ℤ◌}
use Rattle.algebra.proofs.Expressions.{var, lit, ◌⊗◌}
use Rattle.algebra.proofs.Solver.{ring}
use Rattle.algebra.proofs.IntegerRing.{integer_ring}
use Rattle.algebra.proofs.OrderLaws.{apart-of-positive}
use Rattle.fractions.specs.Fraction.{over, whole, whole_n, sum, product}
use Rattle.fractions.proofs.Rational.{ℚ, class, plus, times, rational, rational_operations, class-of-equals}
use Rattle.fractions.proofs.ClassLaws.{class-sum, class-product, whole_n-below}

-- the natural number n as a rational number
abbrev pub whole_class : ℕ → ℚ
whole_class n = class (whole_n n)

pub whole_sum : (m n : ℕ) → whole_class (m + n) ≡ plus (whole_class m) (whole_class n)
unfolding sum
whole_sum m n = class-of-equals {a = whole_n (m + n)} {b = sum (whole_n m) (whole_n n)} (ap pos (omega arith)) ∙ class-sum (whole_n m) (whole_n n)

pub whole-product : (m n : ℕ) → whole_class (m * n) ≡ times (whole_class m) (whole_class n)
unfolding product
whole-product m n = class-of-equals {a = whole_n (m * n)} {b = product (whole_n m) (whole_n n)} refl ∙ class-product (whole_n m) (whole_n n)

lower-times-one : (k : ℕ) → 0 < k → suc (suc (k - 1) * 1 - 1) ≡ k
lower-times-one k P = omega arith

-- z / k · k = z
pub over-times : (z : ℤ) (k : ℕ) → 0 < k → times (class (over z k)) (whole_class k) ≡ class (whole z)
unfolding product
over-times z k P =
    sym (class-product (over z k) (whole_n k))
    ∙ class-of-equals {a = product (over z k) (whole_n k)} {b = whole z}
    (ring integer_ring (z ∷ pos k ∷ []) (var 0 ⊗ var 1 ⊗ lit 1) (var 0 ⊗ var 1) refl ∙ ap (λ (n : ℕ). z *ℤ pos n) (sym (lower-times-one k P)))

pub whole_apart : (n : ℕ) → 0 < n → whole_class n ≡ rational_operations.zero → ⊥
whole_apart n P e = apart-of-positive rational (whole_class n) ((whole_n-below 0 n).0 P) e
