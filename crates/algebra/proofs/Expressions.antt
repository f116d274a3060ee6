-- Expressions of a commutative ring, with variables by number, and their normal form. Nothing here needs a ring:
-- `norm` computes, and `nil` tests that a normal form has no coefficient other than zero.
use mathlib.Core.Bool.{Bool, false, ◌&&◌, cond}
use mathlib.Core.List.{List, [], ◌∷◌}
use Prim.Native.Nat as Nat
use Prim.Native.Nat.{ℕ, zero, suc}
use lib.Dec.{eqb}
use Rattle.algebra.specs.Operations.{Operations}

infixl 6 ◌⊕◌ ◌⊖◌
infixl 7 ◌⊗◌
infixr 5 ◌▷◌
-- an expression: a variable's place in the list of values, a sum of n ones, sum, product, negation
pub data E : Type 0 where
  var : ℕ → E
  lit : ℕ → E
  ◌⊕◌ : E → E → E
  ◌⊗◌ : E → E → E
  minus : E → E

abbrev pub ◌⊖◌ : E → E → E
a ⊖ b = a ⊕ minus b

-- do two expressions have the same text?
abbrev pub same : E → E → Bool
same (var i) (var j) = eqb i j
same (var i) (lit n) = false
same (var i) (a ⊕ b) = false
same (var i) (a ⊗ b) = false
same (var i) (minus a) = false
same (lit m) (var j) = false
same (lit m) (lit n) = eqb m n
same (lit m) (a ⊕ b) = false
same (lit m) (a ⊗ b) = false
same (lit m) (minus a) = false
same (c ⊕ d) (var j) = false
same (c ⊕ d) (lit n) = false
same (c ⊕ d) (a ⊕ b) = same c a && same d b
same (c ⊕ d) (a ⊗ b) = false
same (c ⊕ d) (minus a) = false
same (c ⊗ d) (var j) = false
same (c ⊗ d) (lit n) = false
same (c ⊗ d) (a ⊕ b) = false
same (c ⊗ d) (a ⊗ b) = same c a && same d b
same (c ⊗ d) (minus a) = false
same (minus c) (var j) = false
same (minus c) (lit n) = false
same (minus c) (a ⊕ b) = false
same (minus c) (a ⊗ b) = false
same (minus c) (minus a) = same c a

-- the variable that stands for the reciprocal of e, where the reciprocals of `divisors` are the variables from k on
abbrev pub reciprocal : List E → ℕ → E → E
reciprocal [] k e = var k
reciprocal (d ∷ ds) k e = cond (same d e) (var k) (reciprocal ds (suc k) e)

-- expressions as operations, so that a formula over any operations can be read here
abbrev pub expressions : List E → ℕ → Operations
expressions divisors k =
    record {
      Number = E;
      zero = lit 0;
      one = lit 1;
      add = ◌⊕◌;
      mul = ◌⊗◌;
      neg = minus;
      inv = reciprocal divisors k;
    }

-- a normal form: a coefficient a - b, or p + x·q, where x is the first variable, p has only the later ones, q has x too
pub data Horner : Type 0 where
  whole : ℕ → ℕ → Horner
  ◌▷◌ : Horner → Horner → Horner

-- the sum with a coefficient, and with a normal form
abbrev pub raise : ℕ → ℕ → Horner → Horner
raise a b (whole c d) = whole (Nat.◌+◌ a c) (Nat.◌+◌ b d)
raise a b (p ▷ q) = raise a b p ▷ q

abbrev pub plus : Horner → Horner → Horner
plus (whole a b) s = raise a b s
plus (p ▷ q) (whole c d) = raise c d p ▷ q
plus (p ▷ q) (r ▷ s) = plus p r ▷ plus q s

abbrev pub opposite : Horner → Horner
opposite (whole a b) = whole b a
opposite (p ▷ q) = opposite p ▷ opposite q

-- the product with a coefficient, with what has only later variables (`f` multiplies by it), and with a normal form
abbrev pub scale : ℕ → ℕ → Horner → Horner
scale a b (whole c d) = whole (Nat.◌+◌ (Nat.◌*◌ a c) (Nat.◌*◌ b d)) (Nat.◌+◌ (Nat.◌*◌ a d) (Nat.◌*◌ b c))
scale a b (p ▷ q) = scale a b p ▷ scale a b q

abbrev pub each : (Horner → Horner) → Horner → Horner
each f (whole c d) = f (whole c d) ▷ whole 0 0
each f (p ▷ q) = f p ▷ each f q

abbrev pub times : Horner → Horner → Horner
times (whole a b) s = scale a b s
times (p ▷ q) s = plus (each (λ r. times p r) s) (whole 0 0 ▷ times q s)

-- the variable number i
abbrev pub variable : ℕ → Horner
variable zero = whole 0 0 ▷ whole 1 0
variable (suc i) = variable i ▷ whole 0 0

abbrev pub norm : E → Horner
norm (var i) = variable i
norm (lit n) = whole n 0
norm (a ⊕ b) = plus (norm a) (norm b)
norm (a ⊗ b) = times (norm a) (norm b)
norm (minus a) = opposite (norm a)

-- are all coefficients zero?
abbrev pub nil : Horner → Bool
nil (whole a b) = eqb a b
nil (p ▷ q) = nil p && nil q
