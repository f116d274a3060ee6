-- What holds of fractions by cross-multiplying holds of their classes, and back: sum, product, negation and reciprocal are
-- carried over, equality and order are the same on both sides, and whole numbers keep their order.
use mathlib.Core.Path.{◌≡◌, refl, sym, ◌∙◌, ap}
use mathlib.Core.Bool.{Bool, true, false, not}
use mathlib.Core.Logic.Iff
use mathlib.Core.Logic.{◌↔◌}
use mathlib.Core.Quot.Quotient
use Prim.Native.Nat.{ℕ, ◌≤◌, ◌<◌}
use native.Mathlib.Nat as NatL
use lib.Dec.{leb→le, le→leb, ltb→lt, lt→ltb}
use lib.IntN.{ℤ, pos, ◌+ℤ◌}
use lib.Signed.{non_neg, le_z, lt_z, ◌≤ℤ◌}
use Rattle.algebra.specs.Operations.{sub}
use Rattle.algebra.specs.OrderedField as Field
use Rattle.fractions.specs.Fraction.{Fraction, lower, whole, whole_n, sum, product, negation, reciprocal, fraction_operations}
use Rattle.fractions.specs.Order.{crossed, AtMost, Below, Bounds, DistanceBelow}
use Rattle.algebra.proofs.IntegerRing.{mul-one}
use Rattle.fractions.proofs.IntegerLaws.{neg-mul}
use Rattle.fractions.proofs.SignLaws.{true_of, holds_of, difference-sign, lt_z-not}
use Rattle.fractions.proofs.Rational.{class, plus, times, minus, inverse, not_negative, rational, rational_operations}

-- ---- the operations

pub class-sum : (a b : Fraction) → class (sum a b) ≡ plus (class a) (class b)
unfolding plus Quotient.lift₂
class-sum a b = refl

pub class-product : (a b : Fraction) → class (product a b) ≡ times (class a) (class b)
unfolding times Quotient.lift₂
class-product a b = refl

pub class-negation : (a : Fraction) → class (negation a) ≡ minus (class a)
unfolding minus
class-negation a = refl

pub class-reciprocal : (a : Fraction) → class (reciprocal a) ≡ inverse (class a)
unfolding inverse
class-reciprocal a = refl

pub class-sub : (a b : Fraction) → class (sub fraction_operations a b) ≡ sub rational_operations (class a) (class b)
unfolding plus minus Quotient.lift₂
class-sub a b = refl

-- ---- equality and order

-- b - a is at least zero exactly when a's cross product is at most b's
pub class-sign : (a b : Fraction) → not_negative (sub rational_operations (class b) (class a)) ≡ le_z (crossed a b) (crossed b a)
unfolding plus minus not_negative sum negation Quotient.lift₂
class-sign a b =
    ap (λ (x : ℤ). non_neg (crossed b a +ℤ x)) (neg-mul a.upper (pos (lower b))) ∙ difference-sign (crossed a b) (crossed b a)

pub class-at-most : (a b : Fraction) → AtMost a b ↔ Field.AtMost rational (class a) (class b)
class-at-most a b = (
  λ h. class-sign a b ∙ true_of (le_z (crossed a b) (crossed b a)) h.le,
  λ h. record { le = holds_of (le_z (crossed a b) (crossed b a)) (sym (class-sign a b) ∙ h) },
)

pub class-below : (a b : Fraction) → Below a b ↔ Field.Below rational (class a) (class b)
class-below a b = (
  λ h. class-sign b a
      ∙ not-true (le_z (crossed b a) (crossed a b))
      (sym (lt_z-not (crossed a b) (crossed b a)) ∙ true_of (lt_z (crossed a b) (crossed b a)) h.lt),
  λ h. record { lt = holds_of (lt_z (crossed a b) (crossed b a)) (lt_z-not (crossed a b) (crossed b a) ∙ ap not (sym (class-sign b a) ∙ h)) },
)
  where
    not-true : (b : Bool) → not b ≡ true → b ≡ false
    not-true true e = sym e
    not-true false e = refl

pub class-bounds : (side : Field.Side) (v x : Fraction) → Bounds side v x ↔ Field.Bounds rational side (class v) (class x)
class-bounds Field.low v x = class-at-most v x
class-bounds Field.high v x = class-at-most x v

-- |a - b| < c: both a - b and b - a are below c
pub class-distance : (a b c : Fraction) → DistanceBelow a b c
    ↔ (Field.Below rational (sub rational_operations (class a) (class b)) (class c)
    × Field.Below rational (sub rational_operations (class b) (class a)) (class c))
unfolding plus minus Quotient.lift₂
class-distance a b c = (
  λ h. ((class-below (sub fraction_operations a b) c).0 h.above, (class-below (sub fraction_operations b a) c).0 h.under),
  λ h. record { above = (class-below (sub fraction_operations a b) c).1 h.0; under = (class-below (sub fraction_operations b a) c).1 h.1 },
)

-- ---- whole numbers

-- on fractions themselves: x/1 ≤ y/1 exactly when x ≤ y
pub whole-order : (x y : ℤ) → (x ≤ℤ y) ↔ AtMost (whole x) (whole y)
whole-order x y = (λ h. rw (mul-one x, mul-one y) h, λ h. rw (mul-one x, mul-one y) at h)

pub whole-at-most : (x y : ℤ) → (x ≤ℤ y) ↔ Field.AtMost rational (class (whole x)) (class (whole y))
whole-at-most x y = Iff.trans (whole-order x y) (class-at-most (whole x) (whole y))

pub whole_n-at-most : (m n : ℕ) → (m ≤ n) ↔ Field.AtMost rational (class (whole_n m)) (class (whole_n n))
whole_n-at-most m n = (
  λ h. (whole-at-most (pos m) (pos n)).0 (record { le = le→leb m n h }),
  λ h. leb→le m n ((whole-at-most (pos m) (pos n)).1 h).le,
)

pub whole_n-below : (m n : ℕ) → (m < n) ↔ Field.Below rational (class (whole_n m)) (class (whole_n n))
whole_n-below m n = (
  λ h. (class-below (whole_n m) (whole_n n)).0 (rw (NatL.mul-one m, NatL.mul-one n) (record { lt = lt→ltb m n h })),
  λ h. ltb→lt m n (rw (NatL.mul-one m, NatL.mul-one n) at ((class-below (whole_n m) (whole_n n)).1 h)).lt,
)
