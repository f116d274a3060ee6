-- The rational numbers: fractions up to equality by cross-multiplying, so that equal fractions are one number. They are an
-- ordered field, and taking a fraction's class carries every operation over.
use mathlib.Core.Path.{◌≡◌, refl, sym, ap}
use mathlib.Core.Bool.{Bool, true, false, Bool-set, true≢false, false≢true}
use mathlib.Core.HLevel.{Π_prop}
use mathlib.Core.Quot.Quotient
use mathlib.Core.Quot.{Quot, mk, sound, lift, Quot-set, ind, Setoid}
use Prim.Native.Nat.{ℕ, zero, suc}
use native.Mathlib.Omega.{arith}
use lib.IntN.{ℤ, pos, negsuc, neg_ℤ, nat_abs, ℤ_set, ◌+ℤ◌, ◌*ℤ◌}
use lib.Signed.{non_neg}
use Rattle.algebra.specs.Operations.{Operations}
use Rattle.algebra.specs.OrderedField.{OrderedField, IsOrderedField}
use Rattle.fractions.specs.Fraction.{Fraction, lower, whole, sum, product, negation, turned, reciprocal}
use Rattle.fractions.specs.Order.{Equals}
use Rattle.fractions.proofs.SignLaws.{signs_of}
use Rattle.fractions.proofs.FractionLaws as Laws

-- fractions with their equality
abbrev sameness : Setoid {0, 0} Fraction
sameness = record { r = Equals; iseqv = record { refl = λ a. refl; symm = λ a b h. sym h; trans = Laws.equals-trans } }

-- a rational number is a class of equal fractions
abbrev pub ℚ : Type 0
ℚ = Quot Equals

-- the class of a fraction
abbrev pub class : Fraction → ℚ
class a = mk a

pub ℚ-set : IsSet ℚ
ℚ-set = Quot-set

-- two fractions have one class exactly when they cross-multiply alike
pub class-of-equals : {a b : Fraction} → Equals a b → class a ≡ class b
class-of-equals h = sound h

pub equals-of-class : (a b : Fraction) → class a ≡ class b → Equals a b
equals-of-class a b h = Quotient.exact sameness (λ a b. ℤ_set (a.upper *ℤ pos (lower b)) (b.upper *ℤ pos (lower a))) h

unfoldable pub plus : ℚ → ℚ → ℚ
unfolding Quotient.lift₂
plus = Quotient.lift₂ sameness sameness ℚ-set (λ a b. mk (sum a b)) (λ a b c d h k. sound (Laws.sum-respects a b c d h k))

unfoldable pub times : ℚ → ℚ → ℚ
unfolding Quotient.lift₂
times = Quotient.lift₂ sameness sameness ℚ-set (λ a b. mk (product a b)) (λ a b c d h k. sound (Laws.product-respects a b c d h k))

unfoldable pub minus : ℚ → ℚ
minus = lift ℚ-set (λ a. mk (negation a)) (λ a b h. sound (Laws.negation-respects a b h))

unfoldable pub inverse : ℚ → ℚ
inverse = lift ℚ-set (λ a. mk (reciprocal a)) (λ a b h. sound (Laws.reciprocal-respects a b h))

-- whether a number is at least zero: the sign of an upper number
unfoldable pub not_negative : ℚ → Bool
not_negative = lift Bool-set (λ a. non_neg a.upper) (λ a b h. signs_of a.upper b.upper b.lower_less a.lower_less h)

abbrev pub rational_operations : Operations
rational_operations =
    record { Number = ℚ; zero = class (whole (pos 0)); one = class (whole (pos 1)); add = plus; mul = times; neg = minus; inv = inverse }

-- ---- an equation between rational numbers is proved at classes of fractions

at-classes : (f g : ℚ → ℚ) → ((a : Fraction) → f (class a) ≡ g (class a)) → (x : ℚ) → f x ≡ g x
at-classes f g h x = ind (λ q. ℚ-set (f q) (g q)) h x

at-classes₂ : (f g : ℚ → ℚ → ℚ) → ((a b : Fraction) → f (class a) (class b) ≡ g (class a) (class b)) → (x y : ℚ) → f x y ≡ g x y
at-classes₂ f g h x y = ind (λ q. ℚ-set (f q y) (g q y)) (λ a. at-classes (f (class a)) (g (class a)) (h a) y) x

at-classes₃ : (f g : ℚ → ℚ → ℚ → ℚ)
    → ((a b c : Fraction) → f (class a) (class b) (class c) ≡ g (class a) (class b) (class c))
    → (x y z : ℚ) → f x y z ≡ g x y z
at-classes₃ f g h x y z = ind (λ q. ℚ-set (f q y z) (g q y z)) (λ a. at-classes₂ (f (class a)) (g (class a)) (h a) y z) x

plus_assoc : (x y z : ℚ) → plus (plus x y) z ≡ plus x (plus y z)
unfolding plus Quotient.lift₂
plus_assoc = at-classes₃ (λ x y z. plus (plus x y) z) (λ x y z. plus x (plus y z)) (λ a b c. sound (Laws.sum-assoc a b c))

plus_comm : (x y : ℚ) → plus x y ≡ plus y x
unfolding plus Quotient.lift₂
plus_comm = at-classes₂ (λ x y. plus x y) (λ x y. plus y x) (λ a b. sound (Laws.sum_comm a b))

plus-zero : (x : ℚ) → plus x (class (whole (pos 0))) ≡ x
unfolding plus Quotient.lift₂
plus-zero = at-classes (λ x. plus x (class (whole (pos 0)))) (λ x. x) (λ a. sound (Laws.sum-zero a))

plus-minus : (x : ℚ) → plus x (minus x) ≡ class (whole (pos 0))
unfolding plus minus Quotient.lift₂
plus-minus = at-classes (λ x. plus x (minus x)) (λ x. class (whole (pos 0))) (λ a. sound (Laws.sum-negation a))

times-assoc : (x y z : ℚ) → times (times x y) z ≡ times x (times y z)
unfolding times Quotient.lift₂
times-assoc = at-classes₃ (λ x y z. times (times x y) z) (λ x y z. times x (times y z)) (λ a b c. sound (Laws.product-assoc a b c))

times-comm : (x y : ℚ) → times x y ≡ times y x
unfolding times Quotient.lift₂
times-comm = at-classes₂ (λ x y. times x y) (λ x y. times y x) (λ a b. sound (Laws.product-comm a b))

times-one : (x : ℚ) → times x (class (whole (pos 1))) ≡ x
unfolding times Quotient.lift₂
times-one = at-classes (λ x. times x (class (whole (pos 1)))) (λ x. x) (λ a. sound (Laws.product-one a))

times-plus : (x y z : ℚ) → times x (plus y z) ≡ plus (times x y) (times x z)
unfolding plus times Quotient.lift₂
times-plus = at-classes₃ (λ x y z. times x (plus y z)) (λ x y z. plus (times x y) (times x z)) (λ a b c. sound (Laws.product-sum a b c))

-- and any statement that has at most one proof
at-class : (P : ℚ → Type 0) → ((q : ℚ) → IsProp (P q)) → ((a : Fraction) → P (class a)) → (x : ℚ) → P x
at-class P single h x = ind {β = P} single h x

times-inverse : (x : ℚ) → (x ≡ class (whole (pos 0)) → ⊥) → times x (inverse x) ≡ class (whole (pos 1))
unfolding times inverse Quotient.lift₂
times-inverse = at-class (λ q. (q ≡ class (whole (pos 0)) → ⊥) → times q (inverse q) ≡ class (whole (pos 1)))
    (λ q. Π_prop (λ n. ℚ-set (times q (inverse q)) (class (whole (pos 1)))))
    (λ a apart. sound (Laws.product-reciprocal a (λ e. apart (sound (Laws.equals-zero a e)))))

-- ---- the sign

-- an operation that keeps the numbers at least zero does so if it does at fractions
not_negative-kept : (f : ℚ → ℚ → ℚ)
    → ((a b : Fraction) → non_neg a.upper ≡ true → non_neg b.upper ≡ true → not_negative (f (class a) (class b)) ≡ true)
    → (x y : ℚ) → not_negative x ≡ true → not_negative y ≡ true → not_negative (f x y) ≡ true
unfolding not_negative
not_negative-kept f h x y = at-class (λ p. not_negative p ≡ true → not_negative y ≡ true → not_negative (f p y) ≡ true)
    (λ p. Π_prop (λ g. Π_prop (λ k. Bool-set (not_negative (f p y)) true)))
    (λ a. at-class (λ q. non_neg a.upper ≡ true → not_negative q ≡ true → not_negative (f (class a) q) ≡ true)
    (λ q. Π_prop (λ g. Π_prop (λ k. Bool-set (not_negative (f (class a) q)) true)))
    (λ b. h a b) y)
    x

not_negative-plus : (x y : ℚ) → not_negative x ≡ true → not_negative y ≡ true → not_negative (plus x y) ≡ true
unfolding plus not_negative sum Quotient.lift₂
not_negative-plus = not_negative-kept plus (λ a b. signs a.upper b.upper b.lower_less a.lower_less)
  where
    signs : (p r : ℤ) (j k : ℕ) → non_neg p ≡ true → non_neg r ≡ true → non_neg (p *ℤ pos (suc j) +ℤ r *ℤ pos (suc k)) ≡ true
    signs (pos p) (pos r) j k g h = refl
    signs (pos p) (negsuc r) j k g h = absurd (false≢true h)
    signs (negsuc p) r j k g h = absurd (false≢true g)

not_negative-times : (x y : ℚ) → not_negative x ≡ true → not_negative y ≡ true → not_negative (times x y) ≡ true
unfolding times not_negative product Quotient.lift₂
not_negative-times = not_negative-kept times (λ a b. signs a.upper b.upper)
  where
    signs : (p r : ℤ) → non_neg p ≡ true → non_neg r ≡ true → non_neg (p *ℤ r) ≡ true
    signs (pos p) (pos r) g h = refl
    signs (pos p) (negsuc r) g h = absurd (false≢true h)
    signs (negsuc p) r g h = absurd (false≢true g)

not_negative-total : (x : ℚ) → not_negative x ≡ false → not_negative (minus x) ≡ true
unfolding minus not_negative negation
not_negative-total = at-class (λ q. not_negative q ≡ false → not_negative (minus q) ≡ true)
    (λ q. Π_prop (λ h. Bool-set (not_negative (minus q)) true)) (λ a. signs a.upper)
  where
    signs : (p : ℤ) → non_neg p ≡ false → non_neg (neg_ℤ p) ≡ true
    signs (pos p) g = absurd (true≢false g)
    signs (negsuc p) g = refl

not_negative-both : (x : ℚ) → not_negative x ≡ true → not_negative (minus x) ≡ true → x ≡ class (whole (pos 0))
unfolding minus not_negative negation
not_negative-both = at-class (λ q. not_negative q ≡ true → not_negative (minus q) ≡ true → q ≡ class (whole (pos 0)))
    (λ q. Π_prop (λ h. Π_prop (λ k. ℚ-set q (class (whole (pos 0))))))
    (λ a g h. sound (Laws.equals-zero a (signs a.upper g h)))
  where
    signs : (p : ℤ) → non_neg p ≡ true → non_neg (neg_ℤ p) ≡ true → nat_abs p ≡ zero
    signs (pos zero) g h = refl
    signs (pos (suc p)) g h = absurd (false≢true h)
    signs (negsuc p) g h = absurd (false≢true g)

one_apart : class (whole (pos 1)) ≡ class (whole (pos 0)) → ⊥
one_apart e = different (ap nat_abs (equals-of-class (whole (pos 1)) (whole (pos 0)) e))
  where
    different : suc zero ≡ zero → ⊥
    different h = omega arith

-- ---- the ordered field of the rational numbers: the laws, and the field

pub rational-laws : IsOrderedField rational_operations not_negative
unfolding inverse reciprocal turned
rational-laws = record {
  is_set = ℚ-set;
  add_assoc = plus_assoc;
  add_comm = plus_comm;
  add-zero = plus-zero;
  add-neg = plus-minus;
  mul_assoc = times-assoc;
  mul_comm = times-comm;
  mul-one = times-one;
  mul-add = times-plus;
  mul-inv = times-inverse;
  inv-zero = refl;
  nonneg-add = not_negative-plus;
  nonneg-mul = not_negative-times;
  nonneg-total = not_negative-total;
  nonneg-both = not_negative-both;
  one_apart = one_apart;
}

abbrev pub rational : OrderedField
rational = record { operations = rational_operations; nonneg = not_negative; laws = rational-laws }
