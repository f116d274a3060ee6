-- Equality of fractions by cross-multiplying is an equivalence, the operations respect it, and the laws of an ordered field
-- hold up to it. Each comes down to an equation of sums of products of integers.
use mathlib.Core.Path.{◌≡◌, refl, sym, ◌∙◌, ap, ap₂}
use mathlib.Core.Bool.{true≢false, false≢true}
use Prim.Native.Nat.{ℕ, zero, suc, ◌+◌, ◌*◌, ◌-◌, ◌<◌}
use native.Mathlib.Nat as NatL
use native.Mathlib.Nat.{mul_comm, zero-mul}
use native.Mathlib.Omega.{arith}
use lib.IntN.{ℤ, pos, negsuc, neg_ℤ, nat_abs, ◌+ℤ◌, ◌*ℤ◌, +ℤ_idl, +ℤ_invr, zero-*ℤ, *ℤ-zero}
use lib.Signed.{non_neg}
use Rattle.fractions.specs.Fraction.{Fraction, lower, over, whole, sum, product, negation, turned, reciprocal}
use Rattle.fractions.specs.Order.{Equals}
use Rattle.algebra.proofs.IntegerRing.{mul-one}
use Rattle.fractions.proofs.IntegerLaws.{integer-rules, one-mul, neg-mul}
use Rattle.fractions.proofs.SignLaws.{product-suc, none_above, mul-cancel, signs_of, sizes-of}

-- the lower number as an integer
low : Fraction → ℤ
low a = pos (lower a)

equals-by : (a b : Fraction) → a.upper *ℤ low b ≡ b.upper *ℤ low a → Equals a b
unfolding low
equals-by a b e = e

less_one : (j k : ℕ) → suc (suc j * suc k - 1) ≡ suc j * suc k
less_one j k = ap (λ (x : ℕ). suc (x - 1)) (product-suc j k) ∙ ends (j * suc k + k) ∙ sym (product-suc j k)
  where
    ends : (x : ℕ) → suc (suc x - 1) ≡ suc x
    ends x = omega arith

-- p/q has the lower number q, for a q above zero
pub over-lower : (p : ℤ) (q : ℕ) → zero < q → lower (over p q) ≡ q
over-lower p q above = omega arith

times-one : (n k : ℕ) → suc n * suc k * 1 ≡ 1 * suc (suc k * suc n - 1)
times-one n k = NatL.mul-one (suc n * suc k) ∙ NatL.mul_comm (suc n) (suc k) ∙ sym (NatL.one-mul (suc (suc k * suc n - 1)) ∙ less_one k n)

upper-sum : (a b : Fraction) → (sum a b).upper ≡ a.upper *ℤ low b +ℤ b.upper *ℤ low a
unfolding sum low
upper-sum a b = refl

low_sum : (a b : Fraction) → low (sum a b) ≡ low a *ℤ low b
unfolding sum low
low_sum a b = ap pos (less_one a.lower_less b.lower_less)

upper-product : (a b : Fraction) → (product a b).upper ≡ a.upper *ℤ b.upper
unfolding product
upper-product a b = refl

low_product : (a b : Fraction) → low (product a b) ≡ low a *ℤ low b
unfolding product low
low_product a b = ap pos (less_one a.lower_less b.lower_less)

upper-negation : (a : Fraction) → (negation a).upper ≡ neg_ℤ a.upper
unfolding negation
upper-negation a = refl

low-negation : (a : Fraction) → low (negation a) ≡ low a
unfolding negation low
low-negation a = refl

ruleset pair-rules = (upper-sum, low_sum, upper-product, low_product, upper-negation, low-negation, integer-rules)

pub sum-assoc : (a b c : Fraction) → Equals (sum (sum a b) c) (sum a (sum b c))
sum-assoc a b c = equals-by (sum (sum a b) c) (sum a (sum b c)) (simp pair-rules)

pub sum_comm : (a b : Fraction) → Equals (sum a b) (sum b a)
sum_comm a b = equals-by (sum a b) (sum b a) (simp pair-rules)

pub product-assoc : (a b c : Fraction) → Equals (product (product a b) c) (product a (product b c))
product-assoc a b c = equals-by (product (product a b) c) (product a (product b c)) (simp pair-rules)

pub product-comm : (a b : Fraction) → Equals (product a b) (product b a)
product-comm a b = equals-by (product a b) (product b a) (simp pair-rules)

pub product-sum : (a b c : Fraction) → Equals (product a (sum b c)) (sum (product a b) (product a c))
product-sum a b c = equals-by (product a (sum b c)) (sum (product a b) (product a c)) (simp pair-rules)

-- ---- zero and one

low-whole : (z : ℤ) → low (whole z) ≡ pos 1
unfolding low
low-whole z = refl

pub sum-zero : (a : Fraction) → Equals (sum a (whole (pos 0))) a
sum-zero a = equals-by (sum a (whole (pos 0))) a (simp (pair-rules, low-whole, one-mul, *ℤ-zero, +ℤ_idl))

pub product-one : (a : Fraction) → Equals (product a (whole (pos 1))) a
product-one a = equals-by (product a (whole (pos 1))) a (simp (pair-rules, low-whole, mul-one, one-mul))

pub sum-negation : (a : Fraction) → Equals (sum a (negation a)) (whole (pos 0))
sum-negation a = equals-by (sum a (negation a)) (whole (pos 0))
    (simp (pair-rules, low-whole, zero-*ℤ, *ℤ-zero, +ℤ_invr))

-- ---- an equivalence that the operations respect

crossed-of : (a b : Fraction) → Equals a b → a.upper *ℤ low b ≡ b.upper *ℤ low a
unfolding low
crossed-of a b e = e

low-cancel : (a : Fraction) (x y : ℤ) → x *ℤ low a ≡ y *ℤ low a → x ≡ y
unfolding low
low-cancel a x y e = mul-cancel x y a.lower_less e

-- three factors, the middle one past the last
passed : (x y z : ℤ) → (x *ℤ y) *ℤ z ≡ (x *ℤ z) *ℤ y
passed x y z = simp integer-rules

pub equals-trans : (a b c : Fraction) → Equals a b → Equals b c → Equals a c
equals-trans a b c h k = equals-by a c (low-cancel b (a.upper *ℤ low c) (c.upper *ℤ low a)
    (passed a.upper (low c) (low b) ∙ ap (λ x. x *ℤ low c) (crossed-of a b h) ∙ passed b.upper (low a) (low c)
    ∙ ap (λ x. x *ℤ low a) (crossed-of b c k) ∙ passed c.upper (low b) (low a)))

pub sum-respects : (a b c d : Fraction) → Equals a c → Equals b d → Equals (sum a b) (sum c d)
sum-respects a b c d h k = equals-by (sum a b) (sum c d) (apart ∙ ap₂ (λ x y. x *ℤ (low b *ℤ low d) +ℤ y *ℤ (low a *ℤ low c)) (crossed-of a c h) (crossed-of b d k) ∙ joined)
  where
    apart : (sum a b).upper *ℤ low (sum c d) ≡ (a.upper *ℤ low c) *ℤ (low b *ℤ low d) +ℤ (b.upper *ℤ low d) *ℤ (low a *ℤ low c)
    apart = simp pair-rules

    joined : (c.upper *ℤ low a) *ℤ (low b *ℤ low d) +ℤ (d.upper *ℤ low b) *ℤ (low a *ℤ low c) ≡ (sum c d).upper *ℤ low (sum a b)
    joined = simp pair-rules

pub product-respects : (a b c d : Fraction) → Equals a c → Equals b d → Equals (product a b) (product c d)
product-respects a b c d h k = equals-by (product a b) (product c d) (apart ∙ ap₂ ◌*ℤ◌ (crossed-of a c h) (crossed-of b d k) ∙ joined)
  where
    apart : (product a b).upper *ℤ low (product c d) ≡ (a.upper *ℤ low c) *ℤ (b.upper *ℤ low d)
    apart = simp pair-rules

    joined : (c.upper *ℤ low a) *ℤ (d.upper *ℤ low b) ≡ (product c d).upper *ℤ low (product a b)
    joined = simp pair-rules

pub negation-respects : (a b : Fraction) → Equals a b → Equals (negation a) (negation b)
unfolding negation
negation-respects a b h = neg-mul a.upper (pos (lower b)) ∙ ap neg_ℤ h ∙ sym (neg-mul b.upper (pos (lower a)))

-- ---- the reciprocal

-- two fractions with one cross product have one sign, and their sizes cross-multiply alike
turned-respects : (p r : ℤ) (q s : ℕ) → non_neg p ≡ non_neg r → nat_abs p * suc s ≡ nat_abs r * suc q → Equals (turned p (suc q)) (turned r (suc s))
unfolding turned
turned-respects (pos zero) (pos zero) q s g e = refl
turned-respects (pos zero) (pos (suc r)) q s g e = absurd (none_above r q (sym e ∙ zero-mul (suc s)))
turned-respects (pos (suc p)) (pos zero) q s g e = absurd (none_above p s (e ∙ zero-mul (suc q)))
turned-respects (pos (suc p)) (pos (suc r)) q s g e = ap pos (mul_comm (suc q) (suc r) ∙ sym e ∙ mul_comm (suc p) (suc s))
turned-respects (pos zero) (negsuc r) q s g e = absurd (true≢false g)
turned-respects (pos (suc p)) (negsuc r) q s g e = absurd (true≢false g)
turned-respects (negsuc p) (pos zero) q s g e = absurd (false≢true g)
turned-respects (negsuc p) (pos (suc r)) q s g e = absurd (false≢true g)
turned-respects (negsuc p) (negsuc r) q s g e = ap (λ (x : ℕ). neg_ℤ (pos x)) (mul_comm (suc q) (suc r) ∙ sym e ∙ mul_comm (suc p) (suc s))

pub reciprocal-respects : (a b : Fraction) → Equals a b → Equals (reciprocal a) (reciprocal b)
unfolding reciprocal
reciprocal-respects a b h =
    turned-respects a.upper b.upper a.lower_less b.lower_less
    (signs_of a.upper b.upper b.lower_less a.lower_less h) (sizes-of a.upper b.upper b.lower_less a.lower_less h)

-- ---- the laws of an ordered field that ask for the sign

pub equals-zero : (a : Fraction) → nat_abs a.upper ≡ zero → Equals a (whole (pos 0))
equals-zero a e = ap (λ x. x *ℤ pos 1) (none a.upper e) ∙ sym (zero-*ℤ (pos (lower a)))
  where
    none : (z : ℤ) → nat_abs z ≡ zero → z ≡ pos zero
    none (pos n) e = ap pos e
    none (negsuc n) e = absurd (apart n e)
      where
        apart : (n : ℕ) → suc n ≡ zero → ⊥
        apart n h = omega arith

-- a · 1/a = 1 for an a with an upper number apart from zero
turned-product : (p : ℤ) (k : ℕ) → (nat_abs p ≡ zero → ⊥) → Equals (product (record { upper = p; lower_less = k }) (turned p (suc k))) (whole (pos 1))
unfolding product turned
turned-product (pos zero) k apart = absurd (apart refl)
turned-product (pos (suc n)) k apart = ap pos (times-one n k)
turned-product (negsuc n) k apart = ap pos (times-one n k)

pub product-reciprocal : (a : Fraction) → (nat_abs a.upper ≡ zero → ⊥) → Equals (product a (reciprocal a)) (whole (pos 1))
unfolding reciprocal
product-reciprocal a apart = turned-product a.upper a.lower_less apart
