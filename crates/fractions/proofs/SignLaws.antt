-- An integer is its sign and its size; a factor above zero changes no sign and may be cancelled; x ≤ y says that y - x is not
-- negative.
use mathlib.Core.Path.{◌≡◌, refl, sym, ◌∙◌, ap}
use mathlib.Core.Bool.{Bool, true, false, not, cond, true≢false, false≢true}
use Prim.Native.Nat.{ℕ, zero, suc, ◌+◌, ◌*◌, ◌-◌, ◌/◌, ◌<◌, ◌≤◌}
use native.Mathlib.Nat.{suc-mul, add-suc, suc_inj, mul-div_cancel}
use native.Mathlib.Omega.{arith}
use lib.Dec.{T, leb, ltb, leb-zero, leb-suc-zero, leb-suc-suc, leb→le, le→leb, ltb→lt, nltb→le}
use lib.Arith.{lt→nleb}
use lib.IntN.{ℤ, pos, negsuc, neg_ℤ, nat_abs, sub_ℕ, ◌*ℤ◌, ◌-ℤ◌}
use lib.Signed.{non_neg, le_z, lt_z}

pub true_of : (b : Bool) → T b → b ≡ true
true_of true t = refl
true_of false t = absurd t

pub false_of : (b : Bool) → T (not b) → b ≡ false
false_of true t = absurd t
false_of false t = refl

pub holds_of : (b : Bool) → b ≡ true → T b
holds_of true e = tt
holds_of false e = absurd (false≢true e)

pub fails_of : (b : Bool) → b ≡ false → T (not b)
fails_of true e = absurd (true≢false e)
fails_of false e = tt

-- the product of two numbers above zero, as a successor
pub product-suc : (j k : ℕ) → suc j * suc k ≡ suc (j * suc k + k)
product-suc j k = suc-mul j (suc k) ∙ add-suc (j * suc k) k

pub none_above : (j k : ℕ) → suc j * suc k ≡ zero → ⊥
none_above j k e = apart (j * suc k + k) (sym (product-suc j k) ∙ e)
  where
    apart : (x : ℕ) → suc x ≡ zero → ⊥
    apart x h = omega arith

pub nat_abs-neg : (z : ℤ) → nat_abs (neg_ℤ z) ≡ nat_abs z
nat_abs-neg (pos zero) = refl
nat_abs-neg (pos (suc n)) = refl
nat_abs-neg (negsuc n) = refl

pub nat_abs_mul : (a b : ℤ) → nat_abs (a *ℤ b) ≡ nat_abs a * nat_abs b
nat_abs_mul (pos a) (pos b) = refl
nat_abs_mul (pos a) (negsuc b) = nat_abs-neg (pos (a * suc b))
nat_abs_mul (negsuc a) (pos b) = nat_abs-neg (pos (suc a * b))
nat_abs_mul (negsuc a) (negsuc b) = refl

pub non_neg-scaled : (z : ℤ) (k : ℕ) → non_neg (z *ℤ pos (suc k)) ≡ non_neg z
non_neg-scaled (pos a) k = refl
non_neg-scaled (negsuc a) k = ap (λ (x : ℕ). non_neg (neg_ℤ (pos x))) (product-suc a k)

pub sign-and-size : (x y : ℤ) → non_neg x ≡ non_neg y → nat_abs x ≡ nat_abs y → x ≡ y
sign-and-size (pos a) (pos b) s e = ap pos e
sign-and-size (pos a) (negsuc b) s e = absurd (true≢false s)
sign-and-size (negsuc a) (pos b) s e = absurd (false≢true s)
sign-and-size (negsuc a) (negsuc b) s e = ap negsuc (suc_inj e)

times-cancel : (a b k : ℕ) → a * suc k ≡ b * suc k → a ≡ b
times-cancel a b k e = sym (mul-div_cancel a above) ∙ ap (λ (x : ℕ). x / suc k) e ∙ mul-div_cancel b above
  where
    above : zero < suc k
    above = omega arith

pub sizes-of : (x y : ℤ) (j k : ℕ) → x *ℤ pos (suc j) ≡ y *ℤ pos (suc k) → nat_abs x * suc j ≡ nat_abs y * suc k
sizes-of x y j k e = sym (nat_abs_mul x (pos (suc j))) ∙ ap nat_abs e ∙ nat_abs_mul y (pos (suc k))

pub signs_of : (x y : ℤ) (j k : ℕ) → x *ℤ pos (suc j) ≡ y *ℤ pos (suc k) → non_neg x ≡ non_neg y
signs_of x y j k e = sym (non_neg-scaled x j) ∙ ap non_neg e ∙ non_neg-scaled y k

pub mul-cancel : (x y : ℤ) (k : ℕ) → x *ℤ pos (suc k) ≡ y *ℤ pos (suc k) → x ≡ y
mul-cancel x y k e = sign-and-size x y (signs_of x y k k e) (times-cancel (nat_abs x) (nat_abs y) k (sizes-of x y k k e))

-- a - b is not negative exactly when b ≤ a
pub subℕ-sign : (a b : ℕ) → non_neg (sub_ℕ a b) ≡ leb b a
subℕ-sign a b = by (ltb a b) refl
  where
    by : (t : Bool) → ltb a b ≡ t → non_neg (cond t (negsuc (b - suc a)) (pos (a - b))) ≡ leb b a
    by true e = sym (false_of (leb b a) (lt→nleb b a (ltb→lt a b (holds_of (ltb a b) e))))
    by false e = sym (true_of (leb b a) (le→leb b a (nltb→le a b (fails_of (ltb a b) e))))

pub difference-sign : (x y : ℤ) → non_neg (y -ℤ x) ≡ le_z x y
difference-sign (pos zero) (pos b) = sym (leb-zero b)
difference-sign (pos (suc a)) (pos b) = subℕ-sign b (suc a)
difference-sign (pos zero) (negsuc b) = subℕ-sign zero (suc b) ∙ leb-suc-zero b
difference-sign (pos (suc a)) (negsuc b) = refl
difference-sign (negsuc a) (pos b) = refl
difference-sign (negsuc a) (negsuc b) = subℕ-sign (suc a) (suc b) ∙ leb-suc-suc b a

ltb-not : (a b : ℕ) → ltb a b ≡ not (leb b a)
ltb-not a b = by (leb b a) refl
  where
    by : (t : Bool) → leb b a ≡ t → ltb a b ≡ not t
    by true e = false_of (ltb a b) (lt→nleb (suc a) b (step (leb→le b a (holds_of (leb b a) e))))
      where
        step : b ≤ a → b < suc a
        step h = omega arith
    by false e = true_of (ltb a b) (le→leb (suc a) b (lib.Dec.nleb→lt b a (fails_of (leb b a) e)))

pub lt_z-not : (x y : ℤ) → lt_z x y ≡ not (le_z y x)
lt_z-not (pos a) (pos b) = ltb-not a b
lt_z-not (pos a) (negsuc b) = refl
lt_z-not (negsuc a) (pos b) = refl
lt_z-not (negsuc a) (negsuc b) = ltb-not b a
