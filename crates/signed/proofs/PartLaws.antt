-- The two parts of a whole number under the operations. With these in its list `omega` reasons about whole numbers: an order or an
-- equation of whole numbers is one of their parts (`OrderLaws`), and each operation is one line here.
use mathlib.Core.Bool.{Bool, true, false, cond}
use mathlib.Core.Path.{◌≡◌, refl, sym, ◌∙◌}
use Prim.Native.Nat.{ℕ, zero, suc, ◌+◌, ◌*◌, ◌-◌}
use native.Mathlib.Nat.{zero-mul}
use native.Mathlib.Omega.{arith}
use lib.Dec.{ltb}
use lib.IntN.{ℤ, pos, negsuc, neg_ℤ, nat_abs, sub_ℕ, ◌+ℤ◌, ◌-ℤ◌, ◌*ℤ◌}
use borrow.Author.Tests.{ltb-true, ltb-false}
use Rattle.signed.specs.Parts.{up, down}

-- the parts of a difference of natural numbers
pub subℕ-parts : (a b : ℕ) → up (sub_ℕ a b) + b ≡ a + down (sub_ℕ a b)
subℕ-parts a b = by-test (ltb a b) refl
  where
    by-test : (t : Bool) → ltb a b ≡ t → up (cond t (negsuc (b - suc a)) (pos (a - b))) + b ≡ a + down (cond t (negsuc (b - suc a)) (pos (a - b)))
    by-test true e = omega (arith, ltb-true a b e)
    by-test false e = omega (arith, ltb-false a b e)

-- the size is both parts together
pub nat_abs-parts : (z : ℤ) → nat_abs z ≡ up z + down z
nat_abs-parts (pos n) = omega arith
nat_abs-parts (negsuc n) = omega arith

pub neg-up : (z : ℤ) → up (neg_ℤ z) ≡ down z
neg-up (pos zero) = refl
neg-up (pos (suc n)) = refl
neg-up (negsuc n) = refl

pub neg-down : (z : ℤ) → down (neg_ℤ z) ≡ up z
neg-down (pos zero) = refl
neg-down (pos (suc n)) = refl
neg-down (negsuc n) = refl

pub sum-parts : (a b : ℤ) → up (a +ℤ b) + (down a + down b) ≡ (up a + up b) + down (a +ℤ b)
sum-parts (pos a) (pos b) = omega arith
sum-parts (pos a) (negsuc b) = omega (arith, subℕ-parts a (suc b))
sum-parts (negsuc a) (pos b) = omega (arith, subℕ-parts b (suc a))
sum-parts (negsuc a) (negsuc b) = omega arith

pub difference-parts : (a b : ℤ) → up (a -ℤ b) + (down a + up b) ≡ (up a + down b) + down (a -ℤ b)
difference-parts a b = omega (arith, sum-parts a (neg_ℤ b), neg-up b, neg-down b)

-- a natural multiple
pub times-up : (z : ℤ) (n : ℕ) → up (z *ℤ pos n) ≡ up z * n
times-up (pos a) n = refl
times-up (negsuc a) n = neg-up (pos (suc a * n)) ∙ sym (zero-mul n)

pub times_down : (z : ℤ) (n : ℕ) → down (z *ℤ pos n) ≡ down z * n
times_down (pos a) n = sym (zero-mul n)
times_down (negsuc a) n = neg-down (pos (suc a * n))
