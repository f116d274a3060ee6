-- Division that leaves nothing: the quotient times the divisor is the number again, and a multiple divided gives its factor.
use mathlib.Core.Bool.{true}
use mathlib.Core.Path.{◌≡◌, refl, sym, ap, ◌∙◌}
use Prim.Native.Nat.{ℕ, zero, suc, ◌-◌, ◌*◌, ◌/◌, ◌%◌, ◌^◌, ◌<◌}
use native.Mathlib.Nat.{mul-div_cancel, mul-mod_left, div-add-mod', zero-div, zero-mul, mod-lt}
use native.Mathlib.Omega.{arith}
use lib.Dec.{eqb}
use lib.IntN.{ℤ, pos, negsuc, neg_ℤ, nat_abs, ◌*ℤ◌}
use lib.Signed.{quot_z, rem_z}
use mir.Syntax.{w64}
use mir.Val.{of_z}
use borrow.Author.Tests.{eqb-true, eq-eqb, ne_eqb}
use Rattle.signed.specs.Division.{divides}
use Rattle.signed.proofs.SizeLaws.{nat_abs_mul}

quot-neg : (n d : ℕ) → quot_z (neg_ℤ (pos n)) (pos d) ≡ neg_ℤ (pos (n / d))
quot-neg zero d = rw zero-div
quot-neg (suc n) d = refl

mul-neg : (n d : ℕ) → neg_ℤ (pos n) *ℤ pos d ≡ neg_ℤ (pos (n * d))
mul-neg zero d = rw zero-mul
mul-neg (suc n) d = refl

-- a multiple divided gives the factor
pub quot-of-product : (q : ℤ) (d : ℕ) → 0 < d → quot_z (q *ℤ pos d) (pos d) ≡ q
quot-of-product (pos a) d h = ap pos (mul-div_cancel a h)
quot-of-product (negsuc a) d h = quot-neg (suc a * d) d ∙ ap (λ (n : ℕ). neg_ℤ (pos n)) (mul-div_cancel (suc a) h)

-- a multiple leaves nothing
pub product-divides : (q : ℤ) (d : ℕ) → divides (pos d) (q *ℤ pos d) ≡ true
unfolding divides
product-divides q d = eq-eqb _ _ (ap (λ (n : ℕ). n % d) (nat_abs_mul q (pos d)) ∙ mul-mod_left (nat_abs q) d)

-- where nothing is left, the quotient times the divisor is the number
rest-none : (z : ℤ) (d : ℕ) → nat_abs z % d ≡ 0 → quot_z z (pos d) *ℤ pos d ≡ z
rest-none (pos a) d h = ap pos (omega (arith, div-add-mod' a d))
rest-none (negsuc a) d h =
    let e : suc a / d * d ≡ suc a = omega (arith, div-add-mod' (suc a) d) in
    mul-neg (suc a / d) d ∙ ap (λ (n : ℕ). neg_ℤ (pos n)) e

pub product-of-quot : (z : ℤ) (d : ℕ) → divides (pos d) z ≡ true → quot_z z (pos d) *ℤ pos d ≡ z
unfolding divides
product-of-quot z d h = rest-none z d (eqb-true _ _ h)

-- code that tests the bits of a remainder against zero tests that
bits_none : (r : ℕ) → r < 2 ^ 63 → eqb (of_z w64 (neg_ℤ (pos r))) 0 ≡ eqb r 0
bits_none zero h = refl
bits_none (suc r) h = ne_eqb (2 ^ 64 - suc r) 0 (λ e. absurd (omega arith)) ∙ sym (ne_eqb (suc r) 0 (λ e. absurd (omega arith)))

pub remainder-none : (z : ℤ) (d : ℕ) → 0 < d → d < 2 ^ 63 → eqb (of_z w64 (rem_z z (pos d))) 0 ≡ divides (pos d) z
unfolding divides
remainder-none (pos a) d h k = refl
remainder-none (negsuc a) d h k = bits_none (suc a % d) (omega (arith, mod-lt (suc a) h))
