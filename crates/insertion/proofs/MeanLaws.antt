-- Division of a mean: whole differences, the size of a mean of two coordinates, and what an i64 holds of it.
use mathlib.Core.Path.{◌≡◌, refl, sym, ap, ◌∙◌}
use Prim.Native.Nat.{ℕ, zero, suc, ◌+◌, ◌-◌, ◌*◌, ◌/◌, ◌%◌, ◌^◌, ◌≤◌, ◌<◌}
use native.Mathlib.Nat.{div-le_of_le-mul, mul-le-mul_left, add-mul, div-le_self, mod-lt}
use native.Mathlib.Omega.{arith}
use lib.Dec.{eqb}
use lib.IntN.{ℤ, pos, negsuc, neg_ℤ, nat_abs, ◌+ℤ◌, ◌-ℤ◌, ◌*ℤ◌, +ℤ-neg_ℤ_cancel}
use lib.Signed.{mag, quot_z, rem_z}
use mir.Syntax.{Width, w32, w64}
use mir.Val.{SFits, of_z}
use mir.ValLaws.{sfits_le}
use borrow.Author.Tests.{ne_eqb}
use Rattle.signed.proofs.SizeLaws.{nat_abs_mul, nat_abs-add, nat_abs-quot}
use Rattle.signed.proofs.FitLaws.{fits64-of-size, product-size}

-- a summand moves to the other side
pub sum-moves : (a b c : ℤ) → a +ℤ b ≡ c → a ≡ c -ℤ b
sum-moves a b c e = sym (+ℤ-neg_ℤ_cancel a b) ∙ ap (λ (z : ℤ). z -ℤ b) e

-- a mean of two numbers of size up to `most`, with weights that add up to d, is of size up to `most`
pub mean-within : (a b d most : ℕ) (p q : ℤ) → nat_abs p ≤ most → nat_abs q ≤ most → a + b ≡ d
    → nat_abs (quot_z (pos a *ℤ p +ℤ pos b *ℤ q) (pos d)) ≤ most
mean-within a b d most p q hp hq e =
    let sum = nat_abs-add (pos a *ℤ p) (pos b *ℤ q) in
    let left : nat_abs (pos a *ℤ p) ≤ a * most = rw (nat_abs_mul (pos a) p) (mul-le-mul_left a hp) in
    let right : nat_abs (pos b *ℤ q) ≤ b * most = rw (nat_abs_mul (pos b) q) (mul-le-mul_left b hq) in
    let whole : d * most ≡ a * most + b * most = rw (← e) (add-mul a b most) in
    rw (nat_abs-quot (pos a *ℤ p +ℤ pos b *ℤ q) d) (div-le_of_le-mul d (omega arith))

-- the sum of two products of a u16 and an i32 fits an i64
pub products-fit : (a b : ℕ) (p q : ℤ) → a < 2 ^ 16 → b < 2 ^ 16 → SFits w32 p → SFits w32 q
    → SFits w64 (pos a *ℤ p +ℤ pos b *ℤ q)
products-fit a b p q ha hb hp hq =
    fits64-of-size (pos a *ℤ p +ℤ pos b *ℤ q)
    (omega (arith, nat_abs-add (pos a *ℤ p) (pos b *ℤ q), product-size a p ha hp, product-size b q hb hq))

-- a quotient by a natural number is no longer than what is divided
mag-neg : (r a : ℕ) → r ≤ suc a → mag (neg_ℤ (pos r)) ≤ a
mag-neg zero a h = omega arith
mag-neg (suc r) a h = omega arith

pub quot_fits : (w : Width) (z : ℤ) (d : ℕ) → SFits w z → SFits w (quot_z z (pos d))
quot_fits w (pos a) d h = sfits_le {z = pos a} (div-le_self a d) h
quot_fits w (negsuc a) d h = sfits_le {z = negsuc a} (mag-neg (suc a / d) a (div-le_self (suc a) d)) h

-- the remainder's bits are zero exactly where d goes into z
bits-zero : (r : ℕ) → r < 2 ^ 64 → eqb (of_z w64 (neg_ℤ (pos r))) 0 ≡ eqb r 0
bits-zero zero h = refl
bits-zero (suc r) h =
    ne_eqb (2 ^ 64 - suc r) 0 (λ e. omega arith) ∙ sym (ne_eqb (suc r) 0 (λ e. omega arith))

pub remainder-zero : (z : ℤ) (d : ℕ) → 0 < d → d < 2 ^ 16 → eqb (of_z w64 (rem_z z (pos d))) 0 ≡ eqb (nat_abs z % d) 0
remainder-zero (pos a) d p h = refl
remainder-zero (negsuc a) d p h = bits-zero (suc a % d) (omega (arith, mod-lt (suc a) p))
