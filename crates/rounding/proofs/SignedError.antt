-- Distances of signed numbers, a signed number being a difference of two naturals, so that they are linear arithmetic on naturals.
use mathlib.Core.Path.{◌≡◌, refl}
use mathlib.Core.Bool.{Bool, true, false, not, ◌&&◌, cond}
use Prim.Native.Nat.{ℕ, ◌+◌, ◌-◌, ◌*◌, ◌≤◌, ◌<◌}
use native.Mathlib.Nat.{le_of_mul-le-mul_left, le_trans, le_of_eq}
use native.Mathlib.Omega.{arith}
use lib.Dec.{T, ltb, ltb→lt, nltb→le}
use Rattle.rounding.proofs.RoundError.{Within}
use Rattle.rounding.proofs.FloatUnits.{sum_sign, sum_size}

-- |(p - n) - (q - m)| ≤ e
abbrev pub Close : (p n q m e : ℕ) → Type 0
Close p n q m e = (p + m ≤ n + q + e) × (n + q ≤ p + m + e)

-- ±u is plus - minus: the sign says which of the two is u, and the other is 0
abbrev pub plus : Bool → ℕ → ℕ
plus s u = cond s 0 u

abbrev pub minus : Bool → ℕ → ℕ
minus s u = cond s u 0

-- a size that is near n / c is, with either sign, a signed number near it
pub within-close : (s : Bool) (W w c n : ℕ) → Within W w c n → Close (W * (c * plus s w)) (W * (c * minus s w)) (W * plus s n) (W * minus s n) (n + c * W)
within-close true W w c n h = omega arith
within-close false W w c n h = omega arith

pub within-one : (s : Bool) (W w n : ℕ) → Within W w 1 n → Close (W * plus s w) (W * minus s w) (W * plus s n) (W * minus s n) (n + W)
within-one true W w n h = omega arith
within-one false W w n h = omega arith

pub plus_times : (s : Bool) (a v : ℕ) → plus s (a * v) ≡ a * plus s v
plus_times true a v = omega arith
plus_times false a v = refl

pub minus-times : (s : Bool) (a v : ℕ) → minus s (a * v) ≡ a * minus s v
minus-times true a v = refl
minus-times false a v = omega arith

-- r with the size z is the sum of two signed numbers, and z is at most the sum of the two sizes
abbrev pub IsSum : (r : Bool) (z : ℕ) (s : Bool) (u : ℕ) (t : Bool) (v : ℕ) → Type 0
IsSum r z s u t v = (plus r z + (minus s u + minus t v) ≡ minus r z + (plus s u + plus t v)) × (z ≤ u + v)

pub sum-exact : (s : Bool) (u : ℕ) (t : Bool) (v : ℕ) → IsSum (sum_sign s u t v) (sum_size s u t v) s u t v
sum-exact true u true v = omega arith
sum-exact false u false v = omega arith
sum-exact true u false v = go (ltb u v) (ltb v u) (ltb→lt u v) (nltb→le u v) (nltb→le v u)
  where
    go : (x y : Bool) → (T x → u < v) → (T (not x) → v ≤ u) → (T (not y) → u ≤ v) → IsSum (cond x false (true && y)) (cond x (v - u) (u - v)) true u false v
    go true y h k g = let l = h tt in omega arith
    go false true h k g = let l = k tt in omega arith
    go false false h k g =
        let l = k tt in
        let m = g tt in
        omega arith
sum-exact false u true v = go (ltb u v) (ltb→lt u v) (nltb→le u v)
  where
    go : (x : Bool) → (T x → u < v) → (T (not x) → v ≤ u) → IsSum (cond x true false) (cond x (v - u) (u - v)) false u true v
    go true h k = let l = h tt in omega arith
    go false h k = let l = k tt in omega arith

-- two products, their sum and a quotient: the four errors add up
pub close-chain : (p n q m l k r j z y s x v w e₁ e₂ e₃ e₄ : ℕ) → Close p n l k e₁ → Close q m r j e₂ → z + (n + m) ≡ y + (p + q) → Close s x z y e₃ → Close v w s x e₄
    → Close v w (l + r) (k + j) (e₁ + e₂ + e₃ + e₄)
close-chain p n q m l k r j z y s x v w e₁ e₂ e₃ e₄ a b c d g = omega arith

-- a common factor W of all five
pub close-cancel : (W p n q m e : ℕ) → 0 < W → Close (W * p) (W * n) (W * q) (W * m) (W * e) → Close p n q m e
close-cancel W p n q m e P c = (
  le_of_mul-le-mul_left (le_trans (le_of_eq (omega arith)) (le_trans c.0 (le_of_eq (omega arith)))) P,
  le_of_mul-le-mul_left (le_trans (le_of_eq (omega arith)) (le_trans c.1 (le_of_eq (omega arith)))) P,
)

pub close_more : (p n q m e g : ℕ) → e ≤ g → Close p n q m e → Close p n q m g
close_more p n q m e g h c = omega arith
