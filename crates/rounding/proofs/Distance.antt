-- From units back to fractions: a float that is within e units of an exact number differs from it by less than 1 / t, wherever e · t
-- is below the number of units in 1. All by cross-multiplying, with the float's own upper and lower number.
use mathlib.Core.Path.{◌≡◌, sym, ap, ◌∙◌, subst}
use mathlib.Core.Bool.{Bool, true, false}
use Prim.Native.Nat.{ℕ, ◌+◌, ◌*◌, ◌^◌, ◌≤◌, ◌<◌}
use native.Mathlib.Nat.{le_trans, le_of_eq, lt_of_le_of_lt, lt_of_lt_of_le, zero-mul, mul-pos, mul-le-mul_right, mul-lt-mul_of_pos_right, lt_of_mul-lt-mul_right, add-lt-add_of_le_of_lt, le_refl}
use native.Mathlib.Omega.{arith}
use lib.Dec.{T}
use lib.Ieee.{Float, nan, inf, fin, Format, low, up, down}
use lib.Ieee.Fits.{down_pos}
use lib.Ieee.Scale.{finite}
use Rattle.rounding.specs.FloatFraction.{lower_of}
use Rattle.rounding.proofs.FloatUnits.{InUnits}
use Rattle.rounding.proofs.SignedError.{plus, minus}
use Rattle.rounding.proofs.Ratio.{Ratio}
use Rattle.rounding.proofs.CellNear.{Near}

-- a float's upper number as a difference of naturals, one of which is 0
abbrev pub upper_plus : Float → ℕ
upper_plus nan = 0
upper_plus (inf s) = 0
upper_plus (fin s m e) = plus s (m * up e)

abbrev pub upper_minus : Float → ℕ
upper_minus nan = 0
upper_minus (inf s) = 0
upper_minus (fin s m e) = minus s (m * up e)

-- |x - q| < 1 / t, times t and both lower numbers
pub record Apart (t : ℕ) (x : Float) (q : Ratio) : Type 0 where
  pub is_finite : T (finite x)
  pub above : (upper_plus x * q.under + q.less * lower_of x) * t < (upper_minus x * q.under + q.more * lower_of x) * t + lower_of x * q.under
  pub below : (upper_minus x * q.under + q.more * lower_of x) * t < (upper_plus x * q.under + q.less * lower_of x) * t + lower_of x * q.under

plus-crossed : (s : Bool) (n u U d : ℕ) → n * U ≡ u * d → plus s n * U ≡ plus s u * d
plus-crossed true n u U d h = zero-mul U ∙ sym (zero-mul d)
plus-crossed false n u U d h = h

minus-crossed : (s : Bool) (n u U d : ℕ) → n * U ≡ u * d → minus s n * U ≡ minus s u * d
minus-crossed true n u U d h = h
minus-crossed false n u U d h = zero-mul U ∙ sym (zero-mul d)

-- u / U is p / d, and so is n / U for m / d
crossed : (p u k h U d t : ℕ) → p * U ≡ u * d → (u * k + h * U) * (d * t) ≡ (p * k + h * d) * t * U
crossed p u k h U d t e =
    let g : p * U * (k * t) ≡ u * d * (k * t) = ap (λ (z : ℕ). z * (k * t)) e in
    omega arith

side : (p m u n g h k U d e t : ℕ) → p * U ≡ u * d → m * U ≡ n * d → 0 < d * k → e * t < U → u * k + h * U ≤ n * k + g * U + e * k
    → (p * k + h * d) * t < (m * k + g * d) * t + d * k
side p m u n g h k U d e t a b P l c =
    let x : (u * k + h * U) * (d * t) ≤ (n * k + g * U + e * k) * (d * t) = mul-le-mul_right (d * t) c in
    let y : e * t * (d * k) < U * (d * k) = mul-lt-mul_of_pos_right l P in
    let z : (n * k + g * U + e * k) * (d * t) ≡ (n * k + g * U) * (d * t) + e * t * (d * k) = omega arith in
    let v : (m * k + g * d) * t * U + U * (d * k) ≡ ((m * k + g * d) * t + d * k) * U = omega arith in
    lt_of_mul-lt-mul_right U
    (lt_of_le_of_lt (le_trans (le_of_eq (sym (crossed p u k h U d t a))) (le_trans x (le_of_eq (z ∙ ap (λ (w : ℕ). w + e * t * (d * k)) (crossed m n k g U d t b)))))
    (lt_of_lt_of_le (add-lt-add_of_le_of_lt (le_refl ((m * k + g * d) * t * U)) y) (le_of_eq v)))

pub near_apart : (f : Format) (e t : ℕ) (x : Float) (q : Ratio) → e * t < 2 ^ low f → 0 < q.under → Near f e x q → Apart t x q
near_apart f e t x q l P n = go x n.value
  where
    go : (y : Float) → InUnits f y n.sign n.size → Apart t y q
    go nan v = absurd v
    go (inf s) v = absurd v
    go (fin s m g) v =
        let U = 2 ^ low f in
        let k = q.under in
        let r = n.sign in
        let u = n.size in
        let a = subst (λ (z : Bool). plus z (m * up g) * U ≡ plus r u * down g) (sym v.0) (plus-crossed r (m * up g) u U (down g) v.1) in
        let b = subst (λ (z : Bool). minus z (m * up g) * U ≡ minus r u * down g) (sym v.0) (minus-crossed r (m * up g) u U (down g) v.1) in
        record {
          is_finite = tt;
          above = side (plus s (m * up g)) (minus s (m * up g)) (plus r u) (minus r u) q.more q.less k U (down g) e t a b (mul-pos (down_pos g) P) l n.close.0;
          below = side (minus s (m * up g)) (plus s (m * up g)) (minus r u) (plus r u) q.less q.more k U (down g) e t b a (mul-pos (down_pos g) P) l n.close.1;
        }
