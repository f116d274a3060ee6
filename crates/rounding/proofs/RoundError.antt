-- One rounding moves a number by at most one part in 2 ^ prec of it plus one unit, a unit being the format's smallest value
-- 2 ^ -low. A fraction of units n / c is handed to `round` as n over c · 2 ^ low, and `grid_units` is what comes back, in units.
use mathlib.Core.Path.{◌≡◌, sym, ap, ◌∙◌, subst}
use mathlib.Core.Logic.{inl, inr}
use mathlib.Core.Bool.{Bool, not}
use Prim.Native.Nat.{ℕ, suc, ◌+◌, ◌-◌, ◌*◌, ◌/◌, ◌%◌, ◌^◌, ◌≤◌, ◌<◌, compare, Ordering}
use native.Mathlib.Nat.{le_trans, le_of_eq, mul-le-mul_right, mul-le-mul_left, le_of_mul-le-mul_right, mul-pos, mod-lt, div-add-mod', eq-zero-or-pos, pow-succ', le-div_iff_mul-le, mul-one, zero-lt-suc}
use native.Mathlib.Omega.{arith}
use lib.Dec.{T, is_le, compare_is_eq, eqb, leb→le, nleb→lt, eqb→eq, eqb_refl}
use lib.Arith.{lt_of_le-ne}
use lib.Pow.{pow-add, pow_pos}
use lib.Ieee.{Float, Format, prec, low, size, nearest, round}
use lib.Ieee.Digits.{size_reaches}
use lib.Ieee.Fits.{round_is, two, two-le_pos}
use lib.Ieee.Exact.{HasValue, units_val}
use lib.Ieee.Nearest.{closest}
use lib.Ieee.Order.{drop, kept}
use lib.Ieee.Scale.{grid, overflow}

-- ---- what `compare` says
abbrev Compared : Ordering → ℕ → ℕ → Type 0
Compared Ordering.lt a b = a < b
Compared Ordering.eq a b = a ≡ b
Compared Ordering.gt a b = b < a

compared : (a b : ℕ) → Compared (compare a b) a b
compared a b = go (compare a b) (leb→le a b) (nleb→lt a b) (eqb→eq a b) (λ (e : a ≡ b). subst (λ (x : ℕ). T (eqb a x)) e (eqb_refl a))
  where
    go : (o : Ordering) → (T (is_le o) → a ≤ b) → (T (not (is_le o)) → b < a) → (T (compare_is_eq o) → a ≡ b) → (a ≡ b → T (compare_is_eq o)) → Compared o a b
    go Ordering.lt h k e n = lt_of_le-ne (h tt) n
    go Ordering.eq h k e n = e tt
    go Ordering.gt h k e n = k tt

-- |w · b - a| · 2 ≤ b
abbrev HalfWay : (w b a : ℕ) → Type 0
HalfWay w b a = (w * b * 2 ≤ a * 2 + b) × (a * 2 ≤ w * b * 2 + b)

tie-near : (q z b r : ℕ) → z ≤ 1 → r * 2 ≡ b → HalfWay (q + z) b (q * b + r)
tie-near q z b r Z e =
    let m : z * b ≤ 1 * b = mul-le-mul_right b Z in
    omega arith

nearest-near : (q r b : ℕ) (o : Ordering) → Compared o (r * 2) b → r < b → HalfWay (nearest q o) b (q * b + r)
nearest-near q r b Ordering.lt h l = omega arith
nearest-near q r b Ordering.eq h l = tie-near q (q % 2) b r (omega arith) h
nearest-near q r b Ordering.gt h l = omega arith

closest-near : (a b : ℕ) → 0 < b → HalfWay (closest a b) b a
closest-near a b B = subst (λ (x : ℕ). HalfWay (closest a b) b x) (div-add-mod' a b) (nearest-near (a / b) (a % b) b (compare (a % b * 2) b) (compared (a % b * 2) b) (mod-lt a B))

-- |w · c - n| ≤ n / W + c, multiplied out: w is near n / c within one part in W and one more
abbrev pub Within : (W w c n : ℕ) → Type 0
Within W w c n = (w * c * W ≤ n * W + n + c * W) × (n * W ≤ w * c * W + n + c * W)

-- where Q, a power of two, is dropped and X · Q stays below the number, or where Q is 1
scaled-near : (X Q K c n : ℕ) → HalfWay K (c * Q) n → X * Q * c ≤ n → Within (2 * X) (K * Q) c n
scaled-near X Q K c n h l =
    let a : K * (c * Q) * 2 * X ≤ (n * 2 + c * Q) * X = mul-le-mul_right X h.0 in
    let b : n * 2 * X ≤ (K * (c * Q) * 2 + c * Q) * X = mul-le-mul_right X h.1 in
    omega arith

exact-near : (X Q K c n : ℕ) → Q ≡ 1 → HalfWay K (c * Q) n → Within (2 * X) (K * Q) c n
exact-near X Q K c n e h = subst (λ (q : ℕ). HalfWay K (c * q) n → Within (2 * X) (K * q) c n) (sym e) go h
  where
    go : HalfWay K (c * 1) n → Within (2 * X) (K * 1) c n
    go g =
        let a : K * (c * 1) * 2 * X ≤ (n * 2 + c * 1) * X = mul-le-mul_right X g.0 in
        let b : n * 2 * X ≤ (K * (c * 1) * 2 + c * 1) * X = mul-le-mul_right X g.1 in
        omega arith

all_in_use : (z p : ℕ) → 0 < p → 0 < z - p → p - 1 + (z - p) < z
all_in_use z p P h = omega arith

before : (p : ℕ) → 0 < p → suc (p - 1) ≡ p
before p P = omega arith

grid-near : (p n c : ℕ) → 0 < p → 0 < c → Within (2 ^ p) (kept p n c * 2 ^ drop p n c) c n
grid-near p n c P C =
    let k = drop p n c in
    let X = 2 ^ (p - 1) in
    let half : HalfWay (kept p n c) (c * 2 ^ k) n = closest-near n (c * 2 ^ k) (mul-pos C (pow_pos k)) in
    let is : 2 * X ≡ 2 ^ p = sym (pow-succ' 2 (p - 1)) ∙ ap (λ (x : ℕ). 2 ^ x) (before p P) in
    subst (λ (W : ℕ). Within W (kept p n c * 2 ^ k) c n) is
    (elim (eq-zero-or-pos k) [
      | inl z ↦ exact-near X (2 ^ k) (kept p n c) c n (ap (λ (x : ℕ). 2 ^ x) z) half
      | inr K ↦
          scaled-near X (2 ^ k) (kept p n c) c n half
          ((le-div_iff_mul-le C).0 (subst (λ (x : ℕ). x ≤ n / c) (pow-add 2 (p - 1) k) (size_reaches (n / c) (p - 1 + k) (all_in_use (size (n / c)) p P K))))
    ])

-- ---- n / c units, rounded
abbrev pub round_units : (f : Format) (s : Bool) (n c : ℕ) → Float
round_units f s n c = round f s n (c * 2 ^ low f)

abbrev pub grid_units : (f : Format) (n c : ℕ) → ℕ
grid_units f n c = grid f n (c * 2 ^ low f)

cancel : (W w c n U : ℕ) → 0 < U → Within W w (c * U) (n * U) → Within W w c n
cancel W w c n U P h =
    let a : (w * c * W) * U ≤ (n * W + n + c * W) * U = le_trans (le_of_eq (omega arith)) (le_trans h.0 (le_of_eq (omega arith))) in
    let b : (n * W) * U ≤ (w * c * W + n + c * W) * U = le_trans (le_of_eq (omega arith)) (le_trans h.1 (le_of_eq (omega arith))) in
    (le_of_mul-le-mul_right a P, le_of_mul-le-mul_right b P)

pub grid-within : (f : Format) (n c : ℕ) → 0 < c → Within (2 ^ prec f) (grid_units f n c) c n
grid-within f n c C =
    cancel (2 ^ prec f) (grid_units f n c) c n (2 ^ low f) (pow_pos (low f))
    (grid-near (prec f) (n * 2 ^ low f) (c * 2 ^ low f) (two-le_pos (prec f) (two f)) (mul-pos C (pow_pos (low f))))

-- a number that is at most B rounds to at most 2 · B + 1
coarse : (W w c n B : ℕ) → 0 < W → 0 < c → Within W w c n → n ≤ B * c → w ≤ 2 * B + 1
coarse W w c n B P C h l =
    let one : 1 ≤ W = P in
    let a : n * 1 ≤ n * W = mul-le-mul_left n one in
    let b : n * W ≤ B * c * W = mul-le-mul_right W l in
    let d : w * (c * W) ≤ (2 * B + 1) * (c * W) = le_trans (le_of_eq (omega arith)) (le_trans h.0 (omega arith)) in
    le_of_mul-le-mul_right d (mul-pos C P)

pub grid-coarse : (f : Format) (n c B : ℕ) → 0 < c → n ≤ B * c → grid_units f n c ≤ 2 * B + 1
grid-coarse f n c B C l = coarse (2 ^ prec f) (grid_units f n c) c n B (pow_pos (prec f)) C (grid-within f n c C) l

-- a whole number of units
pub whole-coarse : (f : Format) (n : ℕ) → grid_units f n 1 ≤ 2 * n + 1
whole-coarse f n = grid-coarse f n 1 n (zero-lt-suc 0) (le_of_eq (sym (mul-one n)))

-- n / c units, rounded, have that size where nothing overflows
pub round-value : (f : Format) (s : Bool) (n c : ℕ) → grid_units f n c < overflow f → HasValue (round_units f s n c) s (grid_units f n c) (2 ^ low f)
round-value f s n c h =
    let p = prec f in
    let N = n * 2 ^ low f in
    let C = c * 2 ^ low f in
    subst (λ (z : Float). HasValue z s (grid_units f n c) (2 ^ low f)) (sym (round_is f s n C)) (units_val f s (kept p N C) (drop p N C) h)
