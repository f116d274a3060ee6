-- The three differences of a cell times a power of two leave the computed cell as it is, bit for bit: products and sum grow by that power
-- exactly, since they are whole numbers of units, and the quotient sees the same fraction.
use mathlib.Core.Path.{◌≡◌, refl, sym, ap, ap₂, ◌∙◌, subst}
use mathlib.Core.Bool.{Bool, true, false, not, ◌&&◌, beq, cond}
use Prim.Native.Nat.{ℕ, ◌+◌, ◌-◌, ◌*◌, ◌/◌, ◌^◌, ◌≤◌, ◌<◌}
use native.Mathlib.Nat.{le_trans, le_of_eq, le_of_lt, lt_of_lt_of_le, lt_of_le_of_lt, mul-one, one-mul, mul_comm, mul_assoc, mul_right_comm, add-mul, mul-sub, mul-pos, mul-le-mul_left, mul-le-mul_right, mul-le-mul, eq_of_mul-eq-mul_right, mul-div_cancel, zero-lt-suc}
use native.Mathlib.Omega.{arith}
use lib.IntN.{pos}
use lib.Dec.{T, ltb, leb, leb→le, nleb→lt}
use lib.Pow.{pow_pos, pow_mono}
use lib.Ieee.{Float, nan, inf, fin, Format, prec, low, down, size, of_int, add, mul, div}
use lib.Ieee.Digits.{size-lt}
use lib.Ieee.Fits.{down_pos}
use lib.Ieee.Exact.{HasValue, round_exact}
use lib.Ieee.Scale.{grid_scale, overflow, round_same}
use Rattle.rounding.proofs.RoundError.{round_units, grid_units, whole-coarse, round-value}
use Rattle.rounding.proofs.FloatUnits.{InUnits, mul-units, add-units, div-units, sum_sign, sum_size, ltb-over}
use Rattle.rounding.proofs.SignedError.{sum-exact}
use Rattle.rounding.proofs.CellError.{Room, cell_in, of_int-whole}

-- ---- one rounding of a whole number of units
value-unique : (x : Float) (s t : Bool) (a b c : ℕ) → HasValue x s a c → HasValue x t b c → a ≡ b
value-unique nan s t a b c h k = absurd h
value-unique (inf r) s t a b c h k = absurd h
value-unique (fin r m e) s t a b c h k = eq_of_mul-eq-mul_right (down e) (down_pos e) a b (sym h.1 ∙ k.1)

units-exact : (f : Format) (s : Bool) (n k : ℕ) → n < 2 ^ prec f → n * 2 ^ k < overflow f → InUnits f (round_units f s (n * 2 ^ k) 1) s (n * 2 ^ k)
units-exact f s n k h o =
    let U = 2 ^ low f in
    subst (λ (d : ℕ). HasValue (round_units f s (n * 2 ^ k) 1) s (n * 2 ^ k) d) (one-mul U)
    (round_exact f s (n * 2 ^ k) (1 * U) n k (mul-pos (zero-lt-suc 0) (pow_pos (low f))) h o (ap (λ (z : ℕ). n * 2 ^ k * z) (sym (one-mul U))))

whole_part : (f : Format) (n : ℕ) → n * 2 ^ low f / (1 * 2 ^ low f) ≡ n
whole_part f n = ap (λ (z : ℕ). n * 2 ^ low f / z) (one-mul (2 ^ low f)) ∙ mul-div_cancel n (pow_pos (low f))

twice : (n p o : ℕ) → 0 < p → 2 * (n * p) + 1 < o → (n < o) × (n * p < o) × (2 * n + 1 < o)
twice n p o P h =
    let g : n * 1 ≤ n * p = mul-le-mul_left n P in
    omega arith

-- n units round to w units: so n · 2 ^ k units round to w · 2 ^ k units
round-scaled : (f : Format) (s : Bool) (n k : ℕ) → 2 * (n * 2 ^ k) + 1 < overflow f → InUnits f (round_units f s (n * 2 ^ k) 1) s (grid_units f n 1 * 2 ^ k)
round-scaled f s n k h = go (leb (prec f) z) (leb→le (prec f) z) (nleb→lt (prec f) z)
  where
    z : ℕ
    z = size (n * 2 ^ low f / (1 * 2 ^ low f))

    go : (b : Bool) → (T b → prec f ≤ size (n * 2 ^ low f / (1 * 2 ^ low f))) → (T (not b) → size (n * 2 ^ low f / (1 * 2 ^ low f)) < prec f)
        → InUnits f (round_units f s (n * 2 ^ k) 1) s (grid_units f n 1 * 2 ^ k)
    go true y x =
        subst (λ (w : ℕ). InUnits f (round_units f s (n * 2 ^ k) 1) s w) (grid_scale f n (1 * 2 ^ low f) k (mul-pos (zero-lt-suc 0) (pow_pos (low f))) (y tt))
        (round-value f s (n * 2 ^ k) 1 (lt_of_le_of_lt (whole-coarse f (n * 2 ^ k)) h))
    go false y x =
        let small : n < 2 ^ prec f = lt_of_lt_of_le (subst (λ (q : ℕ). q < 2 ^ size (n * 2 ^ low f / (1 * 2 ^ low f))) (whole_part f n) (size-lt (n * 2 ^ low f / (1 * 2 ^ low f)))) (pow_mono (le_of_lt (x tt))) in
        let lows = twice n (2 ^ k) (overflow f) (pow_pos k) h in
        let at_one : InUnits f (round_units f s n 1) s n =
        subst (λ (q : ℕ). InUnits f (round_units f s q 1) s q) (mul-one n) (units-exact f s n 0 small (subst (λ (q : ℕ). q < overflow f) (sym (mul-one n)) lows.0)) in
        let is : grid_units f n 1 ≡ n =
        value-unique (round_units f s n 1) s s (grid_units f n 1) n (2 ^ low f) (round-value f s n 1 (lt_of_le_of_lt (whole-coarse f n) lows.2)) at_one in
        subst (λ (w : ℕ). InUnits f (round_units f s (n * 2 ^ k) 1) s (w * 2 ^ k)) (sym is) (units-exact f s n k small lows.1)

-- ---- the sum
sign-scaled : (s t : Bool) (w x c : ℕ) → 0 < c → sum_sign s (w * c) t (x * c) ≡ sum_sign s w t x
sign-scaled s t w x c C =
    ap₂ (λ (y z : Bool). cond (beq s t) s (cond y t (s && z)))
    (ltb-over (w * c) (x * c) w x c 1 (zero-lt-suc 0) C (mul-one (w * c)) (mul-one (x * c)))
    (ltb-over (x * c) (w * c) x w c 1 (zero-lt-suc 0) C (mul-one (x * c)) (mul-one (w * c)))

sub-scaled : (w x c : ℕ) → w * c - x * c ≡ (w - x) * c
sub-scaled w x c = ap₂ (λ (y z : ℕ). y - z) (mul_comm w c) (mul_comm x c) ∙ sym (mul-sub c w x) ∙ mul_comm c (w - x)

cond-scaled : (b d : Bool) (x y z c : ℕ) → cond b (x * c) (cond d (y * c) (z * c)) ≡ cond b x (cond d y z) * c
cond-scaled true d x y z c = refl
cond-scaled false true x y z c = refl
cond-scaled false false x y z c = refl

size-scaled : (s t : Bool) (w x c : ℕ) → 0 < c → sum_size s (w * c) t (x * c) ≡ sum_size s w t x * c
size-scaled s t w x c C =
    ap (λ (y : Bool). cond (beq s t) (w * c + x * c) (cond y (x * c - w * c) (w * c - x * c))) (ltb-over (w * c) (x * c) w x c 1 (zero-lt-suc 0) C (mul-one (w * c)) (mul-one (x * c)))
    ∙ ap (λ (y : ℕ). cond (beq s t) y (cond (ltb w x) (x * c - w * c) (w * c - x * c))) (sym (add-mul w x c))
    ∙ ap₂ (λ (y z : ℕ). cond (beq s t) ((w + x) * c) (cond (ltb w x) y z)) (sub-scaled x w c) (sub-scaled w x c)
    ∙ cond-scaled (beq s t) (ltb w x) (w + x) (x - w) (w - x) c

-- ---- what stays below the overflow, with c the power of two
product-fits : (D M a u c o : ℕ) → a * c ≤ D → u ≤ M → 8 * (D * M) + 11 < o → 2 * (a * u * c) + 1 < o
product-fits D M a u c o A hu h =
    let m : a * c * u ≤ D * M = mul-le-mul A hu in
    let e : a * u * c ≡ a * c * u = mul_right_comm a u c in
    omega arith

sum_fits : (D M a b u v w x z c o : ℕ) → 0 < M → 0 < a + b → (a + b) * c ≤ D → u ≤ M → v ≤ M → w ≤ 2 * (a * u) + 1 → x ≤ 2 * (b * v) + 1 → z ≤ w + x → 8 * (D * M) + 11 < o → 2 * (z * c) + 1 < o
sum_fits D M a b u v w x z c o P Q A hu hv hw hx hz h =
    let au : a * u ≤ a * M = mul-le-mul_left a hu in
    let bv : b * v ≤ b * M = mul-le-mul_left b hv in
    let zs : z ≤ 2 * ((a + b) * M) + 2 = omega arith in
    let zc : z * c ≤ (2 * ((a + b) * M) + 2) * c = mul-le-mul_right c zs in
    let dm : (a + b) * c * M ≤ D * M = mul-le-mul_right M A in
    let cd : 1 * c ≤ (a + b) * c = mul-le-mul_right c Q in
    let d1 : D * 1 ≤ D * M = mul-le-mul_left D P in
    let e : (2 * ((a + b) * M) + 2) * c ≡ 2 * ((a + b) * c * M) + 2 * c = omega arith in
    omega arith

part_left : (a b c D : ℕ) → (a + b) * c ≤ D → a * c ≤ D
part_left a b c D h = omega arith

part_right : (a b c D : ℕ) → (a + b) * c ≤ D → b * c ≤ D
part_right a b c D h = omega arith

part-one : (n k D : ℕ) → n * 2 ^ k ≤ D → n ≤ D
part-one n k D h =
    let g : n * 1 ≤ n * 2 ^ k = mul-le-mul_left n (pow_pos k) in
    omega arith

-- ---- the two chains side by side
-- a product by a · 2 ^ k is the product by a, 2 ^ k times
product-scaled : (f : Format) (M D H a k : ℕ) (l : Float) (s : Bool) (u : ℕ) → Room f M D H → a * 2 ^ k ≤ D → u ≤ M → InUnits f l s u
    → InUnits f (mul f (of_int f (pos (a * 2 ^ k))) l) s (grid_units f (a * u) 1 * 2 ^ k)
product-scaled f M D H a k l s u room A hu L =
    subst (λ (x : Float). InUnits f x s (grid_units f (a * u) 1 * 2 ^ k))
    (ap (λ (n : ℕ). round_units f s n 1) (mul_right_comm a u (2 ^ k)) ∙ sym (mul-units f (of_int f (pos (a * 2 ^ k))) l (a * 2 ^ k) s u (of_int-whole f (a * 2 ^ k) (le_trans A room.cast)) L))
    (round-scaled f s (a * u) k (product-fits D M a u (2 ^ k) (overflow f) A hu room.high))

sum-scaled : (f : Format) (M D H a b k : ℕ) (l r : Float) (s : Bool) (u : ℕ) (t : Bool) (v : ℕ) → Room f M D H → 0 < M → 0 < a + b → (a + b) * 2 ^ k ≤ D → u ≤ M → v ≤ M → InUnits f l s u → InUnits f r t v
    → let w = grid_units f (a * u) 1 in let x = grid_units f (b * v) 1 in
    InUnits f (add f (mul f (of_int f (pos (a * 2 ^ k))) l) (mul f (of_int f (pos (b * 2 ^ k))) r)) (sum_sign s w t x) (grid_units f (sum_size s w t x) 1 * 2 ^ k)
sum-scaled f M D H a b k l r s u t v room N P A hu hv L R =
    let w = grid_units f (a * u) 1 in
    let x = grid_units f (b * v) 1 in
    let c = 2 ^ k in
    let left = product-scaled f M D H a k l s u room (part_left a b c D A) hu L in
    let right = product-scaled f M D H b k r t v room (part_right a b c D A) hv R in
    subst (λ (y : Float). InUnits f y (sum_sign s w t x) (grid_units f (sum_size s w t x) 1 * c))
    (ap₂ (λ (g : Bool) (n : ℕ). round_units f g n 1) (sym (sign-scaled s t w x c (pow_pos k))) (sym (size-scaled s t w x c (pow_pos k)))
    ∙ sym (add-units f (mul f (of_int f (pos (a * c))) l) (mul f (of_int f (pos (b * c))) r) s (w * c) t (x * c) left right))
    (round-scaled f (sum_sign s w t x) (sum_size s w t x) k
    (sum_fits D M a b u v w x (sum_size s w t x) c (overflow f) N P A hu hv (whole-coarse f (a * u)) (whole-coarse f (b * v))
    (sum-exact s w t x).1 room.high))

quotient-scaled : (f : Format) (M D H a b k : ℕ) (l r : Float) (s : Bool) (u : ℕ) (t : Bool) (v : ℕ) → Room f M D H → 0 < M → 0 < a + b → (a + b) * 2 ^ k ≤ D → u ≤ M → v ≤ M → InUnits f l s u → InUnits f r t v
    → let w = grid_units f (a * u) 1 in let x = grid_units f (b * v) 1 in
    div f (add f (mul f (of_int f (pos (a * 2 ^ k))) l) (mul f (of_int f (pos (b * 2 ^ k))) r)) (of_int f (pos ((a + b) * 2 ^ k))) ≡ round_units f (sum_sign s w t x) (grid_units f (sum_size s w t x) 1) (a + b)
quotient-scaled f M D H a b k l r s u t v room N P A hu hv L R =
    let w = grid_units f (a * u) 1 in
    let x = grid_units f (b * v) 1 in
    let c = 2 ^ k in
    let U = 2 ^ low f in
    let d = a + b in
    let y = grid_units f (sum_size s w t x) 1 in
    let g = sum_sign s w t x in
    div-units f (add f (mul f (of_int f (pos (a * c))) l) (mul f (of_int f (pos (b * c))) r)) (of_int f (pos (d * c))) g (y * c) (d * c) (mul-pos P (pow_pos k))
    (sum-scaled f M D H a b k l r s u t v room N P A hu hv L R) (of_int-whole f (d * c) (le_trans A room.cast))
    ∙ round_same f g (y * c) (d * c * U) y (d * U) (mul-pos (mul-pos P (pow_pos k)) (pow_pos (low f))) (mul-pos P (pow_pos (low f)))
    (mul_assoc y c (d * U) ∙ ap (λ (n : ℕ). y * n) (sym (mul_assoc c d U) ∙ ap (λ (n : ℕ). n * U) (mul_comm c d)))

-- finite, and of at most M units
pub record Sized (f : Format) (M : ℕ) (x : Float) : Type 0 where
  pub sign : Bool
  pub size : ℕ
  pub value : InUnits f x sign size
  pub at_most : size ≤ M

-- the law: a · 2 ^ k, b · 2 ^ k and (a + b) · 2 ^ k give the bits that a, b and a + b give
pub cell-scaled : (f : Format) (M D H a b k : ℕ) (l r : Float) → Room f M D H → 0 < M → 0 < a + b → (a + b) * 2 ^ k ≤ D → Sized f M l → Sized f M r
    → div f (add f (mul f (of_int f (pos (a * 2 ^ k))) l) (mul f (of_int f (pos (b * 2 ^ k))) r)) (of_int f (pos ((a + b) * 2 ^ k))) ≡ cell_in f a b l r
cell-scaled f M D H a b k l r room N P A L R =
    at k A
    ∙ sym (at 0 (le_trans (le_of_eq (mul-one (a + b))) (part-one (a + b) k D A)))
    ∙ ap₂ (λ (x y : ℕ). div f (add f (mul f (of_int f (pos x)) l) (mul f (of_int f (pos y)) r)) (of_int f (pos ((a + b) * 1)))) (mul-one a) (mul-one b)
    ∙ ap (λ (x : ℕ). div f (add f (mul f (of_int f (pos a)) l) (mul f (of_int f (pos b)) r)) (of_int f (pos x))) (mul-one (a + b))
  where
    at : (j : ℕ) → (a + b) * 2 ^ j ≤ D
        → div f (add f (mul f (of_int f (pos (a * 2 ^ j))) l) (mul f (of_int f (pos (b * 2 ^ j))) r)) (of_int f (pos ((a + b) * 2 ^ j)))
        ≡ round_units f (sum_sign L.sign (grid_units f (a * L.size) 1) R.sign (grid_units f (b * R.size) 1))
        (grid_units f (sum_size L.sign (grid_units f (a * L.size) 1) R.sign (grid_units f (b * R.size) 1)) 1) (a + b)
    at j h = quotient-scaled f M D H a b j l r L.sign L.size R.sign R.size room N P h L.at_most R.at_most L.value R.value
