-- The cell of the triangle, computed in any format from floats of at most M units: it is finite, and it is the exact cell
-- of those floats within H units. M bounds the floats, D the differences, H what one row may add; `Room` says what the format must leave them.
use mathlib.Core.Path.{◌≡◌, sym, ap, ◌∙◌, subst, subst₂}
use mathlib.Core.Bool.{Bool, false}
use Prim.Native.Nat.{ℕ, ◌+◌, ◌*◌, ◌^◌, ◌≤◌, ◌<◌}
use native.Mathlib.Nat.{le_trans, lt_of_le_of_lt, mul-add, mul-le-mul_left, mul-le-mul_right, mul-le-mul, zero-lt-suc}
use native.Mathlib.Omega.{arith}
use lib.IntN.{pos}
use lib.Pow.{pow_pos}
use lib.Ieee.{Float, Format, prec, of_int, add, mul, div}
use lib.Ieee.Back.{round_whole}
use lib.Ieee.Scale.{overflow}
use Rattle.rounding.proofs.RoundError.{Within, grid_units, grid-within, grid-coarse, whole-coarse, round-value}
use Rattle.rounding.proofs.FloatUnits.{InUnits, IsWhole, mul-units, add-units, div-units, sum_sign, sum_size}
use Rattle.rounding.proofs.SignedError.{Close, plus, minus, within-close, within-one, close-chain, close-cancel, close_more, plus_times, minus-times, IsSum, sum-exact}

-- the format's room: differences cast exactly, four roundings' errors fit into H, and nothing overflows
pub record Room (f : Format) (M D H : ℕ) : Type 0 where
  pub cast : D ≤ 2 ^ prec f
  pub fine : 7 * M + 7 + 4 * 2 ^ prec f ≤ H * 2 ^ prec f
  pub high : 8 * (D * M) + 11 < overflow f

-- (a·l + b·r) / (a + b) in the format f, four roundings
abbrev pub cell_in : (f : Format) (a b : ℕ) (l r : Float) → Float
cell_in f a b l r = div f (add f (mul f (of_int f (pos a)) l) (mul f (of_int f (pos b)) r)) (of_int f (pos (a + b)))

-- a whole number up to the largest difference is cast exactly
pub of_int-whole : (f : Format) (n : ℕ) → n ≤ 2 ^ prec f → IsWhole (of_int f (pos n)) n
unfolding of_int
of_int-whole f n h = round_whole f false n h

-- the errors of four roundings, W times, over the difference a + b; w, x, z, y are the sizes of left product, right product, exact sum, sum
total : (W M H a b u v w x z y : ℕ) → 0 < a + b → 7 * M + 7 + 4 * W ≤ H * W → u ≤ M → v ≤ M
    → w ≤ 2 * (a * u) + 1 → x ≤ 2 * (b * v) + 1 → z ≤ w + x → y ≤ 2 * z + 1
    → (a * u + W) + (b * v + W) + (z + W) + (y + (a + b) * W) ≤ W * ((a + b) * H)
total W M H a b u v w x z y P fine hu hv hw hx hz hy =
    let one : 1 ≤ a + b = P in
    let au : a * u ≤ a * M = mul-le-mul_left a hu in
    let bv : b * v ≤ b * M = mul-le-mul_left b hv in
    let ws : 1 * W ≤ (a + b) * W = mul-le-mul_right W one in
    let f : (a + b) * (7 * M + 7 + 4 * W) ≤ (a + b) * (H * W) = mul-le-mul_left (a + b) fine in
    omega arith

times-sum : (W p q r j k l : ℕ) → p + (q + r) ≡ j + (k + l) → W * p + (W * q + W * r) ≡ W * j + (W * k + W * l)
times-sum W p q r j k l e =
    let g : W * (p + (q + r)) ≡ W * (j + (k + l)) = ap (λ (n : ℕ). W * n) e in
    omega arith

-- the signed chain: each size is near the one before it
four-roundings : (W M H a b : ℕ) (s t g : Bool) (u v w x z y q : ℕ) → 0 < W → 0 < a + b → 7 * M + 7 + 4 * W ≤ H * W → u ≤ M → v ≤ M
    → w ≤ 2 * (a * u) + 1 → x ≤ 2 * (b * v) + 1 → y ≤ 2 * z + 1 → Within W w 1 (a * u) → Within W x 1 (b * v) → IsSum g z s w t x → Within W y 1 z → Within W q (a + b) y
    → Close ((a + b) * plus g q) ((a + b) * minus g q) (a * plus s u + b * plus t v) (a * minus s u + b * minus t v) ((a + b) * H)
four-roundings W M H a b s t g u v w x z y q P D fine hu hv hw hx hy cw cx is cy cq =
    let c : Close (W * ((a + b) * plus g q)) (W * ((a + b) * minus g q)) (W * plus s (a * u) + W * plus t (b * v)) (W * minus s (a * u) + W * minus t (b * v)) (W * ((a + b) * H)) =
    close_more (W * ((a + b) * plus g q)) (W * ((a + b) * minus g q)) (W * plus s (a * u) + W * plus t (b * v)) (W * minus s (a * u) + W * minus t (b * v))
    ((a * u + W) + (b * v + W) + (z + W) + (y + (a + b) * W)) (W * ((a + b) * H))
    (total W M H a b u v w x z y D fine hu hv hw hx is.1 hy)
    (close-chain (W * plus s w) (W * minus s w) (W * plus t x) (W * minus t x) (W * plus s (a * u)) (W * minus s (a * u)) (W * plus t (b * v)) (W * minus t (b * v))
    (W * plus g z) (W * minus g z) (W * plus g y) (W * minus g y) (W * ((a + b) * plus g q)) (W * ((a + b) * minus g q)) (a * u + W) (b * v + W) (z + W) (y + (a + b) * W)
    (within-one s W w (a * u) cw) (within-one t W x (b * v) cx)
    (times-sum W (plus g z) (minus s w) (minus t x) (minus g z) (plus s w) (plus t x) is.0)
    (within-one g W y z cy) (within-close g W q (a + b) y cq)) in
    close-cancel W ((a + b) * plus g q) ((a + b) * minus g q) (a * plus s u + b * plus t v) (a * minus s u + b * minus t v) ((a + b) * H) P
    (subst₂ (λ (j k : ℕ). Close (W * ((a + b) * plus g q)) (W * ((a + b) * minus g q)) j k (W * ((a + b) * H)))
    (gather W (plus s (a * u)) (plus t (b * v)) (a * plus s u) (b * plus t v) (plus_times s a u) (plus_times t b v))
    (gather W (minus s (a * u)) (minus t (b * v)) (a * minus s u) (b * minus t v) (minus-times s a u) (minus-times t b v))
    c)
  where
    gather : (W j k l m : ℕ) → j ≡ l → k ≡ m → W * j + W * k ≡ W * (l + m)
    gather W j k l m e i = ap (λ (n : ℕ). W * n + W * k) e ∙ ap (λ (n : ℕ). W * l + W * n) i ∙ sym (mul-add W l m)

-- sizes of the chain against what overflows
product-low : (D M a u w : ℕ) → a ≤ D → u ≤ M → w ≤ 2 * (a * u) + 1 → w ≤ 2 * (D * M) + 1
product-low D M a u w A hu h =
    let m : a * u ≤ D * M = mul-le-mul A hu in
    omega arith

sizes-low : (D M a b u v w x z y q : ℕ) → a + b ≤ D → u ≤ M → v ≤ M → w ≤ 2 * (a * u) + 1 → x ≤ 2 * (b * v) + 1 → z ≤ w + x → y ≤ 2 * z + 1 → q ≤ 2 * y + 1
    → (y ≤ 8 * (D * M) + 11) × (q ≤ 8 * (D * M) + 11)
sizes-low D M a b u v w x z y q A hu hv hw hx hz hy hq =
    let au : a * u ≤ a * M = mul-le-mul_left a hu in
    let bv : b * v ≤ b * M = mul-le-mul_left b hv in
    let d : (a + b) * M ≤ D * M = mul-le-mul_right M A in
    omega arith

-- a float that is finite, and whose units are near those of l and r, weighted by a and b, within H
pub record CellClose (f : Format) (a b H : ℕ) (s : Bool) (u : ℕ) (t : Bool) (v : ℕ) (x : Float) : Type 0 where
  pub sign : Bool
  pub size : ℕ
  pub value : InUnits f x sign size
  pub close : Close ((a + b) * plus sign size) ((a + b) * minus sign size) (a * plus s u + b * plus t v) (a * minus s u + b * minus t v) ((a + b) * H)

left-part : (a b D : ℕ) → a + b ≤ D → a ≤ D
left-part a b D h = omega arith

right-part : (a b D : ℕ) → a + b ≤ D → b ≤ D
right-part a b D h = omega arith

low_product : (D M o w : ℕ) → 8 * (D * M) + 11 < o → w ≤ 2 * (D * M) + 1 → w < o
low_product D M o w h k = omega arith

self-times : (y d : ℕ) → 0 < d → y ≤ y * d
self-times y d P =
    let m : y * 1 ≤ y * d = mul-le-mul_left y P in
    omega arith

pub cell-error : (f : Format) (M D H a b : ℕ) (l r : Float) (s : Bool) (u : ℕ) (t : Bool) (v : ℕ) → Room f M D H → 0 < a + b → a + b ≤ D → u ≤ M → v ≤ M
    → InUnits f l s u → InUnits f r t v → CellClose f a b H s u t v (cell_in f a b l r)
cell-error f M D H a b l r s u t v room P A hu hv L R =
    let W = 2 ^ prec f in
    let o = overflow f in
    let w = grid_units f (a * u) 1 in
    let x = grid_units f (b * v) 1 in
    let hw : w ≤ 2 * (a * u) + 1 = whole-coarse f (a * u) in
    let hx : x ≤ 2 * (b * v) + 1 = whole-coarse f (b * v) in
    let Pv : InUnits f (mul f (of_int f (pos a)) l) s w =
    subst (λ (k : Float). InUnits f k s w) (sym (mul-units f (of_int f (pos a)) l a s u (of_int-whole f a (le_trans (left-part a b D A) room.cast)) L))
    (round-value f s (a * u) 1 (low_product D M o w room.high (product-low D M a u w (left-part a b D A) hu hw))) in
    let Qv : InUnits f (mul f (of_int f (pos b)) r) t x =
    subst (λ (k : Float). InUnits f k t x) (sym (mul-units f (of_int f (pos b)) r b t v (of_int-whole f b (le_trans (right-part a b D A) room.cast)) R))
    (round-value f t (b * v) 1 (low_product D M o x room.high (product-low D M b v x (right-part a b D A) hv hx))) in
    let sg = sum_sign s w t x in
    let z = sum_size s w t x in
    let is = sum-exact s w t x in
    let y = grid_units f z 1 in
    let hy : y ≤ 2 * z + 1 = whole-coarse f z in
    let q = grid_units f y (a + b) in
    let hq : q ≤ 2 * y + 1 = grid-coarse f y (a + b) y P (self-times y (a + b) P) in
    let lows = sizes-low D M a b u v w x z y q A hu hv hw hx is.1 hy hq in
    let Sv : InUnits f (add f (mul f (of_int f (pos a)) l) (mul f (of_int f (pos b)) r)) sg y =
    subst (λ (k : Float). InUnits f k sg y) (sym (add-units f (mul f (of_int f (pos a)) l) (mul f (of_int f (pos b)) r) s w t x Pv Qv))
    (round-value f sg z 1 (lt_of_le_of_lt lows.0 room.high)) in
    let Vv : InUnits f (cell_in f a b l r) sg q =
    subst (λ (k : Float). InUnits f k sg q)
    (sym (div-units f (add f (mul f (of_int f (pos a)) l) (mul f (of_int f (pos b)) r)) (of_int f (pos (a + b))) sg y (a + b) P Sv (of_int-whole f (a + b) (le_trans A room.cast))))
    (round-value f sg y (a + b) (lt_of_le_of_lt lows.1 room.high)) in
    record {
      sign = sg;
      size = q;
      value = Vv;
      close = four-roundings W M H a b s t sg u v w x z y q (pow_pos (prec f)) P room.fine hu hv hw hx hy
          (grid-within f (a * u) 1 (zero-lt-suc 0)) (grid-within f (b * v) 1 (zero-lt-suc 0)) is (grid-within f z 1 (zero-lt-suc 0)) (grid-within f y (a + b) P);
    }
