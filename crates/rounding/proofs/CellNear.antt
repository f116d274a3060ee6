-- A computed cell is near the exact cell: from numbers that are within e units of exact ones it comes within e + H units.
-- One law for every row, any two differences and any format with room.
use mathlib.Core.Path.{◌≡◌, sym, ap, ap₂, ◌∙◌}
use mathlib.Core.Bool.{Bool, true, false}
use Prim.Native.Nat.{ℕ, suc, ◌+◌, ◌*◌, ◌^◌, ◌≤◌, ◌<◌}
use native.Mathlib.Nat.{le_trans, le_of_eq, mul-one, add-mul, mul_right_comm, mul-le-mul_left, mul-le-mul_right, le_of_mul-le-mul_right}
use native.Mathlib.Omega.{arith}
use lib.IntN.{ℤ, pos, negsuc, nat_abs}
use lib.Ieee.{Float, nan, inf, fin, Format, prec, low, up, down, round, of_int}
use lib.Ieee.Back.{round_whole}
use lib.Ieee.Exact.{HasValue}
use Rattle.rounding.proofs.FloatUnits.{InUnits}
use Rattle.rounding.proofs.SignedError.{Close, plus, minus}
use Rattle.rounding.proofs.CellError.{Room, cell_in, CellClose, cell-error}
use Rattle.rounding.proofs.Ratio.{Ratio, whole_ratio, cell_ratio, Bounded}

-- x is finite, and within e units of q: |±size / 2 ^ low - q| ≤ e / 2 ^ low, times both lower numbers
pub record Near (f : Format) (e : ℕ) (x : Float) (q : Ratio) : Type 0 where
  pub sign : Bool
  pub size : ℕ
  pub value : InUnits f x sign size
  pub close : Close (plus sign size * q.under) (minus sign size * q.under) (q.more * 2 ^ low f) (q.less * 2 ^ low f) (e * q.under)

-- ---- a number that is near a bounded one is bounded
pub size-bound : (s : Bool) (u C U e g h k M : ℕ) → 0 < k → g ≤ h + C * k → h ≤ g + C * k → Close (plus s u * k) (minus s u * k) (g * U) (h * U) (e * k) → C * U + e ≤ M → u ≤ M
size-bound true u C U e g h k M K hi lo c m =
    let b : h * U ≤ (g + C * k) * U = mul-le-mul_right U lo in
    let n : (C * U + e) * k ≤ M * k = mul-le-mul_right k m in
    le_of_mul-le-mul_right (le_trans (n-first u k g h U e C c b) n) K
  where
    n-first : (u k g h U e C : ℕ) → Close (0 * k) (u * k) (g * U) (h * U) (e * k) → h * U ≤ (g + C * k) * U → u * k ≤ (C * U + e) * k
    n-first u k g h U e C c b = omega arith
size-bound false u C U e g h k M K hi lo c m =
    let b : g * U ≤ (h + C * k) * U = mul-le-mul_right U hi in
    let n : (C * U + e) * k ≤ M * k = mul-le-mul_right k m in
    le_of_mul-le-mul_right (le_trans (p-first u k g h U e C c b) n) K
  where
    p-first : (u k g h U e C : ℕ) → Close (u * k) (0 * k) (g * U) (h * U) (e * k) → g * U ≤ (h + C * k) * U → u * k ≤ (C * U + e) * k
    p-first u k g h U e C c b = omega arith

-- ---- errors of the two numbers under a cell, and its own
-- regroupings by k · j, the two lower numbers
spread : (d v a l b r k j : ℕ) → (d * v + (a * l + b * r)) * (k * j) ≡ d * v * (k * j) + (a * j * (l * k) + b * k * (r * j))
spread d v a l b r k j = omega arith

spread-more : (d v a l b r h k j : ℕ) → (d * v + (a * l + b * r) + d * h) * (k * j) ≡ d * v * (k * j) + (a * j * (l * k) + b * k * (r * j)) + d * h * (k * j)
spread-more d v a l b r h k j = add-mul (d * v + (a * l + b * r)) (d * h) (k * j) ∙ ap (λ (n : ℕ). n + d * h * (k * j)) (spread d v a l b r k j)

spread-cell : (d v a g b h k j U : ℕ) → v * (d * (k * j)) + (a * g * j + b * h * k) * U ≡ d * v * (k * j) + (a * j * (g * U) + b * k * (h * U))
spread-cell d v a g b h k j U = omega arith

spread-error : (a b e H k j : ℕ) → (e + H) * ((a + b) * (k * j)) ≡ a * j * (e * k) + b * k * (e * j) + (a + b) * H * (k * j)
spread-error a b e H k j = omega arith

three : (x y m n m' n' p q p' q' e i h : ℕ) → x + (m' + n') ≤ y + (m + n) + h → m + p' ≤ m' + p + e → n + q' ≤ n' + q + i → x + (p' + q') ≤ y + (p + q) + (e + i + h)
three x y m n m' n' p q p' q' e i h a b c = omega arith

-- one of the two directions
cell-side : (a b Lp Ln Rp Rn gp gn hp hn k j U e H Vp Vn : ℕ) → (a + b) * Vp + (a * Ln + b * Rn) ≤ (a + b) * Vn + (a * Lp + b * Rp) + (a + b) * H
    → Lp * k + gn * U ≤ Ln * k + gp * U + e * k → Rp * j + hn * U ≤ Rn * j + hp * U + e * j
    → Vp * ((a + b) * (k * j)) + (a * gn * j + b * hn * k) * U ≤ Vn * ((a + b) * (k * j)) + (a * gp * j + b * hp * k) * U + (e + H) * ((a + b) * (k * j))
cell-side a b Lp Ln Rp Rn gp gn hp hn k j U e H Vp Vn c l r =
    let d = a + b in
    let x : d * Vp * (k * j) + (a * j * (Ln * k) + b * k * (Rn * j)) ≤ d * Vn * (k * j) + (a * j * (Lp * k) + b * k * (Rp * j)) + d * H * (k * j) =
    le_trans (le_of_eq (sym (spread d Vp a Ln b Rn k j))) (le_trans (mul-le-mul_right (k * j) c) (le_of_eq (spread-more d Vn a Lp b Rp H k j))) in
    let y : a * j * (Lp * k) + a * j * (gn * U) ≤ a * j * (Ln * k) + a * j * (gp * U) + a * j * (e * k) = scale (a * j) (Lp * k) (gn * U) (Ln * k) (gp * U) (e * k) l in
    let z : b * k * (Rp * j) + b * k * (hn * U) ≤ b * k * (Rn * j) + b * k * (hp * U) + b * k * (e * j) = scale (b * k) (Rp * j) (hn * U) (Rn * j) (hp * U) (e * j) r in
    le_trans (le_of_eq (spread-cell d Vp a gn b hn k j U))
    (le_trans
    (three (d * Vp * (k * j)) (d * Vn * (k * j)) (a * j * (Lp * k)) (b * k * (Rp * j)) (a * j * (Ln * k)) (b * k * (Rn * j)) (a * j * (gp * U)) (b * k * (hp * U)) (a * j * (gn * U)) (b * k * (hn * U))
    (a * j * (e * k)) (b * k * (e * j)) (d * H * (k * j)) x y z)
    (le_of_eq (ap₂ (λ (m n : ℕ). m + n) (sym (spread-cell d Vn a gp b hp k j U)) (sym (spread-error a b e H k j)))))
  where
    scale : (t p q m n i : ℕ) → p + q ≤ m + n + i → t * p + t * q ≤ t * m + t * n + t * i
    scale t p q m n i h =
        let g : t * (p + q) ≤ t * (m + n + i) = mul-le-mul_left t h in
        omega arith

-- the exact value of a whole number is the float that it is cast to
whole-close : (s : Bool) (n U : ℕ) → Close (plus s (n * U) * 1) (minus s (n * U) * 1) (plus s n * U) (minus s n * U) (0 * 1)
whole-close true n U = omega arith
whole-close false n U = omega arith

whole-units : (f : Format) (x : Float) (s : Bool) (n : ℕ) → HasValue x s n 1 → InUnits f x s (n * 2 ^ low f)
whole-units f nan s n h = absurd h
whole-units f (inf t) s n h = absurd h
whole-units f (fin t m e) s n h = (h.0, ap (λ (k : ℕ). k * 2 ^ low f) (sym (mul-one (m * up e)) ∙ h.1) ∙ mul_right_comm n (down e) (2 ^ low f))

pub whole-near : (f : Format) (z : ℤ) → nat_abs z ≤ 2 ^ prec f → Near f 0 (of_int f z) (whole_ratio z)
unfolding of_int
whole-near f (pos n) h = record {
  sign = false;
  size = n * 2 ^ low f;
  value = whole-units f (round f false n 1) false n (round_whole f false n h);
  close = whole-close false n (2 ^ low f);
}
whole-near f (negsuc n) h = record {
  sign = true;
  size = suc n * 2 ^ low f;
  value = whole-units f (round f true (suc n) 1) true (suc n) (round_whole f true (suc n) h);
  close = whole-close true (suc n) (2 ^ low f);
}

-- the law of one row
pub cell-near : (f : Format) (M D H C e a b : ℕ) (l r : Float) (p q : Ratio) → Room f M D H → C * 2 ^ low f + e ≤ M → 0 < a + b → a + b ≤ D
    → Bounded C p → Bounded C q → Near f e l p → Near f e r q → Near f (e + H) (cell_in f a b l r) (cell_ratio a b p q)
cell-near f M D H C e a b l r p q room m P A hp hq np nq =
    let U = 2 ^ low f in
    let hu = size-bound np.sign np.size C U e p.more p.less p.under M hp.above_zero hp.high hp.low np.close m in
    let hv = size-bound nq.sign nq.size C U e q.more q.less q.under M hq.above_zero hq.high hq.low nq.close m in
    let c : CellClose f a b H np.sign np.size nq.sign nq.size (cell_in f a b l r) =
    cell-error f M D H a b l r np.sign np.size nq.sign nq.size room P A hu hv np.value nq.value in
    record {
      sign = c.sign;
      size = c.size;
      value = c.value;
      close = (
        cell-side a b (plus np.sign np.size) (minus np.sign np.size) (plus nq.sign nq.size) (minus nq.sign nq.size) p.more p.less q.more q.less p.under q.under U e H
            (plus c.sign c.size) (minus c.sign c.size) c.close.0 np.close.0 nq.close.0,
        cell-side a b (minus np.sign np.size) (plus np.sign np.size) (minus nq.sign nq.size) (plus nq.sign nq.size) p.less p.more q.less q.more p.under q.under U e H
            (minus c.sign c.size) (plus c.sign c.size) c.close.1 np.close.1 nq.close.1,
      );
    }
