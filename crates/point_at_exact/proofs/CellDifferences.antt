-- The whole differences of the triangle's cells: a whole parameter of a span of never-falling knots lies between the two knots of each cell,
-- so the differences are natural numbers, and their sum is above zero.
use mathlib.Core.Path.{◌≡◌, refl, sym, ap, ◌∙◌}
use mathlib.Core.Bool.{Bool, true, false, cond}
use mathlib.Core.List.{List}
use Prim.Native.Nat.{ℕ, zero, suc, ◌+◌, ◌-◌, ◌*◌, ◌≤◌, ◌<◌}
use native.Mathlib.Nat.{add-zero, sub-zero, le_trans, lt_of_le_of_lt, lt_of_lt_of_le}
use native.Mathlib.Omega.{arith}
use lib.Dec.{T, ltb, ltb→lt}
use lib.IntN.{ℤ, pos, negsuc, ◌-ℤ◌}
use lib.ListN.{get_or}
use Rattle.exact.proofs.HullLaws.{Carried}

-- w - t and t - t_j of the cell of row r + 1 at j
abbrev pub left_of : (m : ℕ) (ts : List ℕ) (t : ℕ) → ℕ → ℕ → ℕ
left_of m ts t r j = get_or ts (j + m - r) 0 - t

abbrev pub right_of : (ts : List ℕ) (t : ℕ) → ℕ → ℕ → ℕ
right_of ts t r j = t - get_or ts j 0

-- t_j ≤ t ≤ w, and t_j < w
pub record Between (m : ℕ) (ts : List ℕ) (t r j : ℕ) : Type 0 where
  pub from : get_or ts j 0 ≤ t
  pub to : t ≤ get_or ts (j + m - r) 0
  pub some : get_or ts j 0 < get_or ts (j + m - r) 0

pub between : (ts : List ℕ) (ps : List ℤ) (m i t : ℕ) → Carried ts ps m i t 1 → (r j : ℕ) → r < m → i - m + suc r ≤ j → j ≤ i → Between m ts t r j
between ts ps m i t c r j R l h =
    let low : get_or ts j 0 ≤ get_or ts i 0 = c.rises j i h (omega arith) in
    let high : get_or ts (i + 1) 0 ≤ get_or ts (j + m - r) 0 = c.rises (i + 1) (j + m - r) (after m i j r c.from R l) (omega arith) in
    record {
      from = le_trans low (unscaled (get_or ts i 0) t c.starts);
      to = le_trans (scaled t (get_or ts (i + 1) 0) c.ends) high;
      some = lt_of_le_of_lt low (lt_of_lt_of_le c.some high);
    }
  where
    unscaled : (a b : ℕ) → a * 1 ≤ b → a ≤ b
    unscaled a b k = omega arith

    scaled : (a b : ℕ) → a ≤ b * 1 → a ≤ b
    scaled a b k = omega arith

    after : (m i j r : ℕ) → m ≤ i → r < m → i - m + suc r ≤ j → i + 1 ≤ j + m - r
    after m i j r a b k = omega arith

-- the sum of the two differences is w - t_j
pub differences-sum : (w t l : ℕ) → l ≤ t → t ≤ w → (w - t) + (t - l) ≡ w - l
differences-sum w t l a b = omega arith

pub differences-above : (w t l : ℕ) → l ≤ t → t ≤ w → l < w → 0 < (w - t) + (t - l)
differences-above w t l a b c = omega arith

-- a difference of integers that is not negative
pub natural-difference : (a b : ℕ) → b ≤ a → pos a -ℤ pos b ≡ pos (a - b)
natural-difference a zero h = ap pos (add-zero a ∙ sym (sub-zero a))
natural-difference a (suc b) h = go (ltb a (suc b)) (ltb→lt a (suc b))
  where
    go : (x : Bool) → (T x → a < suc b) → cond x (negsuc (suc b - suc a)) (pos (a - suc b)) ≡ pos (a - suc b)
    go true k =
        let l = k tt in
        absurd (omega arith)
    go false k = refl
