-- Exact numbers in naturals alone, so that linear arithmetic reads them: (more - less) / under. A cell of the triangle over them, and
-- a bound that a cell inherits from the two numbers under it.
use Prim.Native.Nat.{ℕ, suc, ◌+◌, ◌*◌, ◌≤◌, ◌<◌}
use native.Mathlib.Nat.{mul-le-mul_left, mul-pos, zero-lt-suc}
use native.Mathlib.Omega.{arith}
use lib.IntN.{ℤ, pos, negsuc, nat_abs}

-- (more - less) / under
pub record Ratio : Type 0 where
  pub more : ℕ
  pub less : ℕ
  pub under : ℕ

-- z / 1
abbrev pub whole_ratio : ℤ → Ratio
whole_ratio (pos n) = record { more = n; less = 0; under = 1 }
whole_ratio (negsuc n) = record { more = 0; less = suc n; under = 1 }

-- (a·p + b·q) / (a + b)
abbrev pub cell_ratio : (a b : ℕ) (p q : Ratio) → Ratio
cell_ratio a b p q = record {
  more = a * p.more * q.under + b * q.more * p.under;
  less = a * p.less * q.under + b * q.less * p.under;
  under = (a + b) * (p.under * q.under);
}

-- a number of size at most C, its lower number above zero
pub record Bounded (C : ℕ) (q : Ratio) : Type 0 where
  pub above_zero : 0 < q.under
  pub high : q.more ≤ q.less + C * q.under
  pub low : q.less ≤ q.more + C * q.under

pub whole-bounded : (C : ℕ) (z : ℤ) → nat_abs z ≤ C → Bounded C (whole_ratio z)
whole-bounded C (pos n) h = record { above_zero = zero-lt-suc 0; high = omega arith; low = omega arith }
whole-bounded C (negsuc n) h = record { above_zero = zero-lt-suc 0; high = omega arith; low = omega arith }

side : (C a b g h x y k j : ℕ) → g ≤ h + C * k → x ≤ y + C * j → a * g * j + b * x * k ≤ a * h * j + b * y * k + C * ((a + b) * (k * j))
side C a b g h x y k j p q =
    let l : a * j * g ≤ a * j * (h + C * k) = mul-le-mul_left (a * j) p in
    let r : b * k * x ≤ b * k * (y + C * j) = mul-le-mul_left (b * k) q in
    omega arith

pub cell-bounded : (C a b : ℕ) (p q : Ratio) → 0 < a + b → Bounded C p → Bounded C q → Bounded C (cell_ratio a b p q)
cell-bounded C a b p q P h k = record {
  above_zero = mul-pos P (mul-pos h.above_zero k.above_zero);
  high = side C a b p.more p.less q.more q.less p.under q.under h.high k.high;
  low = side C a b p.less p.more q.less q.more p.under q.under h.low k.low;
}
