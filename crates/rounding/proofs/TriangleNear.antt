-- A whole triangle: from cast coordinates of size at most C, each row adds at most H units to the distance from the exact entry.
-- The entries, the differences left and right of the parameter and the coordinates are functions of row and index, so nothing here knows knots or spans.
use mathlib.Core.Path.{◌≡◌, sym, subst₂}
use Prim.Native.Nat.{ℕ, zero, suc, ◌+◌, ◌-◌, ◌*◌, ◌^◌, ◌≤◌, ◌<◌}
use native.Mathlib.Nat.{le_trans, le_of_lt, suc-mul, mul-le-mul_right}
use native.Mathlib.Omega.{arith}
use lib.IntN.{ℤ, nat_abs}
use lib.Ieee.{Float, Format, prec, low, of_int}
use Rattle.rounding.proofs.CellError.{Room, cell_in}
use Rattle.rounding.proofs.Ratio.{Ratio, whole_ratio, cell_ratio, Bounded, whole-bounded, cell-bounded}
use Rattle.rounding.proofs.CellNear.{Near, whole-near, cell-near}

-- entry j of row r, exactly
unfoldable pub exact_entry : (left right : ℕ → ℕ → ℕ) (zs : ℕ → ℤ) → ℕ → ℕ → Ratio
exact_entry left right zs zero j = whole_ratio (zs j)
exact_entry left right zs (suc r) j = cell_ratio (left r j) (right r j) (exact_entry left right zs r (j - 1)) (exact_entry left right zs r j)

-- `entries` is a triangle in the format f over the coordinates zs from first to last; row r + 1 is worked out from row r with the
-- differences left r j and right r j, whose sum is above zero and at most D
pub record Triangle (f : Format) (C D rows first last : ℕ) (left right : ℕ → ℕ → ℕ) (zs : ℕ → ℤ) (entries : ℕ → ℕ → Float) : Type 0 where
  pub bounded : (j : ℕ) → first ≤ j → j ≤ last → nat_abs (zs j) ≤ C
  pub start : (j : ℕ) → first ≤ j → j ≤ last → entries 0 j ≡ of_int f (zs j)
  pub apart : (r j : ℕ) → r < rows → first + suc r ≤ j → j ≤ last → 0 < left r j + right r j
  pub small : (r j : ℕ) → r < rows → first + suc r ≤ j → j ≤ last → left r j + right r j ≤ D
  pub step : (r j : ℕ) → r < rows → first + suc r ≤ j → j ≤ last → entries (suc r) j ≡ cell_in f (left r j) (right r j) (entries r (j - 1)) (entries r j)

-- an entry near its exact value, which is bounded
pub record EntryNear (f : Format) (C e : ℕ) (x : Float) (q : Ratio) : Type 0 where
  pub near : Near f e x q
  pub bounded : Bounded C q

before : (first r j : ℕ) → first + suc r ≤ j → first + r ≤ j - 1
before first r j h = omega arith

same : (first r j : ℕ) → first + suc r ≤ j → first + r ≤ j
same first r j h = omega arith

back : (j last : ℕ) → j ≤ last → j - 1 ≤ last
back j last h = omega arith

from_first : (first j : ℕ) → first + 0 ≤ j → first ≤ j
from_first first j h = omega arith

room-left : (C U H M r rows : ℕ) → r < rows → C * U + rows * H ≤ M → C * U + r * H ≤ M
room-left C U H M r rows l h =
    let g : r * H ≤ rows * H = mul-le-mul_right H (le_of_lt l) in
    omega arith

pub triangle-near : (f : Format) (M D H C rows first last : ℕ) (left right : ℕ → ℕ → ℕ) (zs : ℕ → ℤ) (entries : ℕ → ℕ → Float) → Room f M D H → C ≤ 2 ^ prec f → C * 2 ^ low f + rows * H ≤ M
    → Triangle f C D rows first last left right zs entries
    → (r j : ℕ) → r ≤ rows → first + r ≤ j → j ≤ last → EntryNear f C (r * H) (entries r j) (exact_entry left right zs r j)
unfolding exact_entry
triangle-near f M D H C rows first last left right zs entries room cast m t zero j R l h =
    let b = t.bounded j (from_first first j l) h in
    record {
      near = subst₂ (λ (e : ℕ) (x : Float). Near f e x (whole_ratio (zs j))) (omega arith) (sym (t.start j (from_first first j l) h)) (whole-near f (zs j) (le_trans b cast));
      bounded = whole-bounded C (zs j) b;
    }
triangle-near f M D H C rows first last left right zs entries room cast m t (suc r) j R l h =
    let x = triangle-near f M D H C rows first last left right zs entries room cast m t r (j - 1) (le_of_lt R) (before first r j l) (back j last h) in
    let y = triangle-near f M D H C rows first last left right zs entries room cast m t r j (le_of_lt R) (same first r j l) h in
    let p = exact_entry left right zs r (j - 1) in
    let q = exact_entry left right zs r j in
    record {
      near =
          subst₂ (λ (e : ℕ) (x : Float). Near f e x (cell_ratio (left r j) (right r j) p q)) (sym (suc-mul r H)) (sym (t.step r j R l h))
          (cell-near f M D H C (r * H) (left r j) (right r j) (entries r (j - 1)) (entries r j) p q room (room-left C (2 ^ low f) H M r rows R m) (t.apart r j R l h) (t.small r j R l h)
          x.bounded y.bounded x.near y.near);
      bounded = cell-bounded C (left r j) (right r j) p q (t.apart r j R l h) x.bounded y.bounded;
    }
