-- The laws of rows and triangles at binary64 (heading "The point at a parameter"): coordinates up to 2 ^ 18 in size, differences up to 2 ^ 22,
-- at most three rows. A row adds at most 2 ^ -32 of a grid step, so three rows stay below 2 ^ -30.
use mathlib.Core.Path.{◌≡◌}
use Prim.Native.Nat.{ℕ, ◌+◌, ◌*◌, ◌^◌, ◌≤◌, ◌<◌}
use native.Mathlib.Nat.{le_refl, le_trans, lt_of_le_of_lt, add-le-add, mul-le-mul_right}
use lib.IntN.{ℤ, pos}
use lib.Dec.{T, lit≤, lit<}
use lib.Ieee.{Float, binary64, low}
use lib.Ieee.Scale.{finite}
use Rattle.fractions.specs.Fraction.{over}
use Rattle.fractions.specs.Order.{DistanceBelow}
use Rattle.triangle.specs.FloatCell.{float_cell}
use Rattle.rounding.proofs.CellError.{Room}
use Rattle.rounding.specs.FloatFraction.{float_fraction}
use Rattle.rounding.proofs.RatioClass.{as_fraction}
use Rattle.rounding.proofs.FloatDistance.{apart-distance}
use Rattle.rounding.proofs.TriangleNear.{Triangle, EntryNear, exact_entry, triangle-near}
use Rattle.rounding.proofs.Distance.{Apart, near_apart}
use Rattle.rounding.proofs.CellScale.{Sized, cell-scaled}

-- the bound on coordinates and the largest difference (a knot difference counted in 256ths)
abbrev pub largest_coordinate : ℕ
largest_coordinate = 262144

abbrev pub largest_difference : ℕ
largest_difference = 2 ^ 22

-- 2 ^ -32 in units, what a row may add; and the largest size of an entry of three rows
abbrev pub row_error : ℕ
row_error = 2 ^ 1042

abbrev pub largest_size : ℕ
largest_size = largest_coordinate * 2 ^ low binary64 + 3 * row_error

pub binary64-room : Room binary64 largest_size largest_difference row_error
binary64-room = record { cast = lit≤ tt; fine = lit≤ tt; high = lit< tt }

size_room : (rows : ℕ) → rows ≤ 3 → largest_coordinate * 2 ^ low binary64 + rows * row_error ≤ largest_size
size_room rows h = add-le-add (le_refl (largest_coordinate * 2 ^ low binary64)) (mul-le-mul_right row_error h)

pub binary64-near : (rows first last : ℕ) (left right : ℕ → ℕ → ℕ) (zs : ℕ → ℤ) (entries : ℕ → ℕ → Float) → rows ≤ 3
    → Triangle binary64 largest_coordinate largest_difference rows first last left right zs entries
    → (r j : ℕ) → r ≤ rows → first + r ≤ j → j ≤ last → EntryNear binary64 largest_coordinate (r * row_error) (entries r j) (exact_entry left right zs r j)
binary64-near rows first last left right zs entries few t =
    triangle-near binary64 largest_size largest_difference row_error largest_coordinate rows first last left right zs entries binary64-room (lit≤ tt) (size_room rows few) t

-- every entry of a triangle of at most three rows is finite and differs from the exact entry by less than 2 ^ -30
pub triangle-distance : (rows first last : ℕ) (left right : ℕ → ℕ → ℕ) (zs : ℕ → ℤ) (entries : ℕ → ℕ → Float) → rows ≤ 3
    → Triangle binary64 largest_coordinate largest_difference rows first last left right zs entries
    → (r j : ℕ) → r ≤ rows → first + r ≤ j → j ≤ last
    → T (finite (entries r j)) × DistanceBelow (float_fraction (entries r j)) (as_fraction (exact_entry left right zs r j)) (over (pos 1) (2 ^ 30))
triangle-distance rows first last left right zs entries few t r j R l h =
    let q = exact_entry left right zs r j in
    let e : EntryNear binary64 largest_coordinate (r * row_error) (entries r j) q = binary64-near rows first last left right zs entries few t r j R l h in
    let a : Apart (2 ^ 30) (entries r j) q =
    near_apart binary64 (r * row_error) (2 ^ 30) (entries r j) q
    (lt_of_le_of_lt (mul-le-mul_right (2 ^ 30) (mul-le-mul_right row_error (le_trans R few))) (lit< tt)) e.bounded.above_zero e.near in
    (a.is_finite, apart-distance (2 ^ 30) (entries r j) q (lit< tt) e.bounded.above_zero a)

-- differences counted in 256ths leave the cell's bits as they are
pub cell-in-256ths : (a b : ℕ) (l r : Float) → 0 < a + b → (a + b) * 256 ≤ largest_difference → Sized binary64 largest_size l → Sized binary64 largest_size r
    → float_cell (pos (a * 256)) (pos (b * 256)) (pos ((a + b) * 256)) l r ≡ float_cell (pos a) (pos b) (pos (a + b)) l r
cell-in-256ths a b l r P A L R = cell-scaled binary64 largest_size largest_difference row_error a b 8 l r binary64-room (lit< tt) P A L R
