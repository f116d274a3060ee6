-- The triangle as it is computed (heading "The point at a parameter"), in the words of `lib.Ieee` and over lists: `m` the degree, `ts` the knots,
-- `ps` the coordinates of one axis, `t` a whole parameter. x and y are worked out alike, so one definition serves either axis.
use Rattle.std.specs.Prelude.{List, ℕ, zero, suc, ◌+◌, ◌-◌, ℤ, pos, ◌-ℤ◌, Float, get_or}
use Rattle.std.specs.Float.{binary64}
use Rattle.std.specs.Float.Ieee.{of_int}
use Rattle.triangle.specs.FloatCell.{float_cell}

-- the cell of row r at j, from the two entries `l` and `d` of the row before: with w = t_{j+m-r+1} the differences are w - t, t - t_j and w - t_j
abbrev pub cell_at : ℕ → List ℕ → ℕ → ℕ → ℕ → Float → Float → Float
cell_at m ts t r j l d =
    let w = get_or ts (j + (m - r) + 1) 0 in
    let low = get_or ts j 0 in
    float_cell (pos w -ℤ pos t) (pos t -ℤ pos low) (pos w -ℤ pos low) l d

-- entry j of row r: in row 0 the coordinate itself, in each later row the cell of the two entries j-1 and j above it
unfoldable pub entry_of : ℕ → List ℕ → List ℤ → ℕ → ℕ → ℕ → Float
entry_of m ts ps t zero j = of_int binary64 (get_or ps j (pos 0))
entry_of m ts ps t (suc r) j = cell_at m ts t (suc r) j (entry_of m ts ps t r (j - 1)) (entry_of m ts ps t r j)

abbrev pub coordinate_of : ℕ → List ℕ → List ℤ → ℕ → ℕ → Float  -- the coordinate at t in the span i: the one entry of row m
coordinate_of m ts ps i t = entry_of m ts ps t m i
