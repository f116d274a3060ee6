-- What holds of a curve that passes the check (headings "The curve on the grid" and "Numbers of refusal"), over every index and value.
use Rattle.std.specs.Prelude.{List, ◌≡◌, ℕ, ◌+◌, ◌≤◌, ◌<◌, ℤ, pos, neg_ℤ, length, get_or, ◌≤ℤ◌}
use Rattle.curve.specs.Lists.{NeverFall}
use Rattle.grid.specs.Limits.{knot_most, coordinate_most}
use Rattle.grid.specs.Rows.{occurrences}
use Rattle.grid.specs.Sizes.{Sizes}

-- z lies on the grid
pub record OnGrid (z : ℤ) : Type 0 where
  pub low : neg_ℤ (pos coordinate_most) ≤ℤ z
  pub high : z ≤ℤ pos coordinate_most

-- degree m, knots ts, coordinates xs and ys: t_m is `get_or ts m 0`, and t_{n+1} is `get_or ts (length xs) 0`
pub record Checked (m : ℕ) (ts : List ℕ) (xs ys : List ℤ) : Type 0 where
  pub sizes : Sizes m ts xs ys
  -- knots never fall, and none is above the largest
  pub rising : NeverFall ts
  pub largest : (a : ℕ) → a < length ts → get_or ts a 0 ≤ knot_most
  -- the domain is not empty
  pub domain : get_or ts m 0 < get_or ts (length xs) 0
  -- a value strictly inside it stands at most m times, any value at most m+1 times
  pub inner : (v : ℕ) → get_or ts m 0 < v → v < get_or ts (length xs) 0 → occurrences v ts ≤ m
  pub outer : (v : ℕ) → occurrences v ts ≤ m + 1
  pub grid_x : (a : ℕ) → a < length xs → OnGrid (get_or xs a (pos 0))
  pub grid_y : (a : ℕ) → a < length ys → OnGrid (get_or ys a (pos 0))

-- both ends are clamped, for a curve of `count` points: the first m+1 knots are t_m, and the last m+1 are t_{n+1}
pub record Clamped (m : ℕ) (ts : List ℕ) (count : ℕ) : Type 0 where
  pub firsts : (a : ℕ) → a ≤ m → get_or ts a 0 ≡ get_or ts m 0
  pub lasts : (a : ℕ) → count ≤ a → a < length ts → get_or ts a 0 ≡ get_or ts count 0
