-- How a row of the triangle stands in an array of four numbers: entry i-k of the row at place 3-k.
use Rattle.std.specs.Prelude.{List, ◌≡◌, ℕ, ◌+◌, ◌-◌, ◌≤◌, ℤ, Float, length, get_or}
use Rattle.std.specs.Float.{nan}
use Rattle.triangle.specs.FloatTriangle.{entry_of}

-- the array has its four places and holds row r of the span i: entries i to i-m+r, from place 3 to the left
pub record HoldsRow (m : ℕ) (ts : List ℕ) (ps : List ℤ) (t i r : ℕ) (row : List Float) : Type 0 where
  pub places : length row ≡ 4
  pub entry : (k : ℕ) → r + k ≤ m → get_or row (3 - k) nan ≡ entry_of m ts ps t r (i - k)
