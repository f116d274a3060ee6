-- Both axes of a removal, for the inner functions.
use Rattle.std.specs.Prelude.{List, ℕ, ◌<◌, ℤ, length, get_or}
use Rattle.grid.specs.Rows.{occurrences}
use Rattle.grid.specs.Check.{Passes}

-- the curve passes the check, and v is an inner knot of it
pub record Inner (m : ℕ) (ts : List ℕ) (xs ys : List ℤ) (v : ℕ) : Type 0 where
  pub passes : Passes m ts xs ys
  pub low : get_or ts m 0 < v
  pub high : v < get_or ts (length xs) 0
  pub present : 0 < occurrences v ts
