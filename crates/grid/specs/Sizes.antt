-- How many knots and points a curve that passes the check has (heading "The curve on the grid").
use Rattle.std.specs.Prelude.{List, ◌≡◌, ℕ, ◌+◌, ◌≤◌, ℤ, length}
use Rattle.grid.specs.Limits.{points_most}

-- degree 1 to 3; as many y as x, at least m+1 and at most 1,024; points + m + 1 knots
pub record Sizes (m : ℕ) (ts : List ℕ) (xs ys : List ℤ) : Type 0 where
  pub degree-least : 1 ≤ m
  pub degree-most : m ≤ 3
  pub as_many : length ys ≡ length xs
  pub enough : m + 1 ≤ length xs
  pub most : length xs ≤ points_most
  pub knots : length ts ≡ length xs + m + 1
