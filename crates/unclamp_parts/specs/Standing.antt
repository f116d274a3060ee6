-- What the parts of unclamping ask of the knots, and what they tell of a point.
use Rattle.std.specs.Prelude.{Bool, ◌&&◌, List, ◌≡◌, ℕ, ◌+◌, ◌-◌, ◌*◌, ◌≤◌, length, get_or}
use Rattle.curve.specs.Lists.{NeverFall}
use Rattle.grid.specs.Limits.{knot_most}
use Rattle.grid.specs.Rows.{on_grid}
use Rattle.clamping.specs.declared.Share.{Share}
use Rattle.clamping.specs.Clamping.{is_whole, whole_of}

-- knots of a curve of degree m with `count` points, where m new ones fit
pub record KnotsEnding (m : ℕ) (ts : List ℕ) (count : ℕ) : Type 0 where
  pub most : m ≤ 3
  pub enough : 2 ≤ count
  pub places : length ts ≡ count + m + 1
  pub rises : NeverFall ts
  pub fit : get_or ts count 0 + m * (get_or ts count 0 - get_or ts (count - 1) 0) ≤ knot_most

unfoldable pub fits : Share → Bool  -- a number is whole and on the grid
fits a = is_whole a && on_grid (whole_of a)
