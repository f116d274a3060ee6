-- What the call knows of its lists once 17 is judged.
use Rattle.std.specs.Prelude.{◌≡◌, List, ℕ, suc, ◌≤◌, ◌<◌, ℤ, length, get_or}
use Rattle.grid.specs.Limits.{spline_points_least, spline_points_most}

-- 2 to 342 parameters, each below the next
pub record Rising (ss : List ℕ) : Type 0 where
  pub least : spline_points_least ≤ length ss
  pub most : length ss ≤ spline_points_most
  pub rises : (i : ℕ) → suc i < length ss → get_or ss i 0 < get_or ss (suc i) 0

-- such parameters, with as many points and tangents of one axis
pub record Axis (ss : List ℕ) (ps ds : List ℤ) : Type 0 where
  pub rising : Rising ss
  pub points : length ps ≡ length ss
  pub tangents : length ds ≡ length ss
