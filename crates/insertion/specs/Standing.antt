-- What the inner functions of an insertion ask. None of it knows more of the check than knots that never fall, the
-- domain's ends t_m and t_{n+1}, the lists' lengths and the range of coordinates.
use Rattle.std.specs.Prelude.{ℕ, ◌+◌, ◌≤◌, ◌<◌, List, ◌≡◌, ℤ, pos, nat_abs, length, get_or}
use Rattle.curve.specs.Lists.{NeverFall}
use Rattle.grid.specs.Limits.{coordinate_most}

-- the quotient Q_j can be formed: t_j ≤ v < t_{j+m}, and P_{j-1}, P_j are there
pub record Weighed (m : ℕ) (ts : List ℕ) (count v j : ℕ) : Type 0 where
  pub low : get_or ts j 0 ≤ v
  pub high : v < get_or ts (j + m) 0
  pub knot : j + m < length ts
  pub first : 1 ≤ j
  pub point : j < count

-- the knots never fall, v lies in the domain and below its right end, and the coordinates are on the grid
pub record Insertable (m : ℕ) (ts : List ℕ) (ps : List ℤ) (v : ℕ) : Type 0 where
  pub rises : NeverFall ts
  pub degree : 1 ≤ m
  pub count : length ts ≡ length ps + m + 1
  pub low : get_or ts m 0 ≤ v
  pub high : v < get_or ts (length ps) 0
  pub range : (j : ℕ) → nat_abs (get_or ps j (pos 0)) ≤ coordinate_most
