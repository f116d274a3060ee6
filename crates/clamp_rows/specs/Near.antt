-- What is read of an end of a curve for its rows (heading "Ends that are not clamped"), and how large it may be.
use Rattle.std.specs.Prelude.{List, ◌≡◌, ℕ, ◌+◌, ◌-◌, ◌*◌, ◌^◌, ◌≤◌, ◌<◌, ℤ, nat_abs, length, get_or}
use Rattle.curve.specs.Lists.{NeverFall}
use Rattle.grid.specs.Limits.{coordinate_most, knot_most}
use Rattle.insertion.specs.Insertion.{point_at}
use Rattle.clamping.specs.declared.Share.{Share}

-- one axis of a curve on the grid whose every point carries a span: the first span and the last are not empty
pub record Carries (m : ℕ) (ts : List ℕ) (ps : List ℤ) : Type 0 where
  pub degree : m ≤ 3
  pub enough : m + 1 ≤ length ps
  pub count : length ts ≡ length ps + m + 1
  pub rising : NeverFall ts
  pub largest : (a : ℕ) → get_or ts a 0 ≤ knot_most
  pub opens : get_or ts m 0 < get_or ts (m + 1) 0
  pub closes : get_or ts (length ps - 1) 0 < get_or ts (length ps) 0
  pub range : (j : ℕ) → nat_abs (point_at ps j) ≤ coordinate_most

-- a number of which a mean can be taken in 64 bits
pub record Small (a : Share) : Type 0 where
  pub lower : a.lower ≤ knot_most
  pub upper : nat_abs a.upper ≤ coordinate_most * knot_most

-- a number that 64 bits hold and that lies on the grid
pub record Sized (a : Share) : Type 0 where
  pub above : 0 < a.lower
  pub most : a.lower < 2 ^ 63
  pub range : nat_abs a.upper ≤ coordinate_most * a.lower

-- what is read of an end: the knots inside lie apart from it, no knot lies further from another than the grid is long, and the points are on the grid
pub record Near (inside outside : List ℕ) (point : List ℤ) : Type 0 where
  pub apart : (k : ℕ) → k < 2 → 0 < get_or inside k 0
  pub within : (j k : ℕ) → get_or inside j 0 + get_or outside k 0 ≤ knot_most
  pub range : (k : ℕ) → nat_abs (point_at point k) ≤ coordinate_most
