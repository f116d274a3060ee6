-- What the numbers of a right end ask: knots that never fall, with a last span that is not empty, and lists that go together.
use Rattle.std.specs.Prelude.{List, ◌≡◌, ℕ, ◌+◌, ◌-◌, ◌≤◌, ◌<◌, ℤ, length, get_or}
use Rattle.curve.specs.Lists.{NeverFall}
use Rattle.grid.specs.Limits.{knot_most}

-- one axis of a curve of degree m, whose domain ends at the knot behind its points
pub record Ending (m : ℕ) (ts : List ℕ) (ps : List ℤ) : Type 0 where
  pub least : 1 ≤ m
  pub most : m ≤ 3
  pub enough : m + 1 ≤ length ps
  pub count : length ts ≡ length ps + m + 1
  pub rises : NeverFall ts
  pub largest : (a : ℕ) → a < length ts → get_or ts a 0 ≤ knot_most
  pub last : get_or ts (length ps - 1) 0 < get_or ts (length ps) 0
