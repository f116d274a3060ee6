-- Some coordinates in four places.
use Rattle.std.specs.Prelude.{List, ◌≡◌, ℕ, ◌+◌, ◌≤◌, ◌<◌, ℤ, pos, length}
use Rattle.insertion.specs.Insertion.{point_at}

-- the `count` coordinates of `ps` from `from` on, and zeros in what is left
pub record Loaded (ps : List ℤ) (from count : ℕ) (row : List ℤ) : Type 0 where
  pub places : length row ≡ 4
  pub holds : (k : ℕ) → k < count → point_at row k ≡ point_at ps (from + k)
  pub unused : (k : ℕ) → count ≤ k → k < 4 → point_at row k ≡ pos 0
