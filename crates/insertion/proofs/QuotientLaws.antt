-- The quotient Q_j, where t_j ≤ v < t_{j+m}: its parts as natural differences, and how large it can be.
use mathlib.Core.Path.{◌≡◌}
use mathlib.Core.List.{List}
use Prim.Native.Nat.{ℕ, ◌+◌, ◌-◌, ◌≤◌, ◌<◌}
use native.Mathlib.Omega.{arith}
use lib.IntN.{ℤ, pos, nat_abs, ◌+ℤ◌, ◌*ℤ◌}
use lib.ListN.{get_or}
use lib.Signed.{quot_z}
use Rattle.grid.specs.Limits.{coordinate_most}
use Rattle.insertion.specs.Insertion.{weighted_sum, weight, point_at}
use Rattle.signed.proofs.DifferenceLaws.{pos-sub}
use Rattle.insertion.proofs.MeanLaws.{mean-within}

module _ (m : ℕ) (ts : List ℕ) (ps : List ℤ) (v j : ℕ) (low : get_or ts j 0 ≤ v) (high : v < get_or ts (j + m) 0) where
  -- above the line
  pub sum-natural : weighted_sum m ts ps v j
      ≡ pos (v - get_or ts j 0) *ℤ point_at ps j +ℤ pos (get_or ts (j + m) 0 - v) *ℤ point_at ps (j - 1)
  unfolding weighted_sum
  sum-natural = rw (pos-sub v (get_or ts j 0) low, pos-sub (get_or ts (j + m) 0) v (omega arith))

  -- below the line
  pub weight-natural : weight m ts j ≡ pos (get_or ts (j + m) 0 - get_or ts j 0)
  unfolding weight
  weight-natural = pos-sub (get_or ts (j + m) 0) (get_or ts j 0) (omega arith)

  -- a mean of two coordinates on the grid is no further out than they are
  pub quotient-within : ((k : ℕ) → nat_abs (point_at ps k) ≤ coordinate_most)
      → nat_abs (quot_z (weighted_sum m ts ps v j) (weight m ts j)) ≤ coordinate_most
  quotient-within range =
      rw (sum-natural, weight-natural)
      (mean-within (v - get_or ts j 0) (get_or ts (j + m) 0 - v) (get_or ts (j + m) 0 - get_or ts j 0) coordinate_most (point_at ps j) (point_at ps (j - 1))
      (range j) (range (j - 1)) (omega arith))
