-- One axis of a removal, for the inner functions: `ks` are the knots with one v fewer, `ps` the old coordinates.
use Rattle.std.specs.Prelude.{true, List, ◌≡◌, ℕ, ◌+◌, ◌-◌, ◌≤◌, ◌<◌, ℤ, pos, nat_abs, ◌-ℤ◌, ◌*ℤ◌, length, get_or}
use Rattle.curve.specs.Lists.{NeverFall}
use Rattle.grid.specs.Limits.{coordinate_most}
use Rattle.insertion.specs.Insertion.{insertion_span, inserted_points, whole_points, point_at, weighted_sum, weight}

-- `ks` carries curves of `count` points into which v can be inserted
pub record Reduced (m : ℕ) (ks : List ℕ) (count v : ℕ) : Type 0 where
  pub rises : NeverFall ks
  pub degree : 1 ≤ m
  pub knots : length ks ≡ count + m + 1
  pub low : get_or ks m 0 ≤ v
  pub high : v < get_or ks count 0

-- every coordinate is on the grid
abbrev pub Ranged : List ℤ → Type 0
Ranged ps = (j : ℕ) → nat_abs (point_at ps j) ≤ coordinate_most

-- the coordinates q are on the grid, and inserting v into them gives whole numbers, the old ones
pub record AxisReinserts (m : ℕ) (ks : List ℕ) (q : List ℤ) (v : ℕ) (ps : List ℤ) : Type 0 where
  pub count : length q + 1 ≡ length ps
  pub range : (j : ℕ) → nat_abs (point_at q j) ≤ coordinate_most
  pub whole : whole_points m ks q v ≡ true
  pub points : inserted_points m ks q v ≡ ps

-- inserting v into q gives p at j: what stands above the line is p times what stands below it
abbrev pub GivesAt : ℕ → List ℕ → List ℤ → ℕ → ℕ → ℤ → Type 0
GivesAt m ks q v j p = weighted_sum m ks q v j ≡ weight m ks j *ℤ p

-- it gives the old coordinates everywhere between the two sides
abbrev pub GivesBack : ℕ → List ℕ → List ℤ → ℕ → List ℤ → Type 0
GivesBack m ks q v ps = (j : ℕ) → insertion_span ks v < j + m → j ≤ insertion_span ks v → GivesAt m ks q v j (point_at ps j)

-- what is left for P_j behind a P_{j-1} that is `last`: (t_{j+m} - t_j)·Q_j - (t_{j+m} - v)·last, which is (v - t_j)·P_j
abbrev pub left_for : ℕ → List ℕ → List ℤ → ℕ → ℕ → ℤ → ℤ
left_for m ks ps v j last = pos (get_or ks (j + m) 0 - get_or ks j 0) *ℤ point_at ps j -ℤ pos (get_or ks (j + m) 0 - v) *ℤ last
