-- A row, one axis of a span that becomes a piece: four places, of which the first m + 1 hold the points that carry the span. Its low knot stands m times,
-- its high knot v stands `full` times, and behind the row's place k the knot is entry at + k of `ts`.
use Rattle.std.specs.Prelude.{Bool, true, false, List, ◌≡◌, ℕ, suc, ◌+◌, ◌-◌, ◌≤◌, ◌<◌, ℤ, pos, nat_abs, ◌+ℤ◌, ◌*ℤ◌, length, get_or, Option, IfSome, is_some}
use Rattle.std.specs.Int.Signed.{quot_z}
use Rattle.grid.specs.Limits.{coordinate_most}
use Rattle.signed.specs.Division.{divides}
use Rattle.insertion.specs.Insertion.{point_at}

-- above the line of a mean: (v - low)·q + (high - v)·p
abbrev pub mean_sum : ℕ → ℕ → ℕ → ℤ → ℤ → ℤ
mean_sum low v high p q = pos (v - low) *ℤ q +ℤ pos (high - v) *ℤ p

-- the same of the row's places k - 1 and k, and what stands below the line
abbrev pub sum_at : List ℕ → ℕ → ℕ → ℕ → List ℤ → ℕ → ℤ
sum_at ts at low v row k = mean_sum low v (get_or ts (at + k) 0) (point_at row (k - 1)) (point_at row k)

abbrev pub width_at : List ℕ → ℕ → ℕ → ℕ → ℤ
width_at ts at low k = pos (get_or ts (at + k) 0 - low)

-- the row is on the grid, and one insertion more makes its places behind `full`, up to m, anew
pub record RowStands (m : ℕ) (ts : List ℕ) (at low v full : ℕ) (row : List ℤ) : Type 0 where
  pub degree : m ≤ 3
  pub least : 1 ≤ full
  pub less : full < m
  pub rises : low < v
  pub inside : at + m < length ts
  pub behind : (k : ℕ) → full < k → k ≤ m → v ≤ get_or ts (at + k) 0
  pub range : (k : ℕ) → nat_abs (point_at row k) ≤ coordinate_most

-- whether a mean is whole, and where it is, what it is and that it is on the grid
pub record MeanOf (sum width : ℤ) (r : Option ℤ) : Type 0 where
  pub whole : is_some r ≡ divides width sum
  pub value : IfSome r (λ value. (value ≡ quot_z sum width) × (nat_abs value ≤ coordinate_most))

-- the places that are made anew are all whole, or one is not
pub record WholeOutcome (m : ℕ) (ts : List ℕ) (at low v full : ℕ) (row : List ℤ) (r : Bool) : Type 0 where
  pub whole : r ≡ true → (k : ℕ) → full < k → k ≤ m → divides (width_at ts at low k) (sum_at ts at low v row k) ≡ true
  pub broken : r ≡ false → (k : ℕ) × (full < k) × (k ≤ m) × (divides (width_at ts at low k) (sum_at ts at low v row k) ≡ false)

-- the row afterwards
pub record Stepped (m : ℕ) (ts : List ℕ) (at low v full : ℕ) (row next : List ℤ) : Type 0 where
  pub places : length next ≡ 4
  pub kept : (k : ℕ) → k ≤ full → point_at next k ≡ point_at row k
  pub made : (k : ℕ) → full < k → k ≤ m → point_at next k ≡ quot_z (sum_at ts at low v row k) (width_at ts at low k)
  pub unused : (k : ℕ) → m < k → k < 4 → point_at next k ≡ point_at row k

-- both; where one is not whole there is no row
pub record NextOf (m : ℕ) (ts : List ℕ) (at low v full : ℕ) (row : List ℤ) (r : Option (List ℤ)) : Type 0 where
  pub whole : WholeOutcome m ts at low v full row (is_some r)
  pub next : IfSome r (λ next. Stepped m ts at low v full row next)

-- three points with one more in front
pub record Pushed (point : ℤ) (behind now : List ℤ) : Type 0 where
  pub places : length now ≡ 4
  pub first : point_at now 0 ≡ point
  pub others : (k : ℕ) → k < 3 → point_at now (suc k) ≡ point_at behind k
