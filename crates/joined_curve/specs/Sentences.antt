-- The joined curve entry by entry, in whole numbers (heading "Joining spline points"): which knots and points it has, with no word of a piece.
-- `inner` is how often an inner parameter stands, `ss` are the parameters s_0 .. s_k, `ps` the points and `ds` the tangents of one axis.
use Rattle.std.specs.Prelude.{List, ◌≡◌, ℕ, suc, ◌+◌, ◌-◌, ◌*◌, ◌<◌, ℤ, pos, ◌-ℤ◌, ◌*ℤ◌, length, get_or}
use Rattle.spline_pieces.specs.Sentences.{width_of}
use Rattle.joined_curve.specs.Curve.{inner_thrice}

-- the first parameter four times, each that is neither first nor last `inner` times, the last four times; no other knot
pub record KnotsOf (inner : ℕ) (ss ts : List ℕ) : Type 0 where
  pub count : length ts ≡ inner * (length ss - 2) + 8
  pub first : (r : ℕ) → r < 4 → get_or ts r 0 ≡ get_or ss 0 0
  pub inside : (i r : ℕ) → suc (suc i) < length ss → r < inner → get_or ts (inner * i + 4 + r) 0 ≡ get_or ss (suc i) 0
  pub last : (r : ℕ) → r < 4 → get_or ts (inner * (length ss - 2) + 4 + r) 0 ≡ get_or ss (length ss - 1) 0

-- four knots more than points: the first point is P_0, the last P_k; of each piece i two inner points: three times the way from P_i to the
-- first of them is h·P_i', and three times the way from the second to P_{i+1} is h·P_{i+1}'; where inner parameters stand three times, P_i before them
pub record PointsOf (inner : ℕ) (ss : List ℕ) (ps ds us : List ℤ) : Type 0 where
  pub count : length us ≡ inner * (length ss - 2) + 4
  pub first : get_or us 0 (pos 0) ≡ get_or ps 0 (pos 0)
  pub leaves : (i : ℕ) → suc i < length ss
      → (get_or us (inner * i + 1) (pos 0) -ℤ get_or ps i (pos 0)) *ℤ pos 3 ≡ pos (width_of ss i) *ℤ get_or ds i (pos 0)
  pub arrives : (i : ℕ) → suc i < length ss
      → (get_or ps (suc i) (pos 0) -ℤ get_or us (inner * i + 2) (pos 0)) *ℤ pos 3 ≡ pos (width_of ss i) *ℤ get_or ds (suc i) (pos 0)
  pub meets : inner ≡ inner_thrice → (i : ℕ) → i < length ss → get_or us (inner * i) (pos 0) ≡ get_or ps i (pos 0)
  pub last : get_or us (inner * (length ss - 2) + 3) (pos 0) ≡ get_or ps (length ss - 1) (pos 0)
