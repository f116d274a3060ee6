-- The check's number for the curve that stands in bytes, and which work lists hold the curve.
use Rattle.std.specs.Prelude.{true, List, ◌≡◌, ℕ, ◌+◌, ◌/◌}
use Rattle.curve.specs.HandingOver.{enough}
use Rattle.grid.specs.Check.{check_number}
use Rattle.layout.specs.StoredCurve.{degree_in, curve_in}

-- with fields of k, x and y bytes
abbrev pub number_in : List ℕ → ℕ → ℕ → ℕ → ℕ
number_in bytes k x y = check_number (degree_in bytes) (curve_in bytes k x y).knots (curve_in bytes k x y).xs (curve_in bytes k x y).ys

-- lists for so many points, and for four knots more, hold fields of k, x and y bytes
abbrev pub HeldBy : ℕ → ℕ → ℕ → ℕ → Type 0
HeldBy points k x y = enough (k / 2) (x / 4) (y / 4) (points + 4) points points ≡ true

-- the points that short and middle lists hold
abbrev pub short_points : ℕ
short_points = 16

abbrev pub middle_points : ℕ
middle_points = 64
