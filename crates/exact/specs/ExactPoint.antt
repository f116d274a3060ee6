-- The exact point (heading "The point at a parameter"): a sum over all points of the curve, each times its basis function, in fractions.
-- `ts` are the knots, `ps` the coordinates of one axis, m the degree, i the span's index and p/q the parameter, q above zero.
use Rattle.std.specs.Prelude.{List, ℕ, ℤ, pos, length, get_or}
use Rattle.fractions.specs.Fraction.{Fraction, whole, whole_n, over, fraction_operations}
use Rattle.splines.specs.Basis.{curve_at}

-- knot j as a fraction
abbrev pub knot_at : List ℕ → ℕ → Fraction
knot_at ts j = whole_n (get_or ts j 0)

-- the coordinate of point j as a fraction
abbrev pub coordinate_at : List ℤ → ℕ → Fraction
coordinate_at ps j = whole (get_or ps j (pos 0))

-- one coordinate of the exact point at p/q, a parameter of span i
unfoldable pub exact_coordinate : (ts : List ℕ) (ps : List ℤ) (m i p q : ℕ) → Fraction
exact_coordinate ts ps m i p q = curve_at fraction_operations (knot_at ts) (coordinate_at ps) m (length ps) i (over (pos p) q)
