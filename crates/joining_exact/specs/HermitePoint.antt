-- The Hermite cubic from points and tangents alone (heading "Joining spline points"), on pairs of whole numbers.
-- `ss` are the parameters, `ps` the points and `ds` the tangents of one axis, i the interval from s_i to s_{i+1}, p/q a parameter of it, q above zero.
use Rattle.std.specs.Prelude.{List, ℕ, suc, ℤ, pos, get_or}
use Rattle.fractions.specs.Fraction.{Fraction, whole, whole_n, over, fraction_operations}
use Rattle.splines.specs.Bezier.{hermite}

-- one coordinate of the Hermite cubic of interval i at p/q
unfoldable pub hermite_coordinate : List ℕ → List ℤ → List ℤ → ℕ → ℕ → ℕ → Fraction
hermite_coordinate ss ps ds i p q =
    hermite fraction_operations (whole_n (get_or ss i 0)) (whole_n (get_or ss (suc i) 0))
    (whole (get_or ps i (pos 0))) (whole (get_or ps (suc i) (pos 0)))
    (whole (get_or ds i (pos 0))) (whole (get_or ds (suc i) (pos 0)))
    (over (pos p) q)
