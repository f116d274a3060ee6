-- The Bezier curve of control numbers over an interval (heading "Out to SVG"), on pairs of whole numbers.
use Rattle.std.specs.Prelude.{List, ℕ, ℤ, pos}
use Rattle.fractions.specs.Fraction.{Fraction, whole_n, over, fraction_operations}
use Rattle.splines.specs.Bezier.{casteljau}
use Rattle.exact.specs.ExactPoint.{coordinate_at}

-- one coordinate of the Bezier curve of degree m over low..high, of the control numbers ps 0 to ps m, at p/q, q above zero: de Casteljau's scheme
unfoldable pub bezier_at : (m low high : ℕ) (ps : List ℤ) (p q : ℕ) → Fraction
bezier_at m low high ps p q = casteljau fraction_operations (whole_n low) (whole_n high) (coordinate_at ps) (over (pos p) q) m m
