-- The fraction that a finite float is, as two whole numbers (heading "The point at a parameter"): a significand m with the
-- exponent e is m · 2 ^ e, so a power of two stands above or below, and the sign goes with the upper number.
-- An infinity and a NaN are no fraction; they give 0 / 1 here, and whoever states something of a float's fraction states `finite` of `lib.Ieee.Scale` too.
use Rattle.std.specs.Prelude.{cond, ℕ, ◌*◌, ℤ, pos, neg_ℤ}
use lib.Ieee.{Float, nan, inf, fin, up, down}
use Rattle.fractions.specs.Fraction.{Fraction, over}

-- the upper number: the significand times the power of two of an exponent that is not negative, with the sign
abbrev pub upper_of : Float → ℤ
upper_of nan = pos 0
upper_of (inf s) = pos 0
upper_of (fin s m e) = cond s (neg_ℤ (pos (m * up e))) (pos (m * up e))

-- the lower number: the power of two that a negative exponent divides by, and 1 for any other
abbrev pub lower_of : Float → ℕ
lower_of nan = 1
lower_of (inf s) = 1
lower_of (fin s m e) = down e

-- the float as a fraction
abbrev pub float_fraction : Float → Fraction
float_fraction x = over (upper_of x) (lower_of x)
