-- A computed coordinate near an exact one (heading "The point at a parameter"): it is finite, and its fraction differs from the
-- exact fraction by less than 2 ^ -30 of a grid step.
use Rattle.std.specs.Prelude.{◌^◌, pos, T, Float}
use Rattle.std.specs.Float.Ieee.Scale.{finite}
use Rattle.fractions.specs.Fraction.{Fraction, over}
use Rattle.fractions.specs.Order.{DistanceBelow}
use Rattle.rounding.specs.FloatFraction.{float_fraction}

-- 2 ^ -30
abbrev pub nearness : Fraction
nearness = over (pos 1) (2 ^ 30)

-- x is finite, and |x - a| < 2 ^ -30
pub record NearExact (x : Float) (a : Fraction) : Type 0 where
  pub is_finite : T (finite x)
  pub distance : DistanceBelow (float_fraction x) a nearness
