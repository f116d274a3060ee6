-- Fractions are compared by cross-multiplying (heading "The point at a parameter"). Both lower numbers are above zero,
-- so each comparison of products of whole numbers says what its comment says of fractions.
use Rattle.std.specs.Prelude.{◌≡◌, ℤ, pos, ◌*ℤ◌, ◌≤ℤ◌, ◌<ℤ◌}
use Rattle.algebra.specs.Operations.{sub}
use Rattle.algebra.specs.OrderedField.{Side, low, high}
use Rattle.fractions.specs.Fraction.{Fraction, lower, fraction_operations}

-- the upper number of one fraction times the lower of the other
abbrev pub crossed : Fraction → Fraction → ℤ
crossed a b = a.upper *ℤ pos (lower b)

-- p/q = r/s: p·s = r·q
abbrev pub Equals : Fraction → Fraction → Type 0
Equals a b = crossed a b ≡ crossed b a

-- p/q ≤ r/s: p·s ≤ r·q
abbrev pub AtMost : Fraction → Fraction → Type 0
AtMost a b = crossed a b ≤ℤ crossed b a

-- p/q < r/s: p·s < r·q
abbrev pub Below : Fraction → Fraction → Type 0
Below a b = crossed a b <ℤ crossed b a

-- v bounds x: v ≤ x where v stands on the low side, x ≤ v where it stands on the high side
abbrev pub Bounds : Side → Fraction → Fraction → Type 0
Bounds low v x = AtMost v x
Bounds high v x = AtMost x v

-- |a - b| < c: both a - b and b - a are below c
pub record DistanceBelow (a b c : Fraction) : Type 0 where
  pub above : Below (sub fraction_operations a b) c
  pub under : Below (sub fraction_operations b a) c
