-- Closed cases of the arithmetic and the order of fractions, against values worked by hand.
use mathlib.Core.Path.{refl}
use lib.IntN.{pos, negsuc}
use Rattle.fractions.specs.Fraction.{Fraction, over, whole, sum, product, negation, turned, reciprocal}
use Rattle.fractions.specs.Order.{Equals, AtMost, Below, DistanceBelow}

-- 1/2, 1/3 and -2/3
abbrev half : Fraction
half = over (pos 1) 2

abbrev third : Fraction
third = over (pos 1) 3

abbrev minus_two_thirds : Fraction
minus_two_thirds = over (negsuc 1) 3

-- 2/4 = 1/2
two-quarters-half : Equals (over (pos 2) 4) half
two-quarters-half = refl

-- 1/2 + 1/3 = 5/6
half-and-third : Equals (sum half third) (over (pos 5) 6)
unfolding sum
half-and-third = refl

-- 1/2 · (-2/3) = -1/3
half-of-minus-two-thirds : Equals (product half minus_two_thirds) (over (negsuc 0) 3)
unfolding product
half-of-minus-two-thirds = refl

-- 1 / (-2/3) = -3/2
minus-two-thirds-turned : Equals (reciprocal minus_two_thirds) (over (negsuc 2) 2)
unfolding turned reciprocal
minus-two-thirds-turned = refl

-- 1/2 / 0 counts as 0
half-by-zero : Equals (product half (reciprocal (whole (pos 0)))) (whole (pos 0))
unfolding product turned reciprocal
half-by-zero = refl

-- 1/3 < 1/2, and 2/4 ≤ 1/2
third-below-half : Below third half
third-below-half = record { lt = tt }

two-quarters-at-most-half : AtMost (over (pos 2) 4) half
two-quarters-at-most-half = record { le = tt }

-- |1/3 - 1/2| is below 1/5 and not below 1/6
within-a-fifth : DistanceBelow third half (over (pos 1) 5)
unfolding sum negation
within-a-fifth = record { above = record { lt = tt }; under = record { lt = tt } }

not-within-a-sixth : DistanceBelow third half (over (pos 1) 6) → ⊥
unfolding sum negation
not-within-a-sixth h = h.under.lt
