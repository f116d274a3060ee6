-- Closed cases: what is said of curve B, and a point that carries nothing, which the curve does not fix.
use mathlib.Core.List.{List, [], ◌∷◌}
use mathlib.Core.Path.{◌≡◌, refl}
use Prim.Native.Nat.{ℕ}
use native.Mathlib.Omega.{arith}
use lib.IntN.{pos}
use Rattle.fractions.specs.Fraction.{over, sum, product, negation, turned, reciprocal}
use Rattle.fractions.specs.Order.{Equals}
use Rattle.splines.specs.Basis.{basis, sum_of, curve_at}
use Rattle.exact.specs.ExactPoint.{exact_coordinate}
use Rattle.exact.specs.ExactCurve.{exact_at}
use Rattle.span.specs.Span.{span_of}
use Rattle.curve.specs.Lists.{Lists, lists}
use Rattle.same_polygon.specs.SamePolygon.{OneCurve, CurveFixesPolygon}

curve_b : Lists
curve_b = lists (0 ∷ 0 ∷ 0 ∷ 2 ∷ 4 ∷ 4 ∷ 4 ∷ []) (pos 0 ∷ pos 4 ∷ pos 8 ∷ pos 12 ∷ []) (pos 0 ∷ pos 8 ∷ pos 8 ∷ pos 0 ∷ [])

-- no other polygon on its knots has its exact curve
only-B : CurveFixesPolygon → (d : Lists) → OneCurve 2 curve_b d → d ≡ curve_b
unfolding curve_b
only-B fixes d one = fixes 2 curve_b d one (omega arith) (omega arith)

-- degree 2 with the domain 2 to 3, where two knots stand at its start: of four points the first carries no span, and 0 or 9 there give the same point at 5/2
abbrev twice_at_start : List ℕ
twice_at_start = 0 ∷ 1 ∷ 2 ∷ 2 ∷ 3 ∷ 4 ∷ 5 ∷ []

free-first : Equals (exact_at 2 twice_at_start (pos 0 ∷ pos 4 ∷ pos 8 ∷ pos 12 ∷ []) 5 2) (exact_at 2 twice_at_start (pos 9 ∷ pos 4 ∷ pos 8 ∷ pos 12 ∷ []) 5 2)
unfolding span_of exact_coordinate curve_at sum_of basis sum product negation turned reciprocal
free-first = refl

-- ... but the second is not free
fixed-second : Equals (exact_at 2 twice_at_start (pos 0 ∷ pos 4 ∷ pos 8 ∷ pos 12 ∷ []) 5 2) (over (pos 15) 2)
unfolding span_of exact_coordinate curve_at sum_of basis sum product negation turned reciprocal
fixed-second = refl
