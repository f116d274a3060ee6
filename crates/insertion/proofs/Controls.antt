-- Closed cases of inserting a knot, worked by hand.
use mathlib.Core.List.{[], ◌∷◌}
use mathlib.Core.Path.{◌≡◌, refl}
use lib.IntN.{pos}
use Rattle.curve.specs.Lists.{Lists, lists}
use Rattle.insertion.specs.Insertion.{knots_up_to, insertion_span, inserted_knots, weighted_sum, weight, inserted_point, entries, inserted_points, inserted}

-- curve B: with 1 inserted the new points are the means at half, and at a quarter
curve_b : Lists
curve_b = lists (0 ∷ 0 ∷ 0 ∷ 2 ∷ 4 ∷ 4 ∷ 4 ∷ []) (pos 0 ∷ pos 4 ∷ pos 8 ∷ pos 12 ∷ []) (pos 0 ∷ pos 8 ∷ pos 8 ∷ pos 0 ∷ [])

one-inserted : inserted 2 curve_b 1
    ≡ lists (0 ∷ 0 ∷ 0 ∷ 1 ∷ 2 ∷ 4 ∷ 4 ∷ 4 ∷ []) (pos 0 ∷ pos 2 ∷ pos 5 ∷ pos 8 ∷ pos 12 ∷ []) (pos 0 ∷ pos 4 ∷ pos 8 ∷ pos 8 ∷ pos 0 ∷ [])
unfolding curve_b knots_up_to insertion_span inserted_knots weighted_sum weight inserted_point entries inserted_points
one-inserted = refl
