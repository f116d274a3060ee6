-- The tests behind refusals 1 to 7, 14 and 22, one for each row (heading "Numbers of refusal"): true where the row does not refuse.
-- `m` is the degree, `ts` the knots, `xs` and `ys` the coordinates.
use Rattle.std.specs.Prelude.{Bool, true, cond, ◌&&◌, List, [], ◌∷◌, ℕ, suc, ◌+◌, ◌-◌, leb, ltb, eqb, ℤ, pos, neg_ℤ, length, get_or}
use Rattle.std.specs.Int.Signed.{le_z}
use Rattle.grid.specs.Limits.{points_most, knot_most, coordinate_most, radius_most}

unfoldable pub degree_ok : ℕ → Bool  -- row 1: the degree is 1, 2 or 3
degree_ok m = leb 1 m && leb m 3

unfoldable pub point_count_ok : ℕ → List ℤ → List ℤ → Bool  -- row 2: as many x as y, at least m+1 of them and at most 1,024
point_count_ok m xs ys = eqb (length xs) (length ys) && leb (m + 1) (length xs) && leb (length xs) points_most

unfoldable pub knot_count_ok : ℕ → List ℕ → List ℤ → Bool  -- row 3: points + m + 1 knots
knot_count_ok m ts xs = eqb (length ts) (length xs + m + 1)

unfoldable pub rises_from : ℕ → List ℕ → Bool  -- no knot is below `low`, above the largest, or below the one before it
rises_from low [] = true
rises_from low (t ∷ ts) = leb low t && leb t knot_most && rises_from t ts

unfoldable pub knot_order_ok : List ℕ → Bool  -- row 4: knots 0 to 16,383, never falling
knot_order_ok ts = rises_from 0 ts

abbrev pub domain_start : ℕ → List ℕ → ℕ  -- the ends of the domain, t_m and t_{n+1}: behind t_{n+1} stand m knots more
domain_start m ts = get_or ts m 0

abbrev pub domain_end : ℕ → List ℕ → ℕ
domain_end m ts = get_or ts (length ts - (m + 1)) 0

unfoldable pub ends_ok : ℕ → List ℕ → Bool  -- row 5: t_m is below t_{n+1}
ends_ok m ts = ltb (domain_start m ts) (domain_end m ts)

unfoldable pub occurrences : ℕ → List ℕ → ℕ  -- how often v stands in a list
occurrences v [] = 0
occurrences v (t ∷ ts) = cond (eqb t v) (suc (occurrences v ts)) (occurrences v ts)

unfoldable pub repeats_most : ℕ → List ℕ → ℕ → ℕ  -- how often v may stand: strictly inside the domain m times, at its ends and outside it m+1 times
repeats_most m ts v = cond (ltb (domain_start m ts) v && ltb v (domain_end m ts)) m (m + 1)

-- each value of the list `vs` stands in the knots `ts` no more often than it may
unfoldable pub repeats_within : ℕ → List ℕ → List ℕ → Bool
repeats_within m ts [] = true
repeats_within m ts (v ∷ vs) = leb (occurrences v ts) (repeats_most m ts v) && repeats_within m ts vs

unfoldable pub repeats_ok : ℕ → List ℕ → Bool  -- row 6: no value stands too often
repeats_ok m ts = repeats_within m ts ts

unfoldable pub on_grid : ℤ → Bool  -- -262,144 ≤ z ≤ 262,144
on_grid z = le_z (neg_ℤ (pos coordinate_most)) z && le_z z (pos coordinate_most)

unfoldable pub all_on_grid : List ℤ → Bool  -- every entry is on the grid
all_on_grid [] = true
all_on_grid (z ∷ zs) = on_grid z && all_on_grid zs

unfoldable pub range_ok : List ℤ → List ℤ → Bool  -- row 7: both lists of coordinates are on the grid
range_ok xs ys = all_on_grid xs && all_on_grid ys

unfoldable pub axis_ok : ℤ → ℤ → Bool  -- on one axis the low side is not above the high side, and both are on the grid
axis_ok low high = le_z low high && on_grid low && on_grid high

unfoldable pub rectangle_ok : ℤ → ℤ → ℤ → ℤ → Bool  -- row 14: a rectangle's sides on both axes
rectangle_ok low_x high_x low_y high_y = axis_ok low_x high_x && axis_ok low_y high_y

unfoldable pub radius_ok : ℕ → Bool  -- row 22: a cutter's radius is at most 4,096
radius_ok radius = leb radius radius_most
