-- The rows 1 to 7, 14 and 22 of the heading "Numbers of refusal", each as a sentence over all entries: it holds where the row applies.
use Rattle.std.specs.Prelude.{List, ◌∷◌, ◌⊎◌, ◌≡◌, ℕ, ◌+◌, ◌≤◌, ◌<◌, ℤ, pos, neg_ℤ, length, get_or, ◌<ℤ◌}
use Rattle.refusal.specs.Chain.{Row, row}
use Rattle.grid.specs.Limits.{points_most, knot_most, coordinate_most, radius_most}
use Rattle.grid.specs.Rows.{domain_start, domain_end, occurrences}

-- row 1: the degree is none of 1, 2, 3
abbrev pub DegreeWrong : ℕ → Type 0
DegreeWrong m = (m ≡ 1 → ⊥) × (m ≡ 2 → ⊥) × (m ≡ 3 → ⊥)

-- row 2: x and y differ in number, or there are fewer than m+1 points, or more than 1,024
abbrev pub PointCountWrong : ℕ → List ℤ → List ℤ → Type 0
PointCountWrong m xs ys = (length xs ≡ length ys → ⊥) ⊎ (length xs < m + 1) ⊎ (points_most < length xs)

-- row 3: knots are not as many as the points and m + 1 more
abbrev pub KnotCountWrong : ℕ → List ℕ → List ℤ → Type 0
KnotCountWrong m ts xs = length ts ≡ length xs + m + 1 → ⊥

-- row 4: some knot is above 16,383, or has a smaller one after it
abbrev pub KnotOrderWrong : List ℕ → Type 0
KnotOrderWrong ts =
    (k : ℕ) × (k < length ts) × ((knot_most < get_or ts k 0) ⊎ ((k + 1 < length ts) × (get_or ts (k + 1) 0 < get_or ts k 0)))

-- row 5: the domain is empty: t_m is not below t_{n+1}
abbrev pub EndsWrong : ℕ → List ℕ → Type 0
EndsWrong m ts = domain_end m ts ≤ domain_start m ts

-- v lies strictly inside the domain
pub record Inside (m : ℕ) (ts : List ℕ) (v : ℕ) : Type 0 where
  pub above : domain_start m ts < v
  pub below : v < domain_end m ts

-- row 6: some value stands too often: one strictly inside the domain more than m times, any other more than m+1 times
abbrev pub RepeatsWrong : ℕ → List ℕ → Type 0
RepeatsWrong m ts = (v : ℕ) × ((Inside m ts v × (m < occurrences v ts)) ⊎ ((Inside m ts v → ⊥) × (m + 1 < occurrences v ts)))

-- z lies beyond the grid
abbrev pub OffGrid : ℤ → Type 0
OffGrid z = (z <ℤ neg_ℤ (pos coordinate_most)) ⊎ (pos coordinate_most <ℤ z)

-- row 7: some coordinate, of x or of y, is beyond the grid
abbrev pub RangeWrong : List ℤ → List ℤ → Type 0
RangeWrong xs ys =
    ((k : ℕ) × (k < length xs) × OffGrid (get_or xs k (pos 0))) ⊎ ((k : ℕ) × (k < length ys) × OffGrid (get_or ys k (pos 0)))

-- on one axis the low side is above the high side, or a side is beyond the grid
abbrev pub AxisWrong : ℤ → ℤ → Type 0
AxisWrong low high = (high <ℤ low) ⊎ OffGrid low ⊎ OffGrid high

-- row 14: a rectangle is wrong on one of its axes
abbrev pub RectangleWrong : ℤ → ℤ → ℤ → ℤ → Type 0
RectangleWrong low_x high_x low_y high_y = AxisWrong low_x high_x ⊎ AxisWrong low_y high_y

-- row 22: a cutter's radius is above 4,096
abbrev pub RadiusWrong : ℕ → Type 0
RadiusWrong radius = radius_most < radius

-- the seven rows in their order, and behind them those that a call judges of a curve that passes
abbrev pub curve_rows : ℕ → List ℕ → List ℤ → List ℤ → List Row → List Row
curve_rows m ts xs ys rest =
    row 1 (DegreeWrong m)
    ∷ row 2 (PointCountWrong m xs ys)
    ∷ row 3 (KnotCountWrong m ts xs)
    ∷ row 4 (KnotOrderWrong ts)
    ∷ row 5 (EndsWrong m ts)
    ∷ row 6 (RepeatsWrong m ts)
    ∷ row 7 (RangeWrong xs ys)
    ∷ rest
