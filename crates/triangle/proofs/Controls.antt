-- Cells and coordinates worked by hand, by computation, down to sign, significand and exponent.
use mathlib.Core.Bool.{false}
use mathlib.Core.List.{List, [], ◌∷◌}
use mathlib.Core.Path.{◌≡◌, refl}
use Prim.Native.Nat.{ℕ}
use lib.IntN.{ℤ, pos, negsuc}
use lib.Ieee.{fin, of_int, add, mul, div}
use Rattle.triangle.specs.FloatCell.{float_cell}
use Rattle.triangle.specs.FloatTriangle.{entry_of, coordinate_of}

-- (1·1 + 2·2) / 3 rounded once is 7505999378950827 · 2 ^ -52; with each product divided for itself it would end in 826
five-thirds : float_cell (pos 1) (pos 2) (pos 3) (fin false 1 (pos 0)) (fin false 1 (pos 1)) ≡ fin false 7505999378950827 (negsuc 51)
unfolding of_int add mul div
five-thirds = refl

-- curve B: degree 2, points (0,0) (4,8) (8,8) (12,0)
abbrev knots_b : List ℕ
knots_b = 0 ∷ 0 ∷ 0 ∷ 2 ∷ 4 ∷ 4 ∷ 4 ∷ []

abbrev xs_b : List ℤ
xs_b = pos 0 ∷ pos 4 ∷ pos 8 ∷ pos 12 ∷ []

abbrev ys_b : List ℤ
ys_b = pos 0 ∷ pos 8 ∷ pos 8 ∷ pos 0 ∷ []

-- row 0 at j is the coordinate P_j itself; row 1 at 2, with t_2 = 0 and w = t_4 = 4, is (3·4 + 1·8) / 4 = 5
row-nought : entry_of 2 knots_b xs_b 1 0 2 ≡ fin false 1 (pos 3)
unfolding entry_of of_int
row-nought = refl

row_one : entry_of 2 knots_b xs_b 1 1 2 ≡ fin false 5 (pos 0)
unfolding entry_of of_int add mul div
row_one = refl

-- B at 1 is (3.5, 6), that is 7 · 2 ^ -1 and 3 · 2 ^ 1
b-at-one-x : coordinate_of 2 knots_b xs_b 2 1 ≡ fin false 7 (negsuc 0)
unfolding entry_of of_int add mul div
b-at-one-x = refl

b-at-one-y : coordinate_of 2 knots_b ys_b 2 1 ≡ fin false 3 (pos 1)
unfolding entry_of of_int add mul div
b-at-one-y = refl

-- B at 3, in its second span, is (8.5, 6)
b-at-three-x : coordinate_of 2 knots_b xs_b 3 3 ≡ fin false 17 (negsuc 0)
unfolding entry_of of_int add mul div
b-at-three-x = refl
