-- Closed cases: curve A at 1 through the computed cell, against the point worked by hand, and the fractions of some floats.
use mathlib.Core.Path.{◌≡◌, refl}
use mathlib.Core.Bool.{false, true}
use lib.IntN.{ℤ, pos, negsuc}
use lib.Ieee.{Float, fin, binary64, of_int, add, mul, div}
use Rattle.triangle.specs.FloatCell.{float_cell}
use Rattle.fractions.specs.Fraction.{over, whole}
use Rattle.rounding.specs.FloatFraction.{float_fraction}

-- a cell of curve A at 1: every low knot is 0 and every high one is 4
abbrev cell_at_one : Float → Float → Float
cell_at_one l r = float_cell (pos 3) (pos 1) (pos 4) l r

-- three rows over four coordinates
abbrev point_at_one : (a b c d : ℤ) → Float
point_at_one a b c d =
    let p = of_int binary64 a in
    let q = of_int binary64 b in
    let r = of_int binary64 c in
    let s = of_int binary64 d in
    let pq = cell_at_one p q in
    let qr = cell_at_one q r in
    let rs = cell_at_one r s in
    cell_at_one (cell_at_one pq qr) (cell_at_one qr rs)

-- 1.25 is 5 / 4
curve-a-x : point_at_one (pos 0) (pos 0) (pos 8) (pos 8) ≡ fin false 5 (negsuc 1)
unfolding of_int add mul div
curve-a-x = refl

-- 4.5 is 9 / 2
curve-a-y : point_at_one (pos 0) (pos 8) (pos 8) (pos 0) ≡ fin false 9 (negsuc 0)
unfolding of_int add mul div
curve-a-y = refl

-- a third is rounded: 1 / 3 is 6004799503160661 · 2 ^ -54
third-of-one : float_cell (pos 2) (pos 1) (pos 3) (fin false 0 (pos 0)) (fin false 1 (pos 0)) ≡ fin false 6004799503160661 (negsuc 53)
unfolding of_int add mul div
third-of-one = refl

-- 1.25 counts as 5 / 4, and -6 as -6 / 1
fraction-of-five-quarters : float_fraction (fin false 5 (negsuc 1)) ≡ over (pos 5) 4
fraction-of-five-quarters = refl

fraction-of-minus-six : float_fraction (fin true 3 (pos 1)) ≡ whole (negsuc 5)
fraction-of-minus-six = refl
