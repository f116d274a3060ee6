-- Closed cases of the check, worked by hand: each row once, and each limit on both sides.
use mathlib.Core.Bool.{true, false}
use mathlib.Core.List.{List, [], ◌∷◌}
use mathlib.Core.Path.{◌≡◌, refl}
use Prim.Native.Nat.{ℕ, ◌+◌, ◌*◌}
use lib.IntN.{ℤ, pos, negsuc}
use lib.ListN.{replicate}
use Rattle.grid.specs.Limits.{points_most, knots_most, spline_points_least, spline_points_most, knot_bytes_most, coordinate_bytes_most, sides_most, record_most, job_most}
use Rattle.grid.specs.Rows.{degree_ok, point_count_ok, knot_count_ok, rises_from, knot_order_ok, ends_ok, occurrences, repeats_most, repeats_within, repeats_ok, on_grid, all_on_grid, range_ok, axis_ok, rectangle_ok, radius_ok}
use Rattle.grid.specs.Check.{checked_then, check_number}

-- a degree, knots, x, y, and the number that the check answers
record Case : Type 0 where
  degree : ℕ
  knots : List ℕ
  xs : List ℤ
  ys : List ℤ
  number : ℕ

abbrev answers : List Case → List ℕ
answers [] = []
answers (c ∷ cs) = check_number c.degree c.knots c.xs c.ys ∷ answers cs

abbrev numbers : List Case → List ℕ
numbers [] = []
numbers (c ∷ cs) = c.number ∷ numbers cs

-- two points, and n of them
abbrev two : List ℤ
two = pos 0 ∷ pos 8 ∷ []

abbrev many : ℕ → List ℤ
many n = replicate n (pos 0)

abbrev on : ℕ → List ℕ → List ℤ → List ℤ → ℕ → Case
on m ts xs ys n = record { degree = m; knots = ts; xs = xs; ys = ys; number = n }

abbrev cases : List Case
cases =
    -- curves A and B
    on 3 (0 ∷ 0 ∷ 0 ∷ 0 ∷ 4 ∷ 4 ∷ 4 ∷ 4 ∷ []) (pos 0 ∷ pos 0 ∷ pos 8 ∷ pos 8 ∷ []) (pos 0 ∷ pos 8 ∷ pos 8 ∷ pos 0 ∷ []) 0
    ∷ on 2 (0 ∷ 0 ∷ 0 ∷ 2 ∷ 4 ∷ 4 ∷ 4 ∷ []) (pos 0 ∷ pos 4 ∷ pos 8 ∷ pos 12 ∷ []) (pos 0 ∷ pos 8 ∷ pos 8 ∷ pos 0 ∷ []) 0
    -- 1: degree 0, and 4
    ∷ on 0 [] [] [] 1
    ∷ on 4 [] [] [] 1
    -- 2: one x more than y, too few, one too many
    ∷ on 1 (0 ∷ 0 ∷ 4 ∷ 4 ∷ []) two (pos 0 ∷ []) 2
    ∷ on 3 [] [] [] 2
    ∷ on 1 [] (many 1025) (many 1025) 2
    ∷ on 1 [] (many 1024) (many 1024) 3
    -- 3: a knot too few
    ∷ on 1 (0 ∷ 0 ∷ 4 ∷ []) two two 3
    -- 4: the largest knot, one above it, one that falls
    ∷ on 1 (0 ∷ 0 ∷ 16383 ∷ 16383 ∷ []) two two 0
    ∷ on 1 (0 ∷ 0 ∷ 16384 ∷ 16384 ∷ []) two two 4
    ∷ on 1 (4 ∷ 4 ∷ 0 ∷ 0 ∷ []) two two 4
    -- 5: ends that are not clamped, an empty domain between two that differ, four equal knots
    ∷ on 1 (0 ∷ 1 ∷ 3 ∷ 4 ∷ []) two two 0
    ∷ on 1 (0 ∷ 2 ∷ 2 ∷ 4 ∷ []) two two 5
    ∷ on 1 (4 ∷ 4 ∷ 4 ∷ 4 ∷ []) two two 5
    -- 6: an inner value m+1 times, an end value m+1 times and m+2 times; of degree 2 a value outside the domain m times, which is the most
    ∷ on 1 (0 ∷ 0 ∷ 2 ∷ 2 ∷ 4 ∷ 4 ∷ []) (many 4) (many 4) 6
    ∷ on 1 (0 ∷ 2 ∷ 2 ∷ 4 ∷ 4 ∷ 5 ∷ []) (many 4) (many 4) 0
    ∷ on 1 (0 ∷ 0 ∷ 0 ∷ 4 ∷ 4 ∷ []) (many 3) (many 3) 6
    ∷ on 1 (0 ∷ 0 ∷ 4 ∷ 4 ∷ 4 ∷ []) (many 3) (many 3) 6
    ∷ on 2 (0 ∷ 0 ∷ 1 ∷ 2 ∷ 2 ∷ 3 ∷ 3 ∷ []) (many 4) (many 4) 0
    -- 7: the largest coordinate and the smallest, one beyond each, in x and in y
    ∷ on 1 (0 ∷ 0 ∷ 4 ∷ 4 ∷ []) (pos 262144 ∷ pos 0 ∷ []) (negsuc 262143 ∷ pos 0 ∷ []) 0
    ∷ on 1 (0 ∷ 0 ∷ 4 ∷ 4 ∷ []) (pos 262145 ∷ pos 0 ∷ []) two 7
    ∷ on 1 (0 ∷ 0 ∷ 4 ∷ 4 ∷ []) two (negsuc 262144 ∷ pos 0 ∷ []) 7
    ∷ []

cases-answered : answers cases ≡ numbers cases
unfolding check_number checked_then degree_ok point_count_ok knot_count_ok rises_from knot_order_ok ends_ok occurrences repeats_most repeats_within repeats_ok on_grid all_on_grid range_ok
cases-answered = refl

-- 14: the whole grid, its low corner alone; crossed sides in x and in y, and each side one beyond the grid
rectangles : rectangle_ok (negsuc 262143) (pos 262144) (negsuc 262143) (pos 262144)
    ∷ rectangle_ok (negsuc 262143) (negsuc 262143) (negsuc 262143) (negsuc 262143)
    ∷ rectangle_ok (pos 3) (pos 2) (pos 0) (pos 1)
    ∷ rectangle_ok (pos 0) (pos 1) (pos 3) (pos 2)
    ∷ rectangle_ok (negsuc 262144) (pos 0) (pos 0) (pos 0)
    ∷ rectangle_ok (pos 0) (pos 262145) (pos 0) (pos 0)
    ∷ rectangle_ok (pos 0) (pos 0) (negsuc 262144) (pos 0)
    ∷ rectangle_ok (pos 0) (pos 0) (pos 0) (pos 262145)
    ∷ []
    ≡ true ∷ true ∷ false ∷ false ∷ false ∷ false ∷ false ∷ false ∷ []
unfolding rectangle_ok axis_ok on_grid
rectangles = refl

-- 22: a pen, the widest cutter and one step wider, and the largest number of 32 bits
radii : radius_ok 0 ∷ radius_ok 4096 ∷ radius_ok 4097 ∷ radius_ok 4294967295 ∷ [] ≡ true ∷ true ∷ false ∷ false ∷ []
unfolding radius_ok
radii = refl

-- 3·342 - 2 points of the longest joined curve are the most; two bytes for each of the most knots, four for each of the most points; four sides
-- for each of 64 clamps; the longest record and the longest job
sizes : spline_points_least ∷ (3 * spline_points_most) ∷ knot_bytes_most ∷ coordinate_bytes_most ∷ sides_most ∷ record_most ∷ job_most ∷ []
    ≡ 2 ∷ (points_most + 2) ∷ (2 * knots_most) ∷ (4 * points_most) ∷ 256 ∷ 10261 ∷ 11482 ∷ []
sizes = refl
