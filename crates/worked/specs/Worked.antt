-- The examples of heading "Worked by hand" that are proved, in its order.
use Rattle.std.specs.Prelude.{List, [], ◌∷◌, ℕ, pos, negsuc}
use Rattle.curve.specs.Lists.{Lists, lists}
use Rattle.joined_curve.specs.Curve.{inner_twice, inner_thrice}
use Rattle.joining.specs.SplinePoints.{SplinePoints, spline_points}
use Rattle.point_at.specs.declared.PointAnswer.TheVariants.{Refused}
use Rattle.checked.specs.declared.Axis.TheVariants.{X, Y}
use Rattle.boxes.specs.declared.Rectangle.{Rectangle}
use Rattle.span_walk.specs.SpanLists.{span_lists}
use Rattle.worked.specs.Case.{Case, point_at, carried, carried_not, spans_listed, spans_not, recorded, compacted, inserted, inserted_not, removed, removed_not, joined, joined_not, full_ends, full_ends_not, open_right, open_right_not, whole, at}

-- a curve whose coordinates are not below zero
abbrev pub curve : List ℕ → List ℕ → List ℕ → Lists
curve ts xs ys = lists ts (whole xs) (whole ys)

-- A, of degree 3: points (0,0) (0,8) (8,8) (8,0)
abbrev pub curve_a : Lists
curve_a = curve (0 ∷ 0 ∷ 0 ∷ 0 ∷ 4 ∷ 4 ∷ 4 ∷ 4 ∷ []) (0 ∷ 0 ∷ 8 ∷ 8 ∷ []) (0 ∷ 8 ∷ 8 ∷ 0 ∷ [])

-- B, of degree 2: points (0,0) (4,8) (8,8) (12,0)
abbrev pub curve_b : Lists
curve_b = curve (0 ∷ 0 ∷ 0 ∷ 2 ∷ 4 ∷ 4 ∷ 4 ∷ []) (0 ∷ 4 ∷ 8 ∷ 12 ∷ []) (0 ∷ 8 ∷ 8 ∷ 0 ∷ [])

-- B with P_1 = (4,7), and B with its third point at (10,8)
abbrev pub curve_b-lower : Lists
curve_b-lower = curve curve_b.knots (0 ∷ 4 ∷ 8 ∷ 12 ∷ []) (0 ∷ 7 ∷ 8 ∷ 0 ∷ [])

abbrev pub curve_b-wider : Lists
curve_b-wider = curve curve_b.knots (0 ∷ 4 ∷ 10 ∷ 12 ∷ []) (0 ∷ 8 ∷ 8 ∷ 0 ∷ [])

-- the latter without its knot 2
abbrev pub curve_b-parabola : Lists
curve_b-parabola = curve (0 ∷ 0 ∷ 0 ∷ 4 ∷ 4 ∷ 4 ∷ []) (0 ∷ 8 ∷ 12 ∷ []) (0 ∷ 16 ∷ 0 ∷ [])

-- B with 2 inserted
abbrev pub curve_b-doubled : Lists
curve_b-doubled = curve (0 ∷ 0 ∷ 0 ∷ 2 ∷ 2 ∷ 4 ∷ 4 ∷ 4 ∷ []) (0 ∷ 4 ∷ 6 ∷ 8 ∷ 12 ∷ []) (0 ∷ 8 ∷ 8 ∷ 8 ∷ 0 ∷ [])

-- C, of degree 2: points (0,0) (4,8) (8,0); and with 2 inserted twice
abbrev pub curve_c : Lists
curve_c = curve (0 ∷ 0 ∷ 0 ∷ 4 ∷ 4 ∷ 4 ∷ []) (0 ∷ 4 ∷ 8 ∷ []) (0 ∷ 8 ∷ 0 ∷ [])

abbrev pub curve_c-doubled : Lists
curve_c-doubled = curve (0 ∷ 0 ∷ 0 ∷ 2 ∷ 2 ∷ 4 ∷ 4 ∷ 4 ∷ []) (0 ∷ 2 ∷ 4 ∷ 6 ∷ 8 ∷ []) (0 ∷ 4 ∷ 4 ∷ 4 ∷ 0 ∷ [])

-- D, of degree 2: points (0,0) (8,16) (16,0); and with 1 and 2 inserted
abbrev pub curve_d : Lists
curve_d = curve (0 ∷ 0 ∷ 0 ∷ 4 ∷ 4 ∷ 4 ∷ []) (0 ∷ 8 ∷ 16 ∷ []) (0 ∷ 16 ∷ 0 ∷ [])

abbrev pub curve_d-refined : Lists
curve_d-refined = curve (0 ∷ 0 ∷ 0 ∷ 1 ∷ 2 ∷ 4 ∷ 4 ∷ 4 ∷ []) (0 ∷ 2 ∷ 6 ∷ 12 ∷ 16 ∷ []) (0 ∷ 4 ∷ 8 ∷ 8 ∷ 0 ∷ [])

-- E, of degree 2, on the diagonal: one pass takes its 3 alone, and a second one would take the 2
abbrev pub curve_e : Lists
curve_e =
    let zs = pos 3 ∷ negsuc 1 ∷ pos 1 ∷ pos 3 ∷ pos 4 ∷ pos 4 ∷ [] in
    lists (0 ∷ 0 ∷ 0 ∷ 1 ∷ 2 ∷ 3 ∷ 4 ∷ 4 ∷ 4 ∷ []) zs zs

abbrev pub curve_e-passed : Lists
curve_e-passed =
    let zs = pos 3 ∷ negsuc 1 ∷ pos 1 ∷ pos 4 ∷ pos 4 ∷ [] in
    lists (0 ∷ 0 ∷ 0 ∷ 1 ∷ 2 ∷ 4 ∷ 4 ∷ 4 ∷ []) zs zs

-- a clamp by its sides
abbrev pub clamp : ℕ → ℕ → ℕ → ℕ → Rectangle
clamp low_x high_x low_y high_y =
    record { low_x = pos low_x; high_x = pos high_x; low_y = pos low_y; high_y = pos high_y }

-- spline points (0,0) and (12,0) with tangents (1,1) and (1,-1), at the parameters 0 and `last`
abbrev pub arch : ℕ → SplinePoints
arch last = spline_points (0 ∷ last ∷ []) (whole (0 ∷ 12 ∷ [])) (whole (0 ∷ 0 ∷ [])) (whole (1 ∷ 1 ∷ [])) (pos 1 ∷ negsuc 0 ∷ [])

-- what it joins to, whatever the number: two spline points have no inner parameter
abbrev pub arch_joined : Lists
arch_joined = curve (0 ∷ 0 ∷ 0 ∷ 0 ∷ 12 ∷ 12 ∷ 12 ∷ 12 ∷ []) (0 ∷ 4 ∷ 8 ∷ 12 ∷ []) (0 ∷ 4 ∷ 4 ∷ 0 ∷ [])

-- spline points (0,0), (6,-6), (12,0) with tangents (1,-2), (1,0), (1,5), at the parameters 0, 3, 9; joined without (6,-6), and with it
abbrev pub dip : SplinePoints
dip =
    spline_points (0 ∷ 3 ∷ 9 ∷ []) (whole (0 ∷ 6 ∷ 12 ∷ [])) (pos 0 ∷ negsuc 5 ∷ pos 0 ∷ []) (whole (1 ∷ 1 ∷ 1 ∷ [])) (negsuc 1 ∷ pos 0 ∷ pos 5 ∷ [])

abbrev pub dip_joined : Lists
dip_joined =
    lists (0 ∷ 0 ∷ 0 ∷ 0 ∷ 3 ∷ 3 ∷ 9 ∷ 9 ∷ 9 ∷ 9 ∷ []) (whole (0 ∷ 1 ∷ 5 ∷ 8 ∷ 10 ∷ 12 ∷ [])) (pos 0 ∷ negsuc 1 ∷ negsuc 5 ∷ negsuc 5 ∷ negsuc 9 ∷ pos 0 ∷ [])

abbrev pub dip_through_points : Lists
dip_through_points =
    lists (0 ∷ 0 ∷ 0 ∷ 0 ∷ 3 ∷ 3 ∷ 3 ∷ 9 ∷ 9 ∷ 9 ∷ 9 ∷ []) (whole (0 ∷ 1 ∷ 5 ∷ 6 ∷ 8 ∷ 10 ∷ 12 ∷ []))
    (pos 0 ∷ negsuc 1 ∷ negsuc 5 ∷ negsuc 5 ∷ negsuc 5 ∷ negsuc 9 ∷ pos 0 ∷ [])

-- a cubic on the knots 0 to 7, with the domain 3 to 4: points (0,6) (12,0) (0,6) (12,0); and with clamped ends
abbrev pub even_cubic : Lists
even_cubic = curve (0 ∷ 1 ∷ 2 ∷ 3 ∷ 4 ∷ 5 ∷ 6 ∷ 7 ∷ []) (0 ∷ 12 ∷ 0 ∷ 12 ∷ []) (6 ∷ 0 ∷ 6 ∷ 0 ∷ [])

abbrev pub even_cubic-full : Lists
even_cubic-full = curve (3 ∷ 3 ∷ 3 ∷ 3 ∷ 4 ∷ 4 ∷ 4 ∷ 4 ∷ []) (8 ∷ 8 ∷ 4 ∷ 4 ∷ []) (2 ∷ 2 ∷ 4 ∷ 4 ∷ [])

-- B with its right end open: the knots go on in steps of 2
abbrev pub curve_b-open : Lists
curve_b-open = lists (0 ∷ 0 ∷ 0 ∷ 2 ∷ 4 ∷ 6 ∷ 8 ∷ []) (whole (0 ∷ 4 ∷ 8 ∷ 16 ∷ [])) (pos 0 ∷ pos 8 ∷ pos 8 ∷ negsuc 7 ∷ [])

abbrev pub cases : List Case
cases =
    -- A at 0 is (0, 0)
    point_at 3 curve_a 0 (at 0 0)
    -- A at 1 is (1.25, 4.5)
    ∷ point_at 3 curve_a 1 (at 125 450)
    -- A at 2 is (4, 6)
    ∷ point_at 3 curve_a 2 (at 400 600)
    -- A at 4 is (8, 0)
    ∷ point_at 3 curve_a 4 (at 800 0)
    -- A at 5 is refused, 8
    ∷ point_at 3 curve_a 5 (Refused 8)
    -- B at 1 is (3.5, 6)
    ∷ point_at 2 curve_b 1 (at 350 600)
    -- B at 2 is (6, 8)
    ∷ point_at 2 curve_b 2 (at 600 800)
    -- A is carried by all its points; B at 1 by the first three, and at its end, 4, by the last three; at 5 it is refused, 8
    ∷ carried 3 curve_a 1 X (whole (0 ∷ 0 ∷ 8 ∷ 8 ∷ []))
    ∷ carried 3 curve_a 1 Y (whole (0 ∷ 8 ∷ 8 ∷ 0 ∷ []))
    ∷ carried 2 curve_b 1 X (whole (0 ∷ 4 ∷ 8 ∷ []))
    ∷ carried 2 curve_b 4 Y (whole (8 ∷ 8 ∷ 0 ∷ []))
    ∷ carried_not 2 curve_b 5 Y 8
    -- B with 2 inserted has the spans 0..2, box 0..6 by 0..8, and 2..4, box 6..12 by 0..8: a clamp in both, one above both, one at a corner
    ∷ spans_listed 2 curve_b-doubled (clamp 5 7 3 4) 0 2 (span_lists (0 ∷ 2 ∷ []) (2 ∷ 4 ∷ []))
    ∷ spans_listed 2 curve_b-doubled (clamp 0 12 9 10) 0 0 (span_lists (0 ∷ 0 ∷ []) (0 ∷ 0 ∷ []))
    ∷ spans_listed 2 curve_b-doubled (clamp 12 20 8 9) 0 1 (span_lists (2 ∷ 0 ∷ []) (4 ∷ 0 ∷ []))
    -- a clamp whose corner (15,4) is 5 steps from the curve's end (12,0): a cutter of radius 5 may meet it, one of radius 2 passes it
    ∷ spans_listed 2 curve_b-doubled (clamp 15 20 4 9) 5 1 (span_lists (2 ∷ 0 ∷ []) (4 ∷ 0 ∷ []))
    ∷ spans_listed 2 curve_b-doubled (clamp 15 20 4 9) 2 0 (span_lists (0 ∷ 0 ∷ []) (0 ∷ 0 ∷ []))
    -- the same with its sides in x crossed, and no place: radius 4,097 is 22, and 4,096 leaves 14
    ∷ spans_not 2 curve_b-doubled (clamp 20 15 4 9) 4097 22
    ∷ spans_not 2 curve_b-doubled (clamp 20 15 4 9) 4096 14
    -- the record of A: degree, knots, x and y, each behind its tag and its length
    ∷ recorded 3 curve_a
    (1 ∷ 1 ∷ 0 ∷ 3
    ∷ 2 ∷ 16 ∷ 0 ∷ 0 ∷ 0 ∷ 0 ∷ 0 ∷ 0 ∷ 0 ∷ 0 ∷ 0 ∷ 4 ∷ 0 ∷ 4 ∷ 0 ∷ 4 ∷ 0 ∷ 4 ∷ 0
    ∷ 3 ∷ 16 ∷ 0 ∷ 0 ∷ 0 ∷ 0 ∷ 0 ∷ 0 ∷ 0 ∷ 0 ∷ 0 ∷ 8 ∷ 0 ∷ 0 ∷ 0 ∷ 8 ∷ 0 ∷ 0 ∷ 0
    ∷ 4 ∷ 16 ∷ 0 ∷ 0 ∷ 0 ∷ 0 ∷ 0 ∷ 8 ∷ 0 ∷ 0 ∷ 0 ∷ 8 ∷ 0 ∷ 0 ∷ 0 ∷ 0 ∷ 0 ∷ 0 ∷ 0
    ∷ [])
    -- B with 1 inserted: (0,0) (2,4) (5,8) (8,8) (12,0)
    ∷ inserted 2 curve_b 1 (curve (0 ∷ 0 ∷ 0 ∷ 1 ∷ 2 ∷ 4 ∷ 4 ∷ 4 ∷ []) (0 ∷ 2 ∷ 5 ∷ 8 ∷ 12 ∷ []) (0 ∷ 4 ∷ 8 ∷ 8 ∷ 0 ∷ []))
    -- with P_1 = (4,7) instead: 11
    ∷ inserted_not 2 curve_b-lower 1 11
    -- B with 2 inserted: (0,0) (4,8) (6,8) (8,8) (12,0); once more, 9
    ∷ inserted 2 curve_b 2 curve_b-doubled
    ∷ inserted_not 2 curve_b-doubled 2 9
    -- inserting 0 or 4: 9
    ∷ inserted_not 2 curve_b 0 9
    ∷ inserted_not 2 curve_b 4 9
    -- removing 2 from B: 13
    ∷ removed_not 2 curve_b 2 13
    -- with third point (10,8): (0,0) (8,16) (12,0)
    ∷ removed 2 curve_b-wider 2 curve_b-parabola
    -- compacting: a double knot goes, two values go, and one pass leaves what a second would take
    ∷ compacted 2 curve_c-doubled 2 curve_c
    ∷ compacted 2 curve_d-refined 2 curve_d
    ∷ compacted 2 curve_e 1 curve_e-passed
    -- spline points (0,0), (12,0), tangents (1,1), (1,-1), parameters 0, 12: (0,0) (4,4) (8,4) (12,0), by default and through the points
    ∷ joined inner_twice (arch 12) arch_joined
    ∷ joined inner_thrice (arch 12) arch_joined
    -- with parameters 0, 4: 11
    ∷ joined_not inner_twice (arch 4) 11
    ∷ joined_not inner_thrice (arch 4) 11
    -- three spline points: the meeting point drops out by default, and inserting its parameter once more gives it back
    ∷ joined inner_twice dip dip_joined
    ∷ joined inner_thrice dip dip_through_points
    ∷ inserted 3 dip_joined 3 dip_through_points
    -- the cubic on evenly spaced knots clamped, and the parabola with its first point one higher: 11
    ∷ full_ends 3 even_cubic even_cubic-full
    ∷ full_ends_not 2 (curve (0 ∷ 1 ∷ 2 ∷ 3 ∷ 4 ∷ 5 ∷ []) (1 ∷ 2 ∷ 4 ∷ []) (0 ∷ 0 ∷ 0 ∷ [])) 11
    -- B unclamped at its right end: its last point is 2·(12,0) - (8,8); clamping gives B back, and unclamping once more is 23
    ∷ open_right 2 curve_b curve_b-open
    ∷ full_ends 2 curve_b-open curve_b
    ∷ open_right_not 2 curve_b-open 23
    ∷ []
