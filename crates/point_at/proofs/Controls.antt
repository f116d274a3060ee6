-- Points worked by hand, by computation: curve A inside, at its right end and past it, and a degree that is none.
use mathlib.Core.Bool.{false}
use mathlib.Core.List.{List, [], ◌∷◌}
use mathlib.Core.Path.{◌≡◌, refl}
use Prim.Native.Nat.{ℕ}
use lib.IntN.{ℤ, pos, negsuc}
use lib.Ieee.{fin, of_int, add, mul, div}
use Rattle.grid.specs.Rows.{degree_ok, point_count_ok, knot_count_ok, rises_from, knot_order_ok, ends_ok, occurrences, repeats_most, repeats_within, repeats_ok, on_grid, all_on_grid, range_ok}
use Rattle.grid.specs.Check.{checked_then}
use Rattle.span.specs.Span.{span_of, in_domain}
use Rattle.triangle.specs.FloatTriangle.{entry_of}
use Rattle.domain.specs.Parameter.{parameter_number}
use Rattle.point_at.specs.declared.PointAnswer.TheVariants.{At, Refused}
use Rattle.point_at.specs.Point.{answer_of}

-- points (0,0) (0,8) (8,8) (8,0)
abbrev knots_a : List ℕ
knots_a = 0 ∷ 0 ∷ 0 ∷ 0 ∷ 4 ∷ 4 ∷ 4 ∷ 4 ∷ []

abbrev xs_a : List ℤ
xs_a = pos 0 ∷ pos 0 ∷ pos 8 ∷ pos 8 ∷ []

abbrev ys_a : List ℤ
ys_a = pos 0 ∷ pos 8 ∷ pos 8 ∷ pos 0 ∷ []

-- (1.25, 4.5), that is 5 · 2 ^ -2 and 9 · 2 ^ -1
a-at-one : answer_of 3 knots_a xs_a ys_a 1 ≡ At (record { x = fin false 5 (negsuc 1); y = fin false 9 (negsuc 0) })
unfolding parameter_number checked_then degree_ok point_count_ok knot_count_ok rises_from knot_order_ok ends_ok occurrences repeats_most repeats_within repeats_ok on_grid all_on_grid range_ok span_of in_domain entry_of of_int add mul div
a-at-one = refl

-- (8, 0)
a-at-its-end : answer_of 3 knots_a xs_a ys_a 4 ≡ At (record { x = fin false 1 (pos 3); y = fin false 0 (pos 0) })
unfolding parameter_number checked_then degree_ok point_count_ok knot_count_ok rises_from knot_order_ok ends_ok occurrences repeats_most repeats_within repeats_ok on_grid all_on_grid range_ok span_of in_domain entry_of of_int add mul div
a-at-its-end = refl

a-past-its-end : answer_of 3 knots_a xs_a ys_a 5 ≡ Refused 8
unfolding parameter_number checked_then degree_ok point_count_ok knot_count_ok rises_from knot_order_ok ends_ok occurrences repeats_most repeats_within repeats_ok on_grid all_on_grid range_ok in_domain
a-past-its-end = refl

no-such-degree : answer_of 4 knots_a xs_a ys_a 5 ≡ Refused 1
unfolding parameter_number checked_then degree_ok
no-such-degree = refl
