-- The worked job, computed: its four lines with radius 0; what a wider cutter meets; and the lines on the refusal of a clamp with crossed sides and of a radius.
use mathlib.Core.List.{[], ◌∷◌, ◌++◌}
use mathlib.Core.Path.{◌≡◌, refl}
use Prim.Native.Nat.{ℕ, ◌+◌}
use lib.IntN.{pos}
use Rattle.curve.specs.Lists.{Lists, lists}
use Rattle.grid.specs.Limits.{clamps_most}
use Rattle.report.specs.Part.{refused_part}
use Rattle.grid.specs.Check.{checked_then}
use Rattle.grid.specs.Rows.{degree_ok, point_count_ok, knot_count_ok, rises_from, knot_order_ok, ends_ok, occurrences, repeats_most, repeats_within, repeats_ok, on_grid, all_on_grid, range_ok, axis_ok, rectangle_ok, radius_ok}
use Rattle.boxes.specs.Widening.{widened}
use Rattle.boxes.specs.Meeting.{some_at_most, some_at_least, meets_on_axis}
use Rattle.span_walk.specs.SpansMet.{up_from, keep, box_meets, span_count, spans_met, low_knots, high_knots}
use Rattle.digits.specs.Letters.{a, c, d, e, f, g, i, l, m, n, o, p, r, s, t, u, v, y, space, dot, newline, digit}
use Rattle.digits.specs.Decimal.{digits_of, decimal}
use Rattle.lines.specs.Lines.{one_number, three_numbers, meet_lines, clamp_text}
use Rattle.clamps.specs.Clamp.{Clamp, clamps_ok}
use Rattle.job_text.specs.Text.{accepted_part, text_number, part_of, joined}

-- curve A
abbrev pub curve_a : Lists
curve_a =
    lists (0 ∷ 0 ∷ 0 ∷ 0 ∷ 4 ∷ 4 ∷ 4 ∷ 4 ∷ [])
    (pos 0 ∷ pos 0 ∷ pos 8 ∷ pos 8 ∷ [])
    (pos 0 ∷ pos 8 ∷ pos 8 ∷ pos 0 ∷ [])

-- a clamp from its sides: low x, high x, low y, high y
abbrev pub clamp : ℕ → ℕ → ℕ → ℕ → Clamp
clamp low_x high_x low_y high_y = record { low_x = pos low_x; high_x = pos high_x; low_y = pos low_y; high_y = pos high_y }

pub worked-text : joined (part_of 3 curve_a 0 (clamp 2 3 5 9 ∷ clamp 9 12 0 4 ∷ clamp 8 10 8 9 ∷ [])) (clamps_most + 1)
    ≡ (c ∷ u ∷ r ∷ v ∷ e ∷ space ∷ d ∷ e ∷ g ∷ r ∷ e ∷ e ∷ space ∷ digit 3 ∷ space ∷ p ∷ o ∷ i ∷ n ∷ t ∷ s ∷ space ∷ digit 4 ∷ space ∷ s ∷ p ∷ a ∷ n ∷ s ∷ space ∷ digit 1 ∷ newline ∷ [])
    ++ (c ∷ l ∷ a ∷ m ∷ p ∷ space ∷ digit 1 ∷ space ∷ m ∷ a ∷ y ∷ space ∷ m ∷ e ∷ e ∷ t ∷ space ∷ digit 0 ∷ dot ∷ dot ∷ digit 4 ∷ newline ∷ [])
    ++ (c ∷ l ∷ a ∷ m ∷ p ∷ space ∷ digit 2 ∷ space ∷ c ∷ l ∷ e ∷ a ∷ r ∷ newline ∷ [])
    ++ (c ∷ l ∷ a ∷ m ∷ p ∷ space ∷ digit 3 ∷ space ∷ m ∷ a ∷ y ∷ space ∷ m ∷ e ∷ e ∷ t ∷ space ∷ digit 0 ∷ dot ∷ dot ∷ digit 4 ∷ newline ∷ [])
unfolding joined part_of text_number accepted_part refused_part checked_then degree_ok point_count_ok knot_count_ok rises_from knot_order_ok ends_ok occurrences repeats_most repeats_within repeats_ok on_grid all_on_grid range_ok axis_ok rectangle_ok radius_ok clamps_ok up_from keep widened box_meets span_count spans_met low_knots high_knots some_at_most some_at_least meets_on_axis digits_of decimal one_number three_numbers meet_lines clamp_text
worked-text = refl

-- the second clamp's low x above its high x
pub crossed-text : joined (part_of 3 curve_a 0 (clamp 2 3 5 9 ∷ clamp 12 9 0 4 ∷ [])) (clamps_most + 1)
    ≡ (r ∷ e ∷ f ∷ u ∷ s ∷ e ∷ d ∷ space ∷ digit 1 ∷ digit 4 ∷ newline ∷ [])
unfolding joined part_of text_number accepted_part refused_part checked_then degree_ok point_count_ok knot_count_ok rises_from knot_order_ok ends_ok occurrences repeats_most repeats_within repeats_ok on_grid all_on_grid range_ok axis_ok rectangle_ok radius_ok clamps_ok up_from keep widened box_meets span_count spans_met low_knots high_knots some_at_most some_at_least meets_on_axis digits_of decimal one_number three_numbers meet_lines clamp_text
crossed-text = refl

-- the second clamp alone, 9..12 by 0..4, one step beyond the curve's end at (8,0): a cutter of radius 1 may meet it
pub wider-text : joined (part_of 3 curve_a 1 (clamp 9 12 0 4 ∷ [])) (clamps_most + 1)
    ≡ (c ∷ u ∷ r ∷ v ∷ e ∷ space ∷ d ∷ e ∷ g ∷ r ∷ e ∷ e ∷ space ∷ digit 3 ∷ space ∷ p ∷ o ∷ i ∷ n ∷ t ∷ s ∷ space ∷ digit 4 ∷ space ∷ s ∷ p ∷ a ∷ n ∷ s ∷ space ∷ digit 1 ∷ newline ∷ [])
    ++ (c ∷ l ∷ a ∷ m ∷ p ∷ space ∷ digit 1 ∷ space ∷ m ∷ a ∷ y ∷ space ∷ m ∷ e ∷ e ∷ t ∷ space ∷ digit 0 ∷ dot ∷ dot ∷ digit 4 ∷ newline ∷ [])
unfolding joined part_of text_number accepted_part refused_part checked_then degree_ok point_count_ok knot_count_ok rises_from knot_order_ok ends_ok occurrences repeats_most repeats_within repeats_ok on_grid all_on_grid range_ok axis_ok rectangle_ok radius_ok clamps_ok up_from keep widened box_meets span_count spans_met low_knots high_knots some_at_most some_at_least meets_on_axis digits_of decimal one_number three_numbers meet_lines clamp_text
wider-text = refl

-- a radius above 4,096 comes before the crossed clamp
pub radius-text : joined (part_of 3 curve_a 4097 (clamp 12 9 0 4 ∷ [])) (clamps_most + 1)
    ≡ (r ∷ e ∷ f ∷ u ∷ s ∷ e ∷ d ∷ space ∷ digit 2 ∷ digit 2 ∷ newline ∷ [])
unfolding joined part_of text_number accepted_part refused_part checked_then degree_ok point_count_ok knot_count_ok rises_from knot_order_ok ends_ok occurrences repeats_most repeats_within repeats_ok on_grid all_on_grid range_ok axis_ok rectangle_ok radius_ok clamps_ok up_from keep widened box_meets span_count spans_met low_knots high_knots some_at_most some_at_least meets_on_axis digits_of decimal one_number three_numbers meet_lines clamp_text
radius-text = refl
