-- Closed cases: a cubic on evenly spaced knots before and after clamping, and curve B's like unclamped and back.
use mathlib.Core.List.{[], ◌∷◌}
use mathlib.Core.Path.{◌≡◌, refl, subst}
use native.Mathlib.Omega.{arith}
use lib.IntN.{pos}
use Rattle.refusal.specs.Numbers.{accepted}
use Rattle.signed.specs.Division.{divides}
use Rattle.fractions.specs.Fraction.{over, sum, product, negation, turned, reciprocal}
use Rattle.fractions.specs.Order.{Equals}
use Rattle.splines.specs.Basis.{basis, sum_of, curve_at}
use Rattle.exact.specs.ExactPoint.{exact_coordinate}
use Rattle.exact.specs.ExactCurve.{exact_at}
use Rattle.span.specs.Span.{span_of, in_domain}
use Rattle.curve.specs.Lists.{Lists, lists}
use Rattle.curve.specs.HandingOver.{enough}
use Rattle.grid.specs.Rows.{degree_ok, point_count_ok, knot_count_ok, rises_from, knot_order_ok, ends_ok, occurrences, repeats_most, repeats_within, repeats_ok, on_grid, all_on_grid, range_ok}
use Rattle.grid.specs.Check.{checked_then}
use Rattle.insertion.specs.Insertion.{entries}
use Rattle.clamping.specs.EndRows.{mean, end_row}
use Rattle.clamping.specs.Clamping.{clamped_knot, clamped_number, all_whole, clamped, clamps_whole, clamp_then, clamp_number}
use Rattle.knots_exact.specs.SameCurve.{SameCurve}
use Rattle.ends_exact.specs.Clamping.{ClampKeepsCurve}

-- evenly spaced knots, the domain 3 to 4
even : Lists
even = lists (0 ∷ 1 ∷ 2 ∷ 3 ∷ 4 ∷ 5 ∷ 6 ∷ 7 ∷ []) (pos 0 ∷ pos 12 ∷ pos 0 ∷ pos 12 ∷ []) (pos 6 ∷ pos 0 ∷ pos 6 ∷ pos 0 ∷ [])

full : Lists
full = lists (3 ∷ 3 ∷ 3 ∷ 3 ∷ 4 ∷ 4 ∷ 4 ∷ 4 ∷ []) (pos 8 ∷ pos 8 ∷ pos 4 ∷ pos 4 ∷ []) (pos 2 ∷ pos 2 ∷ pos 4 ∷ pos 4 ∷ [])

clamped-is : clamped 3 even ≡ full
unfolding even full span_of entries mean end_row clamped_knot clamped_number clamped
clamped-is = refl

accepts : clamp_number 3 even full ≡ accepted
unfolding
    even full enough divides degree_ok point_count_ok knot_count_ok rises_from knot_order_ok ends_ok occurrences repeats_most repeats_within repeats_ok on_grid all_on_grid range_ok checked_then
    span_of entries mean end_row clamped_knot clamped_number all_whole clamped clamps_whole clamp_then clamp_number
accepts = refl

-- at 7/2 both are (6, 3), each worked out on its own four points
half-even : Equals (exact_at 3 even.knots even.xs 7 2) (over (pos 6) 1)
unfolding even span_of exact_coordinate curve_at sum_of basis sum product negation turned reciprocal
half-even = refl

half_full : Equals (exact_at 3 full.knots full.xs 7 2) (over (pos 6) 1)
unfolding full span_of exact_coordinate curve_at sum_of basis sum product negation turned reciprocal
half_full = refl

-- what clamping keeps is said of this curve and this parameter, whatever proves it
clamping-says : ClampKeepsCurve → Equals (exact_at 3 full.knots full.ys 7 2) (exact_at 3 even.knots even.ys 7 2)
unfolding even in_domain
clamping-says keeps = (subst (SameCurve 3 even) clamped-is (keeps 3 even full accepts)).y.point 7 2 (omega arith) refl
