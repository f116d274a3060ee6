-- The two worked removals: B has no polygon without its knot 2, and B with its third point moved has one.
use Rattle.std.specs.Prelude.{Err}
use mathlib.Core.List.{List}
use mathlib.Core.Path.{◌≡◌, refl, sym, ap, ◌∙◌}
use Prim.Native.Nat.{ℕ}
use native.Mathlib.Omega.{arith}
use lib.Dec.{lit≤}
use lib.IntN.{ℤ, pos, nat_abs, ◌-ℤ◌, ◌*ℤ◌}
use lib.ListN.{length}
use lib.Signed.{quot_z}
use Rattle.curve.specs.Lists.{Lists}
use Rattle.curve.specs.HandingOver.{enough}
use Rattle.curve.proofs.HandingLaws.{ends-untouched, ends-done}
use Rattle.span.specs.Span.{strictly_inside}
use Rattle.grid.specs.Rows.{degree_ok, point_count_ok, knot_count_ok, rises_from, knot_order_ok, ends_ok, occurrences, repeats_most, repeats_within, repeats_ok, on_grid, all_on_grid, range_ok}
use Rattle.grid.specs.Check.{checked_then}
use Rattle.signed.specs.Division.{divides}
use Rattle.insertion.specs.Insertion.{knots_up_to, insertion_span, inserted_knots, inserted_point, inserted_points, entries, point_at, weighted_sum, weight, whole_points, whole_from}
use Rattle.insertion.specs.Judged.{value_ok, place_ok, whole_ok, insertable_then, insertion_number}
use Rattle.removal.specs.Removal.{without_one, Removable}
use Rattle.removal.specs.Axis.{AxisReinserts, Reduced}
use Rattle.removal.proofs.EquationLaws.{reinserts-left, reinserts-right, reinserts-forward}
use Rattle.removal.proofs.PolygonLaws.{reinserts-xs, reinserts-reduced}
use Rattle.removal.specs.Judged.{inner_ok, removal_number}
use Rattle.removal.specs.Outcome as Outcome
use Rattle.refusal.specs.declared.Refusal.TheVariants.{NotRemovable}
use Rattle.worked.specs.Case.{Holds, removed_not, removed, places_of, no_places}
use Rattle.worked.specs.Worked.{curve_b, curve_b-wider, curve_b-parabola}

-- solved from the left the polygon would be 0 8 8 on the x axis, but its last point is 12
not-removable : Removable 2 curve_b 2 → ⊥
unfolding without_one insertion_span knots_up_to
not-removable r =
    let ks : List ℕ = without_one 2 curve_b.knots in
    let d = r.without in
    let px : List ℤ = d.xs in
    let x : AxisReinserts 2 ks px 2 curve_b.xs = rw r.removes.fewer at (reinserts-xs 2 2 d.knots d.xs d.ys curve_b.knots curve_b.xs curve_b.ys r.removes) in
    let s : Reduced 2 ks 3 2 = rw r.removes.fewer at (reinserts-reduced 2 2 d.knots d.xs d.ys curve_b.knots curve_b.xs curve_b.ys r.removes curve_b.xs refl) in
    let first : point_at px 0 ≡ pos 0 = reinserts-left 2 ks 2 3 s px curve_b.xs refl x 0 (lit≤ tt) in
    let second : point_at px 1 ≡ pos 8 =
    reinserts-forward 2 ks 2 3 s px curve_b.xs refl x 1 (lit≤ tt) (lit≤ tt) (lit≤ tt)
    ∙ ap (λ (z : ℤ). quot_z (pos 4 *ℤ pos 4 -ℤ pos 2 *ℤ z) (pos 2)) first in
    let third : point_at px 2 ≡ pos 8 =
    reinserts-forward 2 ks 2 3 s px curve_b.xs refl x 2 (lit≤ tt) (lit≤ tt) (lit≤ tt)
    ∙ ap (λ (z : ℤ). quot_z (pos 4 *ℤ pos 8 -ℤ pos 2 *ℤ z) (pos 2)) second in
    let last : point_at px 2 ≡ pos 12 = reinserts-right 2 ks 2 3 s px curve_b.xs refl x 2 (lit≤ tt) (lit≤ tt) in
    let clash : ◌≡◌ {A = ℕ} 8 12 = ap nat_abs (sym third ∙ last) in
    absurd (omega arith)

pub b-keeps-its-knot : Holds (removed_not 2 curve_b 2 13)
unfolding removal_number inner_ok strictly_inside checked_then degree_ok point_count_ok knot_count_ok rises_from knot_order_ok ends_ok occurrences repeats_most repeats_within repeats_ok on_grid all_on_grid range_ok
b-keeps-its-knot = (
  NotRemovable,
  refl,
  ends-untouched (Outcome.RemovalComesTo 2 curve_b 2 no_places) (λ (d : Lists). length d.xs) no_places 13 curve_b
      (Outcome.not_removable refl not-removable refl) (Err NotRemovable) refl (λ e. omega arith),
)

pub wider-b-loses-its-knot : Holds (removed 2 curve_b-wider 2 curve_b-parabola)
unfolding removal_number inner_ok strictly_inside enough without_one checked_then degree_ok point_count_ok knot_count_ok rises_from knot_order_ok ends_ok occurrences repeats_most repeats_within repeats_ok on_grid all_on_grid range_ok insertion_number insertable_then value_ok place_ok whole_ok whole_points whole_from divides weight weighted_sum insertion_span knots_up_to inserted_knots inserted_points inserted_point entries
wider-b-loses-its-knot =
    ends-done (Outcome.RemovalComesTo 2 curve_b-wider 2 (places_of curve_b-parabola)) (λ (d : Lists). length d.xs) (places_of curve_b-parabola) 0 curve_b-parabola
    (Outcome.removed refl (record { fewer = refl; accepts = refl; gives = refl }) refl) curve_b-parabola refl refl
