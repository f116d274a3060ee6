-- Closed cases of compaction, worked by hand: a double knot that goes, two values that go, and a pass that leaves what a second one would take.
use mathlib.Core.Bool.{Bool, true, false, ◌&&◌, ◌||◌, true≢false}
use mathlib.Core.List.{List, [], ◌∷◌}
use mathlib.Core.Path.{◌≡◌, refl, sym, ap, ◌∙◌}
use Prim.Native.Nat.{ℕ, ◌+◌, ◌-◌, ◌≤◌, ◌<◌}
use native.Mathlib.Omega.{arith}
use lib.Dec.{leb, ltb}
use lib.IntN.{ℤ, pos, negsuc, nat_abs}
use lib.ListN.{length, get_or}
use lib.Signed.{quot_z}
use borrow.Author.Tests.{eqb-false, leb-true, ltb-true, lt-leb}
use Rattle.refusal.proofs.JudgingLaws.{both}
use Rattle.curve.specs.Lists.{Lists, lists}
use Rattle.curve.specs.HandingOver.{enough}
use Rattle.span.specs.Span.{strictly_inside}
use Rattle.signed.specs.Division.{divides}
use Rattle.grid.specs.Rows.{degree_ok, point_count_ok, knot_count_ok, rises_from, knot_order_ok, ends_ok, occurrences, repeats_most, repeats_within, repeats_ok, on_grid, all_on_grid, range_ok}
use Rattle.grid.specs.Check.{checked_then}
use Rattle.checked.proofs.TestLaws.{every-passes}
use Rattle.checked.proofs.OccurrenceLaws.{stands_at}
use Rattle.insertion.specs.Insertion.{knots_up_to, insertion_span, inserted_knots, weighted_sum, weight, inserted_point, entries, inserted_points, whole_from, whole_points, point_at}
use Rattle.insertion.specs.Judged.{value_ok, place_ok, whole_ok, insertable_then, insertion_number}
use Rattle.removal.specs.Removal.{without_one, Removes, Removable}
use Rattle.removal.specs.Axis.{Reduced, AxisReinserts, left_for}
use Rattle.removal.proofs.EquationLaws.{reinserts-left, reinserts-right, reinserts-forward}
use Rattle.removal.proofs.PolygonLaws.{reinserts-xs, reinserts-reduced}
use Rattle.removal.proofs.SentenceLaws.{removal-takes-one}
use Rattle.compaction.specs.Compaction.{Stays, stays, goes_on, IsNext, done, next, CompactsTo}

-- no entry lies above `low` and below v
abbrev none_between : ℕ → ℕ → List ℕ → Bool
none_between low v [] = true
none_between low v (t ∷ ts) = (leb t low || leb v t) && none_between low v ts

or-second : (a b : Bool) → a ≡ false → (a || b) ≡ true → b ≡ true
or-second true b e h = absurd (true≢false e)
or-second false b e h = h

above-least : (low v : ℕ) (ts : List ℕ) → none_between low v ts ≡ true → (j : ℕ) → j < length ts → low < get_or ts j 0 → v ≤ get_or ts j 0
above-least low v ts h j i l =
    leb-true v (get_or ts j 0)
    (or-second (leb (get_or ts j 0) low) (leb v (get_or ts j 0)) (lt-leb (get_or ts j 0) low l)
    (every-passes (λ t. leb t low || leb v t) (none_between low v) refl (λ a r. refl) 0 ts h j i))

-- the next value, and that there is none, by tests
is-next : (m low v : ℕ) (c : Lists)
    → (ltb low v && (ltb (get_or c.knots m 0) v && (ltb v (get_or c.knots (length c.xs) 0) && (ltb 0 (occurrences v c.knots) && none_between low v c.knots)))) ≡ true
    → IsNext m low c v
is-next m low v c h =
    let a = both (ltb low v) _ h in
    let b = both (ltb (get_or c.knots m 0) v) _ a.1 in
    let d = both (ltb v (get_or c.knots (length c.xs) 0)) _ b.1 in
    let e = both (ltb 0 (occurrences v c.knots)) (none_between low v c.knots) d.1 in
    record {
      above = ltb-true _ _ a.0;
      left = ltb-true _ _ b.0;
      right = ltb-true _ _ d.0;
      present = ltb-true _ _ e.0;
      least = above-least low v c.knots e.1;
    }

none-next : (m low : ℕ) (c : Lists) → none_between low (get_or c.knots (length c.xs) 0) c.knots ≡ true → (v : ℕ) → IsNext m low c v → ⊥
none-next m low c h v n =
    let at = stands_at v c.knots n.present in
    omega (arith, at.2, n.right, n.above, above-least low (get_or c.knots (length c.xs) 0) c.knots h at.0 at.1 (omega (arith, at.2, n.above)))

-- a value that is no knot cannot be removed
gone : (m v : ℕ) (c : Lists) → occurrences v c.knots ≡ 0 → Stays m v c
gone m v c h r = omega (arith, (removal-takes-one m v c r.without r.removes).once)

-- the double knot 2 of degree 2 goes twice
unfoldable pub twice : Lists
twice = lists (0 ∷ 0 ∷ 0 ∷ 2 ∷ 2 ∷ 4 ∷ 4 ∷ 4 ∷ []) (pos 0 ∷ pos 2 ∷ pos 4 ∷ pos 6 ∷ pos 8 ∷ []) (pos 0 ∷ pos 4 ∷ pos 4 ∷ pos 4 ∷ pos 0 ∷ [])

once : Lists
once = lists (0 ∷ 0 ∷ 0 ∷ 2 ∷ 4 ∷ 4 ∷ 4 ∷ []) (pos 0 ∷ pos 2 ∷ pos 6 ∷ pos 8 ∷ []) (pos 0 ∷ pos 4 ∷ pos 4 ∷ pos 0 ∷ [])

unfoldable pub never : Lists
never = lists (0 ∷ 0 ∷ 0 ∷ 4 ∷ 4 ∷ 4 ∷ []) (pos 0 ∷ pos 4 ∷ pos 8 ∷ []) (pos 0 ∷ pos 8 ∷ pos 0 ∷ [])

first_goes : Removes 2 2 twice once
unfolding twice once without_one enough strictly_inside divides degree_ok point_count_ok knot_count_ok rises_from knot_order_ok ends_ok occurrences repeats_most repeats_within repeats_ok on_grid all_on_grid range_ok checked_then knots_up_to insertion_span inserted_knots weighted_sum weight inserted_point entries inserted_points whole_from whole_points value_ok place_ok whole_ok insertable_then insertion_number
first_goes = record { fewer = refl; accepts = refl; gives = refl }

second-goes : Removes 2 2 once never
unfolding once never without_one enough strictly_inside divides degree_ok point_count_ok knot_count_ok rises_from knot_order_ok ends_ok occurrences repeats_most repeats_within repeats_ok on_grid all_on_grid range_ok checked_then knots_up_to insertion_span inserted_knots weighted_sum weight inserted_point entries inserted_points whole_from whole_points value_ok place_ok whole_ok insertable_then insertion_number
second-goes = record { fewer = refl; accepts = refl; gives = refl }

pub double-goes : CompactsTo 2 twice never
unfolding twice once never occurrences
double-goes = next (is-next 2 0 2 twice refl) (goes_on first_goes (goes_on second-goes (stays (gone 2 2 never refl)))) (done (none-next 2 2 never refl))

-- two values, 1 and 2: the 1 goes, and then the 2
unfoldable pub both_values : Lists
both_values = lists (0 ∷ 0 ∷ 0 ∷ 1 ∷ 2 ∷ 4 ∷ 4 ∷ 4 ∷ []) (pos 0 ∷ pos 2 ∷ pos 6 ∷ pos 12 ∷ pos 16 ∷ []) (pos 0 ∷ pos 4 ∷ pos 8 ∷ pos 8 ∷ pos 0 ∷ [])

one_value : Lists
one_value = lists (0 ∷ 0 ∷ 0 ∷ 2 ∷ 4 ∷ 4 ∷ 4 ∷ []) (pos 0 ∷ pos 4 ∷ pos 12 ∷ pos 16 ∷ []) (pos 0 ∷ pos 8 ∷ pos 8 ∷ pos 0 ∷ [])

unfoldable pub no_value : Lists
no_value = lists (0 ∷ 0 ∷ 0 ∷ 4 ∷ 4 ∷ 4 ∷ []) (pos 0 ∷ pos 8 ∷ pos 16 ∷ []) (pos 0 ∷ pos 16 ∷ pos 0 ∷ [])

left-goes : Removes 2 1 both_values one_value
unfolding both_values one_value without_one enough strictly_inside divides degree_ok point_count_ok knot_count_ok rises_from knot_order_ok ends_ok occurrences repeats_most repeats_within repeats_ok on_grid all_on_grid range_ok checked_then knots_up_to insertion_span inserted_knots weighted_sum weight inserted_point entries inserted_points whole_from whole_points value_ok place_ok whole_ok insertable_then insertion_number
left-goes = record { fewer = refl; accepts = refl; gives = refl }

right-goes : Removes 2 2 one_value no_value
unfolding one_value no_value without_one enough strictly_inside divides degree_ok point_count_ok knot_count_ok rises_from knot_order_ok ends_ok occurrences repeats_most repeats_within repeats_ok on_grid all_on_grid range_ok checked_then knots_up_to insertion_span inserted_knots weighted_sum weight inserted_point entries inserted_points whole_from whole_points value_ok place_ok whole_ok insertable_then insertion_number
right-goes = record { fewer = refl; accepts = refl; gives = refl }

pub both_go : CompactsTo 2 both_values no_value
unfolding both_values one_value no_value occurrences
both_go =
    next (is-next 2 0 1 both_values refl) (goes_on left-goes (stays (gone 2 1 one_value refl)))
    (next (is-next 2 1 2 one_value refl) (goes_on right-goes (stays (gone 2 2 no_value refl))) (done (none-next 2 2 no_value refl)))

-- the points between the sides of a polygon of degree 2, from the left one; the last of them is that of the right side
module _ (c : Lists) (v i : ℕ) (r : Removable 2 c v) (ks : List ℕ) (fewer : without_one v c.knots ≡ ks) (span : insertion_span ks v ≡ i + 2) where
  here : Reduced 2 ks (length c.xs - 1) v × AxisReinserts 2 ks r.without.xs v c.xs
  here =
      let d = r.without in
      rw (← (r.removes.fewer ∙ fewer)) (
        reinserts-reduced 2 v d.knots d.xs d.ys c.knots c.xs c.ys r.removes c.xs refl,
        reinserts-xs 2 v d.knots d.xs d.ys c.knots c.xs c.ys r.removes,
      )

  walk_ends : (i + 4 ≤ length c.xs) → get_or ks (i + 1) 0 < v → get_or ks (i + 2) 0 < v
      → quot_z (left_for 2 ks c.xs v (i + 2) (quot_z (left_for 2 ks c.xs v (i + 1) (point_at c.xs i)) (pos (v - get_or ks (i + 1) 0)))) (pos (v - get_or ks (i + 2) 0))
      ≡ point_at c.xs (i + 2 + 1)
  walk_ends inside a b =
      let q = r.without.xs in
      let size : length c.xs ≡ length c.xs - 1 + 1 = omega arith in
      let first : i + 1 - 1 ≡ i = omega arith in
      let second : i + 2 - 1 ≡ i + 1 = omega arith in
      let q0 = reinserts-left 2 ks v (length c.xs - 1) here.0 q c.xs size here.1 i (omega (arith, span)) in
      let q1 = reinserts-forward 2 ks v (length c.xs - 1) here.0 q c.xs size here.1 (i + 1) (omega (arith, span)) (omega (arith, span)) a in
      let q2 = reinserts-forward 2 ks v (length c.xs - 1) here.0 q c.xs size here.1 (i + 2) (omega (arith, span)) (omega (arith, span)) b in
      let q3 = reinserts-right 2 ks v (length c.xs - 1) here.0 q c.xs size here.1 (i + 2) (omega (arith, span)) (omega arith) in
      let left : point_at q (i + 1) ≡ quot_z (left_for 2 ks c.xs v (i + 1) (point_at c.xs i)) (pos (v - get_or ks (i + 1) 0)) =
      q1 ∙ ap (λ (z : ℤ). quot_z (left_for 2 ks c.xs v (i + 1) z) (pos (v - get_or ks (i + 1) 0))) (ap (point_at q) first ∙ q0) in
      sym (q2 ∙ ap (λ (z : ℤ). quot_z (left_for 2 ks c.xs v (i + 2) z) (pos (v - get_or ks (i + 2) 0))) (ap (point_at q) second ∙ left)) ∙ q3

-- three values, of which one pass takes the last alone: the 2 could go only now that the 3 has gone
unfoldable pub three : Lists
three = lists (0 ∷ 0 ∷ 0 ∷ 1 ∷ 2 ∷ 3 ∷ 4 ∷ 4 ∷ 4 ∷ []) (pos 3 ∷ negsuc 1 ∷ pos 1 ∷ pos 3 ∷ pos 4 ∷ pos 4 ∷ []) (pos 3 ∷ negsuc 1 ∷ pos 1 ∷ pos 3 ∷ pos 4 ∷ pos 4 ∷ [])

unfoldable pub without-three : Lists
without-three = lists (0 ∷ 0 ∷ 0 ∷ 1 ∷ 2 ∷ 4 ∷ 4 ∷ 4 ∷ []) (pos 3 ∷ negsuc 1 ∷ pos 1 ∷ pos 4 ∷ pos 4 ∷ []) (pos 3 ∷ negsuc 1 ∷ pos 1 ∷ pos 4 ∷ pos 4 ∷ [])

without-two : Lists
without-two = lists (0 ∷ 0 ∷ 0 ∷ 1 ∷ 4 ∷ 4 ∷ 4 ∷ []) (pos 3 ∷ negsuc 1 ∷ pos 4 ∷ pos 4 ∷ []) (pos 3 ∷ negsuc 1 ∷ pos 4 ∷ pos 4 ∷ [])

one-stays : Stays 2 1 three
unfolding three without_one knots_up_to insertion_span
one-stays r =
    eqb-false 17 3 refl (ap nat_abs (walk_ends three 1 0 r (0 ∷ 0 ∷ 0 ∷ 2 ∷ 3 ∷ 4 ∷ 4 ∷ 4 ∷ []) refl refl (omega arith) (omega arith) (omega arith)))

two-stays : Stays 2 2 three
unfolding three without_one knots_up_to insertion_span
two-stays r =
    eqb-false 5 4 refl (ap nat_abs (walk_ends three 2 1 r (0 ∷ 0 ∷ 0 ∷ 1 ∷ 3 ∷ 4 ∷ 4 ∷ 4 ∷ []) refl refl (omega arith) (omega arith) (omega arith)))

three-goes : Removes 2 3 three without-three
unfolding three without-three without_one enough strictly_inside divides degree_ok point_count_ok knot_count_ok rises_from knot_order_ok ends_ok occurrences repeats_most repeats_within repeats_ok on_grid all_on_grid range_ok checked_then knots_up_to insertion_span inserted_knots weighted_sum weight inserted_point entries inserted_points whole_from whole_points value_ok place_ok whole_ok insertable_then insertion_number
three-goes = record { fewer = refl; accepts = refl; gives = refl }

pub one-pass : CompactsTo 2 three without-three
unfolding three without-three occurrences
one-pass =
    next (is-next 2 0 1 three refl) (stays one-stays)
    (next (is-next 2 1 2 three refl) (stays two-stays)
    (next (is-next 2 2 3 three refl) (goes_on three-goes (stays (gone 2 3 without-three refl))) (done (none-next 2 3 without-three refl))))

second-pass-takes : Removes 2 2 without-three without-two
unfolding without-three without-two without_one enough strictly_inside divides degree_ok point_count_ok knot_count_ok rises_from knot_order_ok ends_ok occurrences repeats_most repeats_within repeats_ok on_grid all_on_grid range_ok checked_then knots_up_to insertion_span inserted_knots weighted_sum weight inserted_point entries inserted_points whole_from whole_points value_ok place_ok whole_ok insertable_then insertion_number
second-pass-takes = record { fewer = refl; accepts = refl; gives = refl }
