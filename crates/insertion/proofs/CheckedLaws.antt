-- What the check says to an insertion: the knots never fall, and the coordinates are on the grid.
use mathlib.Core.Bool.{true}
use mathlib.Core.List.{List, [], ◌∷◌}
use mathlib.Core.Path.{◌≡◌, refl}
use Prim.Native.Nat.{ℕ, zero, suc, ◌+◌, ◌-◌, ◌≤◌, ◌<◌}
use native.Mathlib.Omega.{arith}
use lib.Dec.{ltb}
use lib.IntN.{ℤ, pos, neg_ℤ, nat_abs}
use lib.ListN.{length, get_or, drop, length-drop}
use lib.Seq.{get_or-drop}
use lib.Signed.{le_z}
use borrow.Author.Tests.{lt-ltb, ltb-true}
use Rattle.refusal.proofs.JudgingLaws.{both}
use Rattle.signed.proofs.BoundLaws.{size-of-bounds, low-of-size, high-of-size}
use Rattle.grid.specs.Limits.{coordinate_most}
use Rattle.grid.specs.Rows.{knot_order_ok, on_grid, all_on_grid, range_ok, occurrences}
use Rattle.grid.specs.Check.{Passes}
use Rattle.grid.proofs.RepeatLaws.{rises-above, rises-drop}
use Rattle.grid.proofs.CheckLaws.{passes-tests}
use Rattle.grid.proofs.SizeLaws.{sizes-of-passes}
use Rattle.span.specs.Span.{strictly_inside}
use Rattle.curve.specs.Lists.{NeverFall}
use Rattle.insertion.specs.Standing.{Insertable}
use Rattle.insertion.specs.Judged.{value_ok}

-- of two knots the later one is not below the earlier one
pub rises-of-test : (ts : List ℕ) → knot_order_ok ts ≡ true → NeverFall ts
unfolding knot_order_ok
rises-of-test ts h a b le inside =
    let place : a + (b - a) ≡ b = omega arith in
    let from = rises-above (get_or ts a 0) (drop a ts) (b - a) (rises-drop 0 ts a h (omega arith)) (rw (length-drop a ts) (omega arith)) in
    rw (get_or-drop a ts (b - a) 0, place) at from

-- a coordinate on the grid is no larger than the limit
pub size-of-grid : (z : ℤ) → on_grid z ≡ true → nat_abs z ≤ coordinate_most
unfolding on_grid
size-of-grid z h =
    let p = both (le_z (neg_ℤ (pos coordinate_most)) z) (le_z z (pos coordinate_most)) h in
    size-of-bounds coordinate_most z p.0 p.1

pub sizes-of-grid : (zs : List ℤ) → all_on_grid zs ≡ true → (j : ℕ) → nat_abs (get_or zs j (pos 0)) ≤ coordinate_most
unfolding all_on_grid
sizes-of-grid [] h j = omega arith
sizes-of-grid (z ∷ zs) h zero = size-of-grid z (both (on_grid z) (all_on_grid zs) h).0
sizes-of-grid (z ∷ zs) h (suc j) = sizes-of-grid zs (both (on_grid z) (all_on_grid zs) h).1 j

-- strictly inside the domain: right of its left end, left of its right one
module _ (ts : List ℕ) (m count v : ℕ) where
  pub inside-ends : strictly_inside ts m count v ≡ true → (get_or ts m 0 < v) × (v < get_or ts count 0)
  unfolding strictly_inside
  inside-ends h =
      let p = both (ltb (get_or ts m 0) v) (ltb v (get_or ts count 0)) h in
      (ltb-true _ _ p.0, ltb-true _ _ p.1)

  pub inside-of-ends : get_or ts m 0 < v → v < get_or ts count 0 → strictly_inside ts m count v ≡ true
  unfolding strictly_inside
  inside-of-ends low high = rw (lt-ltb _ _ low, lt-ltb _ _ high)

-- where a value may stand: there, and fewer than m times
pub value-of-test : (m : ℕ) (ts : List ℕ) (xs : List ℤ) (v : ℕ) → value_ok m ts xs v ≡ true
    → (get_or ts m 0 < v) × (v < get_or ts (length xs) 0) × (occurrences v ts < m)
unfolding value_ok
value-of-test m ts xs v h =
    let p = both (strictly_inside ts m (length xs) v) (ltb (occurrences v ts) m) h in
    let q = inside-ends ts m (length xs) v p.0 in
    (q.0, q.1, ltb-true _ _ p.1)

-- both axes of a curve that passed the check, with v inside the domain
module _ (m : ℕ) (ts : List ℕ) (xs ys : List ℤ) (v : ℕ) (h : Passes m ts xs ys) (low : get_or ts m 0 ≤ v) (high : v < get_or ts (length xs) 0) where
  pub insertable-xs : Insertable m ts xs v
  unfolding range_ok
  insertable-xs =
      let t = passes-tests m ts xs ys h in
      let s = sizes-of-passes m ts xs ys h in
      record {
        rises = rises-of-test ts t.order;
        degree = s.degree-least;
        count = s.knots;
        low = low;
        high = high;
        range = sizes-of-grid xs (both (all_on_grid xs) (all_on_grid ys) t.range).0;
      }

  pub insertable-ys : Insertable m ts ys v
  unfolding range_ok
  insertable-ys =
      let t = passes-tests m ts xs ys h in
      let s = sizes-of-passes m ts xs ys h in
      record {
        rises = rises-of-test ts t.order;
        degree = s.degree-least;
        count = rw s.as_many s.knots;
        low = low;
        high = rw s.as_many high;
        range = sizes-of-grid ys (both (all_on_grid xs) (all_on_grid ys) t.range).1;
      }

-- and back
pub grid-of-size : (z : ℤ) → nat_abs z ≤ coordinate_most → on_grid z ≡ true
unfolding on_grid
grid-of-size z h = rw (low-of-size coordinate_most z h, high-of-size coordinate_most z h)

pub grid-of-sizes : (zs : List ℤ) → ((j : ℕ) → nat_abs (get_or zs j (pos 0)) ≤ coordinate_most) → all_on_grid zs ≡ true
unfolding all_on_grid
grid-of-sizes [] h = refl
grid-of-sizes (z ∷ zs) h = rw (grid-of-size z (h 0), grid-of-sizes zs (λ j. h (suc j)))
