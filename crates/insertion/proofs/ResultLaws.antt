-- An accepted insertion hands back a curve that passes the check again and has one point more.
use mathlib.Core.Bool.{true}
use mathlib.Core.List.{List, [], ◌∷◌}
use mathlib.Core.Path.{◌≡◌, sym, ◌∙◌}
use Prim.Native.Nat.{ℕ, zero, suc, ◌+◌, ◌-◌, ◌≤◌}
use native.Mathlib.Omega.{arith}
use lib.IntN.{ℤ, pos, nat_abs}
use lib.ListN.{length, get_or, get_or-eq_default}
use borrow.Author.Tests.{le-leb, eq-eqb, ltb-true}
use Rattle.curve.specs.Lists.{Lists, lists}
use Rattle.grid.specs.Limits.{points_most, knot_most, coordinate_most}
use Rattle.grid.specs.Rows.{rises_from, degree_ok, point_count_ok, knot_count_ok, knot_order_ok, range_ok}
use Rattle.grid.specs.Check.{Passes}
use Rattle.grid.proofs.CheckLaws.{passes-tests, check-accepts}
use Rattle.grid.proofs.RepeatLaws.{rises-cons}
use Rattle.grid.proofs.SizeLaws.{sizes-of-passes}
use Rattle.insertion.specs.Insertion.{knots_up_to, insertion_span, inserted_knots, inserted_point, inserted_points, point_at}
use Rattle.insertion.specs.Standing.{Insertable}
use Rattle.insertion.specs.Judged.{place_ok, insertion_number}
use Rattle.insertion.proofs.OrderLaws.{either}
use Rattle.insertion.proofs.SpanLaws.{up_to-least, up_to-most, span-weighed}
use Rattle.insertion.proofs.KnotLaws.{inserted_knots-length}
use Rattle.insertion.proofs.PointLaws.{inserted_points-length, inserted_points-at, point-left, point-quotient, point-right}
use Rattle.insertion.proofs.QuotientLaws.{quotient-within}
use Rattle.insertion.proofs.CheckedLaws.{value-of-test, insertable-xs, insertable-ys, grid-of-sizes}
use Rattle.insertion.proofs.JudgedLaws.{Accepted, accepted-of-number}
use Rattle.insertion.proofs.PassLaws.{order-on, ends_same, repeats-on}

-- a knot of the check is at most the largest
pub knot-most : (low : ℕ) (ts : List ℕ) (j : ℕ) → rises_from low ts ≡ true → get_or ts j 0 ≤ knot_most
knot-most low [] j h = omega arith
knot-most low (t ∷ ts) zero h = (rises-cons low t ts h).2
knot-most low (t ∷ ts) (suc j) h = knot-most t ts j (rises-cons low t ts h).1

-- every new coordinate is on the grid
pub inserted-range : (m : ℕ) (ts : List ℕ) (ps : List ℤ) (v : ℕ) → Insertable m ts ps v → (j : ℕ) → nat_abs (point_at (inserted_points m ts ps v) j) ≤ coordinate_most
inserted-range m ts ps v s j =
    either (length ps) j
    (λ past. rw (get_or-eq_default (inserted_points m ts ps v) (pos 0) {n = j} (omega (arith, inserted_points-length m ts ps v))) (omega arith))
    (λ inside. rw (inserted_points-at m ts ps v j inside) (entry j))
  where
    entry : (j : ℕ) → nat_abs (inserted_point m ts ps v (insertion_span ts v) j) ≤ coordinate_most
    entry j =
        either (insertion_span ts v) (j + m)
        (λ a. either (insertion_span ts v) j
        (λ right. rw (point-right m ts ps v (insertion_span ts v) j right) (s.range (j - 1)))
        (λ b.
        let w = span-weighed m ts ps v s j a b in
        rw (point-quotient m ts ps v (insertion_span ts v) j a b) (quotient-within m ts ps v j w.low w.high s.range)))
        (λ left. rw (point-left m ts ps v (insertion_span ts v) j left) (s.range j))

module _ (m : ℕ) (ts : List ℕ) (xs ys : List ℤ) (v : ℕ) (lent : Lists) (accepts : insertion_number m (lists ts xs ys) v lent ≡ 0) where
  tests : Accepted m (lists ts xs ys) v lent
  tests = accepted-of-number m (lists ts xs ys) v lent accepts

  pub accepted-xs : Insertable m ts xs v
  accepted-xs =
      let p = value-of-test m ts xs v tests.value in
      insertable-xs m ts xs ys v tests.passes (omega (arith, p.0)) p.1

  pub accepted-ys : Insertable m ts ys v
  accepted-ys =
      let p = value-of-test m ts xs v tests.value in
      insertable-ys m ts xs ys v tests.passes (omega (arith, p.0)) p.1

  pub inserted-passes : Passes m (inserted_knots ts v) (inserted_points m ts xs v) (inserted_points m ts ys v)
  unfolding degree_ok point_count_ok knot_count_ok knot_order_ok range_ok place_ok
  inserted-passes =
      let t = passes-tests m ts xs ys tests.passes in
      let s = sizes-of-passes m ts xs ys tests.passes in
      let p = value-of-test m ts xs v tests.value in
      let place = ltb-true (length xs) points_most tests.place in
      let x = inserted_points-length m ts xs v in
      let y = inserted_points-length m ts ys v in
      let k = inserted_knots-length ts v in
      let left = up_to-least m ts xs v accepted-xs in
      let right : knots_up_to v ts + m + 1 ≤ length ts = omega (arith, up_to-most m ts xs v accepted-xs, s.knots) in
      sym (check-accepts m (inserted_knots ts v) (inserted_points m ts xs v) (inserted_points m ts ys v)
      t.degree
      (rw (
        eq-eqb (length (inserted_points m ts xs v)) (length (inserted_points m ts ys v)) (omega (arith, s.as_many)),
        le-leb (m + 1) (length (inserted_points m ts xs v)) (omega (arith, s.enough)),
        le-leb (length (inserted_points m ts xs v)) points_most (omega arith),
      ))
      (eq-eqb (length (inserted_knots ts v)) (length (inserted_points m ts xs v) + m + 1) (omega (arith, s.knots)))
      (order-on 0 ts v t.order (omega arith) (omega (arith, p.1, knot-most 0 ts (length xs) t.order)))
      (ends_same m ts v left right ∙ t.ends)
      (repeats-on m ts v left right t.repeats p.2)
      (rw (grid-of-sizes (inserted_points m ts xs v) (inserted-range m ts xs v accepted-xs), grid-of-sizes (inserted_points m ts ys v) (inserted-range m ts ys v accepted-ys))))
