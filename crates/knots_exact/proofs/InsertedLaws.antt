-- The lists that inserting a knot gives are the knots and points of the theory, over the rational numbers, place by place.
use mathlib.Core.Bool.{true, and-eq-true_iff}
use mathlib.Core.List.{List}
use mathlib.Core.Path.{◌≡◌, sym, ap, ap₂, ◌∙◌, fun_ext}
use Prim.Native.Nat.{ℕ, zero, suc, ◌+◌, ◌-◌, ◌≤◌, ◌<◌}
use native.Mathlib.Nat.{add-zero}
use native.Mathlib.Decide.{dec_le}
use native.Mathlib.Omega.{arith}
use borrow.Author.Tests.{le-leb, lt-leb}
use lib.IntN.{ℤ, pos, ◌-ℤ◌, ◌*ℤ◌}
use lib.ListN.{length, get_or}
use lib.Signed.{quot_z}
use Rattle.algebra.specs.Operations.{sub}
use Rattle.algebra.proofs.FieldLaws.{div-unique}
use Rattle.algebra.proofs.OrderLaws.{apart-of-positive}
use Rattle.signed.specs.Division.{divides}
use Rattle.signed.proofs.DivisionLaws.{product-of-quot}
use Rattle.fractions.specs.Fraction.{whole, whole_n}
use Rattle.fractions.proofs.Rational.{ℚ, class, plus, times, rational, rational_operations}
use Rattle.fractions.proofs.ClassLaws.{whole_n-below}
use Rattle.fractions.proofs.WholeLaws.{whole_sum, whole-product, whole-difference}
use Rattle.splines.specs.Triangle.{cell}
use Rattle.splines.specs.Insertion as S
use Rattle.splines.proofs.InsertedLaws.{Place, before, inserted, after, place, knot-before, knot-inserted, knot-after, point-before, point-between, point-after}
use Rattle.exact.proofs.ExactLaws.{rational_knot, rational_coordinate}
use Rattle.insertion.specs.Insertion.{knots_up_to, insertion_span, inserted_knots, inserted_point, inserted_points, weighted_sum, weight, whole_points, whole_from}
use Rattle.insertion.specs.Standing.{Insertable}
use Rattle.insertion.proofs.KnotLaws.{inserted_knots-before, inserted_knots-here, inserted_knots-behind}
use Rattle.insertion.proofs.PointLaws.{inserted_points-at}
use Rattle.insertion.proofs.SpanLaws.{up_to-least, span-least, span-weighed}
use Rattle.insertion.proofs.QuotientLaws.{weight-natural}

module _ (m : ℕ) (ts : List ℕ) (ps : List ℤ) (v : ℕ) (s : Insertable m ts ps v) where
  abbrev k : ℕ
  k = insertion_span ts v

  up_to : knots_up_to v ts ≡ k + 1
  unfolding insertion_span
  up_to = omega (arith, up_to-least m ts ps v s)

  knot-at : (j : ℕ) → Place k j → rational_knot (inserted_knots ts v) j ≡ S.inserted_knots rational_operations (rational_knot ts) k (class (whole_n v)) j
  knot-at j (before h) =
      ap (λ (n : ℕ). class (whole_n n)) (inserted_knots-before ts v j (omega (arith, up_to)))
      ∙ sym (knot-before rational (rational_knot ts) k (class (whole_n v)) j h)
  knot-at j (inserted h) =
      ap (λ (i : ℕ). rational_knot (inserted_knots ts v) i) (h ∙ sym up_to)
      ∙ ap (λ (n : ℕ). class (whole_n n)) (inserted_knots-here ts v)
      ∙ sym (knot-inserted rational (rational_knot ts) k (class (whole_n v)) j h)
  knot-at j (after h) =
      let next : j ≡ suc (j - 1) = omega arith in
      ap (λ (i : ℕ). rational_knot (inserted_knots ts v) i) next
      ∙ ap (λ (n : ℕ). class (whole_n n)) (inserted_knots-behind ts v (j - 1) (omega (arith, up_to)))
      ∙ sym (knot-after rational (rational_knot ts) k (class (whole_n v)) j h)

  -- the new knots
  pub knots-inserted : rational_knot (inserted_knots ts v) ≡ S.inserted_knots rational_operations (rational_knot ts) k (class (whole_n v))
  knots-inserted = fun_ext (λ j. knot-at j (place k j))

  -- above the line of Q_j, as a rational number
  sum-class : (j : ℕ) → class (whole (weighted_sum m ts ps v j))
      ≡ plus (times (sub rational_operations (rational_knot ts (j + m)) (class (whole_n v))) (rational_coordinate ps (j - 1))) (times (sub rational_operations (class (whole_n v)) (rational_knot ts j)) (rational_coordinate ps j))
  unfolding weighted_sum
  sum-class j =
      whole_sum ((pos v -ℤ pos (get_or ts j 0)) *ℤ get_or ps j (pos 0)) ((pos (get_or ts (j + m) 0) -ℤ pos v) *ℤ get_or ps (j - 1) (pos 0))
      ∙ rational.laws.add_comm (class (whole ((pos v -ℤ pos (get_or ts j 0)) *ℤ get_or ps j (pos 0)))) (class (whole ((pos (get_or ts (j + m) 0) -ℤ pos v) *ℤ get_or ps (j - 1) (pos 0))))
      ∙ ap₂ plus (factors (pos (get_or ts (j + m) 0)) (pos v) (get_or ps (j - 1) (pos 0))) (factors (pos v) (pos (get_or ts j 0)) (get_or ps j (pos 0)))
    where
      factors : (a b c : ℤ) → class (whole ((a -ℤ b) *ℤ c)) ≡ times (sub rational_operations (class (whole a)) (class (whole b))) (class (whole c))
      factors a b c = whole-product (a -ℤ b) c ∙ ap (λ (x : ℚ). times x (class (whole c))) (whole-difference a b)

  -- below the line
  weight-class : (j : ℕ) → class (whole (weight m ts j)) ≡ sub rational_operations (rational_knot ts (j + m)) (rational_knot ts j)
  unfolding weight
  weight-class j = whole-difference (pos (get_or ts (j + m) 0)) (pos (get_or ts j 0))

  -- a whole quotient is the cell of the theory
  quotient-class : (j : ℕ) → k < j + m → j ≤ k → divides (weight m ts j) (weighted_sum m ts ps v j) ≡ true
      → class (whole (quot_z (weighted_sum m ts ps v j) (weight m ts j)))
      ≡ cell rational_operations (rational_knot ts (j + m)) (class (whole_n v)) (rational_knot ts j) (rational_coordinate ps (j - 1)) (rational_coordinate ps j)
  quotient-class j h l divided =
      let w = span-weighed m ts ps v s j h l in
      let d : ℕ = get_or ts (j + m) 0 - get_or ts j 0 in
      let whole-weight : weight m ts j ≡ pos d = weight-natural m ts ps v j w.low w.high in
      let back : quot_z (weighted_sum m ts ps v j) (weight m ts j) *ℤ weight m ts j ≡ weighted_sum m ts ps v j =
      rw whole-weight (product-of-quot (weighted_sum m ts ps v j) d (rw whole-weight at divided)) in
      let positive : 0 < d = omega (arith, w.low, w.high) in
      sym
      (div-unique rational _ _ (class (whole (quot_z (weighted_sum m ts ps v j) (weight m ts j))))
      (λ e. apart-of-positive rational (class (whole_n d)) ((whole_n-below 0 d).0 positive) (ap (λ (z : ℤ). class (whole z)) (sym whole-weight) ∙ weight-class j ∙ e))
      (sym (sum-class j)
      ∙ ap (λ (z : ℤ). class (whole z)) (sym back)
      ∙ whole-product (quot_z (weighted_sum m ts ps v j) (weight m ts j)) (weight m ts j)
      ∙ ap (λ (x : ℚ). times (class (whole (quot_z (weighted_sum m ts ps v j) (weight m ts j)))) x) (weight-class j)))

  -- each quotient of a whole run is whole
  each_of : (count a d : ℕ) → whole_from m ts ps v count a ≡ true → d < count → divides (weight m ts (a + d)) (weighted_sum m ts ps v (a + d)) ≡ true
  unfolding whole_from
  each_of zero a d h l = absurd (omega arith)
  each_of (suc count) a zero h l =
      rw (add-zero a) ((and-eq-true_iff (divides (weight m ts a) (weighted_sum m ts ps v a)) (whole_from m ts ps v count (a + 1))).0 h).0
  each_of (suc count) a (suc d) h l =
      let next : a + suc d ≡ a + 1 + d = omega arith in
      rw next (each_of count (a + 1) d ((and-eq-true_iff (divides (weight m ts a) (weighted_sum m ts ps v a)) (whole_from m ts ps v count (a + 1))).0 h).1 (omega arith))

  each-whole : whole_points m ts ps v ≡ true → (j : ℕ) → k < j + m → j ≤ k → divides (weight m ts j) (weighted_sum m ts ps v j) ≡ true
  unfolding whole_points
  each-whole h j l u =
      let here : (k + 1 - m) + (j - (k + 1 - m)) ≡ j = omega (arith, span-least m ts ps v s) in
      rw here at (each_of m (k + 1 - m) (j - (k + 1 - m)) h (omega (arith, span-least m ts ps v s)))

  -- the new points, as far as there are any
  pub points-inserted : whole_points m ts ps v ≡ true → (j : ℕ) → j ≤ length ps
      → rational_coordinate (inserted_points m ts ps v) j ≡ S.inserted_points rational_operations (rational_knot ts) (rational_coordinate ps) m k (class (whole_n v)) j
  unfolding inserted_point
  points-inserted all j inside =
      ap (λ (z : ℤ). class (whole z)) (inserted_points-at m ts ps v j inside) ∙ by (dec_le (j + m) k) (dec_le j k)
    where
      by : Dec (j + m ≤ k) → Dec (j ≤ k) → class (whole (inserted_point m ts ps v k j)) ≡ S.inserted_points rational_operations (rational_knot ts) (rational_coordinate ps) m k (class (whole_n v)) j
      by (yes h) d = rw (le-leb (j + m) k h) (sym (point-before rational (rational_knot ts) k (class (whole_n v)) (rational_coordinate ps) m j h))
      by (no h) (yes l) =
          let past : k < j + m = omega arith in
          rw (lt-leb (j + m) k past, le-leb j k l)
          (quotient-class j past l (each-whole all j past l)
          ∙ sym (point-between rational (rational_knot ts) k (class (whole_n v)) (rational_coordinate ps) m j past l))
      by (no h) (no l) =
          let past : k < j + m = omega arith in
          let behind : k < j = omega arith in
          rw (lt-leb (j + m) k past, lt-leb j k behind) (sym (point-after rational (rational_knot ts) k (class (whole_n v)) (rational_coordinate ps) m j behind))
