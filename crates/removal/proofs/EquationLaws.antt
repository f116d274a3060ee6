-- The equations that coordinates meet which give the old ones back: left and right of the quotients they are the old ones,
-- and between them each is determined by the one before it, or by the right side where the divisor is zero.
use mathlib.Core.Bool.{true}
use mathlib.Core.List.{List}
use mathlib.Core.Path.{◌≡◌, sym, ap, ◌∙◌}
use Prim.Native.Nat.{ℕ, zero, suc, ◌+◌, ◌-◌, ◌≤◌, ◌<◌}
use native.Mathlib.Omega.{arith}
use lib.IntN.{ℤ, pos, nat_abs, ◌+ℤ◌, ◌-ℤ◌, ◌*ℤ◌, *ℤ_comm, zero-*ℤ, +ℤ_idl, -ℤ-+ℤ_cancel}
use lib.ListN.{length, get_or, replicate, length-replicate}
use lib.Seq.{ext_get_or}
use lib.Signed.{quot_z}
use Rattle.signed.specs.Division.{divides}
use Rattle.signed.proofs.DivisionLaws.{quot-of-product, product-divides, product-of-quot}
use Rattle.signed.proofs.ScaleLaws.{times-cancel}
use Rattle.insertion.specs.Insertion.{insertion_span, inserted_point, inserted_points, point_at, weighted_sum, weight}
use Rattle.insertion.specs.Standing.{Insertable, Weighed}
use Rattle.insertion.proofs.MeanLaws.{sum-moves}
use Rattle.insertion.proofs.OrderLaws.{either}
use Rattle.insertion.proofs.SpanLaws.{span-least, span-most, span-low, span-high, span-weighed}
use Rattle.insertion.proofs.QuotientLaws.{sum-natural, weight-natural}
use Rattle.insertion.proofs.WholeLaws.{whole_each, whole-of-each}
use Rattle.insertion.proofs.PointLaws.{inserted_points-length, inserted_points-at, point-left, point-quotient, point-right}
use Rattle.grid.specs.Limits.{coordinate_most}
use Rattle.removal.specs.Axis.{Reduced, AxisReinserts, GivesAt, GivesBack, left_for}

module _ (m : ℕ) (ks : List ℕ) (v count : ℕ) (s : Reduced m ks count v) where
  -- a list of that many coordinates on the grid can take v
  reduced-insertable : (q : List ℤ) → length q ≡ count → ((j : ℕ) → nat_abs (point_at q j) ≤ coordinate_most) → Insertable m ks q v
  reduced-insertable q e range =
      record { rises = s.rises; degree = s.degree; count = rw e s.knots; low = s.low; high = rw e s.high; range = range }

  module _ (q ps : List ℤ) (size : length ps ≡ count + 1) (h : AxisReinserts m ks q v ps) where
    insertable : Insertable m ks q v
    insertable = reduced-insertable q (omega (arith, h.count)) h.range

    -- the old coordinate at j
    old-at : (j : ℕ) → j ≤ count → point_at ps j ≡ inserted_point m ks q v (insertion_span ks v) j
    old-at j k =
        ap (λ (l : List ℤ). point_at l j) (sym h.points) ∙ inserted_points-at m ks q v j (omega (arith, h.count))

    pub reinserts-left : (j : ℕ) → j + m ≤ insertion_span ks v → point_at q j ≡ point_at ps j
    reinserts-left j k =
        let most = span-most m ks q v insertable in
        sym (old-at j (omega (arith, h.count)) ∙ point-left m ks q v (insertion_span ks v) j k)

    pub reinserts-right : (j : ℕ) → insertion_span ks v ≤ j → j < count → point_at q j ≡ point_at ps (j + 1)
    reinserts-right j k inside =
        let back : j + 1 - 1 ≡ j = omega arith in
        sym (old-at (j + 1) (omega arith) ∙ point-right m ks q v (insertion_span ks v) (j + 1) (omega arith) ∙ ap (λ (n : ℕ). point_at q n) back)

    -- the equation of a quotient
    middle : (j : ℕ) → insertion_span ks v < j + m → j ≤ insertion_span ks v
        → pos (v - get_or ks j 0) *ℤ point_at q j +ℤ pos (get_or ks (j + m) 0 - v) *ℤ point_at q (j - 1)
        ≡ point_at ps j *ℤ pos (get_or ks (j + m) 0 - get_or ks j 0)
    middle j a b =
        let w = span-weighed m ks q v insertable j a b in
        let d = weight-natural m ks q v j w.low w.high in
        let whole = whole_each m ks q v (span-least m ks q v insertable) h.whole j a b in
        let most = span-most m ks q v insertable in
        sym (sum-natural m ks q v j w.low w.high)
        ∙ sym (product-of-quot (weighted_sum m ks q v j) (get_or ks (j + m) 0 - get_or ks j 0) (rw d at whole))
        ∙ ap (λ (z : ℤ). z *ℤ pos (get_or ks (j + m) 0 - get_or ks j 0))
        (sym (old-at j (omega (arith, h.count)) ∙ point-quotient m ks q v (insertion_span ks v) j a b ∙ ap (quot_z (weighted_sum m ks q v j)) d))

    -- the same over the definition's own words
    pub reinserts-gives : GivesBack m ks q v ps
    reinserts-gives j a b =
        let w = span-weighed m ks q v insertable j a b in
        sum-natural m ks q v j w.low w.high ∙ middle j a b
        ∙ *ℤ_comm (point_at ps j) (pos (get_or ks (j + m) 0 - get_or ks j 0))
        ∙ ap (λ (z : ℤ). z *ℤ point_at ps j) (sym (weight-natural m ks q v j w.low w.high))

    -- a zero divisor: the point before it is the old one
    pub reinserts-double : (j : ℕ) → insertion_span ks v < j + m → j ≤ insertion_span ks v → get_or ks j 0 ≡ v → point_at q (j - 1) ≡ point_at ps j
    reinserts-double j a b e =
        let w = span-weighed m ks q v insertable j a b in
        let none : v - get_or ks j 0 ≡ 0 = omega arith in
        let same : get_or ks (j + m) 0 - get_or ks j 0 ≡ get_or ks (j + m) 0 - v = omega arith in
        let equation : pos (get_or ks (j + m) 0 - v) *ℤ point_at q (j - 1) ≡ point_at ps j *ℤ pos (get_or ks (j + m) 0 - v) =
        sym (ap (λ (n : ℕ). pos n *ℤ point_at q j +ℤ pos (get_or ks (j + m) 0 - v) *ℤ point_at q (j - 1)) none
        ∙ ap (λ (z : ℤ). z +ℤ pos (get_or ks (j + m) 0 - v) *ℤ point_at q (j - 1)) (zero-*ℤ (point_at q j))
        ∙ +ℤ_idl (pos (get_or ks (j + m) 0 - v) *ℤ point_at q (j - 1)))
        ∙ middle j a b ∙ ap (λ (n : ℕ). point_at ps j *ℤ pos n) same in
        times-cancel (point_at q (j - 1)) (point_at ps j) (get_or ks (j + m) 0 - v) (omega (arith, w.high))
        (*ℤ_comm (point_at q (j - 1)) (pos (get_or ks (j + m) 0 - v)) ∙ equation)

    -- what is left for a point is the point times the divisor
    pub reinserts-rest : (j : ℕ) → insertion_span ks v < j + m → j ≤ insertion_span ks v
        → left_for m ks ps v j (point_at q (j - 1)) ≡ point_at q j *ℤ pos (v - get_or ks j 0)
    reinserts-rest j a b =
        let moved = sum-moves (pos (v - get_or ks j 0) *ℤ point_at q j) (pos (get_or ks (j + m) 0 - v) *ℤ point_at q (j - 1)) (point_at ps j *ℤ pos (get_or ks (j + m) 0 - get_or ks j 0)) (middle j a b) in
        ap (λ (z : ℤ). z -ℤ pos (get_or ks (j + m) 0 - v) *ℤ point_at q (j - 1)) (*ℤ_comm (pos (get_or ks (j + m) 0 - get_or ks j 0)) (point_at ps j))
        ∙ sym moved ∙ *ℤ_comm (pos (v - get_or ks j 0)) (point_at q j)

    -- any other divisor: the point is the quotient of what is left
    pub reinserts-forward : (j : ℕ) → insertion_span ks v < j + m → j ≤ insertion_span ks v → get_or ks j 0 < v
        → point_at q j ≡ quot_z (left_for m ks ps v j (point_at q (j - 1))) (pos (v - get_or ks j 0))
    reinserts-forward j a b e =
        sym (ap (λ (z : ℤ). quot_z z (pos (v - get_or ks j 0))) (reinserts-rest j a b) ∙ quot-of-product (point_at q j) (v - get_or ks j 0) (omega arith))

-- the span of the fewer knots, whatever the coordinates
zero-size : (n j : ℕ) → nat_abs (get_or (replicate n (pos 0)) j (pos 0)) ≤ coordinate_most
zero-size zero j = omega arith
zero-size (suc n) zero = omega arith
zero-size (suc n) (suc j) = zero-size n j

module _ (m : ℕ) (ks : List ℕ) (v count : ℕ) (s : Reduced m ks count v) where
  zeros : Insertable m ks (replicate count (pos 0)) v
  zeros = reduced-insertable m ks v count s (replicate count (pos 0)) (length-replicate count (pos 0)) (zero-size count)

  pub reduced-least : m ≤ insertion_span ks v
  reduced-least = span-least m ks (replicate count (pos 0)) v zeros

  pub reduced-most : insertion_span ks v < count
  reduced-most = omega (arith, span-most m ks (replicate count (pos 0)) v zeros, length-replicate count (pos 0))

  pub reduced-low : (j : ℕ) → j ≤ insertion_span ks v → get_or ks j 0 ≤ v
  reduced-low = span-low m ks (replicate count (pos 0)) v zeros

  pub reduced-high : (j : ℕ) → insertion_span ks v < j → j < length ks → v < get_or ks j 0
  reduced-high = span-high m ks (replicate count (pos 0)) v zeros

  pub reduced-weighed : (j : ℕ) → insertion_span ks v < j + m → j ≤ insertion_span ks v → Weighed m ks count v j
  reduced-weighed j a b =
      let w = span-weighed m ks (replicate count (pos 0)) v zeros j a b in
      record { low = w.low; high = w.high; knot = w.knot; first = w.first; point = omega (arith, w.point, length-replicate count (pos 0)) }

  -- a point times the divisor is what is left for it: then inserting v gives the old coordinate there
  pub gives-of-rest : (q ps : List ℤ) (j : ℕ) → insertion_span ks v < j + m → j ≤ insertion_span ks v
      → left_for m ks ps v j (point_at q (j - 1)) ≡ point_at q j *ℤ pos (v - get_or ks j 0) → GivesAt m ks q v j (point_at ps j)
  gives-of-rest q ps j a b e =
      let w = reduced-weighed j a b in
      sum-natural m ks q v j w.low w.high
      ∙ ap (λ (z : ℤ). z +ℤ pos (get_or ks (j + m) 0 - v) *ℤ point_at q (j - 1)) (*ℤ_comm (pos (v - get_or ks j 0)) (point_at q j) ∙ sym e)
      ∙ -ℤ-+ℤ_cancel (pos (get_or ks (j + m) 0 - get_or ks j 0) *ℤ point_at ps j) (pos (get_or ks (j + m) 0 - v) *ℤ point_at q (j - 1))
      ∙ ap (λ (z : ℤ). z *ℤ point_at ps j) (sym (weight-natural m ks q v j w.low w.high))

  -- coordinates on the grid that are the old ones at both sides and give the old ones back between them give all of them back
  module _ (q ps : List ℤ) (size : length ps ≡ count + 1) (same : length q + 1 ≡ length ps)
      (left : (j : ℕ) → j + m ≤ insertion_span ks v → point_at q j ≡ point_at ps j)
      (right : (j : ℕ) → insertion_span ks v ≤ j → j < length q → point_at q j ≡ point_at ps (j + 1)) (gives : GivesBack m ks q v ps) where
    one-whole : (j : ℕ) → insertion_span ks v < j + m → j ≤ insertion_span ks v
        → (divides (weight m ks j) (weighted_sum m ks q v j) ≡ true) × (quot_z (weighted_sum m ks q v j) (weight m ks j) ≡ point_at ps j)
    one-whole j a b =
        let w = reduced-weighed j a b in
        let n = weight-natural m ks q v j w.low w.high in
        let e : weighted_sum m ks q v j ≡ point_at ps j *ℤ pos (get_or ks (j + m) 0 - get_or ks j 0) =
        gives j a b ∙ ap (λ (z : ℤ). z *ℤ point_at ps j) n ∙ *ℤ_comm (pos (get_or ks (j + m) 0 - get_or ks j 0)) (point_at ps j) in (
          rw (n, e) (product-divides (point_at ps j) (get_or ks (j + m) 0 - get_or ks j 0)),
          rw (n, e) (quot-of-product (point_at ps j) (get_or ks (j + m) 0 - get_or ks j 0) (omega (arith, w.low, w.high))),
        )

    given-at : (j : ℕ) → j ≤ count → inserted_point m ks q v (insertion_span ks v) j ≡ point_at ps j
    given-at j k =
        either (insertion_span ks v) (j + m)
        (λ a. either (insertion_span ks v) j
        (λ behind.
        let back : j - 1 + 1 ≡ j = omega arith in
        point-right m ks q v (insertion_span ks v) j behind
        ∙ right (j - 1) (omega arith) (omega arith) ∙ ap (λ (n : ℕ). point_at ps n) back)
        (λ b. point-quotient m ks q v (insertion_span ks v) j a b ∙ (one-whole j a b).1))
        (λ before. point-left m ks q v (insertion_span ks v) j before ∙ left j before)

    pub reinserts-of-sides : ((j : ℕ) → nat_abs (point_at q j) ≤ coordinate_most) → AxisReinserts m ks q v ps
    reinserts-of-sides range =
        record {
          count = same;
          range = range;
          whole = whole-of-each m ks q v reduced-least (λ j a b. (one-whole j a b).0);
          points =
              ext_get_or (pos 0) (inserted_points m ks q v) ps (inserted_points-length m ks q v ∙ same)
              (λ j inside. inserted_points-at m ks q v j (omega (arith, inserted_points-length m ks q v)) ∙ given-at j (omega (arith, inserted_points-length m ks q v)));
        }
