-- A walk from the left, point by point: each is the one that any list must have which gives the old coordinates back.
use mathlib.Core.Bool.{true, false, true≢false}
use mathlib.Core.List.{List}
use mathlib.Core.Path.{◌≡◌, sym, ap, ◌∙◌}
use Prim.Native.Nat.{ℕ, ◌+◌, ◌-◌, ◌≤◌, ◌<◌}
use native.Mathlib.Omega.{arith}
use lib.IntN.{ℤ, pos, nat_abs, ◌*ℤ◌}
use lib.ListN.{length, get_or, set, length-set}
use lib.Seq.{get_or-set_same, get_or-set_other}
use lib.Signed.{quot_z}
use Rattle.grid.specs.Limits.{coordinate_most}
use Rattle.grid.specs.Rows.{on_grid}
use Rattle.refusal.proofs.JudgingLaws.{both}
use Rattle.signed.specs.Division.{divides}
use Rattle.signed.proofs.DivisionLaws.{quot-of-product, product-divides, product-of-quot}
use Rattle.insertion.specs.Insertion.{insertion_span, point_at, weighted_sum}
use Rattle.insertion.specs.Standing.{Weighed}
use Rattle.insertion.proofs.OrderLaws.{either}
use Rattle.insertion.proofs.CheckedLaws.{size-of-grid, grid-of-size}
use Rattle.removal.specs.Axis.{Reduced, AxisReinserts, left_for}
use Rattle.removal_walk.specs.Walk.{is_point, FarEnd, Walked}
use Rattle.removal.proofs.EquationLaws.{reinserts-left, reinserts-rest, gives-of-rest, reduced-least, reduced-most, reduced-weighed}

-- what makes a point: the divisor goes into it, and the quotient is on the grid
module _ (d : ℕ) (z : ℤ) (fits : is_point d z ≡ true) where
  point-whole : divides (pos d) z ≡ true
  point-whole = (both (divides (pos d) z) (on_grid (quot_z z (pos d))) fits).0

  pub point-size : nat_abs (quot_z z (pos d)) ≤ coordinate_most
  point-size = size-of-grid (quot_z z (pos d)) (both (divides (pos d) z) (on_grid (quot_z z (pos d))) fits).1

-- the walk has come to j on its way to `far`, and `last` is the point before j
pub record Walking (m : ℕ) (ks : List ℕ) (v : ℕ) (ps list : List ℤ) (far : ℕ) (last : ℤ) (j : ℕ) : Type 0 where
  pub size : length list + 1 ≡ length ps
  pub from : insertion_span ks v < j + m
  pub to : j ≤ far
  pub newest : last ≡ point_at list (j - 1)
  pub walked : Walked m ks v ps list j

module _ (m : ℕ) (ks : List ℕ) (v : ℕ) (ps : List ℤ) (far : ℕ) (s : Reduced m ks (length ps - 1) v) (end : FarEnd m ks v far) where
  -- the walk starts at P_{i-m}
  pub walk-starts : (before : List ℤ) → length before + 1 ≡ length ps
      → Walking m ks v ps (set before (insertion_span ks v - m) (point_at ps (insertion_span ks v - m))) far (point_at ps (insertion_span ks v - m)) (insertion_span ks v - m + 1)
  walk-starts before room =
      let least = reduced-least m ks v (length ps - 1) s in
      let most = reduced-most m ks v (length ps - 1) s in
      let stored = get_or-set_same before (insertion_span ks v - m) (point_at ps (insertion_span ks v - m)) (pos 0) (omega arith) in
      let back : insertion_span ks v - m + 1 - 1 ≡ insertion_span ks v - m = omega arith in
      record {
        size = rw (length-set before (insertion_span ks v - m) (point_at ps (insertion_span ks v - m))) room;
        from = omega (arith, least);
        to = omega (arith, least, end.from);
        newest = rw (back, stored);
        walked = record {
          start = stored;
          gives = λ j a b. absurd (omega arith);
          range = λ j a b. absurd (omega arith);
          only = λ p h j a b.
              let same : j ≡ insertion_span ks v - m = omega arith in
              rw (same, stored) (reinserts-left m ks v (length ps - 1) s p ps (omega arith) h (insertion_span ks v - m) (omega arith));
        };
      }

  -- the walk stands at j, short of its far end
  module _ (list : List ℤ) (last : ℤ) (j : ℕ) (at : Walking m ks v ps list far last j) (short : j < far) where
    inside : j < length list
    inside = omega (arith, at.size, end.to, reduced-most m ks v (length ps - 1) s)

    -- the divisor is above zero
    divisor : get_or ks j 0 < v
    divisor = end.below j at.from short

    -- the equation at j can be formed
    pub walk-weighed : Weighed m ks (length ps) v j
    walk-weighed =
        let w = reduced-weighed m ks v (length ps - 1) s j at.from (omega (arith, end.to)) in
        record { low = w.low; high = w.high; knot = w.knot; first = w.first; point = omega (arith, w.point) }

    -- what is left at j, for any list that gives the old coordinates back
    rest_of : (p : List ℤ) → AxisReinserts m ks p v ps → left_for m ks ps v j last ≡ point_at p j *ℤ pos (v - get_or ks j 0)
    rest_of p h =
        ap (left_for m ks ps v j)
        (at.newest ∙ sym (at.walked.only p h (j - 1) (omega (arith, at.from)) (omega (arith, at.from, reduced-least m ks v (length ps - 1) s))))
        ∙ reinserts-rest m ks v (length ps - 1) s p ps (omega arith) h j at.from (omega (arith, end.to))

    -- it is whole and on the grid: the walk goes on
    module _ (z : ℤ) (here : z ≡ quot_z (left_for m ks ps v j last) (pos (v - get_or ks j 0))) (fits : is_point (v - get_or ks j 0) (left_for m ks ps v j last) ≡ true) where
      product : left_for m ks ps v j last ≡ z *ℤ pos (v - get_or ks j 0)
      product = sym (product-of-quot (left_for m ks ps v j last) (v - get_or ks j 0) (point-whole (v - get_or ks j 0) (left_for m ks ps v j last) fits)) ∙ ap (λ (x : ℤ). x *ℤ pos (v - get_or ks j 0)) (sym here)

      small : nat_abs z ≤ coordinate_most
      small = rw here (point-size (v - get_or ks j 0) (left_for m ks ps v j last) fits)

      newer : point_at (set list j z) j ≡ z
      newer = get_or-set_same list j z (pos 0) inside

      older : (k : ℕ) → k < j → point_at (set list j z) k ≡ point_at list k
      older k h = get_or-set_other list j k z (pos 0) (λ e. omega arith)

      pub walk-goes-on : Walking m ks v ps (set list j z) far z (j + 1)
      unfolding weighted_sum
      walk-goes-on =
          let least = reduced-least m ks v (length ps - 1) s in
          let back : j + 1 - 1 ≡ j = omega arith in
          let w = at.walked in
          record {
            size = rw (length-set list j z) at.size;
            from = omega (arith, at.from);
            to = omega arith;
            newest = rw (back, newer);
            walked = record {
              start = older (insertion_span ks v - m) (omega (arith, at.from)) ∙ w.start;
              gives = λ k a b. either k j
                  (λ less. rw (older k less, older (k - 1) (omega arith)) (w.gives k a less))
                  (λ more.
                  let same : k ≡ j = omega arith in
                  rw same
                  (gives-of-rest m ks v (length ps - 1) s (set list j z) ps j at.from (omega (arith, end.to))
                  (rw (newer, older (j - 1) (omega (arith, at.from)), ← at.newest) product)));
              range = λ k a b. either k j
                  (λ less. rw (older k less) (w.range k a less))
                  (λ more. let same : k ≡ j = omega arith in rw (same, newer) small);
              only = λ p h k a b. either k j
                  (λ less. rw (older k less) (w.only p h k a less))
                  (λ more.
                  let same : k ≡ j = omega arith in
                  rw (same, newer, here, rest_of p h) (sym (quot-of-product (point_at p j) (v - get_or ks j 0) (omega (arith, divisor)))));
            };
          }

    -- it is not: no list gives the old coordinates back
    pub walk-stops : is_point (v - get_or ks j 0) (left_for m ks ps v j last) ≡ false → (p : List ℤ) → AxisReinserts m ks p v ps → ⊥
    walk-stops off p h =
        true≢false
        (sym (rw (
          rest_of p h,
          product-divides (point_at p j) (v - get_or ks j 0),
          quot-of-product (point_at p j) (v - get_or ks j 0) (omega (arith, divisor)),
        ) (grid-of-size (point_at p j) (h.range j)))
        ∙ off)
