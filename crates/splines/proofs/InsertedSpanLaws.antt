-- Inserting a knot keeps the exact point: the domain stays, the span of t in the new knots lies in the span of t in the old
-- ones, and so the curve at t is the same before and after. The span is the one of the span rule, the right end included.
-- Others may cite `inserted-domain`, `old_span-is-span`, `insertion-keeps-point`.
use mathlib.Core.Path.{◌≡◌, ap, sym, ◌∙◌, subst, subst₂}
use mathlib.Core.Logic.{⊎_elim}
use Prim.Native.Nat.{ℕ, suc, ◌+◌, ◌-◌, ◌≤◌, ◌<◌}
use native.Mathlib.Omega.{arith}
use Rattle.algebra.specs.OrderedField.{OrderedField, AtMost, Below}
use Rattle.algebra.proofs.OrderLaws as Order
use Rattle.splines.specs.Basis.{curve_at}
use Rattle.splines.specs.Span.{Rising, SpanRule}
use Rattle.splines.specs.Insertion.{inserted_knots, inserted_points, old_span}
use Rattle.splines.proofs.InsertedLaws.{Place, before, inserted, after, place, knot-before, knot-inserted, knot-after}
use Rattle.splines.proofs.InsertedLaws.{old_span-before, old_span-after, old_span-from, old_span-rising, old_span-up-to}
use Rattle.splines.proofs.InsertionLaws.{insertion-keeps-curve}

module _ (F : OrderedField) where
  open F use {operations as O}
  open O use {Number}

  -- the span rule leaves no choice
  pub span-unique : (ts : ℕ → Number) (m n : ℕ) (t : Number) (i j : ℕ) → SpanRule F ts m n t i → SpanRule F ts m n t j → i ≡ j
  span-unique ts m n t i j p q =
      let a : i ≤ j = q.largest i p.to p.starts p.wide in
      let b : j ≤ i = p.largest j q.to q.starts q.wide in
      omega arith

  module _ (ts : ℕ → Number) (m n k : ℕ) (v : Number) (mk : m ≤ k) (kn : k ≤ n)
      (above : AtMost F (ts k) v) (below : AtMost F v (ts (k + 1))) where
    abbrev knots : ℕ → Number
    knots = inserted_knots O ts k v

    -- the domain stays
    pub inserted-domain : (knots m ≡ ts m) × (knots (n + 2) ≡ ts (n + 1))
    inserted-domain = (knot-before F ts k v m mk, knot-after F ts k v (n + 2) (omega arith) ∙ ap ts (omega arith))

    -- a span of the new knots lies in one of the old: it starts no earlier ..
    old-starts : (i : ℕ) → AtMost F (ts (old_span k i)) (knots i)
    old-starts i = go (place k i)
      where
        go : Place k i → AtMost F (ts (old_span k i)) (knots i)
        go (before h) = rw (old_span-before k i h, knot-before F ts k v i h) (Order.AtMost-refl F (ts i))
        go (inserted h) = rw (old_span-after k i (omega arith), knot-inserted F ts k v i h, back) above
          where
            back : i - 1 ≡ k
            back = omega arith
        go (after h) = rw (old_span-after k i (omega arith), knot-after F ts k v i h) (Order.AtMost-refl F (ts (i - 1)))

    -- .. and ends no later
    old-ends : (i : ℕ) → AtMost F (knots (i + 1)) (ts (old_span k i + 1))
    old-ends i = go (place k (i + 1))
      where
        go : Place k (i + 1) → AtMost F (knots (i + 1)) (ts (old_span k i + 1))
        go (before h) =
            rw (old_span-before k i (omega arith), knot-before F ts k v (i + 1) h) (Order.AtMost-refl F (ts (i + 1)))
        go (inserted h) = rw (old_span-before k i (omega arith), knot-inserted F ts k v (i + 1) h, same) below
          where
            same : i ≡ k
            same = omega arith
        go (after h) =
            rw (old_span-after k i (omega arith), knot-after F ts k v (i + 1) h, same) (Order.AtMost-refl F (ts (i - 1 + 1)))
          where
            same : i + 1 - 1 ≡ i - 1 + 1
            same = omega arith

    -- an old span that may hold t has in it a new one that may
    record Refined (t : Number) (j : ℕ) : Type 0 where
      index : ℕ
      old : old_span k index ≡ j
      near : index ≤ j + 1
      starts : AtMost F (knots index) t
      wide : Below F (knots index) (knots (index + 1))

    refined : (t : Number) (j : ℕ) → AtMost F (ts j) t → Below F (ts j) (ts (j + 1)) → Refined t j
    refined t j low some = go (place k (j + 1))
      where
        at : (i : ℕ) (x y : Number) → old_span k i ≡ j → i ≤ j + 1 → knots i ≡ x → knots (i + 1) ≡ y
            → AtMost F x t → Below F x y → Refined t j
        at i x y o near p q a b =
            record {
              index = i;
              old = o;
              near = near;
              starts = subst (λ z. AtMost F z t) (sym p) a;
              wide = subst₂ (λ z w. Below F z w) (sym p) (sym q) b;
            }

        next : k < j + 1 → old_span k (j + 1) ≡ j
        next h = old_span-after k (j + 1) h ∙ omega arith

        knot-next : (w : ℕ) → k < w → knots (w + 1) ≡ ts w
        knot-next w h = knot-after F ts k v (w + 1) (omega arith) ∙ ap ts (omega arith)

        left : j ≤ k → (y : Number) → knots (j + 1) ≡ y → Below F (ts j) y → Refined t j
        left h y q b = at j (ts j) y (old_span-before k j h) (omega arith) (knot-before F ts k v j h) q low b

        go : Place k (j + 1) → Refined t j
        go (before h) = left (omega arith) (ts (j + 1)) (knot-before F ts k v (j + 1) h) some
        go (inserted h) =
            ⊎_elim
            (λ p.
            at (j + 1) v (ts (j + 1)) (next (omega arith)) (omega arith) (knot-inserted F ts k v (j + 1) h)
            (knot-next (j + 1) (omega arith)) (Order.AtMost-trans F v (ts j) t p low)
            (Order.AtMost-below-trans F v (ts j) (ts (j + 1)) p some))
            (left (omega arith) v (knot-inserted F ts k v (j + 1) h))
            (Order.order-cases F v (ts j))
        go (after h) =
            at (j + 1) (ts j) (ts (j + 1)) (next (omega arith)) (omega arith) (knot-next j (omega arith))
            (knot-next (j + 1) (omega arith)) low some

    -- the span of t in the new knots lies in the span of t in the old ones
    pub old_span-is-span : (t : Number) (i : ℕ) → SpanRule F knots m (n + 1) t i → SpanRule F ts m n t (old_span k i)
    old_span-is-span t i span =
        record {
          from = old_span-from k i m span.from mk;
          to = old_span-up-to k i n span.to kn;
          starts = Order.AtMost-trans F _ (knots i) t (old-starts i) span.starts;
          wide =
              Order.below-AtMost-trans F _ (knots (i + 1)) _
              (Order.AtMost-below-trans F _ (knots i) _ (old-starts i) span.wide) (old-ends i);
          largest = λ j h low some. largest j h (refined t j low some);
        }
      where
        largest : (j : ℕ) → j ≤ n → Refined t j → j ≤ old_span k i
        largest j h r =
            subst (λ x. x ≤ old_span k i) r.old
            (old_span-rising k r.index i (span.largest r.index (omega (arith, r.near)) r.starts r.wide))

    -- the exact point at t is the same before and after
    pub insertion-keeps-point : (ps : ℕ → Number) (last count : ℕ) → Rising F ts last → n + m ≤ last → n < count
        → (t : Number) (i j : ℕ) → SpanRule F knots m (n + 1) t i → SpanRule F ts m n t j
        → curve_at O knots (inserted_points O ts ps m k v) m (suc count) i t ≡ curve_at O ts ps m count j t
    insertion-keeps-point ps last count rising ends within t i j new old =
        insertion-keeps-curve F ts last k v rising (omega arith) above below ps m i t new.from new.wide
        (omega (arith, old_span-up-to k i n new.to kn)) count mk (omega (arith, old_span-up-to k i n new.to kn))
        ∙ ap (λ q. curve_at O ts ps m count q t) (span-unique ts m n t (old_span k i) j (old_span-is-span t i new) old)
