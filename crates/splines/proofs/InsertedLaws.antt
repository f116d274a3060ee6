-- The knots and control numbers after v is inserted behind index k, place by place; the new knots never fall; and the span
-- of the old knots that holds a span of the new ones.
-- Others may cite `knot-before`, `knot-inserted`, `knot-after`, `point-before`, `point-between`, `point-after`,
-- `inserted_rising` and the laws of `old_span`.
use mathlib.Core.Path.{◌≡◌, sym, subst₂}
use Prim.Native.Nat.{ℕ, suc, ◌+◌, ◌-◌, ◌≤◌, ◌<◌}
use native.Mathlib.Omega.{arith}
use native.Mathlib.Decide.{dec_le, ℕ_discrete}
use borrow.Author.Tests.{le-leb, lt-leb, eq-eqb, ne_eqb}
use Rattle.algebra.specs.OrderedField.{OrderedField, AtMost}
use Rattle.algebra.proofs.OrderLaws as Order
use Rattle.splines.specs.Triangle.{cell}
use Rattle.splines.specs.Span.{Rising}
use Rattle.splines.specs.Insertion.{inserted_knots, inserted_points, old_span}

-- where an index stands: up to k, at the inserted knot, behind it
pub data Place (k j : ℕ) : Type 0 where
  before : j ≤ k → Place k j
  inserted : j ≡ k + 1 → Place k j
  after : k + 1 < j → Place k j

pub place : (k j : ℕ) → Place k j
place k j =
    elim (dec_le j k) [
      | yes h ↦ before h
      | no h ↦ elim (ℕ_discrete j (k + 1)) [ yes e ↦ inserted e | no e ↦ after (omega arith) ]
    ]

pub old_span-before : (k i : ℕ) → i ≤ k → old_span k i ≡ i
unfolding old_span
old_span-before k i h = rw (le-leb i k h)

pub old_span-after : (k i : ℕ) → k < i → old_span k i ≡ i - 1
unfolding old_span
old_span-after k i h = rw (lt-leb i k h)

pub old_span-near : (k i : ℕ) → i ≤ old_span k i + 1
old_span-near k i =
    elim (dec_le i k) [
      | yes h ↦ rw (old_span-before k i h) (omega arith)
      | no h ↦ rw (old_span-after k i (omega arith)) (omega arith)
    ]

pub old_span-from : (k i j : ℕ) → j ≤ i → j ≤ k → j ≤ old_span k i
old_span-from k i j h l =
    elim (dec_le i k) [
      | yes p ↦ rw (old_span-before k i p) h
      | no p ↦ rw (old_span-after k i (omega arith)) (omega arith)
    ]

pub old_span-up-to : (k i n : ℕ) → i ≤ n + 1 → k ≤ n → old_span k i ≤ n
old_span-up-to k i n h l =
    elim (dec_le i k) [
      | yes p ↦ rw (old_span-before k i p) (omega arith)
      | no p ↦ rw (old_span-after k i (omega arith)) (omega arith)
    ]

pub old_span-rising : (k i j : ℕ) → i ≤ j → old_span k i ≤ old_span k j
old_span-rising k i j h =
    elim (dec_le i k) [
      | yes p ↦ rw (old_span-before k i p) (old_span-from k j i h p)
      | no p ↦ rw (old_span-after k i (omega arith), old_span-after k j (omega arith)) (omega arith)
    ]

module _ (F : OrderedField) where
  open F use {operations as O}
  open O use {Number}

  module _ (ts : ℕ → Number) (k : ℕ) (v : Number) where
    -- the new knots, place by place
    pub knot-before : (j : ℕ) → j ≤ k → inserted_knots O ts k v j ≡ ts j
    unfolding inserted_knots
    knot-before j h = rw (le-leb j k h)

    pub knot-inserted : (j : ℕ) → j ≡ k + 1 → inserted_knots O ts k v j ≡ v
    unfolding inserted_knots
    knot-inserted j h = rw (lt-leb j k (omega arith), eq-eqb j (k + 1) h)

    pub knot-after : (j : ℕ) → k + 1 < j → inserted_knots O ts k v j ≡ ts (j - 1)
    unfolding inserted_knots
    knot-after j h = rw (lt-leb j k (omega arith), ne_eqb j (k + 1) (λ e. omega arith))

    -- the new control numbers, place by place
    module _ (ps : ℕ → Number) (m : ℕ) where
      pub point-before : (j : ℕ) → j + m ≤ k → inserted_points O ts ps m k v j ≡ ps j
      unfolding inserted_points
      point-before j h = rw (le-leb (j + m) k h)

      pub point-between : (j : ℕ) → k < j + m → j ≤ k
          → inserted_points O ts ps m k v j ≡ cell O (ts (j + m)) v (ts j) (ps (j - 1)) (ps j)
      unfolding inserted_points
      point-between j h l = rw (lt-leb (j + m) k h, le-leb j k l)

      pub point-after : (j : ℕ) → k < j → inserted_points O ts ps m k v j ≡ ps (j - 1)
      unfolding inserted_points
      point-after j h = rw (lt-leb (j + m) k (omega arith), lt-leb j k h)

  module _ (ts : ℕ → Number) (last k : ℕ) (v : Number) (rising : Rising F ts last) (inside : k ≤ last)
      (above : AtMost F (ts k) v) (below : AtMost F v (ts (k + 1))) where
    abbrev knots : ℕ → Number
    knots = inserted_knots O ts k v

    -- the new knots never fall
    pub inserted_rising : Rising F knots (suc last)
    inserted_rising a b h l = go (place k a) (place k b)
      where
        carried : {x y : Number} → knots a ≡ x → knots b ≡ y → AtMost F x y → AtMost F (knots a) (knots b)
        carried p q r = subst₂ (λ x y. AtMost F x y) (sym p) (sym q) r

        go : Place k a → Place k b → AtMost F (knots a) (knots b)
        go (before p) (before q) = carried (knot-before ts k v a p) (knot-before ts k v b q) (rising a b h (omega arith))
        go (before p) (inserted q) =
            carried (knot-before ts k v a p) (knot-inserted ts k v b q)
            (Order.AtMost-trans F (ts a) (ts k) v (rising a k p inside) above)
        go (before p) (after q) =
            carried (knot-before ts k v a p) (knot-after ts k v b q) (rising a (b - 1) (omega arith) (omega arith))
        go (inserted p) (before q) = absurd (omega arith)
        go (inserted p) (inserted q) =
            carried (knot-inserted ts k v a p) (knot-inserted ts k v b q) (Order.AtMost-refl F v)
        go (inserted p) (after q) =
            carried (knot-inserted ts k v a p) (knot-after ts k v b q)
            (Order.AtMost-trans F v (ts (k + 1)) (ts (b - 1)) below (rising (k + 1) (b - 1) (omega arith) (omega arith)))
        go (after p) (before q) = absurd (omega arith)
        go (after p) (inserted q) = absurd (omega arith)
        go (after p) (after q) =
            carried (knot-after ts k v a p) (knot-after ts k v b q) (rising (a - 1) (b - 1) (omega arith) (omega arith))
