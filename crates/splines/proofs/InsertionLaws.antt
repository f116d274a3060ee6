-- Inserting a knot keeps the curve, on every span and in any degree. Inserting goes along with each row of the triangle:
-- row r of the new triangle is row r of the old one with v inserted in degree m-r. Nothing is asked of t but the span.
-- Others may cite `insertion-keeps-triangle`, `insertion-keeps-curve`.
use mathlib.Core.Path.{◌≡◌, ap, ap₂, sym, ◌∙◌, fun_ext, subst, subst₂}
use Prim.Native.Nat.{ℕ, zero, suc, ◌+◌, ◌-◌, ◌≤◌, ◌<◌}
use native.Mathlib.Omega.{arith}
use native.Mathlib.Decide.{dec_le}
use Rattle.algebra.specs.OrderedField.{OrderedField, AtMost, Below}
use Rattle.algebra.proofs.OrderLaws as Order
use Rattle.splines.specs.Basis.{curve_at}
use Rattle.splines.specs.Triangle.{cell, entry}
use Rattle.splines.specs.Span.{Rising}
use Rattle.splines.specs.Insertion.{inserted_knots, inserted_points, old_span}
use Rattle.splines.proofs.SpanLaws.{apart-round}
use Rattle.splines.proofs.TriangleLaws.{row, entry-step, triangle-is-curve}
use Rattle.splines.proofs.CellLaws.{cells-exchange, cell-cut-high, cell-cut-low}
use Rattle.splines.proofs.InsertedLaws.{Place, before, inserted, after, place, inserted_rising}
use Rattle.splines.proofs.InsertedLaws.{knot-before, knot-inserted, knot-after, point-before, point-between, point-after}
use Rattle.splines.proofs.InsertedLaws.{old_span-before, old_span-after, old_span-near, old_span-from}

module _ (F : OrderedField) where
  open F use {operations as O}
  open O use {Number}

  module _ (ts : ℕ → Number) (last k : ℕ) (v : Number) (rising : Rising F ts last) (inside : k ≤ last)
      (above : AtMost F (ts k) v) (below : AtMost F v (ts (k + 1))) where
    abbrev knots : ℕ → Number
    knots = inserted_knots O ts k v

    -- inserting goes along with a row of the triangle
    module _ (t : Number) (d : ℕ → Number) (s j : ℕ) (some : 0 < j) (apart : Below F (knots j) (knots (j + suc s)))
        (ends : j ≤ k → j + suc s ≤ last) where
      abbrev Kept : Type 0
      Kept = row F knots t (inserted_points O ts d (suc s) k v) s j ≡ inserted_points O ts (row F ts t d s) s k v j

      -- a cell over equal knots and equal entries
      same : {w upper low lower l left r right : Number} → w ≡ upper → low ≡ lower → l ≡ left → r ≡ right
          → cell O w t low l r ≡ cell O upper t lower left right
      same p q x y = λ i. cell O (p i) t (q i) (x i) (y i)

      apart-at : {x y : Number} → knots j ≡ x → knots (j + suc s) ≡ y → Below F x y
      apart-at p q = subst₂ (λ x y. Below F x y) p q apart

      -- the row ends before the inserted knot ..
      row_before : j + suc s ≤ k → Kept
      row_before h =
          same (knot-before F ts k v _ h) (knot-before F ts k v j (omega arith))
          (point-before F ts k v d (suc s) (j - 1) (omega arith)) (point-before F ts k v d (suc s) j h)
          ∙ sym (point-before F ts k v (row F ts t d s) s j (omega arith))

      -- .. or at it ..
      row-up-to : j + suc s ≡ k + 1 → Kept
      row-up-to h =
          same stop start
          (point-before F ts k v d (suc s) (j - 1) (omega arith))
          (point-between F ts k v d (suc s) j (omega arith) (omega arith))
          ∙ cell-cut-high F (ts j) v (ts (j + suc s)) t (d (j - 1)) (d j) near far
          ∙ sym (point-before F ts k v (row F ts t d s) s j (omega arith))
        where
          stop : knots (j + suc s) ≡ v
          stop = knot-inserted F ts k v _ h

          start : knots j ≡ ts j
          start = knot-before F ts k v j (omega arith)

          near : Below F (ts j) v
          near = apart-at start stop

          far : Below F (ts j) (ts (j + suc s))
          far = Order.below-AtMost-trans F (ts j) v _ near (subst (λ w. AtMost F v (ts w)) (sym h) below)

      -- .. or behind it: then it begins before that knot, at it or behind it
      module _ (h : k + 1 < j + suc s) where
        stop : knots (j + suc s) ≡ ts (j + s)
        stop = knot-after F ts k v _ h ∙ ap ts back
          where
            back : j + suc s - 1 ≡ j + s
            back = omega arith

        -- the left neighbour's upper knot
        neighbour : (x : Number) → cell O (ts (j - 1 + suc s)) x (ts (j - 1)) (d (j - 1 - 1)) (d (j - 1))
            ≡ cell O (ts (j + s)) x (ts (j - 1)) (d (j - 1 - 1)) (d (j - 1))
        neighbour x = ap (λ w. cell O (ts w) x (ts (j - 1)) (d (j - 1 - 1)) (d (j - 1))) back
          where
            back : j - 1 + suc s ≡ j + s
            back = omega arith

        row-across : j ≤ k → Kept
        row-across l =
            same stop start
            (point-between F ts k v d (suc s) (j - 1) (omega arith) (omega arith) ∙ neighbour v)
            (point-between F ts k v d (suc s) j (omega arith) l)
            ∙ cells-exchange F (ts j) (ts (j + s)) (ts (j - 1)) (ts (j + suc s)) t v _ _ _
            (Order.AtMost-below-trans F _ (ts j) _ (rising (j - 1) j (omega arith) (omega arith)) (apart-at start stop))
            (Order.below-AtMost-trans F _ (ts (j + s)) _ (apart-at start stop) (rising (j + s) (j + suc s) (omega arith) (ends l)))
            ∙ ap (λ x. cell O (ts (j + s)) v (ts j) x (row F ts t d s j)) (sym (neighbour t))
            ∙ sym (point-between F ts k v (row F ts t d s) s j (omega arith) l)
          where
            start : knots j ≡ ts j
            start = knot-before F ts k v j l

        row_from : j ≡ k + 1 → Kept
        row_from e =
            same stop start
            (point-between F ts k v d (suc s) (j - 1) (omega arith) (omega arith) ∙ neighbour v)
            (point-after F ts k v d (suc s) j (omega arith))
            ∙ cell-cut-low F (ts (j - 1)) v (ts (j + s)) t _ _ (apart-at start stop)
            (Order.AtMost-below-trans F _ v _ (subst (λ w. AtMost F (ts w) v) back above) (apart-at start stop))
            ∙ sym (neighbour t)
            ∙ sym (point-after F ts k v (row F ts t d s) s j (omega arith))
          where
            start : knots j ≡ v
            start = knot-inserted F ts k v j e

            back : k ≡ j - 1
            back = omega arith

        row-after : k + 1 < j → Kept
        row-after l =
            same stop (knot-after F ts k v j l)
            (point-after F ts k v d (suc s) (j - 1) (omega arith)) (point-after F ts k v d (suc s) j (omega arith))
            ∙ sym (neighbour t)
            ∙ sym (point-after F ts k v (row F ts t d s) s j (omega arith))

      row_kept : Kept
      row_kept = go (place k (j + suc s)) (place k j)
        where
          go : Place k (j + suc s) → Place k j → Kept
          go (before h) p = row_before h
          go (inserted h) p = row-up-to h
          go (after h) (before l) = row-across h l
          go (after h) (inserted e) = row_from h e
          go (after h) (after l) = row-after h l

    -- span i of the new knots, and the span of the old ones that holds it
    module _ (ps : ℕ → Number) (m i : ℕ) (t : Number) (mi : m ≤ i) (some : Below F (knots i) (knots (i + 1)))
        (ends : old_span k i + m ≤ last) where
      abbrev points : ℕ → Number
      points = inserted_points O ts ps m k v

      -- row r of the new triangle: row r of the old one, with v inserted in degree s = m - r
      rows-kept : (r s j : ℕ) → r + s ≡ m → i + r ≤ j + m → j ≤ i
          → entry O knots points m t r j ≡ inserted_points O ts (entry O ts ps m t r) s k v j
      unfolding entry
      rows-kept zero s j e h l = ap (λ q. inserted_points O ts ps q k v j) same
        where
          same : m ≡ s
          same = omega arith
      rows-kept (suc r) s j e h l =
          entry-step F knots t points m r s j e
          ∙ ap₂ (cell O (knots (j + suc s)) t (knots j))
          (rows-kept r (suc s) (j - 1) (omega arith) (omega arith) (omega arith))
          (rows-kept r (suc s) j (omega arith) (omega arith) l)
          ∙ row_kept t (entry O ts ps m t r) s j (omega arith)
          (apart-round F knots (suc last) i (inserted_rising F ts last k v rising inside above below) some j (j + suc s) l
          (omega arith) (omega (arith, old_span-near k i)))
          (λ p. omega (arith, old_span-from k i j l p))
          ∙ ap (λ d. inserted_points O ts d s k v j) (fun_ext (λ j. sym (entry-step F ts t ps m r s j e)))

      pub insertion-keeps-triangle : entry O knots points m t m i ≡ entry O ts ps m t m (old_span k i)
      insertion-keeps-triangle =
          rows-kept m 0 i (omega arith) (omega arith) (omega arith)
          ∙ elim (dec_le i k) [
            | yes h ↦ point-before F ts k v last_row 0 i (omega arith) ∙ ap last_row (sym (old_span-before k i h))
            | no h ↦ point-after F ts k v last_row 0 i (omega arith) ∙ ap last_row (sym (old_span-after k i (omega arith)))
          ]
        where
          last_row : ℕ → Number
          last_row = entry O ts ps m t m

      -- the curve over the new knots on span i is the curve over the old ones on the span that holds it
      pub insertion-keeps-curve : (count : ℕ) → m ≤ k → old_span k i < count
          → curve_at O knots points m (suc count) i t ≡ curve_at O ts ps m count (old_span k i) t
      insertion-keeps-curve count mk within =
          sym (triangle-is-curve F knots t i (suc count) (omega (arith, old_span-near k i)) points m mi)
          ∙ insertion-keeps-triangle
          ∙ triangle-is-curve F ts t (old_span k i) count within ps m (old_span-from k i m mi mk)
