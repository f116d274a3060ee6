-- Steps at an end keep the order of the knots and the curve on every span of the domain that is not empty. Nothing is asked of
-- the parameter. Others may cite `on`, `span-stays`, `started-rising`, `started-keeps`, `ended-rising`, `ended-keeps`.
use mathlib.Core.Path.{◌≡◌, refl, ap, sym, ◌∙◌, subst₂}
use Prim.Native.Nat.{ℕ, zero, suc, ◌+◌, ◌≤◌, ◌<◌}
use native.Mathlib.Omega.{arith}
use Rattle.algebra.specs.OrderedField.{OrderedField, Below}
use Rattle.algebra.proofs.OrderLaws as Order
use Rattle.splines.specs.Triangle.{entry}
use Rattle.splines.specs.Span.{Rising}
use Rattle.splines.specs.Insertion.{inserted_knots, inserted_points, old_span}
use Rattle.splines.proofs.InsertedLaws.{inserted_rising, old_span-before, old_span-after}
use Rattle.splines.proofs.InsertionLaws.{insertion-keeps-triangle}
use Rattle.end_rows.specs.Steps.{Spline, steps, step_start, step_end, started, ended}
use Rattle.end_rows.proofs.StepKnots.{start-knot-inside, end-knot-inside}
use Rattle.end_rows.proofs.EntryLaws.{entry-shift}

module _ (F : OrderedField) where
  open F use {operations as O}
  open O use {Number}

  -- the curve on span i
  abbrev pub on : (m : ℕ) (t : Number) (i : ℕ) → Spline O → Number
  on m t i c = entry O c.knots c.points m t m i

  -- a span whose two knots stay is not empty if it was not
  pub span-stays : (ts us : ℕ → Number) (i : ℕ) → us i ≡ ts i → us (i + 1) ≡ ts (i + 1) → Below F (ts i) (ts (i + 1))
      → Below F (us i) (us (i + 1))
  span-stays ts us i p q h = subst₂ (λ x y. Below F x y) (sym p) (sym q) h

  module _ (m last : ℕ) (room : m < last) where
    -- one step at the start
    module _ (c : Spline O) (rising : Rising F c.knots last) where
      abbrev v : Number
      v = c.knots m

      step-start-rising : Rising F (step_start O m c).knots last
      step-start-rising a b h l =
          inserted_rising F c.knots last m v rising (omega arith) (Order.AtMost-refl F v)
          (rising m (m + 1) (omega arith) (omega arith)) (a + 1) (b + 1) (omega arith) (omega arith)

      step-start-keeps : (t : Number) (i : ℕ) → m ≤ i → i + m ≤ last
          → Below F ((step_start O m c).knots i) ((step_start O m c).knots (i + 1)) → on m t i (step_start O m c) ≡ on m t i c
      step-start-keeps t i mi ends some =
          entry-shift O m t (inserted_knots O c.knots m v) (inserted_points O c.knots c.points m m v) m i mi (omega arith)
          ∙ insertion-keeps-triangle F c.knots last m v rising (omega arith) (Order.AtMost-refl F v)
          (rising m (m + 1) (omega arith) (omega arith)) c.points m (i + 1) t (omega arith) some (rw old ends)
          ∙ ap (entry O c.knots c.points m t m) old
        where
          old : old_span m (i + 1) ≡ i
          old = old_span-after m (i + 1) (omega arith) ∙ omega arith

    module _ (c : Spline O) (rising : Rising F c.knots last) where
      pub started-rising : (r : ℕ) → Rising F (started O m r c).knots last
      unfolding steps
      started-rising zero = rising
      started-rising (suc r) = step-start-rising (started O m r c) (started-rising r)

      pub started-keeps : (r : ℕ) (t : Number) (i : ℕ) → m ≤ i → i + m ≤ last → Below F (c.knots i) (c.knots (i + 1))
          → on m t i (started O m r c) ≡ on m t i c
      unfolding steps
      started-keeps zero t i mi ends some = refl
      started-keeps (suc r) t i mi ends some =
          step-start-keeps (started O m r c) (started-rising r) t i mi ends
          (span-stays c.knots (started O m (suc r) c).knots i (start-knot-inside F c m (suc r) i mi)
          (start-knot-inside F c m (suc r) (i + 1) (omega arith)) some)
          ∙ started-keeps r t i mi ends some

  module _ (m n : ℕ) where
    -- one step at the end
    module _ (last : ℕ) (room : n < last) (c : Spline O) (rising : Rising F c.knots last) where
      abbrev w : Number
      w = c.knots (n + 1)

      step-end-rising : Rising F (step_end O m n c).knots (suc last)
      step-end-rising =
          inserted_rising F c.knots last n w rising (omega arith) (rising n (n + 1) (omega arith) (omega arith))
          (Order.AtMost-refl F w)

      step-end-keeps : (t : Number) (i : ℕ) → m ≤ i → i ≤ n → i + m ≤ last
          → Below F ((step_end O m n c).knots i) ((step_end O m n c).knots (i + 1)) → on m t i (step_end O m n c) ≡ on m t i c
      step-end-keeps t i mi up ends some =
          insertion-keeps-triangle F c.knots last n w rising (omega arith) (rising n (n + 1) (omega arith) (omega arith))
          (Order.AtMost-refl F w) c.points m i t mi some (rw old ends)
          ∙ ap (entry O c.knots c.points m t m) old
        where
          old : old_span n i ≡ i
          old = old_span-before n i up

    module _ (last : ℕ) (room : n < last) (c : Spline O) (rising : Rising F c.knots last) where
      pub ended-rising : (r : ℕ) → Rising F (ended O m n r c).knots (last + r)
      unfolding steps
      ended-rising zero a b h l = rising a b h (omega arith)
      ended-rising (suc r) a b h l =
          step-end-rising (last + r) (omega arith) (ended O m n r c) (ended-rising r) a b h (omega arith)

      pub ended-keeps : (r : ℕ) (t : Number) (i : ℕ) → m ≤ i → i ≤ n → i + m ≤ last → Below F (c.knots i) (c.knots (i + 1))
          → on m t i (ended O m n r c) ≡ on m t i c
      unfolding steps
      ended-keeps zero t i mi up ends some = refl
      ended-keeps (suc r) t i mi up ends some =
          step-end-keeps (last + r) (omega arith) (ended O m n r c) (ended-rising r) t i mi up (omega arith)
          (span-stays c.knots (ended O m n (suc r) c).knots i (end-knot-inside F c m n (suc r) i (omega arith))
          (end-knot-inside F c m n (suc r) (i + 1) (omega arith)) some)
          ∙ ended-keeps r t i mi up ends some
