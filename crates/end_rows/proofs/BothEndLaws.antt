-- Both ends clamped at once: the curve stays on every span of the domain that is not empty. Steps at both ends lead to the same
-- knots and the same curve in either order, so the points that carry a span are the same in either order; those at the start are
-- those of the clamped start, the others those of the clamped end. Others may cite `both-ends-keep`.
use mathlib.Core.Path.{◌≡◌, refl, ap, sym, ◌∙◌}
use Prim.Native.Nat.{ℕ, ◌+◌, ◌-◌, ◌≤◌}
use native.Mathlib.Omega.{arith}
use native.Mathlib.Decide.{dec_le}
use borrow.Author.Tests.{le-leb, lt-leb}
use Rattle.algebra.specs.OrderedField.{OrderedField, Below}
use Rattle.splines.specs.Triangle.{entry}
use Rattle.splines.specs.Span.{Rising}
use Rattle.span_points.proofs.SpanPointLaws.{span-fixes-points}
use Rattle.end_rows.specs.EndRows.{start_number, finish_number}
use Rattle.end_rows.specs.Steps.{Spline, started, ended}
use Rattle.end_rows.specs.BothEnds.{both_knots, both_points}
use Rattle.end_rows.proofs.EntryLaws.{entry-same}
use Rattle.end_rows.proofs.StepKnots.{start-knot-inside, end-knot-inside}
use Rattle.end_rows.proofs.StepCurve.{on, started-rising, started-keeps, ended-rising, ended-keeps, span-stays}
use Rattle.end_rows.proofs.EndRowLaws.{end_number-old}
use Rattle.end_rows.proofs.StepPoints.{started-points, ended-points}
use Rattle.end_rows.proofs.BothKnotLaws.{both-knot-inside, start-then-end, end-then-start, both-rising}

module _ (F : OrderedField) where
  open F use {operations as O}
  open O use {Number}

  module _ (c : Spline O) (m n last : ℕ) (rising : Rising F c.knots last) (room : m ≤ n) (ends : n + m + 1 ≤ last)
      (first : Below F (c.knots m) (c.knots (m + 1))) (final : Below F (c.knots n) (c.knots (n + 1))) where
    abbrev ts : ℕ → Number
    ts = c.knots

    abbrev ps : ℕ → Number
    ps = c.points

    abbrev start : Spline O
    start = started O m m c

    abbrev end : Spline O
    end = ended O m n m c

    -- one end, then the other
    abbrev start_end : Spline O
    start_end = ended O m n m start

    abbrev end_start : Spline O
    end_start = started O m m end

    start-rising : Rising F start.knots last
    start-rising = started-rising F m last (omega arith) c rising m

    end-rising : Rising F end.knots (last + m)
    end-rising = ended-rising F m n last (omega arith) c rising m

    start-span : (i : ℕ) → m ≤ i → Below F (ts i) (ts (i + 1)) → Below F (start.knots i) (start.knots (i + 1))
    start-span i mi some =
        span-stays F ts start.knots i (start-knot-inside F c m m i mi) (start-knot-inside F c m m (i + 1) (omega arith)) some

    end-span : (i : ℕ) → i ≤ n → Below F (ts i) (ts (i + 1)) → Below F (end.knots i) (end.knots (i + 1))
    end-span i up some =
        span-stays F ts end.knots i (end-knot-inside F c m n m i (omega arith))
        (end-knot-inside F c m n m (i + 1) (omega arith)) some

    -- clamping the end leaves the points up to n+1-m, and clamping the start those from m-1 on
    start-points : (j : ℕ) → j + m ≤ n + 1 → j ≤ n → start_end.points j ≡ start_number O ts ps m j
    start-points j h up =
        ended-points F start m n last start-rising room ends (start-span n room final) j up
        ∙ end_number-old O _ _ _ m (n - j) (omega arith)
        ∙ ap start.points back
        ∙ started-points F c m n last rising room ends first j up
      where
        back : n - (n - j) ≡ j
        back = omega arith

    end-points : (j : ℕ) → m ≤ j + 1 → j ≤ n → end_start.points j ≡ finish_number O ts ps m n j
    end-points j h up =
        started-points F end m n (last + m) end-rising room (omega arith) (end-span m room first) j up
        ∙ end_number-old O _ _ _ m j h
        ∙ ended-points F c m n last rising room ends final j up

    module _ (i : ℕ) (mi : m ≤ i) (up : i ≤ n) (some : Below F (ts i) (ts (i + 1))) where
      -- the curve on the knots with both ends clamped is the old one, with the points of either order
      start-end-keeps : (t : Number) → entry O (both_knots O ts m n) start_end.points m t m i ≡ on F m t i c
      start-end-keeps t =
          sym (entry-same O m t _ _ _ _ i mi (λ j h. start-then-end F c m n room j (omega arith)) (λ j h l. refl))
          ∙ ended-keeps F m n last (omega arith) start start-rising m t i mi up (omega arith) (start-span i mi some)
          ∙ started-keeps F m last (omega arith) c rising m t i mi (omega arith) some

      end-start-keeps : (t : Number) → entry O (both_knots O ts m n) end_start.points m t m i ≡ on F m t i c
      end-start-keeps t =
          sym (entry-same O m t _ _ _ _ i mi (λ j h. end-then-start F c m n room j (omega arith)) (λ j h l. refl))
          ∙ started-keeps F m (last + m) (omega arith) end end-rising m t i mi (omega arith) (end-span i up some)
          ∙ ended-keeps F m n last (omega arith) c rising m t i mi up (omega arith) some

      module _ (short : m + m ≤ n + 3) where
        -- so the points that carry the span are the same in either order
        same_points : (j : ℕ) → i ≤ j + m → j ≤ i → start_end.points j ≡ end_start.points j
        same_points =
            span-fixes-points F (both_knots O ts m n) start_end.points end_start.points m i
            (λ a b h l. both-rising F c m n room last rising ends a b h (omega arith)) mi
            (span-stays F ts (both_knots O ts m n) i (both-knot-inside F c m n room i mi (omega arith))
            (both-knot-inside F c m n room (i + 1) (omega arith) (omega arith)) some)
            (λ t low high. start-end-keeps t ∙ sym (end-start-keeps t))

        carrying : (j : ℕ) → i ≤ j + m → j ≤ i → both_points O ts ps m n j ≡ start_end.points j
        unfolding both_points
        carrying j h l =
            elim (dec_le (j + 2) m) [
              | yes p ↦ rw (le-leb (j + 2) m p) (sym (start-points j (omega arith) (omega arith)))
              | no p ↦
                  rw (lt-leb (j + 2) m (omega arith)) (sym (same_points j h l ∙ end-points j (omega arith) (omega arith)))
            ]

        pub both-ends-keep : (t : Number)
            → entry O (both_knots O ts m n) (both_points O ts ps m n) m t m i ≡ entry O ts ps m t m i
        both-ends-keep t = entry-same O m t _ _ _ _ i mi (λ j h. refl) carrying ∙ start-end-keeps t
