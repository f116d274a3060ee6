-- The knots with both ends clamped, place by place; steps at both ends lead to them in either order, and they never fall.
-- Others may cite `both-knot-inside`, `start-then-end`, `end-then-start`, `both-rising`.
use mathlib.Core.Path.{◌≡◌, ap, sym, ◌∙◌, subst₂}
use Prim.Native.Nat.{ℕ, ◌+◌, ◌≤◌, ◌<◌}
use native.Mathlib.Omega.{arith}
use native.Mathlib.Decide.{dec_le}
use borrow.Author.Tests.{le-leb, lt-leb}
use Rattle.algebra.specs.OrderedField.{OrderedField, AtMost}
use Rattle.splines.specs.Span.{Rising}
use Rattle.end_rows.specs.Steps.{Spline, started, ended}
use Rattle.end_rows.specs.BothEnds.{both_knots}
use Rattle.end_rows.proofs.StepKnots.{start-knot-end, start-knot-inside, end-knot-end, end-knot-inside}
use Rattle.end_rows.proofs.StepCurve.{started-rising, ended-rising}

module _ (F : OrderedField) where
  open F use {operations as O}
  open O use {Number}

  module _ (c : Spline O) (m n : ℕ) (room : m ≤ n) where
    abbrev ts : ℕ → Number
    ts = c.knots

    abbrev knots : ℕ → Number
    knots = both_knots O ts m n

    both-knot-start : (j : ℕ) → j ≤ m → knots j ≡ ts m
    unfolding both_knots
    both-knot-start j h = rw (le-leb j m h)

    both-knot-end : (j : ℕ) → n < j → knots j ≡ ts (n + 1)
    unfolding both_knots
    both-knot-end j h = rw (lt-leb j m (omega arith), lt-leb j n h)

    both-knot-between : (j : ℕ) → m < j → j ≤ n → knots j ≡ ts j
    unfolding both_knots
    both-knot-between j h l = rw (lt-leb j m h, le-leb j n l)

    -- the domain's knots stay
    pub both-knot-inside : (j : ℕ) → m ≤ j → j ≤ n + 1 → knots j ≡ ts j
    both-knot-inside j h l =
        elim (dec_le j m) [
          | yes p ↦ both-knot-start j p ∙ ap ts (omega arith)
          | no p ↦
              elim (dec_le j n) [
                | yes q ↦ both-knot-between j (omega arith) q
                | no q ↦ both-knot-end j (omega arith) ∙ ap ts (omega arith)
              ]
        ]

    -- steps at the start, then at the end
    pub start-then-end : (j : ℕ) → j ≤ n + m + 1 → (ended O m n m (started O m m c)).knots j ≡ knots j
    start-then-end j h =
        elim (dec_le j m) [
          | yes p ↦ end-knot-inside F start m n m j (omega arith) ∙ start-knot-end F c m m j (omega arith) p ∙ sym (both-knot-start j p)
          | no p ↦
              elim (dec_le j n) [
                | yes q ↦
                    end-knot-inside F start m n m j (omega arith) ∙ start-knot-inside F c m m j (omega arith)
                    ∙ sym (both-knot-between j (omega arith) q)
                | no q ↦
                    end-knot-end F start m n m j (omega arith) (omega arith) ∙ start-knot-inside F c m m (n + 1) (omega arith)
                    ∙ sym (both-knot-end j (omega arith))
              ]
        ]
      where
        start : Spline O
        start = started O m m c

    -- steps at the end, then at the start
    pub end-then-start : (j : ℕ) → j ≤ n + m + 1 → (started O m m (ended O m n m c)).knots j ≡ knots j
    end-then-start j h =
        elim (dec_le j m) [
          | yes p ↦ start-knot-end F end m m j (omega arith) p ∙ end-knot-inside F c m n m m (omega arith) ∙ sym (both-knot-start j p)
          | no p ↦
              elim (dec_le j n) [
                | yes q ↦
                    start-knot-inside F end m m j (omega arith) ∙ end-knot-inside F c m n m j (omega arith)
                    ∙ sym (both-knot-between j (omega arith) q)
                | no q ↦
                    start-knot-inside F end m m j (omega arith) ∙ end-knot-end F c m n m j (omega arith) (omega arith)
                    ∙ sym (both-knot-end j (omega arith))
              ]
        ]
      where
        end : Spline O
        end = ended O m n m c

    pub both-rising : (last : ℕ) → Rising F ts last → n + m + 1 ≤ last → Rising F knots (n + m + 1)
    both-rising last rising ends a b h l =
        subst₂ (λ x y. AtMost F x y) (start-then-end a (omega arith)) (start-then-end b l)
        (ended-rising F m n last (omega arith) (started O m m c) (started-rising F m last (omega arith) c rising m) m a b h
        (omega arith))
