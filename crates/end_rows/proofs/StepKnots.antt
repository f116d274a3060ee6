-- The knots after r steps at an end, place by place. Others may cite `start-knot-outside`, `start-knot-end`, `start-knot-inside`,
-- `end-knot-inside`, `end-knot-end`, `end-knot-outside`.
use mathlib.Core.Path.{◌≡◌, refl, ap, ◌∙◌}
use Prim.Native.Nat.{ℕ, zero, suc, ◌+◌, ◌-◌, ◌≤◌, ◌<◌}
use native.Mathlib.Omega.{arith}
use native.Mathlib.Decide.{dec_le}
use Rattle.algebra.specs.OrderedField.{OrderedField}
use Rattle.splines.proofs.InsertedLaws.{Place, before, inserted, after, place, knot-before, knot-inserted, knot-after}
use Rattle.end_rows.specs.Steps.{Spline, steps, started, ended}

module _ (F : OrderedField) where
  open F use {operations as O}
  open O use {Number}

  module _ (c : Spline O) (m : ℕ) where
    abbrev after-start : (r : ℕ) → ℕ → Number
    after-start r = (started O m r c).knots

    -- one step moves the knots before index m one place on, and leaves the others
    start-step-outside : (r j : ℕ) → j + 1 ≤ m → after-start (suc r) j ≡ after-start r (j + 1)
    unfolding steps
    start-step-outside r j h = knot-before F (after-start r) m (after-start r m) (j + 1) h

    start-step-inside : (r j : ℕ) → m ≤ j → after-start (suc r) j ≡ after-start r j
    unfolding steps
    start-step-inside r j h = go (place m (j + 1))
      where
        go : Place m (j + 1) → after-start (suc r) j ≡ after-start r j
        go (before p) = absurd (omega arith)
        go (inserted p) = knot-inserted F (after-start r) m (after-start r m) (j + 1) p ∙ ap (after-start r) (omega arith)
        go (after p) = knot-after F (after-start r) m (after-start r m) (j + 1) p ∙ ap (after-start r) (omega arith)

    pub start-knot-inside : (r j : ℕ) → m ≤ j → after-start r j ≡ c.knots j
    unfolding steps
    start-knot-inside zero j h = refl
    start-knot-inside (suc r) j h = start-step-inside r j h ∙ start-knot-inside r j h

    pub start-knot-outside : (r j : ℕ) → j + r ≤ m → after-start r j ≡ c.knots (j + r)
    unfolding steps
    start-knot-outside zero j h = ap c.knots (omega arith)
    start-knot-outside (suc r) j h =
        start-step-outside r j (omega arith) ∙ start-knot-outside r (j + 1) (omega arith) ∙ ap c.knots (omega arith)

    pub start-knot-end : (r j : ℕ) → m ≤ j + r → j ≤ m → after-start r j ≡ c.knots m
    unfolding steps
    start-knot-end zero j h l = ap c.knots (omega arith)
    start-knot-end (suc r) j h l =
        elim (dec_le m j) [
          | yes p ↦ start-knot-inside (suc r) j p ∙ ap c.knots (omega arith)
          | no p ↦ start-step-outside r j (omega arith) ∙ start-knot-end r (j + 1) (omega arith) (omega arith)
        ]

  module _ (c : Spline O) (m n : ℕ) where
    abbrev after-end : (r : ℕ) → ℕ → Number
    after-end r = (ended O m n r c).knots

    -- one step moves the knots behind index n+1 one place on, and leaves the others
    end-step-inside : (r j : ℕ) → j ≤ n + 1 → after-end (suc r) j ≡ after-end r j
    unfolding steps
    end-step-inside r j h = go (place n j)
      where
        go : Place n j → after-end (suc r) j ≡ after-end r j
        go (before p) = knot-before F (after-end r) n (after-end r (n + 1)) j p
        go (inserted p) = knot-inserted F (after-end r) n (after-end r (n + 1)) j p ∙ ap (after-end r) (omega arith)
        go (after p) = absurd (omega arith)

    end-step-outside : (r j : ℕ) → n + 1 < j → after-end (suc r) j ≡ after-end r (j - 1)
    unfolding steps
    end-step-outside r j h = knot-after F (after-end r) n (after-end r (n + 1)) j h

    pub end-knot-inside : (r j : ℕ) → j ≤ n + 1 → after-end r j ≡ c.knots j
    unfolding steps
    end-knot-inside zero j h = refl
    end-knot-inside (suc r) j h = end-step-inside r j h ∙ end-knot-inside r j h

    pub end-knot-outside : (r j : ℕ) → n + 1 + r ≤ j → after-end r j ≡ c.knots (j - r)
    unfolding steps
    end-knot-outside zero j h = ap c.knots (omega arith)
    end-knot-outside (suc r) j h =
        end-step-outside r j (omega arith) ∙ end-knot-outside r (j - 1) (omega arith) ∙ ap c.knots (omega arith)

    pub end-knot-end : (r j : ℕ) → n < j → j ≤ n + 1 + r → after-end r j ≡ c.knots (n + 1)
    unfolding steps
    end-knot-end zero j h l = ap c.knots (omega arith)
    end-knot-end (suc r) j h l =
        elim (dec_le j (n + 1)) [
          | yes p ↦ end-knot-inside (suc r) j p ∙ ap c.knots (omega arith)
          | no p ↦ end-step-outside r j (omega arith) ∙ end-knot-end r (j - 1) (omega arith) (omega arith)
        ]
