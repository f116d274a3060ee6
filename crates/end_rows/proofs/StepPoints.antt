-- The points after m steps at an end are the rows of means at that end. Others may cite `started-points`, `ended-points`.
use mathlib.Core.Path.{◌≡◌, refl, ap, ◌∙◌}
use Prim.Native.Nat.{ℕ, suc, ◌+◌, ◌-◌, ◌≤◌, ◌<◌}
use native.Mathlib.Omega.{arith}
use native.Mathlib.Decide.{dec_le}
use Rattle.algebra.specs.Operations.{sub}
use Rattle.algebra.specs.OrderedField.{OrderedField, Below}
use Rattle.algebra.proofs.OrderLaws as Order
use Rattle.splines.specs.Span.{Rising}
use Rattle.splines.proofs.SpanLaws.{apart-round}
use Rattle.splines.proofs.InsertedLaws.{point-before, point-between, point-after}
use Rattle.end_rows.specs.EndRows.{mean, start_inside, start_outside, end_inside, end_outside, end_number, start_number, finish_number}
use Rattle.end_rows.specs.Steps.{Spline, steps, started, ended}
use Rattle.end_rows.proofs.StepKnots.{start-knot-outside, start-knot-end, start-knot-inside}
use Rattle.end_rows.proofs.StepKnots.{end-knot-outside, end-knot-end, end-knot-inside}
use Rattle.end_rows.proofs.EntryLaws.{same-cell}
use Rattle.end_rows.proofs.EndRowLaws.{start-mean, end-mean, rows_end}

module _ (F : OrderedField) where
  open F use {operations as O, laws}
  open O use {Number}

  -- a number has no distance from itself, and one below another has
  no_distance : (ts : ℕ → Number) (a b : ℕ) → a ≡ b → sub O (ts a) (ts b) ≡ O.zero
  no_distance ts a b h = ap (λ x. sub O (ts x) (ts b)) h ∙ laws.add-neg (ts b)

  some-distance : (a b : Number) → Below F a b → sub O b a ≡ O.zero → ⊥
  some-distance a b h = Order.apart-of-positive F (sub O b a) (Order.positive-of-below F a b h)

  module _ (c : Spline O) (m n last : ℕ) (rising : Rising F c.knots last) (room : m ≤ n) (ends : n + m + 1 ≤ last) where
    abbrev ts : ℕ → Number
    ts = c.knots

    module _ (some : Below F (ts m) (ts (m + 1))) where
      abbrev start_point : ℕ → ℕ → Number
      start_point r k = (started O m r c).points k

      -- the outer knot of the k-th cell after r steps
      start-outer : (r k : ℕ) → k < m → (started O m r c).knots (k + 1) ≡ ts (m - (m - k - r - 1))
      start-outer r k h =
          elim (dec_le (k + 1 + r) m) [
            | yes p ↦ start-knot-outside F c m r (k + 1) p ∙ ap ts (omega arith)
            | no p ↦ start-knot-end F c m r (k + 1) (omega arith) (omega arith) ∙ ap ts (omega arith)
          ]

      start-means : (r k : ℕ) → k < m → k ≤ n
          → start_point (suc r) k
          ≡ mean O (start_inside O ts m (k + 1)) (start_point r k) (start_outside O ts m (m - k - r - 1)) (start_point r (k + 1))
      unfolding steps
      start-means r k h up =
          point-between F (started O m r c).knots m ((started O m r c).knots m) (start_point r) m (k + 1) (omega arith) (omega arith)
          ∙ same-cell O (start-knot-inside F c m r (k + 1 + m) (omega arith) ∙ ap ts inner)
          (start-knot-inside F c m r m (omega arith)) (start-outer r k h) (ap (start_point r) back) refl
          ∙ start-mean F _ _ _ _ _
        where
          inner : k + 1 + m ≡ m + (k + 1)
          inner = omega arith

          back : k + 1 - 1 ≡ k
          back = omega arith

      start-stays : (r k : ℕ) → m ≤ k → k ≤ n → start_point (suc r) k ≡ start_point r k
      unfolding steps
      start-stays r k h up =
          point-after F (started O m r c).knots m ((started O m r c).knots m) (start_point r) m (k + 1) (omega arith)
          ∙ ap (start_point r) (omega arith)

      pub started-points : (k : ℕ) → k ≤ n → (started O m m c).points k ≡ start_number O ts c.points m k
      unfolding steps
      started-points =
          rows_end F (start_inside O ts m) (start_outside O ts m) c.points m n (no_distance ts m (m - 0) (omega arith))
          (λ k up.
          some-distance (ts m) (ts (m + (k + 1)))
          (apart-round F ts last m rising some m (m + (k + 1)) (omega arith) (omega arith) (omega arith)))
          start_point room (λ k up. refl) start-means start-stays

    module _ (some : Below F (ts n) (ts (n + 1))) where
      -- the points from the end inwards
      abbrev end_point : ℕ → ℕ → Number
      end_point r k = (ended O m n r c).points (n - k)

      -- the outer knot of the k-th cell after r steps
      end-outer : (r k : ℕ) → k < m → k ≤ n → (ended O m n r c).knots (n - k + m) ≡ ts (n + 1 + (m - k - r - 1))
      end-outer r k h up =
          elim (dec_le (n + 1 + r) (n - k + m)) [
            | yes p ↦ end-knot-outside F c m n r (n - k + m) p ∙ ap ts (omega arith)
            | no p ↦ end-knot-end F c m n r (n - k + m) (omega arith) (omega arith) ∙ ap ts (omega arith)
          ]

      end-means : (r k : ℕ) → k < m → k ≤ n
          → end_point (suc r) k
          ≡ mean O (end_inside O ts n (k + 1)) (end_point r k) (end_outside O ts n (m - k - r - 1)) (end_point r (k + 1))
      unfolding steps
      end-means r k h up =
          point-between F (ended O m n r c).knots n ((ended O m n r c).knots (n + 1)) (ended O m n r c).points m (n - k)
          (omega arith) (omega arith)
          ∙ same-cell O (end-outer r k h up) (end-knot-inside F c m n r (n + 1) (omega arith))
          (end-knot-inside F c m n r (n - k) (omega arith) ∙ ap ts inner) (ap (ended O m n r c).points back) refl
          ∙ end-mean F _ _ _ _ _
        where
          inner : n - k ≡ n + 1 - (k + 1)
          inner = omega arith

          back : n - k - 1 ≡ n - (k + 1)
          back = omega arith

      end_stays : (r k : ℕ) → m ≤ k → k ≤ n → end_point (suc r) k ≡ end_point r k
      unfolding steps
      end_stays r k h up =
          point-before F (ended O m n r c).knots n ((ended O m n r c).knots (n + 1)) (ended O m n r c).points m (n - k)
          (omega arith)

      from_end : (k : ℕ) → k ≤ n → end_point m k ≡ end_number O (end_inside O ts n) (end_outside O ts n) (λ j. c.points (n - j)) m k
      unfolding steps
      from_end =
          rows_end F (end_inside O ts n) (end_outside O ts n) (λ j. c.points (n - j)) m n
          (no_distance ts (n + 1 + 0) (n + 1) (omega arith))
          (λ k up.
          some-distance (ts (n + 1 - (k + 1))) (ts (n + 1))
          (apart-round F ts last n rising some (n + 1 - (k + 1)) (n + 1) (omega arith) (omega arith) (omega arith)))
          end_point room (λ k up. refl) end-means end_stays

      pub ended-points : (j : ℕ) → j ≤ n → (ended O m n m c).points j ≡ finish_number O ts c.points m n j
      ended-points j up = ap (ended O m n m c).points same ∙ from_end (n - j) (omega arith)
        where
          same : j ≡ n - (n - j)
          same = omega arith
