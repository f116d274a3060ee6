-- The carrying numbers of a span are fixed by the curve on it: where two curves agree, the curve of the differences is zero.
use mathlib.Core.Path.{◌≡◌, refl, ap₂, ◌∙◌}
use mathlib.Core.List.{[], ◌∷◌}
use Prim.Native.Nat.{ℕ, zero, suc, ◌+◌, ◌-◌}
use Rattle.algebra.specs.Operations.{sub}
use Rattle.algebra.specs.OrderedField.{OrderedField}
use Rattle.algebra.specs.Ring.{field_ring}
use Rattle.algebra.proofs.RingLaws as Law
use Rattle.algebra.proofs.Expressions.{var, ◌⊖◌, expressions}
use Rattle.algebra.proofs.Solver.{ring}
use Rattle.splines.specs.Triangle.{cell, entry}
use Rattle.span_points.specs.SpanPoints.{SpanFixesPoints}
use Rattle.span_points.proofs.ZeroLaws.{zero-span}

module _ (F : OrderedField) where
  open F use {operations as O}
  open O use {Number, inv}

  -- the triangle of differences is the difference of the triangles
  entry-difference : (ts ps qs : ℕ → Number) (m : ℕ) (t : Number) (r j : ℕ)
      → entry O ts (λ k. sub O (ps k) (qs k)) m t r j ≡ sub O (entry O ts ps m t r j) (entry O ts qs m t r j)
  unfolding entry
  entry-difference ts ps qs m t zero j = refl
  entry-difference ts ps qs m t (suc r) j =
      ap₂ (cell O (ts (j + m - r)) t (ts j)) (entry-difference ts ps qs m t r (j - 1)) (entry-difference ts ps qs m t r j)
      ∙ cells-apart _ _ _ _ _ _ _
    where
      cells-apart : (w low t a b c d : Number)
          → cell O w t low (sub O a b) (sub O c d) ≡ sub O (cell O w t low a c) (cell O w t low b d)
      cells-apart w low t a b c d =
          ring (field_ring F) (w ∷ low ∷ t ∷ a ∷ b ∷ c ∷ d ∷ inv (sub O w low) ∷ [])
          (cell (expressions [] 7) (var 0) (var 2) (var 1) (var 3 ⊖ var 4) (var 5 ⊖ var 6))
          (cell (expressions [] 7) (var 0) (var 2) (var 1) (var 3) (var 5)
          ⊖ cell (expressions [] 7) (var 0) (var 2) (var 1) (var 4) (var 6)) refl

pub span-fixes-points : (F : OrderedField) → SpanFixesPoints F
span-fixes-points F ts ps qs m i rising from some same j h l =
    Law.equal-of-sub-zero (field_ring F) (ps j) (qs j)
    (zero-span F m ts (λ k. sub F.operations (ps k) (qs k)) i rising from some
    (λ t a b.
    entry-difference F ts ps qs m t m i ∙ Law.sub-zero-of-equal (field_ring F) _ _ (same t a b)) j h l)
