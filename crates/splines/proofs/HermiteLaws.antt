-- A cubic span whose three knots on each side are equal is a Bezier cubic of its carrying numbers; with inner control
-- numbers a third of a tangent away from the ends it is the Hermite cubic. Both hold at every t.
-- Others may cite `triangle-is-bezier`, `bezier-is-hermite`, `piece-is-hermite`.
use mathlib.Core.Path.{◌≡◌, refl, ap, ap₂, sym, ◌∙◌, fun_ext}
use mathlib.Core.List.{[], ◌∷◌}
use Prim.Native.Nat.{ℕ, ◌+◌, ◌-◌, ◌≤◌, ◌<◌}
use native.Mathlib.Omega.{arith}
use Rattle.algebra.specs.Operations.{sub, div}
use Rattle.algebra.specs.OrderedField.{OrderedField, Below}
use Rattle.algebra.specs.Ring.{field_ring, numeral}
use Rattle.algebra.proofs.Expressions.{var, lit, ◌⊕◌, ◌⊗◌, ◌⊖◌, expressions}
use Rattle.algebra.proofs.Solver.{ring, linear-combination, fact}
use Rattle.splines.specs.Basis.{curve_at}
use Rattle.splines.specs.Triangle.{cell, entry}
use Rattle.splines.specs.Bezier.{casteljau, bernstein, bezier, hermite_at, hermite}
use Rattle.splines.proofs.SpanLaws.{divisor-inverse}
use Rattle.splines.proofs.TriangleLaws.{triangle-is-curve}
use Rattle.splines.proofs.BezierLaws.{entry-is-casteljau}

-- three rows of de Casteljau's scheme, over what works out a cell from two entries
abbrev rows : {A : Type 0} (f : A → A → A) (p₀ p₁ p₂ p₃ : A) → A
rows f p₀ p₁ p₂ p₃ = f (f (f p₀ p₁) (f p₁ p₂)) (f (f p₁ p₂) (f p₂ p₃))

module _ (F : OrderedField) where
  open F use {operations as O}
  open O use {Number, add, mul, inv}

  -- a cell is x·left + y·right, and three rows of such means are the Bernstein cubic
  rows-are-bezier : (a b t p₀ p₁ p₂ p₃ : Number) → rows (cell O b t a) p₀ p₁ p₂ p₃ ≡ bezier O a b p₀ p₁ p₂ p₃ t
  rows-are-bezier a b t p₀ p₁ p₂ p₃ =
      ap (λ f. rows f p₀ p₁ p₂ p₃) (fun_ext (λ l. fun_ext (λ r. cell-is-mean l r)))
      ∙ rows-are-bernstein (div O (sub O b t) (sub O b a)) (div O (sub O t a) (sub O b a))
    where
      cell-is-mean : (l r : Number)
          → cell O b t a l r
          ≡ add (mul (div O (sub O b t) (sub O b a)) l) (mul (div O (sub O t a) (sub O b a)) r)
      cell-is-mean l r =
          ring (field_ring F) (a ∷ b ∷ t ∷ l ∷ r ∷ inv (sub O b a) ∷ [])
          (cell (expressions [] 5) (var 1) (var 2) (var 0) (var 3) (var 4))
          ((var 1 ⊖ var 2) ⊗ var 5 ⊗ var 3 ⊕ (var 2 ⊖ var 0) ⊗ var 5 ⊗ var 4) refl

      rows-are-bernstein : (x y : Number) → rows (λ l r. add (mul x l) (mul y r)) p₀ p₁ p₂ p₃ ≡ bernstein O x y p₀ p₁ p₂ p₃
      rows-are-bernstein x y = unfold numeral in
          ring (field_ring F) (x ∷ y ∷ p₀ ∷ p₁ ∷ p₂ ∷ p₃ ∷ [])
          (rows (λ l r. var 0 ⊗ l ⊕ var 1 ⊗ r) (var 2) (var 3) (var 4) (var 5))
          (bernstein (expressions [] 6) (var 0) (var 1) (var 2) (var 3) (var 4) (var 5)) refl

  -- 3·p₁ = 3·p + h·u and 3·p₂ = 3·q - h·v make the Bernstein cubic at 1 - y and y the Hermite cubic at y
  bernstein-is-hermite : (h y p p₁ p₂ q u v : Number)
      → mul (numeral O 3) p₁ ≡ add (mul (numeral O 3) p) (mul h u)
      → mul (numeral O 3) p₂ ≡ sub O (mul (numeral O 3) q) (mul h v)
      → bernstein O (sub O O.one y) y p p₁ p₂ q ≡ hermite_at O h y p q u v
  unfolding numeral
  bernstein-is-hermite h y p p₁ p₂ q u v after before =
      linear-combination (field_ring F) (h ∷ y ∷ p ∷ p₁ ∷ p₂ ∷ q ∷ u ∷ v ∷ [])
      (bernstein (expressions [] 8) (lit 1 ⊖ var 1) (var 1) (var 2) (var 3) (var 4) (var 5))
      (hermite_at (expressions [] 8) (var 0) (var 1) (var 2) (var 5) (var 6) (var 7))
      (fact (var 1 ⊗ ((lit 1 ⊖ var 1) ⊗ (lit 1 ⊖ var 1))) (lit 3 ⊗ var 3) (lit 3 ⊗ var 2 ⊕ var 0 ⊗ var 6)
      ∷ fact (var 1 ⊗ var 1 ⊗ (lit 1 ⊖ var 1)) (lit 3 ⊗ var 4) (lit 3 ⊗ var 5 ⊖ var 0 ⊗ var 7)
      ∷ []) (after, (before, tt)) refl

  -- the Bezier cubic of inner control numbers a third of a tangent away from the ends is the Hermite cubic
  pub bezier-is-hermite : (a b t p p₁ p₂ q u v : Number) → Below F a b
      → mul (numeral O 3) p₁ ≡ add (mul (numeral O 3) p) (mul (sub O b a) u)
      → mul (numeral O 3) p₂ ≡ sub O (mul (numeral O 3) q) (mul (sub O b a) v)
      → bezier O a b p p₁ p₂ q t ≡ hermite O a b p q u v t
  bezier-is-hermite a b t p p₁ p₂ q u v some after before =
      ap (λ x. bernstein O x (div O (sub O t a) (sub O b a)) p p₁ p₂ q) rest
      ∙ bernstein-is-hermite (sub O b a) (div O (sub O t a) (sub O b a)) p p₁ p₂ q u v after before
    where
      rest : div O (sub O b t) (sub O b a) ≡ sub O O.one (div O (sub O t a) (sub O b a))
      rest =
          linear-combination (field_ring F) (a ∷ b ∷ t ∷ inv (sub O b a) ∷ [])
          ((var 1 ⊖ var 2) ⊗ var 3) (lit 1 ⊖ (var 2 ⊖ var 0) ⊗ var 3)
          (fact (lit 1) ((var 1 ⊖ var 0) ⊗ var 3) (lit 1) ∷ []) (divisor-inverse F a b some, tt) refl

  module _ (ts ps : ℕ → Number) (i : ℕ) (a b t : Number) (full : 3 ≤ i)
      (starts : (j : ℕ) → j ≤ i → i < j + 3 → ts j ≡ a) (ends : (j : ℕ) → i < j → j ≤ i + 3 → ts j ≡ b) where
    pub triangle-is-bezier : entry O ts ps 3 t 3 i ≡ bezier O a b (ps (i - 3)) (ps (i - 2)) (ps (i - 1)) (ps i) t
    unfolding casteljau
    triangle-is-bezier =
        entry-is-casteljau F ts ps i 3 a b t full starts ends 3 i (omega arith) (omega arith) (omega arith)
        ∙ ap₂ (λ x y. rows (cell O b t a) (ps x) (ps y) (ps (i - 1)) (ps i)) third second
        ∙ rows-are-bezier a b t (ps (i - 3)) (ps (i - 2)) (ps (i - 1)) (ps i)
      where
        third : i - 1 - 1 - 1 ≡ i - 3
        third = omega arith

        second : i - 1 - 1 ≡ i - 2
        second = omega arith

    -- the curve on such a span, from its ends and tangents
    pub piece-is-hermite : (count : ℕ) → i < count → (u v : Number) → Below F a b
        → mul (numeral O 3) (ps (i - 2)) ≡ add (mul (numeral O 3) (ps (i - 3))) (mul (sub O b a) u)
        → mul (numeral O 3) (ps (i - 1)) ≡ sub O (mul (numeral O 3) (ps i)) (mul (sub O b a) v)
        → curve_at O ts ps 3 count i t ≡ hermite O a b (ps (i - 3)) (ps i) u v t
    piece-is-hermite count inside u v some after before =
        sym (triangle-is-curve F ts t i count inside ps 3 full)
        ∙ triangle-is-bezier
        ∙ bezier-is-hermite a b t (ps (i - 3)) (ps (i - 2)) (ps (i - 1)) (ps i) u v some after before
