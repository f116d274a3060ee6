-- De Casteljau's scheme is de Boor's triangle with two knots alone; it reads the control numbers up to its entry; it starts at the first and ends
-- at the last. So a span between knots that stand m times each is a Bezier curve: `span-is-casteljau`.
-- Others may cite also `entry-is-casteljau`, `casteljau-same`, `casteljau-start`, `casteljau-end`.
use mathlib.Core.Path.{◌≡◌, refl, ap, ap₂, sym, ◌∙◌}
use Prim.Native.Nat.{ℕ, zero, suc, ◌+◌, ◌-◌, ◌≤◌, ◌<◌}
use native.Mathlib.Omega.{arith}
use Rattle.algebra.specs.Operations.{Operations}
use Rattle.algebra.specs.OrderedField.{OrderedField, Below}
use Rattle.splines.specs.Basis.{curve_at}
use Rattle.splines.specs.Triangle.{cell, entry}
use Rattle.splines.specs.Bezier.{casteljau}
use Rattle.splines.proofs.TriangleLaws.{triangle-is-curve}
use Rattle.splines.proofs.CellLaws.{cell-at-low, cell-at-high}

-- control numbers that agree, `first` places on, up to the entry: so does the entry
module _ (O : Operations) (a b : O.Number) (ps qs : ℕ → O.Number) (t : O.Number) (first last : ℕ)
    (same : (j : ℕ) → j ≤ last → qs j ≡ ps (first + j)) where
  pub casteljau-same : (r j : ℕ) → r ≤ j → j ≤ last → casteljau O a b qs t r j ≡ casteljau O a b ps t r (first + j)
  unfolding casteljau
  casteljau-same zero j h k = same j k
  casteljau-same (suc r) j h k =
      let before : first + (j - 1) ≡ first + j - 1 = omega arith in
      ap₂ (cell O b t a)
      (casteljau-same r (j - 1) (omega arith) (omega arith) ∙ ap (casteljau O a b ps t r) before)
      (casteljau-same r j (omega arith) k)

module _ (F : OrderedField) where
  open F use {operations as O}
  open O use {Number}

  -- at the low end each row repeats the left entries, at the high end the right ones
  module _ (a b : Number) (ps : ℕ → Number) (some : Below F a b) where
    pub casteljau-start : (r j : ℕ) → casteljau O a b ps a r j ≡ ps (j - r)
    unfolding casteljau
    casteljau-start zero j =
        let here : j ≡ j - 0 = omega arith in
        ap ps here
    casteljau-start (suc r) j =
        let before : j - 1 - r ≡ j - suc r = omega arith in
        cell-at-low F b a _ _ some ∙ casteljau-start r (j - 1) ∙ ap ps before

    pub casteljau-end : (r j : ℕ) → casteljau O a b ps b r j ≡ ps j
    unfolding casteljau
    casteljau-end zero j = refl
    casteljau-end (suc r) j = cell-at-high F b a _ _ some ∙ casteljau-end r j

  module _ (ts ps : ℕ → Number) (i m : ℕ) (a b t : Number) (mi : m ≤ i)
      (starts : (j : ℕ) → j ≤ i → i < j + m → ts j ≡ a) (ends : (j : ℕ) → i < j → j ≤ i + m → ts j ≡ b) where
    pub entry-is-casteljau : (r j : ℕ) → r ≤ m → i + r ≤ j + m → j ≤ i → entry O ts ps m t r j ≡ casteljau O a b ps t r j
    unfolding entry casteljau
    entry-is-casteljau zero j h k l = refl
    entry-is-casteljau (suc r) j h k l =
        ap₂ (λ w low. cell O w t low (entry O ts ps m t r (j - 1)) (entry O ts ps m t r j))
        (ends (j + m - r) (omega arith) (omega arith)) (starts j l (omega arith))
        ∙ ap₂ (cell O b t a)
        (entry-is-casteljau r (j - 1) (omega arith) (omega arith) (omega arith))
        (entry-is-casteljau r j (omega arith) (omega arith) l)

    -- the curve on such a span
    pub span-is-casteljau : (count : ℕ) → i < count → curve_at O ts ps m count i t ≡ casteljau O a b ps t m i
    span-is-casteljau count inside =
        sym (triangle-is-curve F ts t i count inside ps m mi) ∙ entry-is-casteljau m i (omega arith) (omega arith) (omega arith)
