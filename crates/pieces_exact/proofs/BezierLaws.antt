-- The Bezier curve on pairs of whole numbers is de Casteljau's scheme over the rational numbers; at its low end it is its first control number, at its
-- high end its last. Others may cite `bezier-class`, `bezier-start`, `bezier-end`.
use mathlib.Core.List.{List}
use mathlib.Core.Path.{◌≡◌, refl, ap, ap₂, ◌∙◌}
use Prim.Native.Nat.{ℕ, zero, suc, ◌-◌, ◌*◌, ◌<◌}
use native.Mathlib.Nat.{mul-one}
use native.Mathlib.Omega.{arith}
use lib.IntN.{ℤ, pos}
use Rattle.algebra.specs.Operations.{Operations}
use Rattle.fractions.specs.Fraction.{whole_n, over, fraction_operations}
use Rattle.fractions.proofs.FractionLaws.{over-lower}
use Rattle.fractions.proofs.Rational.{class, rational, rational_operations, class-of-equals}
use Rattle.fractions.proofs.ClassLaws.{whole_n-below}
use Rattle.splines.specs.Triangle.{cell}
use Rattle.splines.specs.Bezier.{casteljau}
use Rattle.splines.proofs.BezierLaws.{casteljau-start, casteljau-end}
use Rattle.exact.specs.ExactPoint.{coordinate_at}
use Rattle.exact.proofs.Homomorphism.{IsHomomorphism, cell-kept}
use Rattle.exact.proofs.ExactLaws.{class-homomorphism, rational_coordinate, rational_parameter}
use Rattle.pieces_exact.specs.BezierPoint.{bezier_at}

-- a map that carries the operations carries the scheme
casteljau-kept : (O P : Operations) (h : O.Number → P.Number) → IsHomomorphism O P h → (a b : O.Number) (ps : ℕ → O.Number) (t : O.Number) (r j : ℕ)
    → h (casteljau O a b ps t r j) ≡ casteljau P (h a) (h b) (λ k. h (ps k)) (h t) r j
unfolding casteljau
casteljau-kept O P h kept a b ps t zero j = refl
casteljau-kept O P h kept a b ps t (suc r) j =
    cell-kept O P h kept b t a (casteljau O a b ps t r (j - 1)) (casteljau O a b ps t r j)
    ∙ ap₂ (λ x y. cell P (h b) (h t) (h a) x y) (casteljau-kept O P h kept a b ps t r (j - 1)) (casteljau-kept O P h kept a b ps t r j)

-- a parameter that is the whole number s
knot-parameter : (s p q : ℕ) → 0 < q → p ≡ s * q → rational_parameter p q ≡ class (whole_n s)
knot-parameter s p q above e =
    class-of-equals {a = over (pos p) q} {b = whole_n s} (rw (over-lower (pos p) q above, mul-one p) (ap pos e))

module _ (m low high : ℕ) (ps : List ℤ) (p q : ℕ) where
  pub bezier-class : class (bezier_at m low high ps p q)
      ≡ casteljau rational_operations (class (whole_n low)) (class (whole_n high)) (rational_coordinate ps) (rational_parameter p q) m m
  unfolding bezier_at
  bezier-class = casteljau-kept fraction_operations rational_operations class class-homomorphism (whole_n low) (whole_n high) (coordinate_at ps) (over (pos p) q) m m

  pub bezier-start : 0 < q → low < high → p ≡ low * q → class (bezier_at m low high ps p q) ≡ rational_coordinate ps 0
  bezier-start above wide at =
      let first : m - m ≡ 0 = omega arith in
      bezier-class
      ∙ ap (λ t. casteljau rational_operations (class (whole_n low)) (class (whole_n high)) (rational_coordinate ps) t m m) (knot-parameter low p q above at)
      ∙ casteljau-start rational (class (whole_n low)) (class (whole_n high)) (rational_coordinate ps) ((whole_n-below low high).0 wide) m m
      ∙ ap (rational_coordinate ps) first

  pub bezier-end : 0 < q → low < high → p ≡ high * q → class (bezier_at m low high ps p q) ≡ rational_coordinate ps m
  bezier-end above wide at =
      bezier-class
      ∙ ap (λ t. casteljau rational_operations (class (whole_n low)) (class (whole_n high)) (rational_coordinate ps) t m m) (knot-parameter high p q above at)
      ∙ casteljau-end rational (class (whole_n low)) (class (whole_n high)) (rational_coordinate ps) ((whole_n-below low high).0 wide) m m
