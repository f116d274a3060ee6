-- Polynomials as functions: of degree 0 is what is the same everywhere; of degree d+1 is what, less its value at any x, is t - x times
-- one of degree d. That factor's value at x is the slope there. Others may cite `constant-smooth`, `cell-smooth`.
use mathlib.Core.Path.{◌≡◌, refl, ap, ap₂, ◌∙◌}
use mathlib.Core.List.{[], ◌∷◌}
use Prim.Native.Nat.{ℕ, zero, suc}
use Rattle.algebra.specs.Operations.{Operations, sub}
use Rattle.algebra.specs.OrderedField.{OrderedField}
use Rattle.algebra.specs.Ring.{field_ring}
use Rattle.algebra.proofs.Expressions.{var, lit, ◌⊕◌, ◌⊗◌, ◌⊖◌, expressions}
use Rattle.algebra.proofs.Solver.{ring, linear-combination, fact}
use Rattle.splines.specs.Triangle.{cell}

-- f t - f x as t - x times `over`, of which P holds
pub record Quotient (O : Operations) (P : (O.Number → O.Number) → Type 0) (f : O.Number → O.Number) (x : O.Number)
    : Type 0 where
  pub over : O.Number → O.Number
  pub lower : P over
  pub split : (t : O.Number) → f t ≡ O.add (f x) (O.mul (sub O t x) (over t))

-- of degree at most d
abbrev pub Poly : (O : Operations) → ℕ → (O.Number → O.Number) → Type 0
Poly O zero f = (s t : O.Number) → f s ≡ f t
Poly O (suc d) f = (x : O.Number) → Quotient O (Poly O d) f x

-- of degree at most d, with the slope that is given at every x
pub record Smooth (O : Operations) (d : ℕ) (f slope_at : O.Number → O.Number) : Type 0 where
  pub poly : Poly O d f
  pub quotient : (x : O.Number) → Quotient O (Poly O d) f x
  pub slope : (x : O.Number) → (quotient x).over x ≡ slope_at x

-- the slope of a cell at x, from those of its two entries
abbrev pub cell_slope : (O : Operations) (w x low left right left_slope right_slope : O.Number) → O.Number
cell_slope O w x low left right left_slope right_slope =
    O.mul (O.inv (sub O w low))
    (O.add
    (O.add right (O.mul (O.neg O.one) left))
    (O.add (O.mul (sub O w x) left_slope) (O.mul (sub O x low) right_slope)))

module _ (F : OrderedField) where
  open F use {operations as O}
  open O use {Number, add, mul, inv}

  no-rise : (c t x : Number) → c ≡ add c (mul (sub O t x) O.zero)
  no-rise c t x = ring (field_ring F) (c ∷ t ∷ x ∷ []) (var 0) (var 0 ⊕ (var 1 ⊖ var 2) ⊗ lit 0) refl

  poly-sum : (d : ℕ) (f g : Number → Number) → Poly O d f → Poly O d g → Poly O d (λ t. add (f t) (g t))
  poly-sum zero f g p q = λ s t. ap₂ add (p s t) (q s t)
  poly-sum (suc d) f g p q = λ x.
      record {
        over = λ t. add ((p x).over t) ((q x).over t);
        lower = poly-sum d (p x).over (q x).over (p x).lower (q x).lower;
        split = λ t.
            linear-combination (field_ring F) (t ∷ x ∷ f t ∷ g t ∷ f x ∷ g x ∷ (p x).over t ∷ (q x).over t ∷ [])
            (var 2 ⊕ var 3) (var 4 ⊕ var 5 ⊕ (var 0 ⊖ var 1) ⊗ (var 6 ⊕ var 7))
            (fact (lit 1) (var 2) (var 4 ⊕ (var 0 ⊖ var 1) ⊗ var 6)
            ∷ fact (lit 1) (var 3) (var 5 ⊕ (var 0 ⊖ var 1) ⊗ var 7)
            ∷ []) ((p x).split t, ((q x).split t, tt)) refl;
      }

  poly-scaled : (d : ℕ) (c : Number) (f : Number → Number) → Poly O d f → Poly O d (λ t. mul c (f t))
  poly-scaled zero c f p = λ s t. ap (mul c) (p s t)
  poly-scaled (suc d) c f p = λ x.
      record {
        over = λ t. mul c ((p x).over t);
        lower = poly-scaled d c (p x).over (p x).lower;
        split = λ t.
            linear-combination (field_ring F) (t ∷ x ∷ f t ∷ f x ∷ (p x).over t ∷ c ∷ [])
            (var 5 ⊗ var 2) (var 5 ⊗ var 3 ⊕ (var 0 ⊖ var 1) ⊗ (var 5 ⊗ var 4))
            (fact (var 5) (var 2) (var 3 ⊕ (var 0 ⊖ var 1) ⊗ var 4) ∷ []) ((p x).split t, tt) refl;
      }

  poly-widened : (d : ℕ) (f : Number → Number) → Poly O d f → Poly O (suc d) f
  poly-widened zero f p = λ x.
      record { over = λ t. O.zero; lower = λ s t. refl; split = λ t. p t x ∙ no-rise (f x) t x }
  poly-widened (suc d) f p = λ x.
      record { over = (p x).over; lower = poly-widened d (p x).over (p x).lower; split = (p x).split }

  pub constant-smooth : (c : Number) → Smooth O 0 (λ t. c) (λ x. O.zero)
  constant-smooth c =
      record {
        poly = λ s t. refl;
        quotient = λ x. record { over = λ t. O.zero; lower = λ s t. refl; split = λ t. no-rise c t x };
        slope = λ x. refl;
      }

  -- a cell over two polynomials is one of the next degree
  module _ (w low : Number) (d : ℕ) (f g f_slope g_slope : Number → Number) (p : Smooth O d f f_slope)
      (q : Smooth O d g g_slope) where
    abbrev cell_over : (x t : Number) → Number
    cell_over x t = cell_slope O w x low (f t) (g t) ((p.quotient x).over t) ((q.quotient x).over t)

    cell-over-poly : (x : Number) → Poly O d (cell_over x)
    cell-over-poly x =
        poly-scaled d _ _
        (poly-sum d _ _
        (poly-sum d _ _ q.poly (poly-scaled d _ f p.poly))
        (poly-sum d _ _ (poly-scaled d _ _ (p.quotient x).lower) (poly-scaled d _ _ (q.quotient x).lower)))

    cell-split : (x t : Number)
        → cell O w t low (f t) (g t) ≡ add (cell O w x low (f x) (g x)) (mul (sub O t x) (cell_over x t))
    cell-split x t =
        linear-combination (field_ring F)
        (w ∷ t ∷ low ∷ x ∷ f t ∷ g t ∷ f x ∷ g x ∷ (p.quotient x).over t ∷ (q.quotient x).over t ∷ inv (sub O w low) ∷ [])
        (cell (expressions [] 10) (var 0) (var 1) (var 2) (var 4) (var 5))
        (cell (expressions [] 10) (var 0) (var 3) (var 2) (var 6) (var 7)
        ⊕ (var 1 ⊖ var 3) ⊗ cell_slope (expressions [] 10) (var 0) (var 3) (var 2) (var 4) (var 5) (var 8) (var 9))
        (fact ((var 0 ⊖ var 3) ⊗ var 10) (var 4) (var 6 ⊕ (var 1 ⊖ var 3) ⊗ var 8)
        ∷ fact ((var 3 ⊖ var 2) ⊗ var 10) (var 5) (var 7 ⊕ (var 1 ⊖ var 3) ⊗ var 9)
        ∷ []) ((p.quotient x).split t, ((q.quotient x).split t, tt)) refl

    pub cell-smooth :
        Smooth O (suc d) (λ t. cell O w t low (f t) (g t)) (λ x. cell_slope O w x low (f x) (g x) (f_slope x) (g_slope x))
    cell-smooth =
        record {
          poly = λ x. record { over = cell_over x; lower = cell-over-poly x; split = cell-split x };
          quotient = λ x.
              record { over = cell_over x; lower = poly-widened d (cell_over x) (cell-over-poly x); split = cell-split x };
          slope = λ x. ap₂ (cell_slope O w x low (f x) (g x)) (p.slope x) (q.slope x);
        }
