-- A cell is a straight line in t, with its left entry at the low knot and its right one at the high knot. From this follow
-- the small laws under which inserting a knot keeps the curve: a row at t and a row at v may change places, and a row at t
-- that ends (or begins) at v, over a row at v, is the row at t alone.
use mathlib.Core.Path.{◌≡◌, refl, ap, ◌∙◌}
use mathlib.Core.List.{[], ◌∷◌}
use Rattle.algebra.specs.Operations.{sub}
use Rattle.algebra.specs.OrderedField.{OrderedField, Below}
use Rattle.algebra.specs.Ring.{field_ring}
use Rattle.algebra.proofs.Expressions.{var, lit, ◌⊕◌, ◌⊗◌, ◌⊖◌, minus, expressions}
use Rattle.algebra.proofs.Solver.{ring, linear-combination, fact}
use Rattle.splines.specs.Triangle.{cell}
use Rattle.splines.proofs.SpanLaws.{divisor-inverse}

module _ (F : OrderedField) where
  open F use {operations as O}
  open O use {Number, add, mul, inv}

  -- the values at v, t and s of a straight line
  cell-line : (w low left right s t v : Number)
      → mul (sub O s t) (cell O w v low left right)
      ≡ add (mul (sub O s v) (cell O w t low left right)) (mul (sub O v t) (cell O w s low left right))
  cell-line w low left right s t v =
      ring (field_ring F) (w ∷ low ∷ left ∷ right ∷ s ∷ t ∷ v ∷ inv (sub O w low) ∷ [])
      ((var 4 ⊖ var 5) ⊗ cell (expressions [] 7) (var 0) (var 6) (var 1) (var 2) (var 3))
      ((var 4 ⊖ var 6) ⊗ cell (expressions [] 7) (var 0) (var 5) (var 1) (var 2) (var 3)
      ⊕ (var 6 ⊖ var 5) ⊗ cell (expressions [] 7) (var 0) (var 4) (var 1) (var 2) (var 3)) refl

  pub cell-at-low : (w low left right : Number) → Below F low w → cell O w low low left right ≡ left
  cell-at-low w low left right some =
      linear-combination (field_ring F) (w ∷ low ∷ left ∷ right ∷ inv (sub O w low) ∷ [])
      (cell (expressions [] 4) (var 0) (var 1) (var 1) (var 2) (var 3)) (var 2)
      (fact (var 2) ((var 0 ⊖ var 1) ⊗ var 4) (lit 1) ∷ []) (divisor-inverse F low w some, tt) refl

  pub cell-at-high : (w low left right : Number) → Below F low w → cell O w w low left right ≡ right
  cell-at-high w low left right some =
      linear-combination (field_ring F) (w ∷ low ∷ left ∷ right ∷ inv (sub O w low) ∷ [])
      (cell (expressions [] 4) (var 0) (var 0) (var 1) (var 2) (var 3)) (var 3)
      (fact (var 3) ((var 0 ⊖ var 1) ⊗ var 4) (lit 1) ∷ []) (divisor-inverse F low w some, tt) refl

  -- the line through an end
  from_low : (w low left right t v : Number) → Below F low w
      → mul (sub O low t) (cell O w v low left right)
      ≡ add (mul (sub O low v) (cell O w t low left right)) (mul (sub O v t) left)
  from_low w low left right t v some =
      cell-line w low left right low t v ∙ ap (add _) (ap (mul (sub O v t)) (cell-at-low w low left right some))

  from-high : (w low left right t v : Number) → Below F low w
      → mul (sub O w t) (cell O w v low left right)
      ≡ add (mul (sub O w v) (cell O w t low left right)) (mul (sub O v t) right)
  from-high w low left right t v some =
      cell-line w low left right w t v ∙ ap (add _) (ap (mul (sub O v t)) (cell-at-high w low left right some))

  -- rows at t and at v change places
  pub cells-exchange : (a b c e t v x y z : Number) → Below F c b → Below F a e
      → cell O b t a (cell O b v c x y) (cell O e v a y z) ≡ cell O b v a (cell O b t c x y) (cell O e t a y z)
  cells-exchange a b c e t v x y z wide far =
      linear-combination (field_ring F)
      (a ∷ b ∷ t ∷ v ∷ y ∷ inv (sub O b a) ∷ cell O b v c x y ∷ cell O b t c x y ∷ cell O e v a y z ∷ cell O e t a y z ∷ [])
      (cell (expressions [] 5) (var 1) (var 2) (var 0) (var 6) (var 8))
      (cell (expressions [] 5) (var 1) (var 3) (var 0) (var 7) (var 9))
      (fact (var 5) ((var 1 ⊖ var 2) ⊗ var 6) ((var 1 ⊖ var 3) ⊗ var 7 ⊕ (var 3 ⊖ var 2) ⊗ var 4)
      ∷ fact (minus (var 5)) ((var 0 ⊖ var 2) ⊗ var 8) ((var 0 ⊖ var 3) ⊗ var 9 ⊕ (var 3 ⊖ var 2) ⊗ var 4)
      ∷ []) (from-high b c x y t v wide, (from_low e a y z t v far, tt)) refl

  -- a row at t that ends at v, over a row at v that ends at w
  pub cell-cut-high : (a v w t x y : Number) → Below F a v → Below F a w
      → cell O v t a x (cell O w v a x y) ≡ cell O w t a x y
  cell-cut-high a v w t x y near far =
      linear-combination (field_ring F) (a ∷ v ∷ t ∷ x ∷ inv (sub O v a) ∷ cell O w v a x y ∷ cell O w t a x y ∷ [])
      (cell (expressions [] 4) (var 1) (var 2) (var 0) (var 3) (var 5)) (var 6)
      (fact (minus (var 4)) ((var 0 ⊖ var 2) ⊗ var 5) ((var 0 ⊖ var 1) ⊗ var 6 ⊕ (var 1 ⊖ var 2) ⊗ var 3)
      ∷ fact (var 6) ((var 1 ⊖ var 0) ⊗ var 4) (lit 1)
      ∷ []) (from_low w a x y t v far, (divisor-inverse F a v near, tt)) refl

  -- a row at t that begins at v, over a row at v that begins at c
  pub cell-cut-low : (c v w t x y : Number) → Below F v w → Below F c w
      → cell O w t v (cell O w v c x y) y ≡ cell O w t c x y
  cell-cut-low c v w t x y near far =
      linear-combination (field_ring F) (v ∷ w ∷ t ∷ y ∷ inv (sub O w v) ∷ cell O w v c x y ∷ cell O w t c x y ∷ [])
      (cell (expressions [] 4) (var 1) (var 2) (var 0) (var 5) (var 3)) (var 6)
      (fact (var 4) ((var 1 ⊖ var 2) ⊗ var 5) ((var 1 ⊖ var 0) ⊗ var 6 ⊕ (var 0 ⊖ var 2) ⊗ var 3)
      ∷ fact (var 6) ((var 1 ⊖ var 0) ⊗ var 4) (lit 1)
      ∷ []) (from-high w c x y t v far, (divisor-inverse F v w near, tt)) refl
