-- Laws of the order of an ordered field: a ≤ b is `AtMost F a b` (b - a passes the test), a < b is `Below F a b` (a - b
-- fails it), "positive" is `Below F zero a`. The order's own laws first, then squares, quotients and means, and numbers near others.
use mathlib.Core.Path.{◌≡◌, refl, sym, ◌∙◌, ap, subst}
use mathlib.Core.Logic.{◌⊎◌, inl, inr}
use mathlib.Core.Bool.{Bool, true, false, true≢false}
use mathlib.Core.List.{[], ◌∷◌}
use Rattle.algebra.specs.Operations.{sub, div}
use Rattle.algebra.specs.OrderedField.{OrderedField, AtMost, Below, Side, low, high, Bounds}
use Rattle.algebra.specs.Ring.{Ring, field_ring}
use Rattle.algebra.proofs.RingLaws as Law
use Rattle.algebra.proofs.Expressions.{var, lit, ◌⊕◌, ◌⊗◌, ◌⊖◌, minus}
use Rattle.algebra.proofs.Solver.{ring, linear-combination, fact}
use Rattle.algebra.proofs.FieldLaws.{nonneg-zero, by_zero, mul-cancel-right}

module _ (F : OrderedField) where
  infixl 6 ◌+◌ ◌-◌
  infixl 7 ◌*◌
  infix 5 ◌≤◌ ◌<◌
  abbrev A : Type 0
  A = F.operations.Number

  abbrev R : Ring
  R = field_ring F

  abbrev 𝟎 : A
  𝟎 = F.operations.zero

  abbrev 𝟏 : A
  𝟏 = F.operations.one

  abbrev ◌+◌ : A → A → A
  a + b = F.operations.add a b

  abbrev ◌-◌ : A → A → A
  a - b = sub F.operations a b

  abbrev ◌*◌ : A → A → A
  a * b = F.operations.mul a b

  abbrev neg : A → A
  neg a = F.operations.neg a

  abbrev inv : A → A
  inv a = F.operations.inv a

  abbrev ◌≤◌ : A → A → Type 0
  a ≤ b = AtMost F a b

  abbrev ◌<◌ : A → A → Type 0
  a < b = Below F a b

  -- equal numbers have the same sign
  pub sign-equal : (x y : A) (s : Bool) → x ≡ y → F.nonneg x ≡ s → F.nonneg y ≡ s
  sign-equal x y s e h = sym (ap F.nonneg e) ∙ h

  -- ≤ is an order, < its failure
  pub AtMost-refl : (a : A) → a ≤ a
  AtMost-refl a = sign-equal 𝟎 (a - a) true (sym (F.laws.add-neg a)) (nonneg-zero F)

  pub AtMost-of-equal : (a b : A) → a ≡ b → a ≤ b
  AtMost-of-equal a b e = subst (λ x. a ≤ x) e (AtMost-refl a)

  pub AtMost-trans : (a b c : A) → a ≤ b → b ≤ c → a ≤ c
  AtMost-trans a b c h k =
      sign-equal (b - a + (c - b)) (c - a) true (ring R (a ∷ b ∷ c ∷ []) (var 1 ⊖ var 0 ⊕ (var 2 ⊖ var 1)) (var 2 ⊖ var 0) refl)
      (F.laws.nonneg-add (b - a) (c - b) h k)

  neg-sub : (a b : A) → neg (a - b) ≡ b - a
  neg-sub a b = ring R (a ∷ b ∷ []) (minus (var 0 ⊖ var 1)) (var 1 ⊖ var 0) refl

  pub AtMost-of-below : (a b : A) → a < b → a ≤ b
  AtMost-of-below a b h = sign-equal (neg (a - b)) (b - a) true (neg-sub a b) (F.laws.nonneg-total (a - b) h)

  -- a ≤ b or b < a, as the test says
  pub order-cases : (a b : A) → (a ≤ b) ⊎ (b < a)
  order-cases a b = go (F.nonneg (b - a)) refl
    where
      go : (s : Bool) → F.nonneg (b - a) ≡ s → (a ≤ b) ⊎ (b < a)
      go true e = inl e
      go false e = inr e

  pub not-AtMost-of-below : (a b : A) → a < b → b ≤ a → ⊥
  not-AtMost-of-below a b h k = true≢false (sym k ∙ h)

  pub below-of-not-AtMost : (a b : A) → (b ≤ a → ⊥) → a < b
  below-of-not-AtMost a b f = go (order-cases b a)
    where
      go : (b ≤ a) ⊎ (a < b) → a < b
      go (inl h) = absurd (f h)
      go (inr h) = h

  pub apart-of-below : (a b : A) → a < b → a ≡ b → ⊥
  apart-of-below a b h e = not-AtMost-of-below a b h (AtMost-of-equal b a (sym e))

  pub below-AtMost-trans : (a b c : A) → a < b → b ≤ c → a < c
  below-AtMost-trans a b c h k = below-of-not-AtMost a c (λ l. not-AtMost-of-below a b h (AtMost-trans b c a k l))

  pub AtMost-below-trans : (a b c : A) → a ≤ b → b < c → a < c
  AtMost-below-trans a b c h k = below-of-not-AtMost a c (λ l. not-AtMost-of-below b c k (AtMost-trans c a b l h))

  pub apart-of-positive : (a : A) → 𝟎 < a → a ≡ 𝟎 → ⊥
  apart-of-positive a h e = apart-of-below 𝟎 a h (sym e)

  pub positive-of-below : (a b : A) → a < b → 𝟎 < b - a
  positive-of-below a b h = sign-equal (a - b) (𝟎 - (b - a)) false (ring R (a ∷ b ∷ []) (var 0 ⊖ var 1) (lit 0 ⊖ (var 1 ⊖ var 0)) refl) h

  -- squares
  pub square-nonneg : (a : A) → F.nonneg (a * a) ≡ true
  square-nonneg a = go (F.nonneg a) refl
    where
      go : (s : Bool) → F.nonneg a ≡ s → F.nonneg (a * a) ≡ true
      go true e = F.laws.nonneg-mul a a e e
      go false e =
          sign-equal (neg a * neg a) (a * a) true (Law.neg-mul-neg R a a)
          (F.laws.nonneg-mul (neg a) (neg a) (F.laws.nonneg-total a e) (F.laws.nonneg-total a e))

  pub nonneg-one : F.nonneg 𝟏 ≡ true
  nonneg-one = sign-equal (𝟏 * 𝟏) 𝟏 true (F.laws.mul-one 𝟏) (square-nonneg 𝟏)

  -- quotients and weighted means
  -- 1/a is a times the square of 1/a, at zero too; so it has the sign of a
  pub inv-nonneg : (a : A) → F.nonneg a ≡ true → F.nonneg (inv a) ≡ true
  inv-nonneg a h =
      sign-equal (a * (inv a * inv a)) (inv a) true
      (by_zero F (λ x. x * (inv x * inv x) ≡ inv x) a (Law.zero-mul R (inv 𝟎 * inv 𝟎) ∙ sym F.laws.inv-zero)
      (λ f. linear-combination R (a ∷ inv a ∷ []) (var 0 ⊗ (var 1 ⊗ var 1)) (var 1) (fact (var 1) (var 0 ⊗ var 1) (lit 1) ∷ []) (F.laws.mul-inv a f, tt) refl))
      (F.laws.nonneg-mul a (inv a * inv a) h (square-nonneg (inv a)))

  pub div-nonneg : (a b : A) → F.nonneg a ≡ true → F.nonneg b ≡ true → F.nonneg (div F.operations a b) ≡ true
  div-nonneg a b h k = F.laws.nonneg-mul a (inv b) h (inv-nonneg b k)

  -- a mean with weights a and b that are not below zero and add up to one keeps every bound of the two numbers
  pub mean-bounded : (side : Side) (v x y a b : A) → F.nonneg a ≡ true → F.nonneg b ≡ true → a + b ≡ 𝟏 → Bounds F side v x → Bounds F side v y → Bounds F side v (a * x + b * y)
  mean-bounded low v x y a b p q e h k =
      sign-equal (a * (x - v) + b * (y - v)) (a * x + b * y - v) true
      (linear-combination R (v ∷ x ∷ y ∷ a ∷ b ∷ []) (var 3 ⊗ (var 1 ⊖ var 0) ⊕ var 4 ⊗ (var 2 ⊖ var 0)) (var 3 ⊗ var 1 ⊕ var 4 ⊗ var 2 ⊖ var 0)
      (fact (minus (var 0)) (var 3 ⊕ var 4) (lit 1) ∷ []) (e, tt) refl)
      (F.laws.nonneg-add (a * (x - v)) (b * (y - v)) (F.laws.nonneg-mul a (x - v) p h) (F.laws.nonneg-mul b (y - v) q k))
  mean-bounded high v x y a b p q e h k =
      sign-equal (a * (v - x) + b * (v - y)) (v - (a * x + b * y)) true
      (linear-combination R (v ∷ x ∷ y ∷ a ∷ b ∷ []) (var 3 ⊗ (var 0 ⊖ var 1) ⊕ var 4 ⊗ (var 0 ⊖ var 2)) (var 0 ⊖ (var 3 ⊗ var 1 ⊕ var 4 ⊗ var 2))
      (fact (var 0) (var 3 ⊕ var 4) (lit 1) ∷ []) (e, tt) refl)
      (F.laws.nonneg-add (a * (v - x)) (b * (v - y)) (F.laws.nonneg-mul a (v - x) p h) (F.laws.nonneg-mul b (v - y) q k))

  -- only zero has the square zero
  square-zero : (a : A) → a * a ≡ 𝟎 → a ≡ 𝟎
  square-zero a =
      by_zero F (λ x. x * x ≡ 𝟎 → x ≡ 𝟎) a (λ e. refl) (λ apart e. mul-cancel-right F a 𝟎 a apart (e ∙ sym (Law.zero-mul R a)))

  module _ (a e r : A) (more : F.nonneg e ≡ true) (up : F.nonneg r ≡ true) (near : a * a + e ≤ r * r) where
    -- where a is at least r, (a - r)² is at most zero: -(a - r)² = (r² - a² - e) + e + 2r(a - r)
    square-under : r ≤ a → F.nonneg (neg ((a - r) * (a - r))) ≡ true
    square-under h =
        sign-equal (r * r - (a * a + e) + (e + (a - r) * (r + r))) (neg ((a - r) * (a - r))) true
        (ring R (a ∷ e ∷ r ∷ []) (var 2 ⊗ var 2 ⊖ (var 0 ⊗ var 0 ⊕ var 1) ⊕ (var 1 ⊕ (var 0 ⊖ var 2) ⊗ (var 2 ⊕ var 2))) (minus ((var 0 ⊖ var 2) ⊗ (var 0 ⊖ var 2))) refl)
        (F.laws.nonneg-add (r * r - (a * a + e)) (e + (a - r) * (r + r)) near
        (F.laws.nonneg-add e ((a - r) * (r + r)) more (F.laws.nonneg-mul (a - r) (r + r) h (F.laws.nonneg-add r r up up))))

    -- so a² + e ≤ r² gives a ≤ r, where neither e nor r is below zero
    root-at-most : a ≤ r
    root-at-most = by (order-cases a r)
      where
        by : (a ≤ r) ⊎ (r < a) → a ≤ r
        by (inl h) = h
        by (inr h) =
            AtMost-of-equal a r (Law.equal-of-sub-zero R a r (square-zero (a - r)
            (F.laws.nonneg-both ((a - r) * (a - r)) (square-nonneg (a - r)) (square-under (AtMost-of-below r a h)))))

  -- v moved outward by r
  abbrev pub moved : Side → A → A → A
  moved low v r = v - r
  moved high v r = v + r

  -- a bound of u, moved outward by r, bounds each x with (x - u)² + e ≤ r²
  pub moved-bounds : (side : Side) (v x u e r : A) → F.nonneg e ≡ true → F.nonneg r ≡ true → (x - u) * (x - u) + e ≤ r * r → Bounds F side v u → Bounds F side (moved side v r) x
  moved-bounds low v x u e r more up near h =
      sign-equal (r - (u - x) + (u - v)) (x - (v - r)) true (ring R (v ∷ x ∷ u ∷ r ∷ []) (var 3 ⊖ (var 2 ⊖ var 1) ⊕ (var 2 ⊖ var 0)) (var 1 ⊖ (var 0 ⊖ var 3)) refl)
      (F.laws.nonneg-add (r - (u - x)) (u - v)
      (root-at-most (u - x) e r more up
      (sign-equal (r * r - ((x - u) * (x - u) + e)) (r * r - ((u - x) * (u - x) + e)) true
      (ring R (x ∷ u ∷ e ∷ r ∷ []) (var 3 ⊗ var 3 ⊖ ((var 0 ⊖ var 1) ⊗ (var 0 ⊖ var 1) ⊕ var 2)) (var 3 ⊗ var 3 ⊖ ((var 1 ⊖ var 0) ⊗ (var 1 ⊖ var 0) ⊕ var 2)) refl)
      near))
      h)
  moved-bounds high v x u e r more up near h =
      sign-equal (r - (x - u) + (v - u)) (v + r - x) true (ring R (v ∷ x ∷ u ∷ r ∷ []) (var 3 ⊖ (var 1 ⊖ var 2) ⊕ (var 0 ⊖ var 2)) (var 0 ⊕ var 3 ⊖ var 1) refl)
      (F.laws.nonneg-add (r - (x - u)) (v - u) (root-at-most (x - u) e r more up near) h)
