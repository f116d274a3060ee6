-- A polynomial that is zero between two numbers is zero everywhere, and so is its slope. Others may cite `poly-zero`, `slope-zero`,
-- `numeral-apart`.
use mathlib.Core.Path.{◌≡◌, refl, sym, ap₂, ◌∙◌}
use mathlib.Core.Bool.{true}
use mathlib.Core.List.{[], ◌∷◌}
use Prim.Native.Nat.{ℕ, zero, suc}
use Rattle.algebra.specs.Operations.{sub}
use Rattle.algebra.specs.OrderedField.{OrderedField, AtMost, Below}
use Rattle.algebra.specs.Ring.{field_ring, numeral}
use Rattle.algebra.proofs.RingLaws as Law
use Rattle.algebra.proofs.FieldLaws.{nonneg-zero, mul-cancel-right}
use Rattle.algebra.proofs.OrderLaws as Order
use Rattle.algebra.proofs.Expressions.{var, lit, ◌⊕◌, ◌⊗◌, ◌⊖◌, minus}
use Rattle.algebra.proofs.Solver.{ring, linear-combination, fact}
use Rattle.span_points.proofs.Polynomials.{Quotient, Poly}

module _ (F : OrderedField) where
  open F use {operations as O, laws, nonneg}
  open O use {Number, add, mul, neg, inv}

  one-not-negative : nonneg (neg O.one) ≡ true → ⊥
  one-not-negative h = laws.one_apart (laws.nonneg-both O.one (Order.nonneg-one F) h)

  numeral-nonneg : (n : ℕ) → nonneg (numeral O n) ≡ true
  unfolding numeral
  numeral-nonneg zero = nonneg-zero F
  numeral-nonneg (suc n) =
      Order.sign-equal F _ _ true (sym (Law.numeral-suc (field_ring F) n))
      (laws.nonneg-add _ _ (numeral-nonneg n) (Order.nonneg-one F))

  -- a sum of ones is not zero
  pub numeral-apart : (n : ℕ) → numeral O (suc n) ≡ O.zero → ⊥
  numeral-apart n e =
      one-not-negative
      (Order.sign-equal F (numeral O n) (neg O.one) true
      (Law.neg_unique (field_ring F) _ _ (sym (Law.numeral-suc (field_ring F) n) ∙ e)) (numeral-nonneg n))

  below_next : (x : Number) → Below F x (add x O.one)
  below_next x =
      Order.below-of-not-AtMost F x (add x O.one)
      (λ h.
      one-not-negative
      (Order.sign-equal F _ _ true (ring (field_ring F) (x ∷ []) (var 0 ⊖ (var 0 ⊕ lit 1)) (minus (lit 1)) refl) h))

  -- the number halfway between a and b lies between them, since it is as far from the one as from the other
  module _ (a b : Number) where
    pub halfway : Number
    halfway = mul (add a b) (inv (numeral O 2))

    halfway-even : sub O halfway b ≡ sub O a halfway
    unfolding halfway numeral
    halfway-even =
        linear-combination (field_ring F) (a ∷ b ∷ inv (numeral O 2) ∷ [])
        ((var 0 ⊕ var 1) ⊗ var 2 ⊖ var 1) (var 0 ⊖ (var 0 ⊕ var 1) ⊗ var 2)
        (fact (var 0 ⊕ var 1) (lit 2 ⊗ var 2) (lit 1) ∷ []) (laws.mul-inv (numeral O 2) (numeral-apart 1), tt) refl

    pub above-halfway : Below F a b → Below F a halfway
    above-halfway h =
        Order.below-of-not-AtMost F a halfway
        (λ l.
        Order.not-AtMost-of-below F a b h
        (Order.AtMost-trans F b halfway a (Order.sign-equal F _ _ true (sym halfway-even) l) l))

    pub below-halfway : Below F a b → Below F halfway b
    below-halfway h =
        Order.below-of-not-AtMost F halfway b
        (λ l.
        Order.not-AtMost-of-below F a b h
        (Order.AtMost-trans F b halfway a l (Order.sign-equal F _ _ true halfway-even l)))

  -- where f is zero at x and at t, the quotient at x is zero at t
  quotient-zero : (P : (Number → Number) → Type 0) (f : Number → Number) (x t : Number) (q : Quotient O P f x)
      → f x ≡ O.zero → f t ≡ O.zero → (t ≡ x → ⊥) → q.over t ≡ O.zero
  quotient-zero P f x t q here there apart =
      mul-cancel-right F (q.over t) O.zero (sub O t x) (λ e. apart (Law.equal-of-sub-zero (field_ring F) t x e))
      (linear-combination (field_ring F) (f x ∷ f t ∷ q.over t ∷ t ∷ x ∷ [])
      (var 2 ⊗ (var 3 ⊖ var 4)) (lit 0 ⊗ (var 3 ⊖ var 4))
      (fact (minus (lit 1)) (var 1) (var 0 ⊕ (var 3 ⊖ var 4) ⊗ var 2)
      ∷ fact (minus (lit 1)) (var 0) (lit 0)
      ∷ fact (lit 1) (var 1) (lit 0)
      ∷ []) (q.split t, (here, (there, tt))) refl)

  pub poly-zero : (d : ℕ) (f : Number → Number) → Poly O d f → (a b : Number) → Below F a b
      → ((t : Number) → Below F a t → AtMost F t b → f t ≡ O.zero) → (t : Number) → f t ≡ O.zero
  poly-zero zero f p a b some none t = p t b ∙ none b some (Order.AtMost-refl F b)
  poly-zero (suc d) f p a b some none t =
      (p b).split t
      ∙ ap₂ (λ y z. add y (mul (sub O t b) z)) end
      (poly-zero d (p b).over (p b).lower a (halfway a b) (above-halfway a b some) lower-half t)
      ∙ Law.zero-add (field_ring F) _
      ∙ Law.mul-zero (field_ring F) _
    where
      end : f b ≡ O.zero
      end = none b some (Order.AtMost-refl F b)

      -- there t is not b
      lower-half : (t : Number) → Below F a t → AtMost F t (halfway a b) → (p b).over t ≡ O.zero
      lower-half t l u =
          let before : Below F t b = Order.AtMost-below-trans F t (halfway a b) b u (below-halfway a b some) in
          quotient-zero (Poly O d) f b t (p b) end (none t l (Order.AtMost-of-below F t b before))
          (Order.apart-of-below F t b before)

  pub slope-zero : (d : ℕ) (f : Number → Number) (x : Number) (q : Quotient O (Poly O d) f x)
      → ((t : Number) → f t ≡ O.zero) → q.over x ≡ O.zero
  slope-zero d f x q none =
      poly-zero d q.over q.lower x (add x O.one) (below_next x)
      (λ t l u. quotient-zero (Poly O d) f x t q (none x) (none t) (λ e. Order.apart-of-below F x t l (sym e))) x
