-- Laws of the reciprocal and of quotients in an ordered field, where the reciprocal of zero is zero.
-- Laws without a reciprocal are those of `RingLaws` at `field_ring F`, or are solved by `ring (field_ring F)`.
use mathlib.Core.Path.{◌≡◌, refl, sym, ◌∙◌, ap, subst}
use mathlib.Core.Bool.{Bool, true, false, true≢false}
use mathlib.Core.List.{[], ◌∷◌}
use Rattle.algebra.specs.Operations.{div}
use Rattle.algebra.specs.OrderedField.{OrderedField}
use Rattle.algebra.specs.Ring.{Ring, field_ring}
use Rattle.algebra.proofs.RingLaws as Law
use Rattle.algebra.proofs.Expressions.{var, lit, ◌⊗◌, ◌⊖◌}
use Rattle.algebra.proofs.Solver.{linear-combination, fact}

module _ (F : OrderedField) where
  infixl 6 ◌+◌
  infixl 7 ◌*◌
  abbrev A : Type 0
  A = F.operations.Number

  abbrev R : Ring
  R = field_ring F

  abbrev 𝟎 : A
  𝟎 = F.operations.zero

  abbrev 𝟏 : A
  𝟏 = F.operations.one

  abbrev ◌+◌ : A → A → A
  a + b = F.operations.add a b

  abbrev ◌*◌ : A → A → A
  a * b = F.operations.mul a b

  abbrev neg : A → A
  neg a = F.operations.neg a

  abbrev inv : A → A
  inv a = F.operations.inv a

  -- zero passes the test, and so every number is zero or it is not
  pub nonneg-zero : F.nonneg 𝟎 ≡ true
  nonneg-zero = go (F.nonneg 𝟎) refl
    where
      go : (s : Bool) → F.nonneg 𝟎 ≡ s → F.nonneg 𝟎 ≡ true
      go true e = e
      go false e = subst (λ x. F.nonneg x ≡ true) (Law.neg-zero R) (F.laws.nonneg-total 𝟎 e)

  pub zero-decided : (a : A) → Dec (a ≡ 𝟎)
  zero-decided a = go (F.nonneg a) (F.nonneg (neg a)) refl refl
    where
      go : (s t : Bool) → F.nonneg a ≡ s → F.nonneg (neg a) ≡ t → Dec (a ≡ 𝟎)
      go true true e f = yes (F.laws.nonneg-both a e f)
      go true false e f = no (λ h. true≢false (sym (ap (λ x. F.nonneg (neg x)) h ∙ ap F.nonneg (Law.neg-zero R) ∙ nonneg-zero) ∙ f))
      go false t e f = no (λ h. true≢false (sym (ap F.nonneg h ∙ nonneg-zero) ∙ e))

  -- a statement holds of a where it holds of zero and of what is not zero
  pub by_zero : (P : A → Type 0) (a : A) → P 𝟎 → ((a ≡ 𝟎 → ⊥) → P a) → P a
  by_zero P a z f = go (zero-decided a)
    where
      go : Dec (a ≡ 𝟎) → P a
      go (yes h) = subst P (sym h) z
      go (no g) = f g

  pub mul-cancel-right : (a b c : A) → (c ≡ 𝟎 → ⊥) → a * c ≡ b * c → a ≡ b
  mul-cancel-right a b c h e =
      linear-combination R (a ∷ b ∷ c ∷ inv c ∷ []) (var 0) (var 1)
      (fact (var 3) (var 0 ⊗ var 2) (var 1 ⊗ var 2) ∷ fact (var 1 ⊖ var 0) (var 2 ⊗ var 3) (lit 1) ∷ []) (e, (F.laws.mul-inv c h, tt)) refl

  pub zero-div : (a : A) → div F.operations 𝟎 a ≡ 𝟎
  zero-div a = Law.zero-mul R (inv a)

  pub mul_div_cancel : (a b : A) → (b ≡ 𝟎 → ⊥) → div F.operations (a * b) b ≡ a
  mul_div_cancel a b h = F.laws.mul_assoc a b (inv b) ∙ ap (λ x. a * x) (F.laws.mul-inv b h) ∙ F.laws.mul-one a

  -- a quotient is known by its product with the divisor
  pub div-unique : (a b c : A) → (b ≡ 𝟎 → ⊥) → a ≡ c * b → div F.operations a b ≡ c
  div-unique a b c h e = ap (λ x. div F.operations x b) e ∙ mul_div_cancel c b h
