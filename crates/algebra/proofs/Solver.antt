-- Equations of any commutative ring R, solved by computing: `ring`, and `linear-combination` from facts. How to use it:
--   `ring R (a ∷ b ∷ []) (var 0 ⊗ var 1) (var 1 ⊗ var 0) refl : a · b ≡ b · a`
-- The list gives the values of `var 0`, `var 1`, ..; the two expressions are the two sides; `refl` closes it (`false` against
-- `true` in the error says that the equation does not hold). `field_ring F` is an ordered field's ring, `integer_ring` that of ℤ.
-- A formula f that is written over any `Operations` need not be typed again: `f (expressions divisors k) (var 0) ..` is its
-- expression. There 1 / d is `var k` for the first of `divisors`, `var (k + 1)` for the next: put `inv d` at these places of the list.
-- A reciprocal needs its fact, with the factor that it is used with:
--   `linear-combination R (x ∷ d ∷ inv d ∷ []) (var 0 ⊗ var 1 ⊗ var 2) (var 0) (fact (var 0) (var 1 ⊗ var 2) (lit 1) ∷ []) (h, tt) refl`
-- proves x · d · inv d ≡ x from h : d · inv d ≡ 1; it tests l - r = Σ factor · (left - right). `lit n` is a sum of n ones.
-- Expressions stand in `proofs.Expressions`, worked uses in `proofs.Controls`.
use mathlib.Core.Path.{◌≡◌, refl, sym, ◌∙◌, ap, subst}
use mathlib.Core.Bool.{Bool, true, false, ◌&&◌, true≢false}
use mathlib.Core.List.{List, [], ◌∷◌}
use Prim.Native.Nat as Nat
use Prim.Native.Nat.{ℕ, zero, suc}
use lib.Dec.{T, eqb, eqb→eq}
use Rattle.algebra.specs.Operations.{Operations}
use Rattle.algebra.specs.Ring.{Ring, numeral}
use Rattle.algebra.proofs.RingLaws as Law
use Rattle.algebra.proofs.Expressions.{E, var, lit, ◌⊕◌, ◌⊗◌, ◌⊖◌, minus, Horner, whole, ◌▷◌, raise, plus, opposite, scale, each, times, variable, norm, nil}

both_left : (a b : Bool) → (a && b) ≡ true → a ≡ true
both_left true b h = refl
both_left false b h = h

both_right : (a b : Bool) → (a && b) ≡ true → b ≡ true
both_right true b h = h
both_right false b h = absurd (true≢false (sym h))

equal-of-eqb : (m n : ℕ) → eqb m n ≡ true → m ≡ n
equal-of-eqb m n h = eqb→eq m n (subst T (sym h) tt)

-- the first value of a list and the others; zero stands behind the end
abbrev pub first : (O : Operations) → List O.Number → O.Number
first O [] = O.zero
first O (x ∷ ρ) = x

abbrev pub others : {A : Type 0} → List A → List A
others [] = []
others (x ∷ ρ) = ρ

abbrev pub place : (O : Operations) → List O.Number → ℕ → O.Number
place O ρ zero = first O ρ
place O ρ (suc i) = place O (others ρ) i

-- the number n as a sum of ones, where it computes
abbrev pub ones : (O : Operations) → ℕ → O.Number
ones O zero = O.zero
ones O (suc zero) = O.one
ones O (suc (suc n)) = O.add (ones O (suc n)) O.one

-- what an expression denotes at the values ρ of its variables
abbrev pub den : (O : Operations) → List O.Number → E → O.Number
den O ρ (var i) = place O ρ i
den O ρ (lit n) = ones O n
den O ρ (a ⊕ b) = O.add (den O ρ a) (den O ρ b)
den O ρ (a ⊗ b) = O.mul (den O ρ a) (den O ρ b)
den O ρ (minus a) = O.neg (den O ρ a)

-- a fact left = right, with the factor that it is used with
pub data Fact : Type 0 where
  fact : (factor left right : E) → Fact

-- the facts hold at the values ρ: a pair of the first one's proof and the others', `tt` at the end
abbrev pub Hold : (O : Operations) → List O.Number → List Fact → Type 0
Hold O ρ [] = Unit {0}
Hold O ρ (fact c a b ∷ us) = (den O ρ a ≡ den O ρ b) × Hold O ρ us

-- the sum of the factors times the facts' differences
abbrev pub combination : List Fact → E
combination [] = lit 0
combination (fact c a b ∷ us) = c ⊗ (a ⊖ b) ⊕ combination us

module _ (R : Ring) where
  infixl 6 ◌+◌
  infixl 7 ◌*◌
  abbrev A : Type 0
  A = R.operations.Number

  abbrev 𝟎 : A
  𝟎 = R.operations.zero

  abbrev 𝟏 : A
  𝟏 = R.operations.one

  abbrev ◌+◌ : A → A → A
  a + b = R.operations.add a b

  abbrev ◌*◌ : A → A → A
  a * b = R.operations.mul a b

  abbrev neg : A → A
  neg a = R.operations.neg a

  numeral_of : ℕ → A
  numeral_of n = numeral R.operations n

  -- a coefficient's value, and a normal form's
  value : ℕ → ℕ → A
  value a b = numeral_of a + neg (numeral_of b)

  worth : List A → Horner → A
  worth ρ (whole a b) = value a b
  worth ρ (p ▷ q) = worth (others ρ) p + first R.operations ρ * worth ρ q

  value-zero : (a b : ℕ) → a ≡ b → value a b ≡ 𝟎
  unfolding value
  value-zero a b h = Law.sub-zero-of-equal R (numeral_of a) (numeral_of b) (ap numeral_of h)

  value-nil : value 0 0 ≡ 𝟎
  value-nil = value-zero 0 0 refl

  value-numeral : (n : ℕ) → value n 0 ≡ numeral_of n
  unfolding value numeral_of numeral
  value-numeral n = ap (λ x. numeral_of n + x) (Law.neg-zero R) ∙ R.laws.add-zero (numeral_of n)

  value-one : value 1 0 ≡ 𝟏
  unfolding numeral_of numeral
  value-one = value-numeral 1

  value-add : (a b c d : ℕ) → value (Nat.◌+◌ a c) (Nat.◌+◌ b d) ≡ value a b + value c d
  unfolding value numeral_of
  value-add a b c d =
      ap (λ x. x + neg (numeral_of (Nat.◌+◌ b d))) (Law.numeral-add R a c)
      ∙ ap (λ x. numeral_of a + numeral_of c + x) (ap neg (Law.numeral-add R b d) ∙ Law.neg-add R (numeral_of b) (numeral_of d))
      ∙ Law.add-exchange R (numeral_of a) (numeral_of c) (neg (numeral_of b)) (neg (numeral_of d))

  value-neg : (a b : ℕ) → value b a ≡ neg (value a b)
  unfolding value
  value-neg a b =
      R.laws.add_comm (numeral_of b) (neg (numeral_of a))
      ∙ ap (λ x. neg (numeral_of a) + x) (sym (Law.neg-neg R (numeral_of b)))
      ∙ sym (Law.neg-add R (numeral_of a) (neg (numeral_of b)))

  -- (a - b)(c - d) = (ac + bd) - (ad + bc)
  product-of-differences : (a b c d : A) → a * c + b * d + neg (a * d + b * c) ≡ (a + neg b) * (c + neg d)
  product-of-differences a b c d =
      simp (R.laws.mul-add, Law.add-mul R, Law.mul-neg R, Law.neg-mul R, Law.neg-add R, Law.neg-neg R, R.laws.add_assoc, R.laws.add_comm, Law.add_left_comm R)

  value-mul : (a b c d : ℕ) → value (Nat.◌+◌ (Nat.◌*◌ a c) (Nat.◌*◌ b d)) (Nat.◌+◌ (Nat.◌*◌ a d) (Nat.◌*◌ b c)) ≡ value a b * value c d
  unfolding value numeral_of
  value-mul a b c d =
      ap (λ x. x + neg (numeral_of (Nat.◌+◌ (Nat.◌*◌ a d) (Nat.◌*◌ b c)))) (pairs a c b d)
      ∙ ap (λ x. numeral_of a * numeral_of c + numeral_of b * numeral_of d + neg x) (pairs a d b c)
      ∙ product-of-differences (numeral_of a) (numeral_of b) (numeral_of c) (numeral_of d)
    where
      pairs : (a b c d : ℕ) → numeral_of (Nat.◌+◌ (Nat.◌*◌ a b) (Nat.◌*◌ c d)) ≡ numeral_of a * numeral_of b + numeral_of c * numeral_of d
      pairs a b c d =
          Law.numeral-add R (Nat.◌*◌ a b) (Nat.◌*◌ c d) ∙ ap (λ x. x + numeral_of (Nat.◌*◌ c d)) (Law.numeral-mul R a b)
          ∙ ap (λ x. numeral_of a * numeral_of b + x) (Law.numeral-mul R c d)

  worth-raise : (ρ : List A) (a b : ℕ) (p : Horner) → worth ρ (raise a b p) ≡ value a b + worth ρ p
  unfolding worth
  worth-raise ρ a b (whole c d) = value-add a b c d
  worth-raise ρ a b (p ▷ q) =
      ap (λ x. x + first R.operations ρ * worth ρ q) (worth-raise (others ρ) a b p)
      ∙ R.laws.add_assoc (value a b) (worth (others ρ) p) (first R.operations ρ * worth ρ q)

  worth-plus : (ρ : List A) (p q : Horner) → worth ρ (plus p q) ≡ worth ρ p + worth ρ q
  unfolding worth
  worth-plus ρ (whole a b) s = worth-raise ρ a b s
  worth-plus ρ (p ▷ q) (whole c d) =
      worth-raise ρ c d (p ▷ q) ∙ R.laws.add_comm (value c d) (worth ρ (p ▷ q))
  worth-plus ρ (p ▷ q) (r ▷ s) =
      ap (λ x. x + first R.operations ρ * worth ρ (plus q s)) (worth-plus (others ρ) p r)
      ∙ ap (λ x. worth (others ρ) p + worth (others ρ) r + x)
      (ap (λ x. first R.operations ρ * x) (worth-plus ρ q s) ∙ R.laws.mul-add (first R.operations ρ) (worth ρ q) (worth ρ s))
      ∙ Law.add-exchange R (worth (others ρ) p) (worth (others ρ) r) (first R.operations ρ * worth ρ q) (first R.operations ρ * worth ρ s)

  worth-opposite : (ρ : List A) (p : Horner) → worth ρ (opposite p) ≡ neg (worth ρ p)
  unfolding worth
  worth-opposite ρ (whole a b) = value-neg a b
  worth-opposite ρ (p ▷ q) =
      ap (λ x. x + first R.operations ρ * worth ρ (opposite q)) (worth-opposite (others ρ) p)
      ∙ ap (λ x. neg (worth (others ρ) p) + x)
      (ap (λ x. first R.operations ρ * x) (worth-opposite ρ q) ∙ Law.mul-neg R (first R.operations ρ) (worth ρ q))
      ∙ sym (Law.neg-add R (worth (others ρ) p) (first R.operations ρ * worth ρ q))

  -- c(p + xq) = cp + x(cq)
  inward : (c p x q : A) → c * p + x * (c * q) ≡ c * (p + x * q)
  inward c p x q = ap (λ y. c * p + y) (Law.mul_left_comm R x c q) ∙ sym (R.laws.mul-add c p (x * q))

  worth-scale : (ρ : List A) (a b : ℕ) (p : Horner) → worth ρ (scale a b p) ≡ value a b * worth ρ p
  unfolding worth
  worth-scale ρ a b (whole c d) = value-mul a b c d
  worth-scale ρ a b (p ▷ q) =
      ap (λ x. x + first R.operations ρ * worth ρ (scale a b q)) (worth-scale (others ρ) a b p)
      ∙ ap (λ x. value a b * worth (others ρ) p + first R.operations ρ * x) (worth-scale ρ a b q)
      ∙ inward (value a b) (worth (others ρ) p) (first R.operations ρ) (worth ρ q)

  worth-each : (ρ : List A) (c : A) (f : Horner → Horner) → ((r : Horner) → worth (others ρ) (f r) ≡ c * worth (others ρ) r) → (s : Horner) → worth ρ (each f s) ≡ c * worth ρ s
  unfolding worth
  worth-each ρ c f h (whole a b) =
      ap (λ x. worth (others ρ) (f (whole a b)) + x) (ap (λ x. first R.operations ρ * x) value-nil ∙ Law.mul-zero R (first R.operations ρ))
      ∙ R.laws.add-zero (worth (others ρ) (f (whole a b))) ∙ h (whole a b)
  worth-each ρ c f h (p ▷ q) =
      ap (λ x. x + first R.operations ρ * worth ρ (each f q)) (h p)
      ∙ ap (λ x. c * worth (others ρ) p + first R.operations ρ * x) (worth-each ρ c f h q)
      ∙ inward c (worth (others ρ) p) (first R.operations ρ) (worth ρ q)

  worth-times : (ρ : List A) (p q : Horner) → worth ρ (times p q) ≡ worth ρ p * worth ρ q
  unfolding worth
  worth-times ρ (whole a b) s = worth-scale ρ a b s
  worth-times ρ (p ▷ q) s =
      worth-plus ρ (each (λ r. times p r) s) (whole 0 0 ▷ times q s)
      ∙ ap (λ x. x + worth ρ (whole 0 0 ▷ times q s)) (worth-each ρ (worth (others ρ) p) (λ r. times p r) (λ r. worth-times (others ρ) p r) s)
      ∙ ap (λ x. worth (others ρ) p * worth ρ s + x)
      (ap (λ x. x + first R.operations ρ * worth ρ (times q s)) value-nil ∙ Law.zero-add R (first R.operations ρ * worth ρ (times q s))
      ∙ ap (λ x. first R.operations ρ * x) (worth-times ρ q s) ∙ sym (R.laws.mul_assoc (first R.operations ρ) (worth ρ q) (worth ρ s)))
      ∙ sym (Law.add-mul R (worth (others ρ) p) (first R.operations ρ * worth ρ q) (worth ρ s))

  -- x times the coefficient zero
  times-nil : (x : A) → x * value 0 0 ≡ 𝟎
  times-nil x = ap (λ y. x * y) value-nil ∙ Law.mul-zero R x

  worth-variable : (ρ : List A) (i : ℕ) → worth ρ (variable i) ≡ place R.operations ρ i
  unfolding worth
  worth-variable ρ zero =
      ap (λ x. x + first R.operations ρ * value 1 0) value-nil ∙ Law.zero-add R (first R.operations ρ * value 1 0)
      ∙ ap (λ x. first R.operations ρ * x) value-one ∙ R.laws.mul-one (first R.operations ρ)
  worth-variable ρ (suc i) =
      ap (λ x. worth (others ρ) (variable i) + x) (times-nil (first R.operations ρ))
      ∙ R.laws.add-zero (worth (others ρ) (variable i)) ∙ worth-variable (others ρ) i

  ones-numeral : (n : ℕ) → ones R.operations n ≡ numeral_of n
  unfolding numeral_of numeral
  ones-numeral zero = refl
  ones-numeral (suc zero) = refl
  ones-numeral (suc (suc n)) = ap (λ x. x + 𝟏) (ones-numeral (suc n))

  -- a normal form has the value of its expression
  worth-norm : (ρ : List A) (e : E) → worth ρ (norm e) ≡ den R.operations ρ e
  unfolding worth
  worth-norm ρ (var i) = worth-variable ρ i
  worth-norm ρ (lit n) = value-numeral n ∙ sym (ones-numeral n)
  worth-norm ρ (a ⊕ b) =
      worth-plus ρ (norm a) (norm b) ∙ ap (λ x. x + worth ρ (norm b)) (worth-norm ρ a) ∙ ap (λ x. den R.operations ρ a + x) (worth-norm ρ b)
  worth-norm ρ (a ⊗ b) =
      worth-times ρ (norm a) (norm b) ∙ ap (λ x. x * worth ρ (norm b)) (worth-norm ρ a) ∙ ap (λ x. den R.operations ρ a * x) (worth-norm ρ b)
  worth-norm ρ (minus a) = worth-opposite ρ (norm a) ∙ ap neg (worth-norm ρ a)

  worth-nil : (ρ : List A) (p : Horner) → nil p ≡ true → worth ρ p ≡ 𝟎
  unfolding worth
  worth-nil ρ (whole a b) h = value-zero a b (equal-of-eqb a b h)
  worth-nil ρ (p ▷ q) h =
      ap (λ x. x + first R.operations ρ * worth ρ q) (worth-nil (others ρ) p (both_left (nil p) (nil q) h))
      ∙ Law.zero-add R (first R.operations ρ * worth ρ q)
      ∙ ap (λ x. first R.operations ρ * x) (worth-nil ρ q (both_right (nil p) (nil q) h)) ∙ Law.mul-zero R (first R.operations ρ)

  -- an expression whose normal form has no coefficient is zero
  vanishes : (ρ : List A) (e : E) → nil (norm e) ≡ true → den R.operations ρ e ≡ 𝟎
  vanishes ρ e h = sym (worth-norm ρ e) ∙ worth-nil ρ (norm e) h

  -- two expressions are equal at all values where the difference has no coefficient: a use ends in `refl`
  pub ring : (ρ : List A) (l r : E) → nil (norm (l ⊖ r)) ≡ true → den R.operations ρ l ≡ den R.operations ρ r
  ring ρ l r h = Law.equal-of-sub-zero R (den R.operations ρ l) (den R.operations ρ r) (vanishes ρ (l ⊖ r) h)

  combination-zero : (ρ : List A) (us : List Fact) → Hold R.operations ρ us → den R.operations ρ (combination us) ≡ 𝟎
  combination-zero ρ [] h = refl
  combination-zero ρ (fact c a b ∷ us) h =
      ap (λ x. den R.operations ρ c * x + den R.operations ρ (combination us)) (Law.sub-zero-of-equal R (den R.operations ρ a) (den R.operations ρ b) h.0)
      ∙ ap (λ x. x + den R.operations ρ (combination us)) (Law.mul-zero R (den R.operations ρ c))
      ∙ Law.zero-add R (den R.operations ρ (combination us)) ∙ combination-zero ρ us h.1

  -- the same from facts, each with its factor: where l - r is the sum of the factors times the facts' differences
  pub linear-combination : (ρ : List A) (l r : E) (us : List Fact) → Hold R.operations ρ us → nil (norm (l ⊖ r ⊖ combination us)) ≡ true → den R.operations ρ l ≡ den R.operations ρ r
  linear-combination ρ l r us hs h =
      Law.equal-of-sub-zero R (den R.operations ρ l) (den R.operations ρ r)
      (Law.equal-of-sub-zero R (den R.operations ρ (l ⊖ r)) (den R.operations ρ (combination us)) (vanishes ρ (l ⊖ r ⊖ combination us) h)
      ∙ combination-zero ρ us hs)
