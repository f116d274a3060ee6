-- Laws of every commutative ring that follow from its axioms: zero, negation, difference, cancelling.
use mathlib.Core.Path.{◌≡◌, refl, sym, ◌∙◌, ap}
use Prim.Native.Nat as Nat
use Prim.Native.Nat.{ℕ, zero, suc}
use native.Mathlib.Nat as NatL
use Rattle.algebra.specs.Ring.{Ring, numeral}

module _ (R : Ring) where
  infixl 6 ◌+◌
  infixl 7 ◌*◌
  abbrev A : Type 0
  A = R.operations.Number

  abbrev 𝟎 : A
  𝟎 = R.operations.zero

  abbrev 𝟏 : A
  𝟏 = R.operations.one

  abbrev ◌+◌ : A → A → A
  a + b = R.operations.add a b

  abbrev ◌*◌ : A → A → A
  a * b = R.operations.mul a b

  abbrev neg : A → A
  neg a = R.operations.neg a

  pub zero-add : (a : A) → 𝟎 + a ≡ a
  zero-add a = R.laws.add_comm 𝟎 a ∙ R.laws.add-zero a

  pub one-mul : (a : A) → 𝟏 * a ≡ a
  one-mul a = R.laws.mul_comm 𝟏 a ∙ R.laws.mul-one a

  pub neg-add-self : (a : A) → neg a + a ≡ 𝟎
  neg-add-self a = R.laws.add_comm (neg a) a ∙ R.laws.add-neg a

  pub add_left_comm : (a b c : A) → a + (b + c) ≡ b + (a + c)
  add_left_comm a b c = sym (R.laws.add_assoc a b c) ∙ ap (λ x. x + c) (R.laws.add_comm a b) ∙ R.laws.add_assoc b a c

  pub mul_left_comm : (a b c : A) → a * (b * c) ≡ b * (a * c)
  mul_left_comm a b c = sym (R.laws.mul_assoc a b c) ∙ ap (λ x. x * c) (R.laws.mul_comm a b) ∙ R.laws.mul_assoc b a c

  pub add-mul : (a b c : A) → (a + b) * c ≡ a * c + b * c
  add-mul a b c = R.laws.mul_comm (a + b) c ∙ R.laws.mul-add c a b ∙ ap (λ x. x + c * b) (R.laws.mul_comm c a) ∙ ap (λ x. a * c + x) (R.laws.mul_comm c b)

  pub add_neg_cancel : (a b : A) → (a + b) + neg b ≡ a
  add_neg_cancel a b = R.laws.add_assoc a b (neg b) ∙ ap (λ x. a + x) (R.laws.add-neg b) ∙ R.laws.add-zero a

  pub sub_add_cancel : (a b : A) → (a + neg b) + b ≡ a
  sub_add_cancel a b = R.laws.add_assoc a (neg b) b ∙ ap (λ x. a + x) (neg-add-self b) ∙ R.laws.add-zero a

  pub add-cancel-right : (a b c : A) → a + c ≡ b + c → a ≡ b
  add-cancel-right a b c h = sym (add_neg_cancel a c) ∙ ap (λ x. x + neg c) h ∙ add_neg_cancel b c

  -- the negation is the one number that brings the sum to zero
  pub neg_unique : (a b : A) → a + b ≡ 𝟎 → a ≡ neg b
  neg_unique a b h = add-cancel-right a (neg b) b (h ∙ sym (neg-add-self b))

  pub neg-zero : neg 𝟎 ≡ 𝟎
  neg-zero = sym (neg_unique 𝟎 𝟎 (R.laws.add-zero 𝟎))

  pub neg-neg : (a : A) → neg (neg a) ≡ a
  neg-neg a = sym (neg_unique a (neg a) (R.laws.add-neg a))

  pub neg-add : (a b : A) → neg (a + b) ≡ neg a + neg b
  neg-add a b =
      sym (neg_unique (neg a + neg b) (a + b)
      (R.laws.add_assoc (neg a) (neg b) (a + b) ∙ ap (λ x. neg a + x) (add_left_comm (neg b) a b ∙ ap (λ x. a + x) (neg-add-self b) ∙ R.laws.add-zero a) ∙ neg-add-self a))

  pub mul-zero : (a : A) → a * 𝟎 ≡ 𝟎
  mul-zero a =
      add-cancel-right (a * 𝟎) 𝟎 (a * 𝟎)
      (sym (R.laws.mul-add a 𝟎 𝟎) ∙ ap (λ x. a * x) (R.laws.add-zero 𝟎) ∙ sym (zero-add (a * 𝟎)))

  pub zero-mul : (a : A) → 𝟎 * a ≡ 𝟎
  zero-mul a = R.laws.mul_comm 𝟎 a ∙ mul-zero a

  pub mul-neg : (a b : A) → a * neg b ≡ neg (a * b)
  mul-neg a b = neg_unique (a * neg b) (a * b) (sym (R.laws.mul-add a (neg b) b) ∙ ap (λ x. a * x) (neg-add-self b) ∙ mul-zero a)

  pub neg-mul : (a b : A) → neg a * b ≡ neg (a * b)
  neg-mul a b = R.laws.mul_comm (neg a) b ∙ mul-neg b a ∙ ap neg (R.laws.mul_comm b a)

  pub neg-mul-neg : (a b : A) → neg a * neg b ≡ a * b
  neg-mul-neg a b = neg-mul a (neg b) ∙ ap neg (mul-neg a b) ∙ neg-neg (a * b)

  -- two numbers are equal exactly when their difference is zero
  pub equal-of-sub-zero : (a b : A) → a + neg b ≡ 𝟎 → a ≡ b
  equal-of-sub-zero a b h = neg_unique a (neg b) h ∙ neg-neg b

  pub sub-zero-of-equal : (a b : A) → a ≡ b → a + neg b ≡ 𝟎
  sub-zero-of-equal a b h = ap (λ x. x + neg b) h ∙ R.laws.add-neg b

  -- (a + b) + (c + d) = (a + c) + (b + d)
  pub add-exchange : (a b c d : A) → (a + b) + (c + d) ≡ (a + c) + (b + d)
  add-exchange a b c d =
      R.laws.add_assoc a b (c + d) ∙ ap (λ x. a + x) (add_left_comm b c d) ∙ sym (R.laws.add_assoc a c (b + d))

  pub numeral-suc : (n : ℕ) → numeral R.operations (suc n) ≡ numeral R.operations n + 𝟏
  unfolding numeral
  numeral-suc zero = sym (zero-add 𝟏)
  numeral-suc (suc n) = refl

  pub numeral-add : (m n : ℕ) → numeral R.operations (Nat.◌+◌ m n) ≡ numeral R.operations m + numeral R.operations n
  unfolding numeral
  numeral-add m zero = ap (numeral R.operations) (NatL.add-zero m) ∙ sym (R.laws.add-zero (numeral R.operations m))
  numeral-add m (suc n) =
      ap (numeral R.operations) (NatL.add-suc m n) ∙ numeral-suc (Nat.◌+◌ m n) ∙ ap (λ x. x + 𝟏) (numeral-add m n)
      ∙ R.laws.add_assoc (numeral R.operations m) (numeral R.operations n) 𝟏
      ∙ ap (λ x. numeral R.operations m + x) (sym (numeral-suc n))

  pub numeral-mul : (m n : ℕ) → numeral R.operations (Nat.◌*◌ m n) ≡ numeral R.operations m * numeral R.operations n
  unfolding numeral
  numeral-mul m zero = ap (numeral R.operations) (NatL.mul-zero m) ∙ sym (mul-zero (numeral R.operations m))
  numeral-mul m (suc n) =
      ap (numeral R.operations) (NatL.mul-suc m n) ∙ numeral-add (Nat.◌*◌ m n) m ∙ ap (λ x. x + numeral R.operations m) (numeral-mul m n)
      ∙ ap (λ x. numeral R.operations m * numeral R.operations n + x) (sym (R.laws.mul-one (numeral R.operations m)))
      ∙ sym (R.laws.mul-add (numeral R.operations m) (numeral R.operations n) 𝟏)
      ∙ ap (λ x. numeral R.operations m * x) (sym (numeral-suc n))
