-- An ordered field whose order is a test: `nonneg a` says whether a is at least zero. The reciprocal of zero is zero.
use Rattle.std.specs.Prelude.{◌≡◌, Bool, true, false}
use Rattle.algebra.specs.Operations.{Operations, sub}

-- the laws of an ordered field, over its operations and its test
pub record IsOrderedField (O : Operations) (nonneg : O.Number → Bool) : Type 0 where
  pub is_set : IsSet O.Number
  pub add_assoc : (a b c : O.Number) → O.add (O.add a b) c ≡ O.add a (O.add b c)
  pub add_comm : (a b : O.Number) → O.add a b ≡ O.add b a
  pub add-zero : (a : O.Number) → O.add a O.zero ≡ a
  pub add-neg : (a : O.Number) → O.add a (O.neg a) ≡ O.zero
  pub mul_assoc : (a b c : O.Number) → O.mul (O.mul a b) c ≡ O.mul a (O.mul b c)
  pub mul_comm : (a b : O.Number) → O.mul a b ≡ O.mul b a
  pub mul-one : (a : O.Number) → O.mul a O.one ≡ a
  pub mul-add : (a b c : O.Number) → O.mul a (O.add b c) ≡ O.add (O.mul a b) (O.mul a c)
  pub mul-inv : (a : O.Number) → (a ≡ O.zero → ⊥) → O.mul a (O.inv a) ≡ O.one
  pub inv-zero : O.inv O.zero ≡ O.zero
  pub nonneg-add : (a b : O.Number) → nonneg a ≡ true → nonneg b ≡ true → nonneg (O.add a b) ≡ true
  pub nonneg-mul : (a b : O.Number) → nonneg a ≡ true → nonneg b ≡ true → nonneg (O.mul a b) ≡ true
  pub nonneg-total : (a : O.Number) → nonneg a ≡ false → nonneg (O.neg a) ≡ true
  pub nonneg-both : (a : O.Number) → nonneg a ≡ true → nonneg (O.neg a) ≡ true → a ≡ O.zero
  pub one_apart : O.one ≡ O.zero → ⊥

-- an ordered field
pub record OrderedField : Type 1 where
  pub operations : Operations
  pub nonneg : operations.Number → Bool
  pub laws : IsOrderedField operations nonneg

-- a ≤ b: the difference is at least zero
abbrev pub AtMost : (F : OrderedField) → F.operations.Number → F.operations.Number → Type 0
AtMost F a b = F.nonneg (sub F.operations b a) ≡ true

-- a < b: b is not at most a, so the difference a - b fails the test
abbrev pub Below : (F : OrderedField) → F.operations.Number → F.operations.Number → Type 0
Below F a b = F.nonneg (sub F.operations a b) ≡ false

-- the two sides on which a bound can stand
pub data Side : Type 0 where
  low high : Side

-- v bounds x: v ≤ x where v stands on the low side, x ≤ v where it stands on the high side
abbrev pub Bounds : (F : OrderedField) → Side → F.operations.Number → F.operations.Number → Type 0
Bounds F low v x = AtMost F v x
Bounds F high v x = AtMost F x v
