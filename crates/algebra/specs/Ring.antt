-- Commutative rings over bare operations: what an equation solver needs. The reciprocal plays no part in them.
use Rattle.std.specs.Prelude.{◌≡◌, ℕ, zero, suc}
use Rattle.algebra.specs.Operations.{Operations}
use Rattle.algebra.specs.OrderedField.{OrderedField}

-- the laws of a commutative ring, over its operations
pub record IsRing (O : Operations) : Type 0 where
  pub add_assoc : (a b c : O.Number) → O.add (O.add a b) c ≡ O.add a (O.add b c)
  pub add_comm : (a b : O.Number) → O.add a b ≡ O.add b a
  pub add-zero : (a : O.Number) → O.add a O.zero ≡ a
  pub add-neg : (a : O.Number) → O.add a (O.neg a) ≡ O.zero
  pub mul_assoc : (a b c : O.Number) → O.mul (O.mul a b) c ≡ O.mul a (O.mul b c)
  pub mul_comm : (a b : O.Number) → O.mul a b ≡ O.mul b a
  pub mul-one : (a : O.Number) → O.mul a O.one ≡ a
  pub mul-add : (a b c : O.Number) → O.mul a (O.add b c) ≡ O.add (O.mul a b) (O.mul a c)

-- a commutative ring
pub record Ring : Type 1 where
  pub operations : Operations
  pub laws : IsRing operations

-- the ring of an ordered field
abbrev pub field_ring : OrderedField → Ring
field_ring F =
    record {
      operations = F.operations;
      laws =
          record {
            add_assoc = F.laws.add_assoc;
            add_comm = F.laws.add_comm;
            add-zero = F.laws.add-zero;
            add-neg = F.laws.add-neg;
            mul_assoc = F.laws.mul_assoc;
            mul_comm = F.laws.mul_comm;
            mul-one = F.laws.mul-one;
            mul-add = F.laws.mul-add;
          };
    }

-- the number n as a sum of ones: 0, 1, 1 + 1, (1 + 1) + 1, ..
unfoldable pub numeral : (O : Operations) → ℕ → O.Number
numeral O zero = O.zero
numeral O (suc zero) = O.one
numeral O (suc (suc n)) = O.add (numeral O (suc n)) O.one
