-- Bare arithmetic operations. A formula that is written once over them is read at pairs of whole numbers,
-- at their quotient, at any ordered field and at the solver's expressions alike.

-- numbers with sum, product, negation and reciprocal
pub record Operations : Type 1 where
  pub Number : Type 0
  pub zero : Number
  pub one : Number
  pub add : Number → Number → Number
  pub mul : Number → Number → Number
  pub neg : Number → Number
  pub inv : Number → Number

-- a - b
abbrev pub sub : (O : Operations) → O.Number → O.Number → O.Number
sub O a b = O.add a (O.neg b)

-- a / b; the reciprocal decides what a zero divisor gives
abbrev pub div : (O : Operations) → O.Number → O.Number → O.Number
div O a b = O.mul a (O.inv b)
