-- A fraction is two whole numbers, the lower one above zero (heading "The point at a parameter"). It is never reduced:
-- 2/4 and 1/2 are two fractions that are equal by cross-multiplying (`Equals` of `Order`).
use Rattle.std.specs.Prelude.{ℕ, zero, suc, ◌*◌, ◌-◌, ℤ, pos, negsuc, neg_ℤ, ◌+ℤ◌, ◌*ℤ◌}
use Rattle.algebra.specs.Operations.{Operations}

-- upper / (lower_less + 1): the lower number is kept less one, so that none is zero
pub record Fraction : Type 0 where
  pub upper : ℤ
  pub lower_less : ℕ

-- the lower number, at least 1
abbrev pub lower : Fraction → ℕ
lower a = suc a.lower_less

-- p / q for a q above zero (a q of zero is read as 1)
abbrev pub over : ℤ → ℕ → Fraction
over p q = record { upper = p; lower_less = q - 1 }

-- z / 1
abbrev pub whole : ℤ → Fraction
whole z = record { upper = z; lower_less = 0 }

-- n / 1
abbrev pub whole_n : ℕ → Fraction
whole_n n = whole (pos n)

-- p/q + r/s = (p·s + r·q) / (q·s)
unfoldable pub sum : Fraction → Fraction → Fraction
sum a b = over (a.upper *ℤ pos (lower b) +ℤ b.upper *ℤ pos (lower a)) (lower a * lower b)

-- p/q · r/s = (p·r) / (q·s)
unfoldable pub product : Fraction → Fraction → Fraction
product a b = over (a.upper *ℤ b.upper) (lower a * lower b)

-- -(p/q) = (-p)/q
unfoldable pub negation : Fraction → Fraction
negation a = record { upper = neg_ℤ a.upper; lower_less = a.lower_less }

-- q/p for the fraction p/q: the sign goes up, and zero gives zero
unfoldable pub turned : ℤ → ℕ → Fraction
turned (pos zero) q = whole (pos 0)
turned (pos (suc p)) q = record { upper = pos q; lower_less = p }
turned (negsuc p) q = record { upper = neg_ℤ (pos q); lower_less = p }

-- the reciprocal; that of zero is zero, so that a quotient with divisor zero counts as zero
unfoldable pub reciprocal : Fraction → Fraction
reciprocal a = turned a.upper (lower a)

-- the arithmetic of fractions, for formulas that are written once over any arithmetic
abbrev pub fraction_operations : Operations
fraction_operations =
    record { Number = Fraction; zero = whole (pos 0); one = whole (pos 1); add = sum; mul = product; neg = negation; inv = reciprocal }
