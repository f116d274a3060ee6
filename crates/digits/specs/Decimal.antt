-- A whole number as it is printed (heading "`clampcheck`"): its decimal digits, the highest first, with no zero in front;
-- 0 is the one digit 0.
use Rattle.std.specs.Prelude.{cond, List, [], ◌∷◌, ◌++◌, ℕ, zero, suc, ◌/◌, ◌%◌, ltb}
use Rattle.digits.specs.Letters.{digit}

-- a number below 10 is its digit; any other is the digits of its tenth part and then its last digit. `most` only lets it end
unfoldable pub digits_of : ℕ → ℕ → List ℕ
digits_of zero n = []
digits_of (suc most) n = cond (ltb n 10) (digit n ∷ []) (digits_of most (n / 10) ++ (digit (n % 10) ∷ []))

-- the digits of n, which are never more than n + 1
unfoldable pub decimal : ℕ → List ℕ
decimal n = digits_of (suc n) n
