-- A whole number is what it has above zero less what it has below: two natural numbers, of which linear arithmetic can speak.
use Rattle.std.specs.Prelude.{ℕ, suc, ℤ, pos, negsuc}

-- how far z lies above zero
abbrev pub up : ℤ → ℕ
up (pos n) = n
up (negsuc n) = 0

-- how far z lies below zero
abbrev pub down : ℤ → ℕ
down (pos n) = 0
down (negsuc n) = suc n
