-- When a whole number with a sign goes into another.
use Rattle.std.specs.Prelude.{Bool, ◌%◌, eqb, ℤ, nat_abs}

unfoldable pub divides : ℤ → ℤ → Bool  -- d goes into z and leaves nothing, whatever the two signs
divides d z = eqb (nat_abs z % nat_abs d) 0
