-- One cell of the triangle as it is computed (heading "The point at a parameter"): the left product, the right product, their
-- sum and the quotient are rounded to binary64, each once and in this order. The three whole differences are cast first; below 2 ^ 53 that is exact.
use Rattle.std.specs.Prelude.{ℤ, Float}
use Rattle.std.specs.Float.{binary64}
use Rattle.std.specs.Float.Ieee.{of_int, add, mul, div}

-- (left·l + right·r) / whole, where left is w - t, right is t - t_j and whole is w - t_j
abbrev pub float_cell : (left right whole : ℤ) (l r : Float) → Float
float_cell left right whole l r = div binary64 (add binary64 (mul binary64 (of_int binary64 left) l) (mul binary64 (of_int binary64 right) r)) (of_int binary64 whole)
