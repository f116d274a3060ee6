-- The exact curve of lists (heading "The point at a parameter"): at the parameter p/q, in the span that the span rule gives.
use Rattle.std.specs.Prelude.{List, ℕ, ◌-◌, ℤ, length}
use Rattle.fractions.specs.Fraction.{Fraction}
use Rattle.span.specs.Span.{span_of}
use Rattle.exact.specs.ExactPoint.{exact_coordinate}

-- one coordinate of the exact point at p/q
abbrev pub exact_at : ℕ → List ℕ → List ℤ → ℕ → ℕ → Fraction
exact_at m ts ps p q = exact_coordinate ts ps m (span_of ts m (length ps - 1) p q) p q
