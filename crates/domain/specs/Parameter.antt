-- What a call at a parameter is refused with (headings "The point at a parameter" and "Numbers of refusal"): the point and the carrying coordinates alike.
use Rattle.std.specs.Prelude.{List, ℕ, ◌-◌, ℤ, length}
use Rattle.refusal.specs.Judging.{unless}
use Rattle.refusal.specs.Numbers.{accepted, parameter_refused}
use Rattle.grid.specs.Check.{checked_then}
use Rattle.span.specs.Span.{in_domain}

-- 1 to 7 for the curve, then 8 for a whole parameter outside the domain; 0 for none of them
unfoldable pub parameter_number : ℕ → List ℕ → List ℤ → List ℤ → ℕ → ℕ
parameter_number m ts xs ys t = checked_then m ts xs ys (unless (in_domain ts m (length xs - 1) t 1) parameter_refused accepted)
