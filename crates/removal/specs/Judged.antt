-- When removing v is refused for what was handed in (headings "Numbers of refusal" and "Inserting and removing a knot").
use Rattle.std.specs.Prelude.{Bool, ◌&&◌, List, ℕ, leb, ℤ, length}
use Rattle.refusal.specs.Judging.{unless}
use Rattle.refusal.specs.Numbers.{accepted, not_inner_refused}
use Rattle.curve.specs.Lists.{Lists}
use Rattle.span.specs.Span.{strictly_inside}
use Rattle.grid.specs.Rows.{occurrences}
use Rattle.grid.specs.Check.{checked_then}

unfoldable pub inner_ok : ℕ → List ℕ → List ℤ → ℕ → Bool  -- row 12: v lies strictly inside the domain, and is one of the knots
inner_ok m ts xs v = strictly_inside ts m (length xs) v && leb 1 (occurrences v ts)

unfoldable pub removal_number : ℕ → Lists → ℕ → ℕ  -- 1 to 7, then 12; 0 where none of them applies
removal_number m c v =
    checked_then m c.knots c.xs c.ys (unless (inner_ok m c.knots c.xs v) not_inner_refused accepted)
