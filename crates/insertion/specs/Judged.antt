-- When inserting v is refused, and by which number (headings "Numbers of refusal" and "Inserting and removing a knot").
use Rattle.std.specs.Prelude.{Bool, ◌&&◌, List, ℕ, ltb, ℤ, length}
use Rattle.refusal.specs.Judging.{unless}
use Rattle.refusal.specs.Numbers.{insertion_refused, full_refused, not_whole_refused}
use Rattle.curve.specs.Lists.{Lists}
use Rattle.curve.specs.HandingOver.{room_number}
use Rattle.span.specs.Span.{strictly_inside}
use Rattle.grid.specs.Limits.{points_most}
use Rattle.grid.specs.Rows.{occurrences}
use Rattle.grid.specs.Check.{checked_then}
use Rattle.insertion.specs.Insertion.{inserted, whole_points}

unfoldable pub value_ok : ℕ → List ℕ → List ℤ → ℕ → Bool  -- row 9: v lies strictly inside the domain, and does not stand there m times
value_ok m ts xs v = strictly_inside ts m (length xs) v && ltb (occurrences v ts) m

unfoldable pub place_ok : List ℤ → Bool  -- row 10: there is a place for one point more
place_ok xs = ltb (length xs) points_most

unfoldable pub whole_ok : ℕ → Lists → ℕ → Bool  -- row 11: every new coordinate is whole, on both axes
whole_ok m c v = whole_points m c.knots c.xs v && whole_points m c.knots c.ys v

-- what is judged of a curve that passed the check: 9, 10, 11 in this order, and then `next`
unfoldable pub insertable_then : ℕ → Lists → ℕ → ℕ → ℕ
insertable_then m c v next =
    unless (value_ok m c.knots c.xs v) insertion_refused
    (unless (place_ok c.xs) full_refused (unless (whole_ok m c v) not_whole_refused next))

-- the number of inserting v: 1 to 7, then 9, 10, 11, then 15 for the lent lists; 0 where nothing is refused
unfoldable pub insertion_number : ℕ → Lists → ℕ → Lists → ℕ
insertion_number m c v lent =
    checked_then m c.knots c.xs c.ys (insertable_then m c v (room_number (inserted m c v) lent))
