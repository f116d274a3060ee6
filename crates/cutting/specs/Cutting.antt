-- A curve cut at its inner knots (heading "Out to SVG"): each of them is inserted, from left to right, until it stands m times.
-- `m` is the degree, `c` the curve, `ts` its knots.
use Rattle.std.specs.Prelude.{List, [], ◌∷◌, ◌++◌, ℕ, ◌-◌, length, replicate}
use Rattle.refusal.specs.Numbers.{accepted}
use Rattle.curve.specs.Lists.{Lists}
use Rattle.grid.specs.Rows.{occurrences}
use Rattle.grid.specs.Check.{checked_then}
use Rattle.insertion.specs.Insertion.{inserted}
use Rattle.insertion.specs.Judged.{insertable_then}
use Rattle.span_walk.specs.SpansMet.{up_from, keep, non_empty, high_knots}

-- the values at which `count` spans from i on end, as far as these are not empty: each value once, rising
unfoldable pub ends_from : List ℕ → ℕ → ℕ → List ℕ
ends_from ts i count = high_knots ts (keep (non_empty ts) (up_from i count))

abbrev pub inner_values : ℕ → Lists → List ℕ  -- the inner knots, each value once: where the spans from m to n-1 end
inner_values m c = ends_from c.knots m (length c.xs - 1 - m)

unfoldable pub lacking : ℕ → List ℕ → List ℕ → List ℕ  -- each of the values as often as it lacks of standing m times
lacking m ts [] = []
lacking m ts (v ∷ vs) = replicate (m - occurrences v ts) v ++ lacking m ts vs

abbrev pub cuts : ℕ → Lists → List ℕ  -- the values to insert, in their order
cuts m c = lacking m c.knots (inner_values m c)

unfoldable pub inserted_each : ℕ → List ℕ → Lists → Lists  -- the values inserted one after the other
inserted_each m [] c = c
inserted_each m (v ∷ vs) c = inserted_each m vs (inserted m c v)

-- what is judged of inserting them: the first insertion that is refused, by its own number; where none is, `next`
unfoldable pub insertable_each_then : ℕ → List ℕ → Lists → ℕ → ℕ
insertable_each_then m [] c next = next
insertable_each_then m (v ∷ vs) c next = insertable_then m c v (insertable_each_then m vs (inserted m c v) next)

abbrev pub cut : ℕ → Lists → Lists  -- the curve with every inner knot m times
cut m c = inserted_each m (cuts m c) c

-- 1 to 7 for the curve, then 10 or 11 from the first insertion that fails, then `next`
unfoldable pub cut_then : ℕ → Lists → ℕ → ℕ
cut_then m c next = checked_then m c.knots c.xs c.ys (insertable_each_then m (cuts m c) c next)

abbrev pub cut_number : ℕ → Lists → ℕ  -- the number of cutting alone
cut_number m c = cut_then m c accepted
