-- Clamping a curve's ends (heading "Ends that are not clamped"): the same exact curve over the domain, on knots that keep the inner ones and have each end
-- value m+1 times. `m` is the degree, `c` the curve.
use Rattle.std.specs.Prelude.{Bool, true, cond, ◌&&◌, List, ℕ, zero, suc, ◌+◌, ◌-◌, leb, ℤ, pos, length, get_or, take, drop}
use Rattle.std.specs.Int.Signed.{quot_z}
use Rattle.refusal.specs.Judging.{unless}
use Rattle.refusal.specs.Numbers.{not_whole_refused}
use Rattle.signed.specs.Division.{divides}
use Rattle.curve.specs.Lists.{Lists, lists}
use Rattle.curve.specs.HandingOver.{room_number}
use Rattle.span.specs.Span.{span_of}
use Rattle.grid.specs.Check.{checked_then}
use Rattle.insertion.specs.Insertion.{entries}
use Rattle.clamping.specs.declared.Share.{Share}
use Rattle.clamping.specs.EndRows.{end_number, start_of, finish_of}

-- the first span of the domain that is not empty, and the last: those of its two ends
abbrev pub first_span : ℕ → Lists → ℕ
first_span m c = span_of c.knots m (length c.xs - 1) (get_or c.knots m 0) 1

abbrev pub last_span : ℕ → Lists → ℕ
last_span m c = span_of c.knots m (length c.xs - 1) (get_or c.knots (length c.xs) 0) 1

abbrev pub carriers_from : ℕ → Lists → ℕ  -- the points that carry some span between these two: the first of them, and how many they are
carriers_from m c = first_span m c - m

abbrev pub carriers : ℕ → Lists → ℕ
carriers m c = last_span m c + 1 - carriers_from m c

abbrev pub part : {A : Type 0} → ℕ → ℕ → List A → List A  -- so many entries, from one on
part first count l = take count (drop first l)

abbrev pub carrying_part : ℕ → Lists → Lists  -- the curve of the points that carry a span, and of its knots
carrying_part m c =
    let first = carriers_from m c in
    let count = carriers m c in
    lists (part first (count + m + 1) c.knots) (part first count c.xs) (part first count c.ys)

-- the knots of a curve with `count` points, clamped: t_m up to index m, t_{n+1} from index n+1 on, and those between as they are
unfoldable pub clamped_knot : ℕ → List ℕ → ℕ → ℕ → ℕ
clamped_knot m ts count j = cond (leb j m) (get_or ts m 0) (cond (leb count j) (get_or ts count 0) (get_or ts j 0))

-- point j of such a curve, clamped: the first m - 1 points are those of the start, the others those of the end
unfoldable pub clamped_number : ℕ → List ℕ → List ℤ → ℕ → Share
clamped_number m ts ps j = cond (leb (j + 2) m) (end_number (start_of m ts ps) m j) (end_number (finish_of ts ps) m (length ps - 1 - j))

abbrev pub is_whole : Share → Bool  -- a number is whole, and which it is
is_whole a = divides (pos a.lower) a.upper

abbrev pub whole_of : Share → ℤ
whole_of a = quot_z a.upper (pos a.lower)

unfoldable pub all_whole : (ℕ → Share) → ℕ → Bool  -- the numbers 0 to count - 1 are whole
all_whole f zero = true
all_whole f (suc count) = all_whole f count && is_whole (f count)

abbrev pub clamped_points : ℕ → List ℕ → List ℤ → List ℤ
clamped_points m ts ps = entries (λ j. whole_of (clamped_number m ts ps j)) (length ps)

abbrev pub clamped_part : ℕ → Lists → Lists  -- a curve whose points all carry, clamped
clamped_part m d =
    lists (entries (clamped_knot m d.knots (length d.xs)) (length d.knots)) (clamped_points m d.knots d.xs) (clamped_points m d.knots d.ys)

unfoldable pub clamped : ℕ → Lists → Lists  -- the clamped curve
clamped m c = clamped_part m (carrying_part m c)

-- row 11: every point of the clamped polygon is whole, on both axes
unfoldable pub clamps_whole : ℕ → Lists → Bool
clamps_whole m c =
    let d = carrying_part m c in
    all_whole (clamped_number m d.knots d.xs) (length d.xs) && all_whole (clamped_number m d.knots d.ys) (length d.ys)

-- 1 to 7 for the curve, then 11, then `next`
unfoldable pub clamp_then : ℕ → Lists → ℕ → ℕ
clamp_then m c next = checked_then m c.knots c.xs c.ys (unless (clamps_whole m c) not_whole_refused next)

-- the number of clamping: 1 to 7, 11, then 15 for the lent lists; 0 where nothing is refused
unfoldable pub clamp_number : ℕ → Lists → Lists → ℕ
clamp_number m c lent = clamp_then m c (room_number (clamped m c) lent)
