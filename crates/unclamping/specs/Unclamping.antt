-- Unclamping a curve at its right end (heading "Ends that are not clamped"): the m knots behind t_{n+1} go on in the steps of the last span, and the exact curve
-- over the domain stays. `m` is the degree, `ts` the knots, `count` the number of points, `c` the curve.
use Rattle.std.specs.Prelude.{Bool, cond, ◌&&◌, List, ℕ, ◌+◌, ◌-◌, ◌*◌, leb, eqb, ℤ, pos, ◌-ℤ◌, ◌*ℤ◌, length, get_or}
use Rattle.refusal.specs.Judging.{unless}
use Rattle.refusal.specs.Numbers.{unclamp_refused}
use Rattle.curve.specs.Lists.{Lists, lists}
use Rattle.curve.specs.HandingOver.{room_number}
use Rattle.grid.specs.Limits.{knot_most}
use Rattle.grid.specs.Rows.{all_on_grid}
use Rattle.grid.specs.Check.{checked_then}
use Rattle.insertion.specs.Insertion.{entries}
use Rattle.clamping.specs.declared.Share.{Share}
use Rattle.clamping.specs.EndRows.{whole, End, finish_of}
use Rattle.clamping.specs.Clamping.{whole_of, all_whole}

unfoldable pub end_clamped : ℕ → List ℕ → ℕ → Bool  -- the last m+1 knots agree: where none falls, when the outermost of them do
end_clamped m ts count = eqb (get_or ts (count + m) 0) (get_or ts count 0)

-- knot j afterwards: t_{n+1} plus so many times the width of the last span, where it stands so many places behind t_{n+1}
unfoldable pub open_knot : List ℕ → ℕ → ℕ → ℕ
open_knot ts count j = cond (leb j count) (get_or ts j 0) (get_or ts count 0 + (j - count) * (get_or ts count 0 - get_or ts (count - 1) 0))

unfoldable pub knots_fit : ℕ → List ℕ → ℕ → Bool  -- no new knot passes 16,383: the last one does not
knots_fit m ts count = leb (open_knot ts count (count + m)) knot_most

-- of degree 3 the last point but one afterwards, for the points p and q that stood there and before it: p + h·(p - q) / (g + h), where h is the width of the
-- last span and g + h that of the last two
unfoldable pub open_second : End → Share
open_second end =
    record {
      upper = pos (end.inside 2 + end.inside 1) *ℤ end.point 1 -ℤ pos (end.inside 1) *ℤ end.point 2;
      lower = end.inside 2;
    }

-- of degree 3 the last point: 6 times itself, less 3 times the one before it, less twice the new one before it
unfoldable pub open_first : End → Share
open_first end =
    record {
      upper = pos (end.inside 2) *ℤ (pos 6 *ℤ end.point 0 -ℤ pos 3 *ℤ end.point 1) -ℤ pos 2 *ℤ (open_second end).upper;
      lower = end.inside 2;
    }

-- the k-th point from the end afterwards; of degree 2 the last is twice itself less the one before it
unfoldable pub open_number : End → ℕ → ℕ → Share
open_number end m k =
    cond (eqb m 2 && eqb k 0) (whole (pos 2 *ℤ end.point 0 -ℤ end.point 1))
    (cond (eqb m 3 && eqb k 0) (open_first end) (cond (eqb m 3 && eqb k 1) (open_second end) (whole (end.point k))))

abbrev pub open_numbers : ℕ → List ℕ → List ℤ → ℕ → Share  -- the same by index, on one axis
open_numbers m ts ps j = open_number (finish_of ts ps) m (length ps - 1 - j)

unfoldable pub open_points : ℕ → List ℕ → List ℤ → List ℤ
open_points m ts ps = entries (λ j. whole_of (open_numbers m ts ps j)) (length ps)

unfoldable pub unclamped : ℕ → Lists → Lists  -- the unclamped curve
unclamped m c =
    lists (entries (open_knot c.knots (length c.xs)) (length c.knots)) (open_points m c.knots c.xs) (open_points m c.knots c.ys)

unfoldable pub opens_on : ℕ → List ℕ → List ℤ → Bool  -- on one axis every point is whole and on the grid
opens_on m ts ps = all_whole (open_numbers m ts ps) (length ps) && all_on_grid (open_points m ts ps)

-- row 23: the last m+1 knots agree, the new knots fit, and so do the points on both axes
unfoldable pub opens : ℕ → Lists → Bool
opens m c =
    end_clamped m c.knots (length c.xs) && knots_fit m c.knots (length c.xs)
    && (opens_on m c.knots c.xs && opens_on m c.knots c.ys)

-- the number of unclamping: 1 to 7, 23, then 15 for the lent lists; 0 where nothing is refused
unfoldable pub unclamp_number : ℕ → Lists → Lists → ℕ
unclamp_number m c lent = checked_then m c.knots c.xs c.ys (unless (opens m c) unclamp_refused (room_number (unclamped m c) lent))
