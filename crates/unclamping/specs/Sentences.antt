-- Unclamping the right end, told over all entries (headings "Ends that are not clamped" and "Numbers of refusal"): what the new curve holds at every index,
-- and its rows of refusal as sentences that hold where the row applies.
use Rattle.std.specs.Prelude.{List, [], ◌∷◌, ◌⊎◌, ◌≡◌, ℕ, ◌+◌, ◌-◌, ◌*◌, ◌≤◌, ◌<◌, ℤ, pos, ◌-ℤ◌, ◌*ℤ◌, length, get_or}
use Rattle.refusal.specs.Chain.{Row, row, AnswersFirst}
use Rattle.curve.specs.Lists.{Lists}
use Rattle.curve.specs.Sentences.{RoomWrong}
use Rattle.grid.specs.Limits.{knot_most}
use Rattle.checked.specs.Sentences.{OffGrid, curve_rows}
use Rattle.unclamping.specs.Unclamping.{open_numbers, unclamped, unclamp_number}

-- the knots: t_n lies left of t_{n+1}; up to t_{n+1} they are as before, and behind it they go on in steps of t_{n+1} - t_n
pub record OpenKnots (m : ℕ) (ts : List ℕ) (n : ℕ) (us : List ℕ) : Type 0 where
  pub places : length us ≡ length ts
  pub width : get_or ts n 0 < get_or ts (n + 1) 0
  pub left : (j : ℕ) → j ≤ n + 1 → get_or us j 0 ≡ get_or ts j 0
  pub right : (k : ℕ) → k ≤ m → get_or us (n + 1 + k) 0 ≡ get_or ts (n + 1) 0 + k * (get_or ts (n + 1) 0 - get_or ts n 0)

-- one axis, from P_0 .. P_n to Q_0 .. Q_n: all but the last m - 1 are as before; of degree 2 Q_n = 2·P_n - P_{n-1}; of degree 3
-- (t_{n+1} - t_{n-1})·(Q_{n-1} - P_{n-1}) = (t_{n+1} - t_n)·(P_{n-1} - P_{n-2}) and Q_n = 6·P_n - 3·P_{n-1} - 2·Q_{n-1}
pub record OpenAxis (m : ℕ) (ts : List ℕ) (ps : List ℤ) (n : ℕ) (qs : List ℤ) : Type 0 where
  pub places : length qs ≡ length ps
  pub left : (j : ℕ) → j + m ≤ n + 1 → get_or qs j (pos 0) ≡ get_or ps j (pos 0)
  pub two : m ≡ 2 → get_or qs n (pos 0) ≡ pos 2 *ℤ get_or ps n (pos 0) -ℤ get_or ps (n - 1) (pos 0)
  pub three : m ≡ 3
      → (pos (get_or ts (n + 1) 0) -ℤ pos (get_or ts (n - 1) 0)) *ℤ (get_or qs (n - 1) (pos 0) -ℤ get_or ps (n - 1) (pos 0))
      ≡ (pos (get_or ts (n + 1) 0) -ℤ pos (get_or ts n 0)) *ℤ (get_or ps (n - 1) (pos 0) -ℤ get_or ps (n - 2) (pos 0))
  pub last : m ≡ 3
      → get_or qs n (pos 0) ≡ pos 6 *ℤ get_or ps n (pos 0) -ℤ pos 3 *ℤ get_or ps (n - 1) (pos 0) -ℤ pos 2 *ℤ get_or qs (n - 1) (pos 0)

-- whenever unclamping is not refused, the new curve has these entries
abbrev pub UnclampedByIndex : Type 0
UnclampedByIndex =
    (m : ℕ) (c lent : Lists) (n : ℕ) → unclamp_number m c lent ≡ 0 → length c.xs ≡ n + 1
    → OpenKnots m c.knots n (unclamped m c).knots
    × OpenAxis m c.knots c.xs n (unclamped m c).xs
    × OpenAxis m c.knots c.ys n (unclamped m c).ys

-- row 23, the knots: some of the last m+1 is not t_{n+1}
abbrev pub EndNotClamped : ℕ → Lists → Type 0
EndNotClamped m c = (k : ℕ) × (k ≤ m) × (get_or c.knots (length c.xs + k) 0 ≡ get_or c.knots (length c.xs) 0 → ⊥)

-- t_{n+1} + m·(t_{n+1} - t_n) is above 16,383
abbrev pub KnotsPast : ℕ → Lists → Type 0
KnotsPast m c =
    knot_most < get_or c.knots (length c.xs) 0 + m * (get_or c.knots (length c.xs) 0 - get_or c.knots (length c.xs - 1) 0)

-- z is point j afterwards, on one axis: times what stands below the line it is what stands above
abbrev pub OpenPoint : ℕ → List ℕ → List ℤ → ℕ → ℤ → Type 0
OpenPoint m ts ps j z = z *ℤ pos (open_numbers m ts ps j).lower ≡ (open_numbers m ts ps j).upper

-- on one axis some of the last m - 1 points is no whole number, or one beyond the grid
abbrev pub PointWrongOn : ℕ → List ℕ → List ℤ → Type 0
PointWrongOn m ts ps =
    (j : ℕ) × (j < length ps) × (length ps < j + m)
    × (((z : ℤ) → OpenPoint m ts ps j z → ⊥) ⊎ ((z : ℤ) × OpenPoint m ts ps j z × OffGrid z))

-- row 23: an end that cannot be unclamped
abbrev pub UnclampWrong : ℕ → Lists → Type 0
UnclampWrong m c = EndNotClamped m c ⊎ KnotsPast m c ⊎ PointWrongOn m c.knots c.xs ⊎ PointWrongOn m c.knots c.ys

-- the order of unclamping: 1 to 7, 23, 15
abbrev pub unclamp_rows : ℕ → Lists → Lists → List Row
unclamp_rows m c lent =
    curve_rows m c.knots c.xs c.ys (row 23 (UnclampWrong m c) ∷ row 15 (RoomWrong (unclamped m c) lent) ∷ [])

-- unclamping answers the first of these rows that applies, and 0 exactly where none does
abbrev pub UnclampAnswersFirst : Type 0
UnclampAnswersFirst = (m : ℕ) (c lent : Lists) → AnswersFirst (unclamp_number m c lent) (unclamp_rows m c lent)
