-- A curve c with clamped ends that is cut from the left as far as the span i, and what it is then, the curve d, round that span. The span's low knot, like every inner knot to its left,
-- stands m times: so it is the last of the first k * m + m + 1 knots of d, where k pieces lie to its left. Its high knot was inserted r times.
use Rattle.std.specs.Prelude.{List, ◌≡◌, ℕ, ◌+◌, ◌*◌, ◌≤◌, ◌<◌, ℤ, pos, length, get_or}
use Rattle.curve.specs.Lists.{Lists}
use Rattle.grid.specs.Check.{Passes}
use Rattle.checked.specs.Checked.{Clamped}
use Rattle.insertion.specs.Insertion.{point_at}

-- the knots: the low knot m times, the high knot r times, and then c's own behind the low knot
pub record Window (m : ℕ) (c d : Lists) (i k r : ℕ) : Type 0 where
  pub passes : Passes m d.knots d.xs d.ys
  pub original : Passes m c.knots c.xs c.ys
  pub clamped : Clamped m c.knots (length c.xs)
  pub points : length d.xs + i ≡ length c.xs + (k * m + m) + r
  pub least : m ≤ i
  pub inside : i < length c.xs
  pub wide : get_or c.knots i 0 < get_or c.knots (i + 1) 0
  pub low : (a : ℕ) → 1 ≤ a → a ≤ m → get_or d.knots (k * m + a) 0 ≡ get_or c.knots i 0
  pub again : (a : ℕ) → 1 ≤ a → a ≤ r → get_or d.knots (k * m + m + a) 0 ≡ get_or c.knots (i + 1) 0
  pub far : (x : ℕ) → 1 ≤ x → get_or d.knots (k * m + m + r + x) 0 ≡ get_or c.knots (i + x) 0

-- one axis, `ps` of c and `qs` of d: a row holds the m + 1 points that carry the span, and further on stand c's own
pub record Carried (m : ℕ) (ps qs : List ℤ) (i k r : ℕ) (row : List ℤ) : Type 0 where
  pub places : length row ≡ 4
  pub unused : (a : ℕ) → m < a → a < 4 → point_at row a ≡ pos 0
  pub holds : (a : ℕ) → a ≤ m → point_at qs (k * m + a) ≡ point_at row a
  pub far : (x : ℕ) → 1 ≤ x → point_at qs (k * m + m + r + x) ≡ point_at ps (i + x)

-- `count` points of d behind the row
pub record Behind (m : ℕ) (qs : List ℤ) (k count : ℕ) (next : List ℤ) : Type 0 where
  pub places : length next ≡ 4
  pub unused : (a : ℕ) → count ≤ a → a < 4 → point_at next a ≡ pos 0
  pub holds : (a : ℕ) → a < count → point_at qs (k * m + m + 1 + a) ≡ point_at next a

-- behind the knot with index i its next value stands s times, and then a larger one
pub record Run (ts : List ℕ) (i s : ℕ) : Type 0 where
  pub least : 1 ≤ s
  pub inside : i + s + 1 < length ts
  pub same : (x : ℕ) → 1 ≤ x → x ≤ s → get_or ts (i + x) 0 ≡ get_or ts (i + 1) 0
  pub ends : get_or ts (i + 1) 0 < get_or ts (i + s + 1) 0
