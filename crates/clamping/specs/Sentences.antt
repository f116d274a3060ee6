-- Clamping, told over all entries (headings "Ends that are not clamped" and "Numbers of refusal"): row 11 as a sentence that holds where it applies, what the
-- clamped curve's knots are, and that a clamped curve comes back.
use Rattle.std.specs.Prelude.{true, List, [], ◌∷◌, ◌⊎◌, ◌≡◌, ℕ, ◌+◌, ◌<◌, ℤ, pos, ◌*ℤ◌, length, get_or}
use Rattle.refusal.specs.Chain.{Row, row, AnswersFirst}
use Rattle.curve.specs.Lists.{Lists}
use Rattle.curve.specs.Sentences.{RoomWrong}
use Rattle.grid.specs.Rows.{occurrences}
use Rattle.grid.specs.Check.{Passes}
use Rattle.checked.specs.Checked.{Clamped}
use Rattle.checked.specs.Sentences.{curve_rows}
use Rattle.clamping.specs.declared.Share.{Share}
use Rattle.clamping.specs.Clamping.{carrying_part, clamped_number, clamped, clamps_whole, clamp_number}

-- z is upper / lower: times what stands below the line it is what stands above
abbrev pub IsThe : ℤ → Share → Type 0
IsThe z a = z *ℤ pos a.lower ≡ a.upper

-- row 11, on one axis: some number of the clamped polygon is no whole number
abbrev pub NotWholeOn : ℕ → List ℕ → List ℤ → Type 0
NotWholeOn m ts ps = (j : ℕ) × (j < length ps) × ((z : ℤ) → IsThe z (clamped_number m ts ps j) → ⊥)

-- row 11: on either axis of the part that carries
abbrev pub ClampNotWhole : ℕ → Lists → Type 0
ClampNotWhole m c = let d = carrying_part m c in NotWholeOn m d.knots d.xs ⊎ NotWholeOn m d.knots d.ys

-- the order of clamping: 1 to 7, 11, 15
abbrev pub clamp_rows : ℕ → Lists → Lists → List Row
clamp_rows m c lent =
    curve_rows m c.knots c.xs c.ys (row 11 (ClampNotWhole m c) ∷ row 15 (RoomWrong (clamped m c) lent) ∷ [])

-- clamping answers the first of these rows that applies, and 0 exactly where none does
abbrev pub ClampAnswersFirst : Type 0
ClampAnswersFirst = (m : ℕ) (c lent : Lists) → AnswersFirst (clamp_number m c lent) (clamp_rows m c lent)

-- the knots of e are those of c, clamped: strictly inside the domain every value as often as before, each end of it m+1 times, and no other value
pub record ClampedCounts (m : ℕ) (c e : Lists) : Type 0 where
  pub inner : (v : ℕ) → get_or c.knots m 0 < v → v < get_or c.knots (length c.xs) 0 → occurrences v e.knots ≡ occurrences v c.knots
  pub start : occurrences (get_or c.knots m 0) e.knots ≡ m + 1
  pub stop : occurrences (get_or c.knots (length c.xs) 0) e.knots ≡ m + 1
  pub below : (v : ℕ) → v < get_or c.knots m 0 → occurrences v e.knots ≡ 0
  pub above : (v : ℕ) → get_or c.knots (length c.xs) 0 < v → occurrences v e.knots ≡ 0

abbrev pub ClampedKnots : Type 0
ClampedKnots = (m : ℕ) (c : Lists) → Passes m c.knots c.xs c.ys → ClampedCounts m c (clamped m c)

-- the clamped curve passes the check, its ends are clamped, and its domain is the same
pub record ClampedWell (m : ℕ) (c e : Lists) : Type 0 where
  pub passes : Passes m e.knots e.xs e.ys
  pub clamped-ends : Clamped m e.knots (length e.xs)
  pub start : get_or e.knots m 0 ≡ get_or c.knots m 0
  pub stop : get_or e.knots (length e.xs) 0 ≡ get_or c.knots (length c.xs) 0

abbrev pub ClampedPasses : Type 0
ClampedPasses = (m : ℕ) (c : Lists) → Passes m c.knots c.xs c.ys → ClampedWell m c (clamped m c)

-- a curve whose ends are clamped is not refused for row 11, and comes back as it is
abbrev pub ClampedComesBack : Type 0
ClampedComesBack =
    (m : ℕ) (c : Lists) → Passes m c.knots c.xs c.ys → Clamped m c.knots (length c.xs)
    → (clamps_whole m c ≡ true) × (clamped m c ≡ c)
