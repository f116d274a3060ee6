-- One pass of compaction, over all entries (heading "Inserting and removing a knot"): how much goes, what stays, and how a value's turn ends; and the
-- rows that compacting is refused by (heading "Numbers of refusal"), each as a sentence that holds where the row applies.
use Rattle.std.specs.Prelude.{◌⊎◌, ◌≡◌, ℕ, ◌+◌, ◌≤◌, length, get_or, List, [], ◌∷◌}
use Rattle.curve.specs.Lists.{Lists}
use Rattle.grid.specs.Rows.{occurrences}
use Rattle.compaction.specs.Compaction.{Stays, RemovesWhile, CompactsTo}
use Rattle.refusal.specs.Chain.{Row, row, AnswersFirst}
use Rattle.curve.specs.Sentences.{RoomWrong}
use Rattle.checked.specs.Sentences.{curve_rows}
use Rattle.compaction.specs.Outcome.{CompactionComesTo}

-- k knots have gone from c, and d is left: k points fewer on either axis; the domain's ends stay; a value that is not strictly inside it stands
-- as often as before, and no value more often
pub record Leaves (m : ℕ) (c d : Lists) (k : ℕ) : Type 0 where
  pub points : (length c.xs ≡ length d.xs + k) × (length c.ys ≡ length d.ys + k)
  pub start : get_or c.knots m 0 ≡ get_or d.knots m 0
  pub stop : get_or c.knots (length c.xs) 0 ≡ get_or d.knots (length d.xs) 0
  pub outside : (w : ℕ) → (w ≤ get_or c.knots m 0) ⊎ (get_or c.knots (length c.xs) 0 ≤ w) → occurrences w d.knots ≡ occurrences w c.knots
  pub seldom : (w : ℕ) → occurrences w d.knots ≤ occurrences w c.knots

abbrev pub PassLeaves : Type 0
PassLeaves = (m : ℕ) (c d : Lists) → CompactsTo m c d → (k : ℕ) × Leaves m c d k

-- right after a value's turn its removal is not accepted
abbrev pub TurnEnds : Type 0
TurnEnds = (m v : ℕ) (c d : Lists) → RemovesWhile m v c d → Stays m v d

-- row 15: a lent list is too short for the curve that one pass leaves
abbrev pub NoRoomLeft : ℕ → Lists → Lists → Type 0
NoRoomLeft m c lent = (d : Lists) × CompactsTo m c d × RoomWrong d lent

-- the order of compacting: 1 to 7, 15
abbrev pub compaction_rows : ℕ → Lists → Lists → List Row
compaction_rows m c lent = curve_rows m c.knots c.xs c.ys (row 15 (NoRoomLeft m c lent) ∷ [])

-- compacting answers the first of these rows that applies, and 0 exactly where none does
abbrev pub CompactionAnswersFirst : Type 0
CompactionAnswersFirst = (m : ℕ) (c lent : Lists) (number : ℕ) (d : Lists) → CompactionComesTo m c lent number d → AnswersFirst number (compaction_rows m c lent)
