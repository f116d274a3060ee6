-- Removing v, told over all entries (heading "Inserting and removing a knot"): what it takes from a curve, that it undoes an insertion, and the rows
-- that it is refused by (heading "Numbers of refusal"), each as a sentence that holds where the row applies.
use Rattle.std.specs.Prelude.{◌≡◌, ℕ, ◌+◌, ◌<◌, ◌≤◌, length, get_or, List, [], ◌∷◌, ◌⊎◌}
use Rattle.curve.specs.Lists.{Lists}
use Rattle.grid.specs.Rows.{occurrences}
use Rattle.insertion.specs.Insertion.{inserted}
use Rattle.insertion.specs.Judged.{insertion_number}
use Rattle.removal.specs.Removal.{Removes}
use Rattle.refusal.specs.Chain.{Row, row, AnswersFirst}
use Rattle.curve.specs.Sentences.{RoomWrong}
use Rattle.checked.specs.Sentences.{curve_rows}
use Rattle.removal.specs.Outcome.{RemovalComesTo}

-- d has one v and one point fewer than c; every other value stands as often, and the domain, with v strictly inside, has the same ends
pub record TakesOne (m v : ℕ) (c d : Lists) : Type 0 where
  pub points : (length c.xs ≡ length d.xs + 1) × (length c.ys ≡ length d.ys + 1)
  pub once : occurrences v c.knots ≡ occurrences v d.knots + 1
  pub others : (w : ℕ) → (w ≡ v → ⊥) → occurrences w c.knots ≡ occurrences w d.knots
  pub start : get_or c.knots m 0 ≡ get_or d.knots m 0
  pub stop : get_or c.knots (length c.xs) 0 ≡ get_or d.knots (length d.xs) 0
  pub inside : (get_or c.knots m 0 < v) × (v < get_or c.knots (length c.xs) 0)

abbrev pub RemovalTakesOne : Type 0
RemovalTakesOne = (m v : ℕ) (c d : Lists) → Removes m v c d → TakesOne m v c d

-- inserting v and then removing it gives the old curve, and no other
abbrev pub InsertedIsRemoved : Type 0
InsertedIsRemoved =
    (m : ℕ) (c : Lists) (v : ℕ) (lent : Lists) → insertion_number m c v lent ≡ 0
    → Removes m v (inserted m c v) c × ((d : Lists) → Removes m v (inserted m c v) d → d ≡ c)

-- row 12: v is at or left of t_m, or at or right of t_{n+1}, or no knot is v
abbrev pub NotInner : ℕ → Lists → ℕ → Type 0
NotInner m c v =
    (v ≤ get_or c.knots m 0) ⊎ (get_or c.knots (length c.xs) 0 ≤ v) ⊎ ((k : ℕ) → k < length c.knots → get_or c.knots k 0 ≡ v → ⊥)

-- row 13: no curve has one v fewer and gives this one when v is inserted
abbrev pub NoPolygon : ℕ → Lists → ℕ → Type 0
NoPolygon m c v = (d : Lists) → Removes m v c d → ⊥

-- row 15: a lent list is too short for the curve without v
abbrev pub NoRoomWithout : ℕ → Lists → ℕ → Lists → Type 0
NoRoomWithout m c v lent = (d : Lists) × Removes m v c d × RoomWrong d lent

-- the order of removing: 1 to 7, 12, 13, 15
abbrev pub removal_rows : ℕ → Lists → ℕ → Lists → List Row
removal_rows m c v lent =
    curve_rows m c.knots c.xs c.ys (row 12 (NotInner m c v) ∷ row 13 (NoPolygon m c v) ∷ row 15 (NoRoomWithout m c v lent) ∷ [])

-- removing answers the first of these rows that applies, and 0 exactly where none does
abbrev pub RemovalAnswersFirst : Type 0
RemovalAnswersFirst =
    (m : ℕ) (c : Lists) (v : ℕ) (lent : Lists) (number : ℕ) (d : Lists) → RemovalComesTo m c v lent number d → AnswersFirst number (removal_rows m c v lent)
