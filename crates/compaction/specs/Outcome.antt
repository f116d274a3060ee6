-- What compacting a curve comes to (headings "Inserting and removing a knot" and "Numbers of refusal"): a number and a curve. A pass has one result,
-- so no two outcomes differ.
use Rattle.std.specs.Prelude.{◌≡◌, ℕ, ◌-◌, length}
use Rattle.curve.specs.Lists.{Lists}
use Rattle.curve.specs.HandingOver.{room_number}
use Rattle.grid.specs.Check.{check_number, Passes}
use Rattle.compaction.specs.Compaction.{CompactsTo}

-- the number that compacting c comes to, and the curve d that one pass leaves of it; with 1 to 7 nothing is said of d
pub data CompactionComesTo (m : ℕ) (c lent : Lists) (number : ℕ) (d : Lists) : Type 0 where
  -- 1 to 7 applies
  refused : (Passes m c.knots c.xs c.ys → ⊥) → number ≡ check_number m c.knots c.xs c.ys → CompactionComesTo m c lent number d
  -- 0, or 15 where a lent list is too short for d, however long c was
  compacted : Passes m c.knots c.xs c.ys → CompactsTo m c d → number ≡ room_number d lent → CompactionComesTo m c lent number d

abbrev pub knots_taken : Lists → Lists → ℕ  -- the knots that a pass took from c where it left d: old points less new
knots_taken c d = length c.xs - length d.xs
