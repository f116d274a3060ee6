-- What removing a knot comes to (headings "Inserting and removing a knot" and "Numbers of refusal"): a number and a curve. The cases shut each
-- other out, and a polygon that gives the old points back is the only one, so no two outcomes differ.
use Rattle.std.specs.Prelude.{◌≡◌, ℕ}
use Rattle.refusal.specs.Numbers.{not_removable_refused}
use Rattle.curve.specs.Lists.{Lists}
use Rattle.curve.specs.HandingOver.{room_number}
use Rattle.removal.specs.Removal.{Removes, Removable}
use Rattle.removal.specs.Judged.{removal_number}

-- the number that removing v from c comes to, and the curve d without it; with a number above 0 nothing is said of d
pub data RemovalComesTo (m : ℕ) (c : Lists) (v : ℕ) (lent : Lists) (number : ℕ) (d : Lists) : Type 0 where
  -- 1 to 7 or 12 applies
  refused : (removal_number m c v ≡ 0 → ⊥) → number ≡ removal_number m c v → RemovalComesTo m c v lent number d
  -- no polygon gives the old points back: 13
  not_removable : removal_number m c v ≡ 0 → (Removable m c v → ⊥) → number ≡ not_removable_refused → RemovalComesTo m c v lent number d
  -- d gives them back: 0, or 15 where a lent list is too short for it
  removed : removal_number m c v ≡ 0 → Removes m v c d → number ≡ room_number d lent → RemovalComesTo m c v lent number d
