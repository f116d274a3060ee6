-- Removing one occurrence of v (heading "Inserting and removing a knot"): it can be done exactly where a polygon of whole points on
-- the grid, on the knots with one v fewer, gives the old curve back when v is inserted.
use Rattle.std.specs.Prelude.{cond, List, [], ◌∷◌, ◌≡◌, ℕ, eqb}
use Rattle.curve.specs.Lists.{Lists}
use Rattle.insertion.specs.Insertion.{inserted}
use Rattle.insertion.specs.Judged.{insertion_number}

unfoldable pub without_one : ℕ → List ℕ → List ℕ  -- the knots with one v fewer
without_one v [] = []
without_one v (t ∷ ts) = cond (eqb t v) ts (t ∷ without_one v ts)

-- d is c without one v: inserting v into d, with lists as long as those of c, is refused by no number, 7 among them, and gives exactly c
pub record Removes (m v : ℕ) (c d : Lists) : Type 0 where
  pub fewer : d.knots ≡ without_one v c.knots
  pub accepts : insertion_number m d v c ≡ 0
  pub gives : inserted m d v ≡ c

-- there is such a curve, among all lists of whole numbers
pub record Removable (m : ℕ) (c : Lists) (v : ℕ) : Type 0 where
  pub without : Lists
  pub removes : Removes m v c without
