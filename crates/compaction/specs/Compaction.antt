-- Compaction (heading "Inserting and removing a knot"): a pass over the inner values, the smallest first, that removes at each value as long
-- as that is possible. Built on `Removable`, the statement over every polygon, and on no way of finding one.
use Rattle.std.specs.Prelude.{ℕ, ◌≤◌, ◌<◌, length, get_or}
use Rattle.curve.specs.Lists.{Lists}
use Rattle.grid.specs.Rows.{occurrences}
use Rattle.removal.specs.Removal.{Removes, Removable}

abbrev pub Stays : ℕ → ℕ → Lists → Type 0  -- no v can be removed
Stays m v c = Removable m c v → ⊥

pub data RemovesWhile (m v : ℕ) : Lists → Lists → Type 0 where  -- at one value: remove while removal is accepted
  stays : {c : Lists} → Stays m v c → RemovesWhile m v c c
  goes_on : {c d e : Lists} → Removes m v c d → RemovesWhile m v d e → RemovesWhile m v c e

-- v is the smallest inner value above `low`: a knot strictly inside the domain, and no knot above `low` is below it
pub record IsNext (m low : ℕ) (c : Lists) (v : ℕ) : Type 0 where
  pub above : low < v
  pub left : get_or c.knots m 0 < v
  pub right : v < get_or c.knots (length c.xs) 0
  pub present : 0 < occurrences v c.knots
  pub least : (j : ℕ) → j < length c.knots → low < get_or c.knots j 0 → v ≤ get_or c.knots j 0

-- the inner values above `low`, from left to right, each as often as removal is accepted
pub data Pass (m : ℕ) : ℕ → Lists → Lists → Type 0 where
  done : {low : ℕ} {c : Lists} → ((v : ℕ) → IsNext m low c v → ⊥) → Pass m low c c
  next : {low v : ℕ} {c d e : Lists} → IsNext m low c v → RemovesWhile m v c d → Pass m v d e → Pass m low c e

abbrev pub CompactsTo : ℕ → Lists → Lists → Type 0  -- one pass over all inner values
CompactsTo m c d = Pass m (get_or c.knots m 0) c d
