-- Two curves of one degree with the same domain and, at every fraction of it, the same exact point (heading "Inserting and removing a knot").
use Rattle.std.specs.Prelude.{true, List, ◌≡◌, ℕ, ◌-◌, ◌<◌, ℤ, length, get_or}
use Rattle.fractions.specs.Order.{Equals}
use Rattle.exact.specs.ExactCurve.{exact_at}
use Rattle.span.specs.Span.{in_domain}
use Rattle.refusal.specs.Numbers.{accepted}
use Rattle.insertion.specs.Insertion.{inserted}
use Rattle.insertion.specs.Judged.{insertion_number}
use Rattle.grid.specs.Check.{Passes}
use Rattle.removal.specs.Removal.{Removes}
use Rattle.curve.specs.Lists.{Lists}
use Rattle.compaction.specs.Compaction.{CompactsTo}

-- knots ts and coordinates ps on one axis against knots us and coordinates qs: the domain is the same, and so is the exact coordinate
-- at every fraction p/q of the domain
pub record SameOnAxis (m : ℕ) (ts : List ℕ) (ps : List ℤ) (us : List ℕ) (qs : List ℤ) : Type 0 where
  pub start : get_or us m 0 ≡ get_or ts m 0
  pub stop : get_or us (length qs) 0 ≡ get_or ts (length ps) 0
  pub point : (p q : ℕ) → 0 < q → in_domain ts m (length ps - 1) p q ≡ true → Equals (exact_at m us qs p q) (exact_at m ts ps p q)

-- the curve d is the curve c: the same on both axes
pub record SameCurve (m : ℕ) (c d : Lists) : Type 0 where
  pub x : SameOnAxis m c.knots c.xs d.knots d.xs
  pub y : SameOnAxis m c.knots c.ys d.knots d.ys

-- whenever inserting v is not refused, the curve that the call's contract names is the old one
abbrev pub InsertKeepsCurve : Type 0
InsertKeepsCurve = (m : ℕ) (c : Lists) (v : ℕ) (lent : Lists) → insertion_number m c v lent ≡ accepted → SameCurve m c (inserted m c v)

-- whenever a polygon gives the old points back on reinsertion, which is when removing v is accepted, its curve is the old one
abbrev pub RemoveKeepsCurve : Type 0
RemoveKeepsCurve = (m v : ℕ) (c d : Lists) → Removes m v c d → SameCurve m c d

-- whenever a curve that passes the check compacts to another, that one is the old curve
abbrev pub CompactKeepsCurve : Type 0
CompactKeepsCurve = (m : ℕ) (c d : Lists) → Passes m c.knots c.xs c.ys → CompactsTo m c d → SameCurve m c d

-- what an accepted insertion, an accepted removal and a compaction give passes the check again
abbrev pub EditingPasses : Type 0
EditingPasses =
    ((m : ℕ) (c : Lists) (v : ℕ) (lent : Lists) → insertion_number m c v lent ≡ accepted
    → Passes m (inserted m c v).knots (inserted m c v).xs (inserted m c v).ys)
    × ((m v : ℕ) (c d : Lists) → Removes m v c d → Passes m d.knots d.xs d.ys)
    × ((m : ℕ) (c d : Lists) → Passes m c.knots c.xs c.ys → CompactsTo m c d → Passes m d.knots d.xs d.ys)
