-- Three lists that go together (heading "The curve on the grid"): a curve's knots, x and y, or the three lent lists that receive them.
use Rattle.std.specs.Prelude.{List, ℕ, ◌≤◌, ◌<◌, ℤ, length, get_or}

pub record Lists : Type 0 where  -- knots, x coordinates, y coordinates
  pub knots : List ℕ
  pub xs : List ℤ
  pub ys : List ℤ

abbrev pub lists : List ℕ → List ℤ → List ℤ → Lists
lists ts xs ys = record { knots = ts; xs = xs; ys = ys }

abbrev pub NeverFall : List ℕ → Type 0  -- no knot is below one that stands before it
NeverFall ts = (a b : ℕ) → a ≤ b → b < length ts → get_or ts a 0 ≤ get_or ts b 0
