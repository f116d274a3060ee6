-- A curve that passes the check fits into a record's fields.
use mathlib.Core.List.{List}
use Prim.Native.Nat.{ℕ, ◌<◌, ◌≤◌}
use native.Mathlib.Decide.{dec_lt}
use native.Mathlib.Omega.{arith}
use lib.IntN.{ℤ, pos, negsuc, nat_abs}
use lib.ListN.{length, get_or, get_or-eq_default}
use mir.Syntax.{w32}
use mir.Val.{SFits}
use mir.Facts.{sfits_lit}
use Rattle.grid.specs.Check.{Passes}
use Rattle.grid.specs.Limits.{coordinate_most, knot_most}
use Rattle.checked.specs.Checked.{OnGrid, Checked}
use Rattle.checked.proofs.GridLaws.{on_grid-size}
use Rattle.checked.proofs.CheckedLaws.{checked-of-passes}
use Rattle.curve.specs.Lists.{Lists}
use Rattle.format.specs.Format.{form1, Storable}
use Rattle.format.proofs.SizeLaws.{length-knots, length-coordinates}

-- a coordinate on the grid has 32 bits to spare
small : (z : ℤ) → nat_abs z ≤ coordinate_most → SFits w32 z
small (pos n) h = record { sfits = omega arith }
small (negsuc n) h = record { sfits = omega arith }

all_fit : (zs : List ℤ) → ((a : ℕ) → a < length zs → OnGrid (get_or zs a (pos 0))) → (i : ℕ) → SFits w32 (get_or zs i (pos 0))
all_fit zs h i = by (dec_lt i (length zs))
  where
    by : Dec (i < length zs) → SFits w32 (get_or zs i (pos 0))
    by (yes k) = small (get_or zs i (pos 0)) (on_grid-size (get_or zs i (pos 0)) (h i k))
    by (no k) = rw (get_or-eq_default zs (pos 0) {n = i} (omega arith)) (sfits_lit tt)

knots-fit : (ts : List ℕ) → ((a : ℕ) → a < length ts → get_or ts a 0 ≤ knot_most) → (i : ℕ) → get_or ts i 0 < 65536
knots-fit ts h i = by (dec_lt i (length ts))
  where
    by : Dec (i < length ts) → get_or ts i 0 < 65536
    by (yes k) = omega (arith, h i k)
    by (no k) = rw (get_or-eq_default ts 0 {n = i} (omega arith)) (omega arith)

pub passes-storable : (m : ℕ) (c : Lists) → Passes m c.knots c.xs c.ys → Storable form1 m c
passes-storable m c p =
    let ok : Checked m c.knots c.xs c.ys = checked-of-passes m c.knots c.xs c.ys p in
    record {
      degree = omega (arith, ok.sizes.degree-most);
      knots = knots-fit c.knots ok.largest;
      on_x = all_fit c.xs ok.grid_x;
      on_y = all_fit c.ys ok.grid_y;
      knot_room = omega (arith, length-knots c.knots, ok.sizes.knots, ok.sizes.most, ok.sizes.degree-most);
      x_room = omega (arith, length-coordinates c.xs, ok.sizes.most);
      y_room = omega (arith, length-coordinates c.ys, ok.sizes.most, ok.sizes.as_many);
    }
