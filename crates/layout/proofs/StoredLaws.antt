-- How many knots, x and y stand in fields of k, x and y bytes, and so what room they need.
use mathlib.Core.List.{List}
use mathlib.Core.Path.{◌≡◌}
use Prim.Native.Nat.{ℕ, ◌/◌}
use lib.ListN.{length}
use Rattle.curve.specs.HandingOver.{enough, room_for}
use Rattle.curve.specs.Lists.{Lists}
use Rattle.fields.specs.Places.{u16_at, i32_at}
use Rattle.fields.proofs.PlaceLaws.{length-entries_at}
use Rattle.format.specs.RecordPlaces.{before_knots, x_place, y_place}
use Rattle.layout.specs.StoredCurve.{curve_in}

module _ (bytes : List ℕ) (k x y : ℕ) where
  pub stored-knots : length (curve_in bytes k x y).knots ≡ k / 2
  stored-knots = length-entries_at (u16_at bytes) 2 before_knots (k / 2)

  pub stored-xs : length (curve_in bytes k x y).xs ≡ x / 4
  stored-xs = length-entries_at (i32_at bytes) 4 (x_place k) (x / 4)

  pub stored-ys : length (curve_in bytes k x y).ys ≡ y / 4
  stored-ys = length-entries_at (i32_at bytes) 4 (y_place k x) (y / 4)

  -- row 15 by these counts
  pub stored-room : (lent : Lists)
      → room_for (curve_in bytes k x y) lent ≡ enough (k / 2) (x / 4) (y / 4) (length lent.knots) (length lent.xs) (length lent.ys)
  stored-room lent = rw (stored-knots, stored-xs, stored-ys)
