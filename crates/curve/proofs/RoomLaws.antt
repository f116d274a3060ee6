-- Lists have room where each of them has.
use mathlib.Core.Bool.{true, ◌&&◌}
use mathlib.Core.Path.{◌≡◌}
use Prim.Native.Nat.{ℕ, ◌≤◌}
use lib.Dec.{leb}
use borrow.Author.Tests.{le-leb, leb-true}
use Rattle.refusal.proofs.JudgingLaws.{both}
use Rattle.curve.specs.HandingOver.{enough}

module _ (knots xs ys knot_places x_places y_places : ℕ) where
  -- each list is long enough
  pub enough-each : enough knots xs ys knot_places x_places y_places ≡ true → (knots ≤ knot_places) × (xs ≤ x_places) × (ys ≤ y_places)
  unfolding enough
  enough-each e =
      let all = both (leb knots knot_places && leb xs x_places) (leb ys y_places) e in
      let front = both (leb knots knot_places) (leb xs x_places) all.0 in
      (leb-true _ _ front.0, leb-true _ _ front.1, leb-true _ _ all.1)

  -- and so there is room for all
  pub enough-all : knots ≤ knot_places → xs ≤ x_places → ys ≤ y_places → enough knots xs ys knot_places x_places y_places ≡ true
  unfolding enough
  enough-all a b c = rw (le-leb _ _ a, le-leb _ _ b, le-leb _ _ c)
