-- The sizes of a curve that passes the check.
use mathlib.Core.Bool.{true}
use mathlib.Core.List.{List}
use mathlib.Core.Path.{◌≡◌, sym}
use Prim.Native.Nat.{ℕ}
use lib.IntN.{ℤ}
use Rattle.grid.specs.Rows.{degree_ok, point_count_ok, knot_count_ok}
use Rattle.grid.specs.Check.{Passes}
use Rattle.grid.specs.Sizes.{Sizes}
use Rattle.grid.proofs.CheckLaws.{passes-tests}
use Rattle.grid.proofs.CountLaws.{degree-of-test, points-of-test, knots-of-test}

module _ (m : ℕ) (ts : List ℕ) (xs ys : List ℤ) where
  -- the first three rows passed
  pub sizes-of-rows : degree_ok m ≡ true → point_count_ok m xs ys ≡ true → knot_count_ok m ts xs ≡ true → Sizes m ts xs ys
  sizes-of-rows d p k =
      let degree = degree-of-test m d in
      let points = points-of-test m xs ys p in
      record {
        degree-least = degree.0;
        degree-most = degree.1;
        as_many = sym points.0;
        enough = points.1;
        most = points.2;
        knots = knots-of-test m ts xs k;
      }

  -- the check passed
  pub sizes-of-passes : Passes m ts xs ys → Sizes m ts xs ys
  sizes-of-passes h = let t = passes-tests m ts xs ys h in sizes-of-rows t.degree t.points t.knots
