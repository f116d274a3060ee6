-- What the check and row 23 say to the parts of unclamping.
use mathlib.Core.Bool.{true}
use mathlib.Core.Path.{◌≡◌}
use Prim.Native.Nat.{ℕ, ◌+◌}
use native.Mathlib.Omega.{arith}
use lib.ListN.{length, get_or}
use Rattle.refusal.proofs.JudgingLaws.{both}
use Rattle.curve.specs.Lists.{Lists}
use Rattle.grid.specs.Rows.{all_on_grid, range_ok}
use Rattle.grid.specs.Check.{Passes}
use Rattle.grid.proofs.CheckLaws.{passes-tests}
use Rattle.checked.specs.Along.{along}
use Rattle.checked.specs.declared.Axis.{Axis}
use Rattle.checked.specs.declared.Axis.TheVariants.{X, Y}
use Rattle.checked.proofs.CheckedLaws.{checked-of-passes}
use Rattle.unclamping.proofs.WidthLaws.{last-span}
use Rattle.unclamping.proofs.JudgedLaws.{Opens}
use Rattle.unclamp_numbers.specs.Standing.{Ending}
use Rattle.unclamp_parts.specs.Standing.{KnotsEnding}

module _ (m : ℕ) (c : Lists) (passes : Passes m c.knots c.xs c.ys) where
  -- the coordinates
  pub grid-stands : (all_on_grid c.xs ≡ true) × (all_on_grid c.ys ≡ true)
  unfolding range_ok
  grid-stands = both (all_on_grid c.xs) (all_on_grid c.ys) (passes-tests m c.knots c.xs c.ys passes).range

  -- both axes, where the end is clamped
  module _ (end : get_or c.knots (length c.xs + m) 0 ≡ get_or c.knots (length c.xs) 0) where
    ending-xs : Ending m c.knots c.xs
    ending-xs =
        let k = checked-of-passes m c.knots c.xs c.ys passes in
        let s = k.sizes in
        record {
          least = s.degree-least;
          most = s.degree-most;
          enough = s.enough;
          count = s.knots;
          rises = k.rising;
          largest = k.largest;
          last = last-span m c.knots c.xs c.ys passes end;
        }

    ending-ys : Ending m c.knots c.ys
    ending-ys =
        let k = checked-of-passes m c.knots c.xs c.ys passes in
        let s = k.sizes in
        let same = s.as_many in
        record {
          least = s.degree-least;
          most = s.degree-most;
          enough = omega (arith, s.enough);
          count = omega (arith, s.knots);
          rises = k.rising;
          largest = k.largest;
          last = rw same (last-span m c.knots c.xs c.ys passes end);
        }

    pub ending-along : (axis : Axis) → Ending m c.knots (along axis c.xs c.ys)
    ending-along X = ending-xs
    ending-along Y = ending-ys

  -- the knots, where the new ones fit
  pub knots-ending : Opens m c → KnotsEnding m c.knots (length c.xs)
  knots-ending o =
      let k = checked-of-passes m c.knots c.xs c.ys passes in
      let s = k.sizes in
      record { most = s.degree-most; enough = omega (arith, s.enough, s.degree-least); places = s.knots; rises = k.rising; fit = o.fit }
