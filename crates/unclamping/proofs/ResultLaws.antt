-- An accepted unclamping hands back a curve that passes the check again, with as many knots and points.
use mathlib.Core.Bool.{true}
use mathlib.Core.List.{List}
use mathlib.Core.Path.{◌≡◌, sym, ◌∙◌}
use Prim.Native.Nat.{ℕ}
use native.Mathlib.Omega.{arith}
use lib.IntN.{ℤ}
use lib.ListN.{length}
use Rattle.refusal.proofs.JudgingLaws.{both}
use Rattle.curve.specs.Lists.{Lists}
use Rattle.grid.specs.Rows.{knot_order_ok, all_on_grid, range_ok}
use Rattle.grid.specs.Check.{Passes}
use Rattle.grid.proofs.CheckLaws.{passes-tests, check-accepts}
use Rattle.checked.proofs.TestLaws.{passes-from}
use Rattle.checked.proofs.CountLaws.{points-judged, knots-judged}
use Rattle.checked.proofs.RisingLaws.{order-judged}
use Rattle.checked.proofs.CheckedLaws.{checked-of-passes}
use Rattle.clamping.specs.Clamping.{all_whole}
use Rattle.unclamping.specs.Unclamping.{open_numbers, open_points, unclamped, opens_on, opens}
use Rattle.unclamping.proofs.EntryLaws.{open_points-length, unclamped-knots, unclamped-knot-at, unclamped-xs, unclamped-ys}
use Rattle.unclamping.proofs.WidthLaws.{last-span}
use Rattle.unclamping.proofs.JudgedLaws.{opens-parts}
use Rattle.unclamping.proofs.OpenLaws.{Opened, opened-new, opened-rises, opened-most, opened-repeats, ends_same}

-- an axis that opens is on the grid
axis-grid : (m : ℕ) (ts : List ℕ) (ps : List ℤ) → opens_on m ts ps ≡ true → all_on_grid (open_points m ts ps) ≡ true
unfolding opens_on
axis-grid m ts ps h = (both (all_whole (open_numbers m ts ps) (length ps)) (all_on_grid (open_points m ts ps)) h).1

module _ (m : ℕ) (c : Lists) (passes : Passes m c.knots c.xs c.ys) (open-end : opens m c ≡ true) where
  pub unclamped-opened : Opened m c.knots (unclamped m c).knots (length c.xs)
  unclamped-opened =
      let k = checked-of-passes m c.knots c.xs c.ys passes in
      let s = k.sizes in
      record {
        some = s.degree-least;
        enough = s.enough;
        places = s.knots;
        same = unclamped-knots m c;
        rising = k.rising;
        width = last-span m c.knots c.xs c.ys passes (opens-parts m c open-end).end;
        at = unclamped-knot-at m c;
      }

  order-passes : knot_order_ok (unclamped m c).knots ≡ true
  order-passes =
      let o = unclamped-opened in
      passes-from (order-judged (unclamped m c).knots)
      (opened-rises o, opened-most o (rw (opened-new o m (omega arith)) (opens-parts m c open-end).fit))

  range-passes : range_ok (unclamped m c).xs (unclamped m c).ys ≡ true
  unfolding range_ok
  range-passes =
      let p = opens-parts m c open-end in
      rw (unclamped-xs m c, unclamped-ys m c, axis-grid m c.knots c.xs p.x, axis-grid m c.knots c.ys p.y)

  pub unclamped-passes : Passes m (unclamped m c).knots (unclamped m c).xs (unclamped m c).ys
  unfolding knot_order_ok
  unclamped-passes =
      let t = passes-tests m c.knots c.xs c.ys passes in
      let s = (checked-of-passes m c.knots c.xs c.ys passes).sizes in
      let o = unclamped-opened in
      let us = (unclamped m c).knots in
      let xs = (unclamped m c).xs in
      let ys = (unclamped m c).ys in
      let x : length xs ≡ length c.xs = rw (unclamped-xs m c) (open_points-length m c.knots c.xs) in
      let y : length ys ≡ length c.ys = rw (unclamped-ys m c) (open_points-length m c.knots c.ys) in
      sym
      (check-accepts m us xs ys
      t.degree
      (passes-from (points-judged m xs ys) (omega (arith, x, y, s.as_many), omega (arith, x, s.enough), omega (arith, x, s.most)))
      (passes-from (knots-judged m us xs) (omega (arith, x, s.knots, unclamped-knots m c)))
      order-passes
      (ends_same o ∙ t.ends)
      (opened-repeats o t.order t.repeats order-passes)
      range-passes)
