-- A curve passes the check exactly when the facts of `Checked` hold of it.
use mathlib.Core.List.{List}
use mathlib.Core.Path.{◌≡◌, sym, ap}
use Prim.Native.Nat.{ℕ}
use native.Mathlib.Omega.{arith}
use lib.IntN.{ℤ}
use lib.ListN.{length, get_or}
use Rattle.grid.specs.Rows.{domain_end}
use Rattle.grid.specs.Check.{Passes}
use Rattle.grid.proofs.CheckLaws.{passes-tests, check-accepts}
use Rattle.grid.proofs.SizeLaws.{sizes-of-passes}
use Rattle.checked.specs.Checked.{Checked}
use Rattle.checked.proofs.TestLaws.{passes-from}
use Rattle.checked.proofs.CountLaws.{degree-judged, points-judged, knots-judged}
use Rattle.checked.proofs.RisingLaws.{order-judged}
use Rattle.checked.proofs.EndLaws.{ends-judged}
use Rattle.checked.proofs.OccurrenceLaws.{repeats-judged}
use Rattle.checked.proofs.GridLaws.{range-judged}

module _ (m : ℕ) (ts : List ℕ) (xs ys : List ℤ) where
  pub checked-of-passes : Passes m ts xs ys → Checked m ts xs ys
  checked-of-passes h =
      let p = passes-tests m ts xs ys h in
      let z = sizes-of-passes m ts xs ys h in
      let order = (order-judged ts).passing p.order in
      let ends = (ends-judged m ts).passing p.ends in
      let repeats = (repeats-judged m ts).passing p.repeats in
      let range = (range-judged xs ys).passing p.range in
      let end : domain_end m ts ≡ get_or ts (length xs) 0 = ap (λ (i : ℕ). get_or ts i 0) (omega (arith, z.knots)) in
      record {
        sizes = z;
        rising = order.0;
        largest = order.1;
        domain = rw end at ends;
        inner = λ v a b. repeats.0 v (record { above = a; below = omega (arith, end) });
        outer = repeats.1;
        grid_x = range.0;
        grid_y = range.1;
      }

  pub passes-of-checked : Checked m ts xs ys → Passes m ts xs ys
  passes-of-checked c =
      let z = c.sizes in
      let end : domain_end m ts ≡ get_or ts (length xs) 0 = ap (λ (i : ℕ). get_or ts i 0) (omega (arith, z.knots)) in
      sym
      (check-accepts m ts xs ys
      (passes-from (degree-judged m) (z.degree-least, z.degree-most))
      (passes-from (points-judged m xs ys) (sym z.as_many, z.enough, z.most))
      (passes-from (knots-judged m ts xs) z.knots)
      (passes-from (order-judged ts) (c.rising, c.largest))
      (passes-from (ends-judged m ts) (rw end c.domain))
      (passes-from (repeats-judged m ts) (λ v k. c.inner v k.above (omega (arith, k.below, end)), c.outer))
      (passes-from (range-judged xs ys) (c.grid_x, c.grid_y)))
