-- How many knots stand up to t_m: more than m, no more than there are points, and the next one lies above t_m.
use mathlib.Core.List.{List}
use mathlib.Core.Path.{◌≡◌, sym}
use Prim.Native.Nat.{ℕ, ◌+◌, ◌≤◌, ◌<◌}
use native.Mathlib.Nat.{le_refl}
use native.Mathlib.Omega.{arith}
use lib.IntN.{ℤ}
use lib.ListN.{length, get_or, take}
use lib.Seq.{length-take-le}
use Rattle.grid.specs.Check.{Passes}
use Rattle.grid.proofs.SizeLaws.{sizes-of-passes}
use Rattle.checked.proofs.CheckedLaws.{checked-of-passes}
use Rattle.insertion.specs.Insertion.{knots_up_to}
use Rattle.insertion.specs.Standing.{Insertable}
use Rattle.insertion.proofs.CheckedLaws.{insertable-xs}
use Rattle.insertion.proofs.SpanLaws.{knots_up_to-above, up_to-least, up_to-most}

module _ (m : ℕ) (ts : List ℕ) (xs ys : List ℤ) (passing : Passes m ts xs ys) where
  abbrev start : ℕ
  start = get_or ts m 0

  standing : Insertable m ts xs start
  standing = insertable-xs m ts xs ys start passing (le_refl start) (checked-of-passes m ts xs ys passing).domain

  pub first-least : m < knots_up_to start ts
  first-least = up_to-least m ts xs start standing

  first-most : knots_up_to start ts ≤ length xs
  first-most = up_to-most m ts xs start standing

  pub first_above : start < get_or ts (knots_up_to start ts) 0
  first_above = knots_up_to-above start ts (omega (arith, first-most, (sizes-of-passes m ts xs ys passing).knots))

  -- a curve has so many points, and the knots of so many
  module _ (first : ℕ) (e : first ≡ knots_up_to start ts) where
    pub points-reach : first ≤ length xs
    points-reach = omega (arith, e, first-most)

    pub others-reach : first ≤ length ys
    others-reach = omega (arith, points-reach, (sizes-of-passes m ts xs ys passing).as_many)

    pub knots-reach : first + m + 1 ≤ length ts
    knots-reach = omega (arith, points-reach, (sizes-of-passes m ts xs ys passing).knots)

-- a part that a list has is as long as it should be
pub as-long : {A : Type 0} (l : List A) (n : ℕ) → n ≤ length l → n ≡ length (take n l)
as-long l n h = sym (length-take-le n l h)

pub ruleset first_reach = (points-reach, others-reach, knots-reach, as-long)
