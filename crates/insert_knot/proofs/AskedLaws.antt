-- A value strictly inside the domain of a curve that passes can be inserted on either axis, and at least m knots stand up to it.
use mathlib.Core.Bool.{true}
use mathlib.Core.List.{List}
use mathlib.Core.Path.{◌≡◌}
use Prim.Native.Nat.{ℕ, ◌≤◌}
use native.Mathlib.Omega.{arith}
use lib.IntN.{ℤ}
use lib.ListN.{length}
use Rattle.checked.specs.declared.Axis.{Axis}
use Rattle.checked.specs.declared.Axis.TheVariants.{X, Y}
use Rattle.checked.specs.Along.{along}
use Rattle.grid.specs.Check.{Passes}
use Rattle.span.specs.Span.{strictly_inside}
use Rattle.insertion.specs.Insertion.{knots_up_to}
use Rattle.insertion.specs.Standing.{Insertable}
use Rattle.insertion.proofs.CheckedLaws.{inside-ends, insertable-xs, insertable-ys}
use Rattle.insertion.proofs.SpanLaws.{up_to-least}

module _ (m : ℕ) (ts : List ℕ) (xs ys : List ℤ) (v : ℕ) (passes : Passes m ts xs ys) (inside : strictly_inside ts m (length xs) v ≡ true) where
  pub takes : (axis : Axis) → Insertable m ts (along axis xs ys) v
  takes X = let ends = inside-ends ts m (length xs) v inside in insertable-xs m ts xs ys v passes (omega (arith, ends.0)) ends.1
  takes Y = let ends = inside-ends ts m (length xs) v inside in insertable-ys m ts xs ys v passes (omega (arith, ends.0)) ends.1

  pub least : (at : ℕ) → at ≡ knots_up_to v ts → m ≤ at
  least at place = omega (arith, up_to-least m ts xs v (takes X), place)
