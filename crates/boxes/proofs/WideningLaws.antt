-- A side on the grid that is moved by a radius within its limit stays a 32-bit number.
use mathlib.Core.Bool.{true, ◌&&◌}
use mathlib.Core.Path.{◌≡◌, ap₂, ◌∙◌}
use Prim.Native.Nat.{ℕ, ◌≤◌}
use native.Mathlib.Omega.{arith}
use borrow.Author.Tests.{leb-true}
use lib.Dec.{lit<}
use lib.IntN.{ℤ, pos, neg_ℤ, nat_abs, ◌+ℤ◌, ◌-ℤ◌}
use lib.Signed.{le_z}
use mir.Syntax.{w32}
use mir.Val.{SFits, to_z, of_z}
use mir.Facts.{to_z-of_z, to_z_pos}
use Rattle.refusal.proofs.JudgingLaws.{both}
use Rattle.signed.proofs.BoundLaws.{size-of-bounds}
use Rattle.signed.proofs.WidthLaws.{sfits-of-size, sfits-sum, sfits-difference}
use Rattle.grid.specs.Limits.{coordinate_most, radius_most}
use Rattle.grid.specs.Rows.{on_grid, axis_ok, rectangle_ok, radius_ok}

-- both sides of an axis, and all four of a rectangle, are on the grid
axis-on-grid : (low high : ℤ) → axis_ok low high ≡ true → (on_grid low ≡ true) × (on_grid high ≡ true)
unfolding axis_ok
axis-on-grid low high e =
    let outer = both (le_z low high && on_grid low) (on_grid high) e in
    ((both (le_z low high) (on_grid low) outer.0).1, outer.1)

pub sides-on-grid : (low_x high_x low_y high_y : ℤ) → rectangle_ok low_x high_x low_y high_y ≡ true
    → ((on_grid low_x ≡ true) × (on_grid high_x ≡ true)) × ((on_grid low_y ≡ true) × (on_grid high_y ≡ true))
unfolding rectangle_ok
sides-on-grid low_x high_x low_y high_y e =
    let each = both (axis_ok low_x high_x) (axis_ok low_y high_y) e in
    (axis-on-grid low_x high_x each.0, axis-on-grid low_y high_y each.1)

module _ (radius : ℕ) (ok : radius_ok radius ≡ true) where
  few : radius ≤ radius_most
  unfolding radius_ok
  few = leb-true radius radius_most ok

  pub radius-fits : SFits w32 (pos radius)
  radius-fits = sfits-of-size w32 (pos radius) (omega (arith, few))

  module _ (z : ℤ) (grid : on_grid z ≡ true) where
    size : nat_abs z ≤ coordinate_most
    unfolding on_grid
    size =
        let within = both (le_z (neg_ℤ (pos coordinate_most)) z) (le_z z (pos coordinate_most)) grid in
        size-of-bounds coordinate_most z within.0 within.1

    -- the side and the radius are read as they were lent, and so is what comes of them
    read : (op : ℤ → ℤ → ℤ) → op (to_z w32 (of_z w32 z)) (to_z w32 radius) ≡ op z (pos radius)
    read op = ap₂ op (to_z-of_z (sfits-of-size w32 z (omega (arith, size)))) (to_z_pos w32 radius-fits.sfits)

    pub lowered-fits : SFits w32 (to_z w32 (of_z w32 z) -ℤ to_z w32 radius)
    lowered-fits = rw (read ◌-ℤ◌) (sfits-difference w32 z (pos radius) coordinate_most radius_most size few (lit< tt))

    pub raised-fits : SFits w32 (to_z w32 (of_z w32 z) +ℤ to_z w32 radius)
    raised-fits = rw (read ◌+ℤ◌) (sfits-sum w32 z (pos radius) coordinate_most radius_most size few (lit< tt))

    pub lowered : to_z w32 (of_z w32 (to_z w32 (of_z w32 z) -ℤ to_z w32 radius)) ≡ z -ℤ pos radius
    lowered = to_z-of_z lowered-fits ∙ read ◌-ℤ◌

    pub raised : to_z w32 (of_z w32 (to_z w32 (of_z w32 z) +ℤ to_z w32 radius)) ≡ z +ℤ pos radius
    raised = to_z-of_z raised-fits ∙ read ◌+ℤ◌
