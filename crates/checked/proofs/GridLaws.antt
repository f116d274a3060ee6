-- Row 7: coordinates on the grid, over every index, and which is beyond it; row 14, a rectangle on it; and row 22, a radius.
use mathlib.Core.Bool.{true, false, not}
use mathlib.Core.List.{List}
use mathlib.Core.Logic.{inl, inr, ⊎_elim}
use mathlib.Core.Path.{◌≡◌, refl, sym, ◌∙◌, ap, subst}
use Prim.Native.Nat.{ℕ, ◌≤◌, ◌<◌}
use lib.Dec.{T}
use lib.Ieee.Bits.{is_true}
use lib.IntN.{ℤ, pos, neg_ℤ, nat_abs}
use lib.ListN.{length, get_or}
use lib.Signed.{le_z, ◌≤ℤ◌, ◌<ℤ◌, clash_ℤ}
use Rattle.signed.proofs.OrderLaws.{lt_z_not_le_z}
use Rattle.signed.proofs.BoundLaws.{size-of-bounds}
use Rattle.grid.specs.Limits.{coordinate_most, radius_most}
use Rattle.grid.specs.Rows.{on_grid, all_on_grid, range_ok, axis_ok, rectangle_ok, radius_ok}
use Rattle.refusal.proofs.JudgingLaws.{both}
use Rattle.checked.specs.Checked.{OnGrid}
use Rattle.checked.specs.Sentences.{OffGrid, RangeWrong, AxisWrong, RectangleWrong, RadiusWrong}
use Rattle.checked.proofs.TestLaws.{one-fails, Judged, leb-judged, both-judged, three-judged, every-passes, every-judged}

-- tests as orders
pub le_z-le : (a b : ℤ) → le_z a b ≡ true → a ≤ℤ b
le_z-le a b e = record { le = subst T (sym e) tt }

le_z-lt : (a b : ℤ) → le_z a b ≡ false → b <ℤ a
le_z-lt a b e = record { lt = subst T (sym (lt_z_not_le_z b a ∙ ap not e)) tt }

pub on_grid-facts : (z : ℤ) → on_grid z ≡ true → OnGrid z
unfolding on_grid
on_grid-facts z h =
    let p = both (le_z (neg_ℤ (pos coordinate_most)) z) (le_z z (pos coordinate_most)) h in
    record { low = le_z-le (neg_ℤ (pos coordinate_most)) z p.0; high = le_z-le z (pos coordinate_most) p.1 }

on_grid-off : (z : ℤ) → on_grid z ≡ false → OffGrid z
unfolding on_grid
on_grid-off z h =
    ⊎_elim
    (λ e. inl (le_z-lt (neg_ℤ (pos coordinate_most)) z e))
    (λ e. inr (le_z-lt z (pos coordinate_most) e))
    (one-fails (le_z (neg_ℤ (pos coordinate_most)) z) (le_z z (pos coordinate_most)) h)

on_grid-clash : (z : ℤ) → OnGrid z → OffGrid z → ⊥
on_grid-clash z g (inl h) = clash_ℤ h g.low
on_grid-clash z g (inr h) = clash_ℤ h g.high

pub on_grid-judged : (z : ℤ) → Judged (on_grid z) (OnGrid z) (OffGrid z)
on_grid-judged z = record { passing = on_grid-facts z; failing = on_grid-off z; clash = on_grid-clash z }

-- the size of a coordinate
pub on_grid-size : (z : ℤ) → OnGrid z → nat_abs z ≤ coordinate_most
on_grid-size z g =
    size-of-bounds coordinate_most z (is_true (le_z (neg_ℤ (pos coordinate_most)) z) g.low.le) (is_true (le_z z (pos coordinate_most)) g.high.le)

-- a list
pub grid-each : (zs : List ℤ) → all_on_grid zs ≡ true → (a : ℕ) → a < length zs → OnGrid (get_or zs a (pos 0))
unfolding all_on_grid
grid-each zs h a i = on_grid-facts (get_or zs a (pos 0)) (every-passes on_grid all_on_grid refl (λ z r. refl) (pos 0) zs h a i)

-- both lists
abbrev pub Ranged : List ℤ → List ℤ → Type 0
Ranged xs ys = ((a : ℕ) → a < length xs → OnGrid (get_or xs a (pos 0))) × ((a : ℕ) → a < length ys → OnGrid (get_or ys a (pos 0)))

list-judged : (zs : List ℤ) → Judged (all_on_grid zs) ((a : ℕ) → a < length zs → OnGrid (get_or zs a (pos 0))) ((k : ℕ) × (k < length zs) × OffGrid (get_or zs k (pos 0)))
unfolding all_on_grid
list-judged = every-judged on_grid all_on_grid refl (λ z s. refl) (pos 0) on_grid-judged

pub range-judged : (xs ys : List ℤ) → Judged (range_ok xs ys) (Ranged xs ys) (RangeWrong xs ys)
unfolding range_ok
range-judged xs ys = both-judged (list-judged xs) (list-judged ys)

-- row 14: a rectangle's sides on one axis, and on both
le_z-judged : (a b : ℤ) → Judged (le_z a b) (a ≤ℤ b) (b <ℤ a)
le_z-judged a b = record { passing = le_z-le a b; failing = le_z-lt a b; clash = λ p s. clash_ℤ s p }

abbrev pub AxisRight : ℤ → ℤ → Type 0
AxisRight low high = (low ≤ℤ high) × OnGrid low × OnGrid high

axis-judged : (low high : ℤ) → Judged (axis_ok low high) (AxisRight low high) (AxisWrong low high)
unfolding axis_ok
axis-judged low high = three-judged (le_z-judged low high) (on_grid-judged low) (on_grid-judged high)

pub rectangle-judged : (low_x high_x low_y high_y : ℤ) → Judged (rectangle_ok low_x high_x low_y high_y) (AxisRight low_x high_x × AxisRight low_y high_y) (RectangleWrong low_x high_x low_y high_y)
unfolding rectangle_ok
rectangle-judged low_x high_x low_y high_y = both-judged (axis-judged low_x high_x) (axis-judged low_y high_y)

-- row 22: a radius
pub radius-judged : (radius : ℕ) → Judged (radius_ok radius) (radius ≤ radius_most) (RadiusWrong radius)
unfolding radius_ok
radius-judged radius = leb-judged radius radius_most
