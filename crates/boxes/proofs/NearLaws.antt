-- A whole point lies in a widened clamp exactly where on each axis it is at most the radius away from some whole number between the sides.
use mathlib.Core.Bool.{Bool, true, false}
use mathlib.Core.Path.{◌≡◌, refl}
use Prim.Native.Nat.{ℕ, ◌≤◌}
use native.Mathlib.Omega.{arith}
use lib.IntN.{ℤ, pos, neg_ℤ, nat_abs, ◌+ℤ◌, ◌-ℤ◌}
use lib.Signed.{le_z, ◌≤ℤ◌}
use Rattle.signed.proofs.OrderLaws.{le_z-true, le_z-refl, le_z-total, le-le_z}
use Rattle.signed.proofs.PartLaws.{neg-up, neg-down, sum-parts, difference-parts}
use Rattle.signed.proofs.BoundLaws.{size-of-bounds, low-of-size, high-of-size}
use Rattle.boxes.specs.Sentences.{Near, WidenedExactly}
use Rattle.boxes.specs.Widening.{widened}
use Rattle.boxes.specs.declared.Rectangle.{Rectangle}
use Rattle.boxes.proofs.SentenceLaws.{order, test}

module _ (radius : ℕ) (z : ℤ) where
  -- between a number less the radius and the number with it
  apart : (other : ℤ) → le_z (other -ℤ pos radius) z ≡ true → le_z z (other +ℤ pos radius) ≡ true → nat_abs (z -ℤ other) ≤ radius
  apart other above under =
      let minus = difference-parts z other in
      size-of-bounds radius (z -ℤ other)
      (le-le_z (neg_ℤ (pos radius)) (z -ℤ other) (omega (arith, minus, neg-up (pos radius), neg-down (pos radius), le_z-true (other -ℤ pos radius) z above, difference-parts other (pos radius))))
      (le-le_z (z -ℤ other) (pos radius) (omega (arith, minus, le_z-true z (other +ℤ pos radius) under, sum-parts other (pos radius))))

  module _ (other : ℤ) (close : nat_abs (z -ℤ other) ≤ radius) where
    above-by : le_z (other -ℤ pos radius) z ≡ true
    above-by =
        le-le_z (other -ℤ pos radius) z
        (omega (arith, difference-parts z other, neg-up (pos radius), neg-down (pos radius), le_z-true (neg_ℤ (pos radius)) (z -ℤ other) (low-of-size radius (z -ℤ other) close), difference-parts other (pos radius)))

    under-by : le_z z (other +ℤ pos radius) ≡ true
    under-by = le-le_z z (other +ℤ pos radius) (omega (arith, difference-parts z other, le_z-true (z -ℤ other) (pos radius) (high-of-size radius (z -ℤ other) close), sum-parts other (pos radius)))

  module _ (low high : ℤ) where
    -- the nearest number of low..high: a side where z lies beyond it, else z itself
    nearest : le_z low high ≡ true → le_z (low -ℤ pos radius) z ≡ true → le_z z (high +ℤ pos radius) ≡ true → Near radius low high z
    nearest sides above under = by (le_z z low) (le_z high z) refl refl
      where
        by : (below beyond : Bool) → le_z z low ≡ below → le_z high z ≡ beyond → Near radius low high z
        by true beyond e f =
            record { other = low; from = order (le_z-refl low); to = order sides; apart = apart low above (le-le_z z (low +ℤ pos radius) (omega (arith, le_z-true z low e, sum-parts low (pos radius)))) }
        by false true e f =
            record { other = high; from = order sides; to = order (le_z-refl high); apart = apart high (le-le_z (high -ℤ pos radius) z (omega (arith, le_z-true high z f, difference-parts high (pos radius)))) under }
        by false false e f =
            record {
              other = z;
              from = order (le_z-total z low e);
              to = order (le_z-total high z f);
              apart = apart z (le-le_z (z -ℤ pos radius) z (omega (arith, difference-parts z (pos radius)))) (le-le_z z (z +ℤ pos radius) (omega (arith, sum-parts z (pos radius))));
            }

    moved_out : Near radius low high z → ((low -ℤ pos radius) ≤ℤ z) × (z ≤ℤ (high +ℤ pos radius))
    moved_out near = (
      order (le-le_z (low -ℤ pos radius) z (omega (arith, le_z-true low near.other (test near.from), le_z-true (near.other -ℤ pos radius) z (above-by near.other near.apart), difference-parts low (pos radius), difference-parts near.other (pos radius)))),
      order (le-le_z z (high +ℤ pos radius) (omega (arith, le_z-true near.other high (test near.to), le_z-true z (near.other +ℤ pos radius) (under-by near.other near.apart), sum-parts high (pos radius), sum-parts near.other (pos radius)))),
    )

moved_order : (radius : ℕ) (low high : ℤ) → le_z low high ≡ true → (low -ℤ pos radius) ≤ℤ (high +ℤ pos radius)
moved_order radius low high sides =
    order (le-le_z (low -ℤ pos radius) (high +ℤ pos radius) (omega (arith, le_z-true low high sides, difference-parts low (pos radius), sum-parts high (pos radius))))

pub widened-exactly : WidenedExactly
unfolding widened
widened-exactly radius clamp x y on_x on_y = (
  λ inside. (
    nearest radius x clamp.low_x clamp.high_x (test on_x) (test inside.low_x) (test inside.high-x),
    nearest radius y clamp.low_y clamp.high_y (test on_y) (test inside.low-y) (test inside.high-y),
  ),
  λ near.
      let across = moved_out radius x clamp.low_x clamp.high_x near.0 in
      let upward = moved_out radius y clamp.low_y clamp.high_y near.1 in
      record { low_x = across.0; high-x = across.1; low-y = upward.0; high-y = upward.1 },
)

-- a widened clamp's sides are in order
pub widened-order : (radius : ℕ) (clamp : Rectangle) → clamp.low_x ≤ℤ clamp.high_x → clamp.low_y ≤ℤ clamp.high_y
    → ((widened radius clamp).low_x ≤ℤ (widened radius clamp).high_x) × ((widened radius clamp).low_y ≤ℤ (widened radius clamp).high_y)
unfolding widened
widened-order radius clamp on_x on_y = (
  moved_order radius clamp.low_x clamp.high_x (test on_x),
  moved_order radius clamp.low_y clamp.high_y (test on_y),
)
