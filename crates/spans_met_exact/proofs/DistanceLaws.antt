-- What the cutter reaches lies in the widened clamp: on each axis the gap is at most the whole distance, so at most the radius.
use mathlib.Core.Path.{◌≡◌, refl, ◌∙◌, ap₂, subst}
use mathlib.Core.Bool.{true}
use mathlib.Core.List.{List, [], ◌∷◌}
use mathlib.Core.Logic.{◌↔◌}
use Prim.Native.Nat as Nat
use Prim.Native.Nat.{ℕ}
use lib.IntN.{ℤ, pos, ◌+ℤ◌, ◌-ℤ◌, +ℤ_idr}
use Rattle.boxes.specs.Widening.{widened}
use Rattle.boxes.specs.declared.Rectangle.{Rectangle}
use Rattle.algebra.specs.Operations.{sub}
use Rattle.algebra.specs.OrderedField.{AtMost, Side, low, high, Bounds}
use Rattle.algebra.specs.Ring.{field_ring}
use Rattle.algebra.proofs.Expressions.{var, lit, ◌⊕◌, ◌⊗◌, ◌⊖◌}
use Rattle.algebra.proofs.Solver.{ring}
use Rattle.algebra.proofs.OrderLaws.{AtMost-of-equal, square-nonneg, moved, moved-bounds}
use Rattle.fractions.specs.Fraction.{Fraction, whole, whole_n, sum, fraction_operations}
use Rattle.fractions.specs.Order as Order
use Rattle.fractions.proofs.Rational.{ℚ, class, plus, times, not_negative, rational, rational_operations}
use Rattle.fractions.proofs.ClassLaws.{class-sum, class-product, class-sub, class-at-most}
use Rattle.fractions.proofs.WholeLaws.{whole_sum, whole-product, whole-difference}
use Rattle.exact.specs.ExactCurve.{exact_at}
use Rattle.spans_met_exact.specs.Crossing.{Within, squared_gap, Reached, InClamp, NoWidthIsThePoint}

-- ---- on fractions

-- (a - b)² in the field
abbrev gap : Fraction → Fraction → ℚ
gap a b = times (sub rational_operations (class a) (class b)) (sub rational_operations (class a) (class b))

class-gap : (a b : Fraction) → class (squared_gap a b) ≡ gap a b
unfolding squared_gap
class-gap a b = class-product (sub fraction_operations a b) (sub fraction_operations a b) ∙ ap₂ times (class-sub a b) (class-sub a b)

-- (x - u)² + (y - v)² ≤ radius² in the field
abbrev Near : ℕ → Fraction → Fraction → Fraction → Fraction → Type 0
Near radius x u y v = AtMost rational (plus (gap x u) (gap y v)) (times (class (whole_n radius)) (class (whole_n radius)))

class-near : (radius : ℕ) (x u y v : Fraction) → Order.AtMost (sum (squared_gap x u) (squared_gap y v)) (whole_n (Nat.◌*◌ radius radius)) ↔ Near radius x u y v
class-near radius x u y v =
    rw (← (whole-product (pos radius) (pos radius)), ← (class-gap x u), ← (class-gap y v), ← (class-sum (squared_gap x u) (squared_gap y v))) (class-at-most _ _)

-- the axes change places
near-other : (radius : ℕ) (x u y v : Fraction) → Near radius x u y v → Near radius y v x u
near-other radius x u y v near = rw (rational.laws.add_comm (gap y v) (gap x u)) near

not-below-zero : (n : ℕ) → rational.nonneg (class (whole_n n)) ≡ true
unfolding not_negative
not-below-zero n = refl

-- on one axis: what is near a number between two sides lies between the sides moved outward
near_within : (from to : ℤ) (radius : ℕ) (x u y v : Fraction) → Near radius x u y v → Within from to u → Within (from -ℤ pos radius) (to +ℤ pos radius) x
near_within from to radius x u y v near between =
    record {
      above = (class-at-most (whole (from -ℤ pos radius)) x).1 (rw (whole-difference from (pos radius)) (moves low (class (whole from)) ((class-at-most (whole from) u).0 between.above)));
      under = (class-at-most x (whole (to +ℤ pos radius))).1 (rw (whole_sum to (pos radius)) (moves high (class (whole to)) ((class-at-most u (whole to)).0 between.under)));
    }
  where
    moves : (side : Side) (w : ℚ) → Bounds rational side w (class u) → Bounds rational side (moved rational side w (class (whole_n radius))) (class x)
    moves side w = moved-bounds rational side w (class x) (class u) (gap y v) (class (whole_n radius)) (square-nonneg rational (sub rational_operations (class y) (class v))) (not-below-zero radius) near

-- ---- on the clamp

-- where the cutter reaches the clamp, the exact point lies in the widened clamp
pub reached-within : (clamp : Rectangle) (radius m : ℕ) (ts : List ℕ) (xs ys : List ℤ) (p q : ℕ) → Reached clamp radius m ts xs ys p q → InClamp (widened radius clamp) m ts xs ys p q
unfolding widened
reached-within clamp radius m ts xs ys p q hit =
    let near = (class-near radius _ _ _ _).0 hit.near in
    record {
      x = near_within clamp.low_x clamp.high_x radius _ _ _ _ near hit.on-x;
      y = near_within clamp.low_y clamp.high_y radius _ _ _ _ (near-other radius _ _ _ _ near) hit.on-y;
    }

pub no-width-widens-nothing : (clamp : Rectangle) → widened 0 clamp ≡ clamp
unfolding widened
no-width-widens-nothing clamp = rw (+ℤ_idr clamp.low_x, +ℤ_idr clamp.high_x, +ℤ_idr clamp.low_y, +ℤ_idr clamp.high_y)

-- no point is away from itself
near-itself : (x y : Fraction) → Near 0 x x y y
near-itself x y =
    AtMost-of-equal rational (plus (gap x x) (gap y y)) (times (class (whole_n 0)) (class (whole_n 0)))
    (ring (field_ring rational) (class x ∷ class y ∷ []) ((var 0 ⊖ var 0) ⊗ (var 0 ⊖ var 0) ⊕ (var 1 ⊖ var 1) ⊗ (var 1 ⊖ var 1)) (lit 0 ⊗ lit 0) refl)

pub no-width-is-the-point : NoWidthIsThePoint
no-width-is-the-point clamp m ts xs ys p q = (
  λ hit. subst (λ c. InClamp c m ts xs ys p q) (no-width-widens-nothing clamp) (reached-within clamp 0 m ts xs ys p q hit),
  λ hit. record {
    u = exact_at m ts xs p q;
    v = exact_at m ts ys p q;
    on-x = hit.x;
    on-y = hit.y;
    near = (class-near 0 _ _ _ _).1 (near-itself (exact_at m ts xs p q) (exact_at m ts ys p q));
  },
)
