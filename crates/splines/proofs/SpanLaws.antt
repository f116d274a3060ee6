-- The knots round a span that is not empty: those up to the span's index are at most t, those behind it at least t, and
-- each of the former is below each of the latter. Others may cite `left-of`, `right_of`, `apart-round`, `divisor-inverse`.
use mathlib.Core.Path.{◌≡◌}
use Prim.Native.Nat.{ℕ, ◌+◌, ◌≤◌, ◌<◌}
use native.Mathlib.Omega.{arith}
use Rattle.algebra.specs.Operations.{sub}
use Rattle.algebra.specs.OrderedField.{OrderedField, AtMost, Below}
use Rattle.algebra.proofs.OrderLaws as Order
use Rattle.splines.specs.Span.{Rising, InSpan}

module _ (F : OrderedField) where
  open F use {operations as O, laws}
  open O use {Number, mul, inv}

  -- the divisor between two knots of which one is below the other has its reciprocal
  pub divisor-inverse : (a b : Number) → Below F a b → mul (sub O b a) (inv (sub O b a)) ≡ O.one
  divisor-inverse a b h = laws.mul-inv _ (Order.apart-of-positive F _ (Order.positive-of-below F a b h))

  module _ (ts : ℕ → Number) (last i : ℕ) (rising : Rising F ts last) (some : Below F (ts i) (ts (i + 1))) where
    pub apart-round : (j w : ℕ) → j ≤ i → i < w → w ≤ last → Below F (ts j) (ts w)
    apart-round j w h k l =
        Order.below-AtMost-trans F (ts j) (ts (i + 1)) (ts w)
        (Order.AtMost-below-trans F (ts j) (ts i) (ts (i + 1)) (rising j i h (omega arith)) some)
        (rising (i + 1) w (omega arith) l)

  module _ (ts : ℕ → Number) (last i : ℕ) (t : Number) (rising : Rising F ts last) (span : InSpan F ts i t) where
    pub left-of : (j : ℕ) → j ≤ i → i ≤ last → AtMost F (ts j) t
    left-of j h k = Order.AtMost-trans F (ts j) (ts i) t (rising j i h k) span.low

    pub right_of : (w : ℕ) → i < w → w ≤ last → AtMost F t (ts w)
    right_of w h k = Order.AtMost-trans F t (ts (i + 1)) (ts w) span.high (rising (i + 1) w (omega arith) k)
