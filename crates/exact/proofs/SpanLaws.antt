-- What the theory of splines asks of knots and parameter, from whole numbers: the knots of a list never fall, and p/q lies in
-- span i. `p/q` is compared with a knot t by t·q and p.
use mathlib.Core.List.{List}
use mathlib.Core.Logic.{◌↔◌}
use Prim.Native.Nat.{ℕ, zero, ◌+◌, ◌*◌, ◌≤◌, ◌<◌}
use native.Mathlib.Nat as NatL
use lib.Dec.{leb→le, le→leb}
use lib.IntN.{pos}
use lib.ListN.{get_or}
use Rattle.fractions.specs.Fraction.{whole_n, over}
use Rattle.fractions.specs.Order.{AtMost}
use Rattle.fractions.proofs.FractionLaws.{over-lower}
use Rattle.fractions.proofs.Rational.{rational}
use Rattle.fractions.proofs.ClassLaws.{class-at-most, whole_n-at-most, whole_n-below}
use Rattle.splines.specs.Span.{Rising, InSpan}
use Rattle.exact.proofs.ExactLaws.{rational_knot, rational_parameter}

-- knots of a list that never fall up to the index `last`
pub knots-rising : (ts : List ℕ) (last : ℕ) → ((a b : ℕ) → a ≤ b → b ≤ last → get_or ts a 0 ≤ get_or ts b 0)
    → Rising rational (rational_knot ts) last
knots-rising ts last rises a b ab bl = (whole_n-at-most (get_or ts a 0) (get_or ts b 0)).0 (rises a b ab bl)

-- t ≤ p/q exactly when t·q ≤ p
pub knot-at-most : (t p q : ℕ) → zero < q → (t * q ≤ p) ↔ AtMost (whole_n t) (over (pos p) q)
knot-at-most t p q above = (
  λ h. record { le = rw (over-lower (pos p) q above, NatL.mul-one p) (le→leb (t * q) p h) },
  λ h. leb→le (t * q) p (rw (over-lower (pos p) q above, NatL.mul-one p) at h.le),
)

-- p/q ≤ t exactly when p ≤ t·q
pub at-most-knot : (t p q : ℕ) → zero < q → (p ≤ t * q) ↔ AtMost (over (pos p) q) (whole_n t)
at-most-knot t p q above = (
  λ h. record { le = rw (over-lower (pos p) q above, NatL.mul-one p) (le→leb p (t * q) h) },
  λ h. leb→le p (t * q) (rw (over-lower (pos p) q above, NatL.mul-one p) at h.le),
)

-- p/q lies in span i, which is not empty
pub in_span : (ts : List ℕ) (i p q : ℕ) → zero < q → get_or ts i 0 * q ≤ p → p ≤ get_or ts (i + 1) 0 * q → get_or ts i 0 < get_or ts (i + 1) 0
    → InSpan rational (rational_knot ts) i (rational_parameter p q)
in_span ts i p q above low high some =
    record {
      low = (class-at-most (whole_n (get_or ts i 0)) (over (pos p) q)).0 ((knot-at-most (get_or ts i 0) p q above).0 low);
      high = (class-at-most (over (pos p) q) (whole_n (get_or ts (i + 1) 0))).0 ((at-most-knot (get_or ts (i + 1) 0) p q above).0 high);
      some = (whole_n-below (get_or ts i 0) (get_or ts (i + 1) 0)).0 some;
    }
