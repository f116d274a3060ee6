-- The exact point by fractions: it is de Boor's triangle, and a whole number that bounds the carrying coordinates bounds it.
use mathlib.Core.Path.{sym, ◌∙◌, subst}
use mathlib.Core.List.{List}
use Prim.Native.Nat.{ℕ, zero, ◌+◌, ◌*◌, ◌≤◌, ◌<◌}
use native.Mathlib.Omega.{arith}
use lib.IntN.{ℤ, pos}
use lib.ListN.{length, get_or}
use Rattle.algebra.specs.OrderedField as Field
use Rattle.fractions.specs.Fraction.{Fraction, over, fraction_operations}
use Rattle.fractions.specs.Order.{Equals, Bounds}
use Rattle.fractions.proofs.Rational.{class, rational, rational_operations, equals-of-class}
use Rattle.fractions.proofs.ClassLaws.{class-bounds}
use Rattle.splines.specs.Triangle.{entry}
use Rattle.splines.proofs.TriangleLaws.{triangle-is-curve}
use Rattle.splines.proofs.HullLaws.{curve-bounded}
use Rattle.exact.specs.ExactPoint.{knot_at, coordinate_at, exact_coordinate}
use Rattle.exact.proofs.Homomorphism.{entry_kept}
use Rattle.exact.proofs.ExactLaws.{class-homomorphism, rational_knot, rational_coordinate, rational_parameter, exact-class}
use Rattle.exact.proofs.SpanLaws.{knots-rising, in_span}

-- the last entry of the triangle over fractions is the exact coordinate
pub exact-triangle : (ts : List ℕ) (ps : List ℤ) (m i p q : ℕ) → m ≤ i → i < length ps
    → Equals (entry fraction_operations (knot_at ts) (coordinate_at ps) m (over (pos p) q) m i) (exact_coordinate ts ps m i p q)
exact-triangle ts ps m i p q carried inside =
    equals-of-class (entry fraction_operations (knot_at ts) (coordinate_at ps) m (over (pos p) q) m i) (exact_coordinate ts ps m i p q)
    (entry_kept fraction_operations rational_operations class class-homomorphism (knot_at ts) (coordinate_at ps) m (over (pos p) q) m i
    ∙ triangle-is-curve rational (rational_knot ts) (rational_parameter p q) i (length ps) inside (rational_coordinate ps) m carried
    ∙ sym (exact-class ts ps m i p q))

-- p/q lies in span i of never-falling knots, between the carrying knots of a curve of degree m with as many points as ps has
pub record Carried (ts : List ℕ) (ps : List ℤ) (m i p q : ℕ) : Type 0 where
  pub rises : (a b : ℕ) → a ≤ b → b ≤ i + m → get_or ts a 0 ≤ get_or ts b 0
  pub above : zero < q
  pub starts : get_or ts i 0 * q ≤ p
  pub ends : p ≤ get_or ts (i + 1) 0 * q
  pub some : get_or ts i 0 < get_or ts (i + 1) 0
  pub from : m ≤ i
  pub inside : i < length ps

-- what bounds the m+1 carrying coordinates P_{i-m} to P_i bounds the exact coordinate, on either side
pub exact-bounded : (ts : List ℕ) (ps : List ℤ) (m i p q : ℕ) → Carried ts ps m i p q → (side : Field.Side) (v : Fraction)
    → ((j : ℕ) → i ≤ j + m → j ≤ i → Bounds side v (coordinate_at ps j)) → Bounds side v (exact_coordinate ts ps m i p q)
exact-bounded ts ps m i p q c side v each =
    (class-bounds side v (exact_coordinate ts ps m i p q)).1
    (subst (λ x. Field.Bounds rational side (class v) x) (sym (exact-class ts ps m i p q))
    (curve-bounded rational (rational_knot ts) (i + m) i (rational_parameter p q) (knots-rising ts (i + m) c.rises)
    (in_span ts i p q c.above c.starts c.ends c.some) side (class v) (rational_coordinate ps) m (length ps) c.from (omega arith) c.inside
    (λ j h k. (class-bounds side v (coordinate_at ps j)).0 (each j h k))))
