-- The exact point's class is the curve over the rational numbers.
use mathlib.Core.Path.{◌≡◌, refl}
use mathlib.Core.List.{List}
use Prim.Native.Nat.{ℕ}
use lib.IntN.{ℤ, pos}
use lib.ListN.{length}
use Rattle.fractions.specs.Fraction.{over, fraction_operations}
use Rattle.fractions.proofs.Rational.{class, rational_operations}
use Rattle.fractions.proofs.ClassLaws.{class-sum, class-product, class-negation, class-reciprocal}
use Rattle.splines.specs.Basis.{curve_at}
use Rattle.exact.specs.ExactPoint.{knot_at, coordinate_at, exact_coordinate}
use Rattle.exact.proofs.Homomorphism.{IsHomomorphism, curve_at-kept}

-- taking the class of a fraction carries the operations over
pub class-homomorphism : IsHomomorphism fraction_operations rational_operations class
class-homomorphism =
    record {
      zero-kept = refl;
      one_kept = refl;
      add_kept = class-sum;
      mul-kept = class-product;
      neg-kept = class-negation;
      inv-kept = class-reciprocal;
    }

-- the knots, the coordinates and the parameter as rational numbers
abbrev pub rational_knot : List ℕ → ℕ → rational_operations.Number
rational_knot ts j = class (knot_at ts j)

abbrev pub rational_coordinate : List ℤ → ℕ → rational_operations.Number
rational_coordinate ps j = class (coordinate_at ps j)

abbrev pub rational_parameter : (p q : ℕ) → rational_operations.Number
rational_parameter p q = class (over (pos p) q)

pub exact-class : (ts : List ℕ) (ps : List ℤ) (m i p q : ℕ)
    → class (exact_coordinate ts ps m i p q) ≡ curve_at rational_operations (rational_knot ts) (rational_coordinate ps) m (length ps) i (rational_parameter p q)
unfolding exact_coordinate
exact-class ts ps m i p q =
    curve_at-kept fraction_operations rational_operations class class-homomorphism (knot_at ts) (coordinate_at ps) m (length ps) i (over (pos p) q)
