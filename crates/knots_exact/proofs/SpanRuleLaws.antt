-- The span rule of lists is the span rule of the theory, over the rational numbers.
use mathlib.Core.List.{List}
use Prim.Native.Nat.{ℕ, zero, ◌+◌, ◌<◌}
use lib.IntN.{pos}
use lib.ListN.{get_or}
use Rattle.fractions.specs.Fraction.{whole_n, over}
use Rattle.fractions.proofs.Rational.{rational}
use Rattle.fractions.proofs.ClassLaws.{class-at-most, whole_n-below}
use Rattle.splines.specs.Span.{SpanRule}
use Rattle.span.specs.Span.{IsSpan}
use Rattle.exact.proofs.ExactLaws.{rational_knot, rational_parameter}
use Rattle.exact.proofs.SpanLaws.{knot-at-most}

pub rule-of-span : (ts : List ℕ) (m n p q i : ℕ) → zero < q → IsSpan ts m n p q i → SpanRule rational (rational_knot ts) m n (rational_parameter p q) i
rule-of-span ts m n p q i above s = record {
  from = s.from;
  to = s.to;
  starts = (class-at-most (whole_n (get_or ts i 0)) (over (pos p) q)).0 ((knot-at-most (get_or ts i 0) p q above).0 s.starts);
  wide = (whole_n-below (get_or ts i 0) (get_or ts (i + 1) 0)).0 s.wide;
  largest = λ j jn starts wide.
      s.largest j jn
      ((knot-at-most (get_or ts j 0) p q above).1 ((class-at-most (whole_n (get_or ts j 0)) (over (pos p) q)).1 starts))
      ((whole_n-below (get_or ts j 0) (get_or ts (j + 1) 0)).1 wide);
}
