-- `span::span_of` meets its contract: the search from `last` and the search from `i` end alike, and each turn goes one index down.
use mathlib.Core.Path.{◌≡◌}
use Rattle.span.specs.Span.{span_of}
use Rattle.span.proofs.span_of.Given as goal

abbrev pub invariant-loop-i : goal.invariant-loop-i
invariant-loop-i l = span_of l.knots l.degree l.last l.t 1 ≡ span_of l.knots l.degree l.i l.t 1

abbrev pub decreases-loop-i : goal.decreases-loop-i
decreases-loop-i l = l.i
