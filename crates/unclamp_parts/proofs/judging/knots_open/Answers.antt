-- The outermost two of the last m + 1 knots, and then the last new one.
use Rattle.std.proofs.Common.{rules}
use mathlib.Core.Path.{refl}
use borrow.Author.Tests.{eq-eqb, ne_eqb}
use Rattle.unclamping.specs.Unclamping.{end_clamped, knots_fit}
use Rattle.unclamp_parts.proofs.judging.knots_open.Goals as goal

pub returns-else-curve-count : goal.returns-else-curve-count
unfolding end_clamped
returns-else-curve-count c = record { answer = rw (ne_eqb _ _ c.if-curve-count.false) refl }

pub returns-then-curve-count : goal.returns-then-curve-count
unfolding end_clamped knots_fit
returns-then-curve-count c = record { answer = rw (eq-eqb _ _ c.if-curve-count.true, ← c.last_knot.ensures.answer) (search rules) }
