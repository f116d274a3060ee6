-- The width of the last span, m times, behind t_{n+1}.
use native.Mathlib.Omega.{arith}
use lib.ListN.{length}
use Rattle.unclamp_parts.proofs.KnotLaws.{knot-is}
use Rattle.unclamp_parts.proofs.judging.last_knot.Goals as goal

pub returns : goal.returns
returns c = record {
  answer = let a = c.args in
      rw (c.from.ensures, c.from-2.ensures) (knot-is a.curve.knots.now (length a.curve.xs.now) (omega (arith, a.curve.sizes.enough)) a.curve.degree c.span_width-width.result c.span_width-width.ensures.answer);
}
