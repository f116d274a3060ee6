-- The width of the last span, so many times, behind t_{n+1}: it is no larger than the last new knot.
use native.Mathlib.Omega.{arith}
use lib.ListN.{length}
use Rattle.unclamp_parts.proofs.KnotLaws.{knot-is}
use Rattle.unclamp_parts.proofs.writing.new_knot.Goals as goal

pub returns : goal.returns
returns c = record {
  answer = let a = c.args in
      knot-is a.curve.knots.now (length a.curve.xs.now) (omega (arith, c.requires.knots_ending.enough)) a.k c.span_width.result c.span_width.ensures.answer;
}
