-- The axis takes the value, whichever it is.
use native.Mathlib.Omega.{arith}
use Rattle.insertion.proofs.SpanLaws.{span-of-up_to}
use Rattle.insert_knot.proofs.AskedLaws.{takes, least}
use Rattle.insert_knot.proofs.asked.Asked.along.Goals as goal

pub overflow_sub-result : goal.overflow_sub-result
overflow_sub-result c = let a = c.args.self in
    omega (arith, least _ _ _ _ _ a.curve.passes a.inside a.at a.place, a.curve.sizes)

pub invariant_of-result : goal.invariant_of-result
invariant_of-result c = let a = c.args.self in
    record {
      insertable = rw c.along.ensures.result (takes _ _ _ _ _ a.curve.passes a.inside c.args.axis);
      place = span-of-up_to _ _ _ a.place;
    }
