-- The one that tells, among the last of the knots up to v.
use native.Mathlib.Omega.{arith}
use Rattle.insertion.proofs.SpanLaws.{knots_up_to-length}
use Rattle.insertion_parts.proofs.OccurrenceLaws.{one-knot-tells}
use Rattle.insertion_parts.proofs.stands.Goals as goal

pub offset_bounds-knots-at : goal.offset_bounds-knots-at
offset_bounds-knots-at c = omega (arith, knots_up_to-length c.args.v c.args.knots.now, c.requires.at_value)

pub bounds-knots-at : goal.bounds-knots-at
bounds-knots-at c = let a = c.args in
    omega (arith, knots_up_to-length a.v a.knots.now, c.requires.at_value, c.requires.le_times)

pub returns : goal.returns
returns c = record {
  answer = let a = c.args in
      let s = c.requires in one-knot-tells a.v a.times a.at a.knots.now s.knots_value s.at_value s.le_times s.times_le_at;
}
