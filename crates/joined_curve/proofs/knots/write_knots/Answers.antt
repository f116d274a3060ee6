-- The knots up to parameter i are stored.
use mathlib.Core.Path.{◌≡◌, ap, ◌∙◌}
use Prim.Native.Nat.{suc, ◌-◌}
use native.Mathlib.Omega.{arith}
use lib.ListN.{length}
use Rattle.spline_pieces.specs.Pieces.{pieces}
use Rattle.joined_curve.specs.Curve.{inner_of, joined_knots}
use Rattle.joined_curve.proofs.CurveLaws.{either_of, knots-length}
use Rattle.joined_curve.proofs.PutLaws.{grown-begin, grown-all}
use Rattle.joined_curve.proofs.GrowthLaws.{knots_to, knots-grow, knots-grown}
use Rattle.joined_curve.proofs.knots.write_knots.Goals as goal

pub loop-i-init : goal.loop-i-init
unfolding knots_to
loop-i-init c = let params = c.args.points.params.now in
    rw c.inner-inner.ensures.answer
    (grown-begin (length params) (inner_of c.args.meeting) 4 (knots_to (inner_of c.args.meeting) params) c.args.out.now (omega (arith, c.args.points.standing.rising.least)) (omega (arith, c.requires.params_in_bounds)) c.put_knots.ensures.result)

pub loop-i-preserved : goal.loop-i-preserved
loop-i-preserved c = knots-grow c.inner-inner.result (rw c.inner-inner.ensures.answer (either_of c.args.meeting)) c.args.points.params.now c.loop-i.invariant (omega arith) c.put_knots-in-loop-i.ensures.result

pub returns : goal.returns
unfolding knots_to
returns c = record {
  result = let params = c.args.points.params.now in
      let inner = inner_of c.args.meeting in
      let some = c.args.points.standing.rising.least in
      let l = c.loop-i in let all : l.i ≡ suc (length params - 2) = omega (arith, l.invariant.within, some) in
      let grown = rw c.inner-inner.ensures.answer at l.invariant in
      λ ps ds. grown-all c.args.out.now (joined_knots inner (pieces params ps ds)) grown c.put_knots.ensures.result (omega (arith, c.requires.params_in_bounds))
      (ap (knots_to inner params) all ∙ knots-grown inner params ps ds (length params - 2) (omega (arith, some))) (omega (arith, knots-length inner params ps ds some));
}
