-- The points up to the i-th piece are stored.
use mathlib.Core.Path.{◌≡◌, ap, ◌∙◌}
use Prim.Native.Nat.{suc, ◌-◌}
use native.Mathlib.Omega.{arith}
use lib.IntN.{pos}
use lib.ListN.{length, get_or, set}
use mir.Syntax.{w32}
use mir.Val.{to_z, of_z}
use mir.ValLaws.{to_z-of_z}
use borrow.Author.Rules.{rules}
use Rattle.spline_pieces.specs.Pieces.{pieces}
use Rattle.joined_curve.specs.Curve.{inner_of, joined_points}
use Rattle.joined_curve.proofs.CurveLaws.{either_of, points-length}
use Rattle.joined_curve.proofs.PutLaws.{grown-begin, grown-all}
use Rattle.joined_curve.proofs.GrowthLaws.{points_to, points-grow, points-grown}
use Rattle.joined_curve.proofs.points.write_points.Goals.{After-out-1}
use Rattle.joined_curve.proofs.points.write_points.Goals as goal

-- the first point is stored as it was read
first-put : (c : After-out-1) → let a = c.args in
    set a.out.now 0 (to_z w32 (of_z w32 (get_or a.points.ps.now 0 (pos 0)))) ≡ set a.out.now 0 (get_or a.points.ps.now 0 (pos 0))
first-put c =
    let a = c.args in
    ap (λ z. set a.out.now 0 z) (to_z-of_z w32 (get_or a.points.ps.now 0 (pos 0)) (search rules))

pub loop-i-init : goal.loop-i-init
unfolding points_to
loop-i-init c = let a = c.args in
    let p = a.points in
    rw c.inner-inner.ensures.answer
    (grown-begin (length p.params.now) (inner_of a.meeting) 3 (points_to (inner_of a.meeting) p.params.now p.ps.now p.ds.now) a.out.now
    (omega (arith, p.standing.rising.least)) (omega (arith, c.requires.params_in_bounds)) (first-put (goal.at.loop-i-init c).After-out-1))

pub loop-i-preserved : goal.loop-i-preserved
loop-i-preserved c = let p = c.args.points in
    points-grow c.inner-inner.result (rw c.inner-inner.ensures.answer (either_of c.args.meeting)) p.params.now p.ps.now p.ds.now c.loop-i.invariant (omega arith) c.put_piece.ensures.result

pub returns : goal.returns
unfolding points_to
returns c = record {
  result = let a = c.args in
      let inner = inner_of a.meeting in
      let params = a.points.params.now in
      let ps = a.points.ps.now in
      let ds = a.points.ds.now in
      let some = a.points.standing.rising.least in
      let l = c.loop-i in let all : l.i ≡ suc (length params - 2) = omega (arith, l.invariant.within, some) in
      let grown = rw c.inner-inner.ensures.answer at l.invariant in
      grown-all a.out.now (joined_points inner (pieces params ps ds)) grown (first-put (goal.at.returns c).After-out-1) (omega (arith, c.requires.params_in_bounds))
      (ap (points_to inner params ps ds) all ∙ points-grown inner params ps ds (length params - 2) (omega (arith, some)))
      (omega (arith, points-length inner (either_of a.meeting).0 params ps ds some));
}
