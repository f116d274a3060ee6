-- The points in front are copied, and the last m - 1 are stored one by one (the invariant).
use mathlib.Core.Path.{sym, ◌∙◌}
use Prim.Native.Nat.{◌-◌}
use native.Mathlib.Omega.{arith}
use lib.IntN.{pos}
use lib.ListN.{length}
use mir.Syntax.{w32}
use mir.ValLaws.{to_z-of_z}
use Rattle.lent.proofs.StoreLaws.{stored_more, stored-all}
use Rattle.insertion.proofs.PartLaws.{stored-anew, stored-since}
use Rattle.unclamping.proofs.EntryLaws.{open_points-length, open_points-at}
use Rattle.unclamp_parts.proofs.PointLaws.{point-fits, points-stored}
use borrow.Author.Rules.{sfits_of}
use Rattle.unclamp_parts.proofs.writing.write_points.Goals as goal

pub loop-j-init : goal.loop-j-init
loop-j-init c = let a = c.args in
    let first = c.copy_into in stored-anew (points-stored a.end.degree a.end.knots.now a.end.points.now a.end.ending a.out.now first.new.to c.requires.ps_in_bounds first.ensures.result)

pub new_point-requires-clause-k_value : goal.new_point-requires-clause-k_value
new_point-requires-clause-k_value c = let a = c.args in
    point-fits a.end.degree a.end.knots.now a.end.points.now a.end.ending c.requires.ps_value (length a.end.points.now - 1 - c.loop-j.j) (omega (arith, c.loop-j-test.true))

pub loop-j-preserved : goal.loop-j-preserved
loop-j-preserved c = let a = c.args in
    let l = c.loop-j in let taken = c.loop-j-test.true in
    rw (to_z-of_z w32 c.new_point.result (sfits_of c.new_point.type_inv))
    (stored_more l.invariant c.new_point.result (pos 0) (rw (open_points-length a.end.degree a.end.knots.now a.end.points.now) taken)
    (open_points-at a.end.degree a.end.knots.now a.end.points.now l.j taken ∙ sym c.new_point.ensures.answer))

pub returns : goal.returns
returns c = record {
  result = let a = c.args in
      let l = c.loop-j in let first = c.copy_into in stored-all
      (stored-since (points-stored a.end.degree a.end.knots.now a.end.points.now a.end.ending a.out.now first.new.to c.requires.ps_in_bounds first.ensures.result) (omega arith) l.invariant)
      (omega (arith, c.loop-j-test.false, open_points-length a.end.degree a.end.knots.now a.end.points.now));
}
