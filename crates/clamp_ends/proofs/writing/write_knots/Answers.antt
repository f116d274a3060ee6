-- The old knots are copied, and those of both ends are stored over them.
use mathlib.Core.Path.{sym, ◌∙◌}
use Prim.Native.Nat.{◌+◌}
use native.Mathlib.Omega.{arith}
use lib.ListN.{length, get_or}
use Rattle.insertion.specs.Insertion.{entries}
use Rattle.clamping.specs.Clamping.{clamped_knot}
use Rattle.clamping.proofs.KnotLaws.{KnotsClamped, knots-clamped}
use Rattle.clamp_ends.proofs.KnotLaws.{knots-kept}
use Rattle.clamp_ends.proofs.MendLaws.{mended-none, mended-more, mended-all}
use Rattle.clamp_ends.proofs.writing.write_knots.Goals.{Start}
use Rattle.clamp_ends.proofs.writing.write_knots.Goals as goal

-- the knots that are wanted
clamped : (s : Start) → KnotsClamped s.args.line.degree s.args.line.knots.now (length s.args.line.points.now) (entries (clamped_knot s.args.line.degree s.args.line.knots.now (length s.args.line.points.now)) (length s.args.line.knots.now))
clamped s = let a = s.args in knots-clamped a.line.degree a.line.knots.now (length a.line.points.now) (omega (arith, s.args.line.carries.enough)) s.args.line.carries.count

pub loop-k-init : goal.loop-k-init
loop-k-init c = let a = c.args in
    let us = entries (clamped_knot a.line.degree a.line.knots.now (length a.line.points.now)) (length a.line.knots.now) in
    let k = clamped (goal.at.loop-k-init c).Start in
    mended-none 0 us a.line.knots.now a.out.now c.copy_into.new.to (c.args.line.carries.count ∙ sym k.long)
    (omega (arith, k.long, c.args.line.carries.count, c.requires)) c.copy_into.ensures.result
    a.line.degree (omega (arith, k.long)) (knots-kept a.line.degree a.line.knots.now (length a.line.points.now) us k)

pub loop-k-preserved : goal.loop-k-preserved
loop-k-preserved c = let a = c.args in
    let l = c.loop-k in let k = clamped (goal.at.loop-k-preserved c).Start in
    let inside = c.loop-k-test.true in
    mended-more 0 (entries (clamped_knot a.line.degree a.line.knots.now (length a.line.points.now)) (length a.line.knots.now)) l.invariant inside ((length a.line.points.now) + 1 + l.k) (omega (arith, k.long))
    (get_or a.line.knots.now a.line.degree 0) (get_or a.line.knots.now (length a.line.points.now) 0)
    (k.firsts l.k (omega (arith, inside))) (k.lasts ((length a.line.points.now) + 1 + l.k) (omega arith) (omega (arith, inside, k.long)))

pub returns : goal.returns
returns c = record {
  result = let a = c.args in
      let copy = c.copy_into in let k = clamped (goal.at.returns c).Start in
      mended-all 0 (entries (clamped_knot a.line.degree a.line.knots.now (length a.line.points.now)) (length a.line.knots.now)) a.line.knots.now a.out.now copy.new.to
      (c.args.line.carries.count ∙ sym k.long) (omega (arith, k.long, c.args.line.carries.count, c.requires)) copy.ensures.result c.loop-k.invariant c.loop-k-test.false;
}
