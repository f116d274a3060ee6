-- Each number is the one that the end has.
use Prim.Native.Nat.{◌-◌}
use mathlib.Core.Path.{refl}
use native.Mathlib.Omega.{arith}
use lib.ListN.{length}
use Rattle.grid.specs.Limits.{knot_most}
use Rattle.clamping.specs.EndRows.{finish_of}
use Rattle.clamping.proofs.BoundLaws.{finish-near}
use Rattle.clamp_rows.proofs.GatheringLaws.{gathered, near, point-widened}
use Rattle.clamp_rows.proofs.gathering.finish_of.Goals as goal

pub invariant_of-result : goal.invariant_of-result
invariant_of-result c = let ts = c.args.line.knots.now in
    let ps = c.args.line.points.now in
    let n = length ps in
    let h = c.args.line.carries in
    record {
      near = near (finish_of ts ps) _ _ _ _ _ _ _
          c.gap.ensures.answer
          c.gap-2.ensures.answer
          c.gap-3.ensures.answer
          c.gap-4.ensures.answer
          (point-widened ps (n - 1) (n - 1 - 0) c.from.result (h.range (n - 1 - 0)) (omega arith) c.from.ensures)
          (point-widened ps (n - 2) (n - 1 - 1) c.from-2.result (h.range (n - 1 - 1)) (omega arith) c.from-2.ensures)
          (point-widened ps (n - 3) (n - 1 - 2) c.from-3.result (h.range (n - 1 - 2)) (omega arith) c.from-3.ensures)
          (omega (arith, h.closes))
          (omega (arith, h.closes, h.rising (n - 2) (n - 1) (omega arith) (omega (arith, h.count))))
          (finish-near ts ps knot_most h.largest)
          (λ k. h.range (n - 1 - k));
    }

pub returns : goal.returns
returns c = let ts = c.args.line.knots.now in
    let ps = c.args.line.points.now in
    let n = length ps in
    let h = c.args.line.carries in
    record {
      gathered = gathered (finish_of ts ps) _ _ _ _ _ _ _
          c.gap.ensures.answer
          c.gap-2.ensures.answer
          c.gap-3.ensures.answer
          c.gap-4.ensures.answer
          (point-widened ps (n - 1) (n - 1 - 0) c.from.result (h.range (n - 1 - 0)) (omega arith) c.from.ensures)
          (point-widened ps (n - 2) (n - 1 - 1) c.from-2.result (h.range (n - 1 - 1)) (omega arith) c.from-2.ensures)
          (point-widened ps (n - 3) (n - 1 - 2) c.from-3.result (h.range (n - 1 - 2)) (omega arith) c.from-3.ensures)
          _ refl refl refl;
    }
