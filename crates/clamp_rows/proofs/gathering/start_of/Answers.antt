-- Each number is the one that the start has.
use Prim.Native.Nat.{◌+◌}
use native.Mathlib.Omega.{arith}
use mathlib.Core.Path.{refl}
use Rattle.grid.specs.Limits.{knot_most}
use Rattle.clamping.specs.EndRows.{start_of}
use Rattle.clamping.proofs.BoundLaws.{start-near}
use Rattle.clamp_rows.proofs.GatheringLaws.{gathered, near, point-widened}
use Rattle.clamp_rows.proofs.gathering.start_of.Goals as goal

pub invariant_of-result : goal.invariant_of-result
invariant_of-result c = let m = c.args.line.degree in
    let ts = c.args.line.knots.now in
    let ps = c.args.line.points.now in
    let h = c.args.line.carries in
    record {
      near = near (start_of m ts ps) _ _ _ _ _ _ _
          c.gap.ensures.answer
          c.gap-2.ensures.answer
          c.gap-3.ensures.answer
          c.gap-4.ensures.answer
          (point-widened ps 0 0 c.from.result (h.range 0) refl c.from.ensures)
          (point-widened ps 1 1 c.from-2.result (h.range 1) refl c.from-2.ensures)
          (point-widened ps 2 2 c.from-3.result (h.range 2) refl c.from-3.ensures)
          (omega (arith, h.opens))
          (omega (arith, h.opens, h.rising (m + 1) (m + 2) (omega arith) (omega (arith, h.count, h.enough, c.requires))))
          (start-near ts ps knot_most h.largest m)
          (λ k. h.range k);
    }

pub returns : goal.returns
returns c = let m = c.args.line.degree in
    let ts = c.args.line.knots.now in
    let ps = c.args.line.points.now in
    let h = c.args.line.carries in
    record {
      gathered = gathered (start_of m ts ps) _ _ _ _ _ _ _
          c.gap.ensures.answer
          c.gap-2.ensures.answer
          c.gap-3.ensures.answer
          c.gap-4.ensures.answer
          (point-widened ps 0 0 c.from.result (h.range 0) refl c.from.ensures)
          (point-widened ps 1 1 c.from-2.result (h.range 1) refl c.from-2.ensures)
          (point-widened ps 2 2 c.from-3.result (h.range 2) refl c.from-3.ensures)
          _ refl refl refl;
    }
