-- The old points are copied, and those of both ends are stored over them.
use mathlib.Core.Path.{◌≡◌, sym, ◌∙◌}
use Prim.Native.Nat.{◌+◌, ◌-◌}
use native.Mathlib.Omega.{arith}
use lib.IntN.{pos}
use lib.ListN.{length}
use mir.Syntax.{w32}
use mir.Facts.{to_z-of_z}
use Rattle.clamping.specs.Clamping.{clamped_points}
use Rattle.clamping.proofs.ClampedLaws.{points-length, points-at}
use Rattle.clamp_ends.proofs.NumberLaws.{points_kept}
use Rattle.clamp_ends.proofs.MendLaws.{mended-none, mended-more, mended-all}
use Rattle.clamp_ends.proofs.writing.write_points.Goals.{Start}
use Rattle.clamp_ends.proofs.writing.write_points.Goals as goal

-- there are as many points as before
long : (s : Start) → length (clamped_points s.args.line.degree s.args.line.knots.now s.args.line.points.now) ≡ length s.args.line.points.now
long s = let a = s.args in points-length a.line.degree a.line.knots.now a.line.points.now

pub loop-k-init : goal.loop-k-init
loop-k-init c = let a = c.args in
    mended-none (pos 0) (clamped_points a.line.degree a.line.knots.now a.line.points.now) a.line.points.now a.out.now c.copy_into.new.to
    (sym (long (goal.at.loop-k-init c).Start)) (omega (arith, long (goal.at.loop-k-init c).Start, c.requires)) c.copy_into.ensures.result
    (a.line.degree - 1) (omega (arith, long (goal.at.loop-k-init c).Start, a.line.carries.enough)) (λ j l u. points_kept a.line.degree a.line.knots.now a.line.points.now j l (omega (arith, u, long (goal.at.loop-k-init c).Start)))

pub loop-k-preserved : goal.loop-k-preserved
loop-k-preserved c = let a = c.args in
    let l = c.loop-k in let near = c.point_at in let far = c.point_at-in-loop-k in let more = c.loop-k-test.true in
    let place = length a.line.points.now + 1 + l.k - a.line.degree in
    rw (to_z-of_z {w = w32} {z = near.result} (record { sfits = near.type_inv }), to_z-of_z {w = w32} {z = far.result} (record { sfits = far.type_inv }))
    (mended-more (pos 0) (clamped_points a.line.degree a.line.knots.now a.line.points.now) l.invariant (omega (arith, more)) place
    (omega (arith, more, long (goal.at.loop-k-preserved c).Start, a.line.carries.enough)) near.result far.result
    (points-at a.line.degree a.line.knots.now a.line.points.now l.k (omega (arith, more, a.line.carries.enough)) ∙ sym near.ensures.answer)
    (points-at a.line.degree a.line.knots.now a.line.points.now place (omega (arith, more, a.line.carries.enough)) ∙ sym far.ensures.answer))

pub returns : goal.returns
returns c = record {
  result = let a = c.args in
      let copy = c.copy_into in mended-all (pos 0) (clamped_points a.line.degree a.line.knots.now a.line.points.now) a.line.points.now a.out.now copy.new.to
      (sym (long (goal.at.returns c).Start)) (omega (arith, long (goal.at.returns c).Start, c.requires)) copy.ensures.result c.loop-k.invariant (omega (arith, c.loop-k-test.false));
}
