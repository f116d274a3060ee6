-- The far end, the walk to it, the far side, and the two sides round the walk.
use mathlib.Core.Path.{◌≡◌, refl}
use Prim.Native.Nat.{◌-◌}
use native.Mathlib.Omega.{arith}
use lib.ListN.{length}
use mir.Syntax.{w32}
use mir.Val.{to_z, of_z}
use mir.ValLaws.{to_z-of_z}
use Rattle.insertion.specs.Insertion.{point_at}
use Rattle.removal.proofs.EquationLaws.{reduced-weighed}
use Rattle.removal_walk.proofs.FarLaws.{far-agrees, walk-reinserts}
use Rattle.removal_walk.proofs.remove_axis.Goals.{After-agrees, After-far_end-far}
use Rattle.removal_walk.proofs.remove_axis.Goals as goal

pub agrees-requires : goal.agrees-requires
agrees-requires c = let a = c.args in
    reduced-weighed a.m a.ks.now a.v (length a.ps.now - 1) c.requires.reduced c.far_end-far.result c.far_end-far.ensures.answer.from c.far_end-far.ensures.answer.to

-- the last point of the walk, as the call is handed it
last : (c : After-agrees) → to_z w32 (of_z w32 (point_at c.from_left.new.out (c.far_end-far.result - 1))) ≡ point_at c.from_left.new.out (c.far_end-far.result - 1)
last c =
    to_z-of_z w32 (point_at c.from_left.new.out (c.far_end-far.result - 1)) (record { sfits = c.agrees-arg-1.given })

pub returns-then-not-agrees : goal.returns-then-not-agrees
returns-then-not-agrees c = record {
  answer = let a = c.args in
      let w = c.in_ok-from_left in (
        refl,
        λ p h.
            c.agrees.ensures.answer.no (c.if-not-agrees.true)
            (rw (last (goal.at.returns-then-not-agrees c).After-agrees) (far-agrees a.m a.ks.now a.v a.ps.now c.from_left.new.out c.far_end-far.result c.requires.reduced c.far_end-far.ensures.answer w.ensures.answer p h)),
      );
}

pub returns : goal.returns
returns c = record {
  answer = let a = c.args in
      let w = c.in_ok-from_left in
      let r = c.agrees in let sides = c.copy_sides.ensures.result in
      walk-reinserts a.m a.ks.now a.v a.ps.now c.from_left.new.out c.far_end-far.result c.requires.reduced c.far_end-far.ensures.answer w.ensures.answer
      (rw (last (goal.at.returns c).After-agrees) at (r.ensures.answer.yes (c.if-not-agrees.false)))
      c.copy_sides.new.out (rw c.requires.i_value at sides) (omega (arith, sides.count, c.out-1.given, c.requires.out_len)) c.requires.ranged;
}
