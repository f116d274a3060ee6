-- The invariant: the walk has come to j.
use mathlib.Core.Bool.{true}
use mathlib.Core.Path.{◌≡◌, refl, sym, ap, ◌∙◌}
use Prim.Native.Nat.{◌-◌, ◌<◌}
use native.Mathlib.Omega.{arith}
use lib.IntN.{ℤ, pos}
use lib.ListN.{length, get_or}
use lib.Signed.{quot_z}
use mir.Syntax.{w32, w64}
use mir.Val.{to_z, of_z}
use mir.ValLaws.{to_z-of_z}
use Rattle.insertion.specs.Insertion.{point_at}
use Rattle.insertion.specs.Standing.{Weighed}
use Rattle.removal.specs.Axis.{left_for}
use Rattle.removal_walk.specs.Walk.{is_point}
use Rattle.removal_walk.proofs.WalkLaws.{point-size, walk-starts, walk-weighed, walk-goes-on, walk-stops}
use Rattle.removal_walk.proofs.walk.from_left.Goals.{After-is_point, Else-not-is_point, In-loop-j, Start}
use Rattle.removal_walk.proofs.walk.from_left.Goals as goal

-- what is left at j, and whether it makes a point
rest : (c : After-is_point) → to_z w64 (of_z w64 c.left_for-rest.result) ≡ left_for c.args.m c.args.ks.now c.args.ps.now c.args.v c.loop-j.j (to_z w32 c.loop-j.last-bits)
rest c =
    let l = c.left_for-rest in to_z-of_z w64 l.result (record { sfits = l.type_inv }) ∙ l.ensures.answer

fits : (c : After-is_point) → c.is_point.result ≡ is_point (c.args.v - get_or c.args.ks.now c.loop-j.j 0) (left_for c.args.m c.args.ks.now c.args.ps.now c.args.v c.loop-j.j (to_z w32 c.loop-j.last-bits))
fits c =
    let a = c.args in
    c.is_point.ensures.answer ∙ ap (is_point (a.v - get_or a.ks.now c.loop-j.j 0)) (rest c)

-- short of the far end: the equation at j can be formed, and its divisor is above zero
weighed : (c : In-loop-j) → Weighed c.args.m c.args.ks.now (length c.args.ps.now) c.args.v c.loop-j.j
weighed c =
    let a = c.args in
    let l = c.loop-j in walk-weighed a.m a.ks.now a.v a.ps.now a.far c.requires.reduced c.requires.far_end l.out (to_z w32 l.last-bits) l.j l.invariant c.loop-j-test.true

below : (c : In-loop-j) → get_or c.args.ks.now c.loop-j.j 0 < c.args.v
below c = c.requires.far_end.below c.loop-j.j c.loop-j.invariant.from c.loop-j-test.true

pub loop-j-init : goal.loop-j-init
loop-j-init c = let a = c.args in
    rw (to_z-of_z w32 (point_at a.ps.now (a.i - a.m)) (record { sfits = c.last-1.given }), c.requires.i_value)
    (walk-starts a.m a.ks.now a.v a.ps.now a.far c.requires.reduced c.requires.far_end a.out.now c.requires.out_len)

pub left_for-rest-requires : goal.left_for-rest-requires
left_for-rest-requires c = weighed c

pub returns-then-not-is_point : goal.returns-then-not-is_point
returns-then-not-is_point c = record {
  answer = let a = c.args in
      let l = c.loop-j in (
        refl,
        walk-stops a.m a.ks.now a.v a.ps.now a.far c.requires.reduced c.requires.far_end l.out (to_z w32 l.last-bits) l.j l.invariant c.loop-j-test.true
            (sym (fits (goal.at.returns-then-not-is_point c).After-is_point) ∙ c.if-not-is_point.true),
      );
}

-- it makes a point, of the grid's size
whole : (c : Else-not-is_point) → is_point (c.args.v - get_or c.args.ks.now c.loop-j.j 0) (left_for c.args.m c.args.ks.now c.args.ps.now c.args.v c.loop-j.j (to_z w32 c.loop-j.last-bits)) ≡ true
whole c =
    let rest : to_z w64 (of_z w64 c.left_for-rest.result) ≡ left_for c.args.m c.args.ks.now c.args.ps.now c.args.v c.loop-j.j (to_z w32 c.loop-j.last-bits) = let l = c.left_for-rest in to_z-of_z w64 l.result (record { sfits = l.type_inv }) ∙ l.ensures.answer in
    let fits : c.is_point.result ≡ is_point (c.args.v - get_or c.args.ks.now c.loop-j.j 0) (left_for c.args.m c.args.ks.now c.args.ps.now c.args.v c.loop-j.j (to_z w32 c.loop-j.last-bits)) = let a = c.args in
    c.is_point.ensures.answer ∙ ap (is_point (a.v - get_or a.ks.now c.loop-j.j 0)) rest in sym fits ∙ c.if-not-is_point.false

pub quotient-last-requires : goal.quotient-last-requires
quotient-last-requires c =
    let a = c.args in
    let l = c.loop-j in let z = left_for a.m a.ks.now a.ps.now a.v l.j (to_z w32 l.last-bits) in record { d_nonzero = omega (arith, below (goal.at.quotient-last-requires c).In-loop-j); d_bound = rw (rest (goal.at.quotient-last-requires c).After-is_point) (omega (arith, point-size (a.v - get_or a.ks.now l.j 0) z (whole c))) }

pub loop-j-preserved : goal.loop-j-preserved
loop-j-preserved c = let a = c.args in
    let l = c.loop-j in let q = c.quotient-last in rw (to_z-of_z w32 q.result (record { sfits = q.type_inv }))
    (walk-goes-on a.m a.ks.now a.v a.ps.now a.far c.requires.reduced c.requires.far_end l.out (to_z w32 l.last-bits) l.j l.invariant c.loop-j-test.true
    q.result (q.ensures.answer ∙ ap (λ (z : ℤ). quot_z z (pos (a.v - get_or a.ks.now l.j 0))) (rest (goal.at.loop-j-preserved c).After-is_point)) (whole (goal.at.loop-j-preserved c).Else-not-is_point))
