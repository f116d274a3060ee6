-- Each test in turn: the knots, x, y.
use mathlib.Core.Path.{◌≡◌, refl, sym, ◌∙◌}
use Prim.Native.Nat.{◌+◌}
use lib.ListN.{length, get_or}
use Rattle.checked.specs.Along.{lists_of}
use Rattle.unclamping.specs.Unclamping.{opens}
use Rattle.unclamping.proofs.JudgedLaws.{knots-open}
use Rattle.unclamp_right.proofs.StandingLaws.{grid-stands}
use Rattle.unclamp_right.proofs.judging.can_open.Goals.{Then-knots_open}
use Rattle.unclamp_right.proofs.judging.can_open.Goals as goal

-- the last m + 1 knots agree
end : (c : Then-knots_open) → let a = c.args in
    get_or a.curve.knots.now (length a.curve.xs.now + a.curve.degree) 0 ≡ get_or a.curve.knots.now (length a.curve.xs.now) 0
end c = let a = c.args in (knots-open a.curve.degree (lists_of a.curve) (sym c.knots_open.ensures.answer ∙ c.if-knots_open.true)).0

pub right_end-requires : goal.right_end-requires
right_end-requires c = end c

pub points_open-requires : goal.points_open-requires
points_open-requires c = let a = c.args in rw c.right_end.ensures.points (grid-stands a.curve.degree (lists_of a.curve) a.curve.passes).0

pub right_end-requires-then-points_open : goal.right_end-requires-then-points_open
right_end-requires-then-points_open c = end (goal.at.right_end-requires-then-points_open c).Then-knots_open

pub points_open-requires-then-points_open : goal.points_open-requires-then-points_open
points_open-requires-then-points_open c = let a = c.args in
    rw c.right_end-then-points_open.ensures.points (grid-stands a.curve.degree (lists_of a.curve) a.curve.passes).1

pub returns-else-knots_open : goal.returns-else-knots_open
unfolding opens
returns-else-knots_open c = record { answer = c.if-knots_open.false ∙ rw (sym c.knots_open.ensures.answer ∙ c.if-knots_open.false) refl }

pub returns-else-points_open : goal.returns-else-points_open
unfolding opens
returns-else-points_open c = record {
  answer = let e = c.right_end.ensures in
      c.if-points_open.false
      ∙ rw (sym c.knots_open.ensures.answer ∙ c.if-knots_open.true, (rw (e.degree, e.knots, e.points) at (sym c.points_open.ensures.answer ∙ c.if-points_open.false))) refl;
}

pub returns-then-points_open : goal.returns-then-points_open
unfolding opens
returns-then-points_open c = record {
  answer = let e = c.right_end.ensures in
      let f = c.right_end-then-points_open.ensures in
      rw (sym c.knots_open.ensures.answer ∙ c.if-knots_open.true, (rw (e.degree, e.knots, e.points) at (sym c.points_open.ensures.answer ∙ c.if-points_open.true)))
      (rw (f.degree, f.knots, f.points) at c.points_open-then-points_open.ensures.answer);
}
