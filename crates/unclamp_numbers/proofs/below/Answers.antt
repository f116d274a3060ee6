-- 1 of degree 2, and the last two spans of degree 3.
use mathlib.Core.Path.{◌≡◌, sym, ◌∙◌}
use Prim.Native.Nat.{◌≤◌}
use native.Mathlib.Omega.{arith}
use Rattle.clamping.specs.EndRows.{finish_of}
use Rattle.unclamping.proofs.EntryLaws.{lower-of-two, lower-of-three}
use Rattle.unclamp_numbers.proofs.EndLaws.{two-spans-some}
use Rattle.unclamp_numbers.proofs.below.Goals as goal

pub returns-then-end-eq2-clause-answer : goal.returns-then-end-eq2-clause-answer
returns-then-end-eq2-clause-answer c = let a = c.args in sym (lower-of-two (finish_of a.end.knots.now a.end.points.now) a.end.degree a.k c.requires c.if-end-eq2.true)

pub returns-clause-answer : goal.returns-clause-answer
returns-clause-answer c =
    let a = c.args in
    let three : a.end.degree ≡ 3 = omega (arith, c.if-end-eq2.false, a.end.ending.most, c.requires) in
    c.two_spans.ensures.answer ∙ sym (lower-of-three (finish_of a.end.knots.now a.end.points.now) a.end.degree a.k c.requires three)

pub returns-clause-some : goal.returns-clause-some
returns-clause-some c = let a = c.args in
    let degree : 2 ≤ a.end.degree = omega (arith, c.requires) in omega (arith, c.two_spans.ensures.answer, two-spans-some a.end.degree a.end.knots.now a.end.points.now a.end.ending degree)
