-- Degree 2 has one such point, degree 3 has two.
use mathlib.Core.Path.{◌∙◌}
use native.Mathlib.Omega.{arith}
use mir.Syntax.{w32, w64}
use mir.ValLaws.{to_z-of_z}
use Rattle.unclamp_numbers.proofs.EndLaws.{twice-less-is}
use borrow.Author.Rules.{sfits_of}
use Rattle.unclamp_numbers.proofs.above.Goals as goal

pub returns-then-end-eq2 : goal.returns-then-end-eq2
returns-then-end-eq2 c = record {
  answer = let a = c.args in
      let r = c.twice_less in to_z-of_z w64 r.result (sfits_of r.type_inv)
      ∙ twice-less-is a.end.knots.now a.end.points.now (omega (arith, a.end.ending.enough, c.requires)) a.end.degree a.k r.result c.if-end-eq2.true c.requires
      (rw (to_z-of_z w32 _ (sfits_of c.twice_less-arg-1.given), to_z-of_z w32 _ (sfits_of c.twice_less-arg-then-end-eq2-1.given)) at r.ensures.answer);
}
