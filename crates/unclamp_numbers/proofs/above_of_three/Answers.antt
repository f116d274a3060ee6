-- The last point but one, and from it the last.
use mathlib.Core.Path.{◌≡◌, sym, ap, ◌∙◌}
use native.Mathlib.Omega.{arith}
use mir.Syntax.{w32, w64}
use mir.ValLaws.{to_z-of_z}
use Rattle.clamping.specs.declared.Share.{Share}
use Rattle.clamping.specs.EndRows.{finish_of}
use Rattle.unclamping.specs.Unclamping.{open_second}
use Rattle.unclamping.proofs.EntryLaws.{last-of-three, second-of-three}
use Rattle.unclamp_numbers.proofs.EndLaws.{second_is, first-is}
use borrow.Author.Rules.{sfits_of}
use Rattle.unclamp_numbers.proofs.above_of_three.Goals.{After-second_above-second}
use Rattle.unclamp_numbers.proofs.above_of_three.Goals as goal

-- what stands above the line of the last point but one
second : (c : After-second_above-second) → let a = c.args in
    c.second_above-second.result ≡ (open_second (finish_of a.end.knots.now a.end.points.now)).upper
second c =
    let a = c.args in
    second_is a.end.knots.now a.end.points.now (omega (arith, a.end.ending.enough)) c.two_spans-two.result c.span_width.result c.second_above-second.result
    c.two_spans-two.ensures.answer c.span_width.ensures.answer
    (rw (to_z-of_z w32 _ (sfits_of c.p-1.given), to_z-of_z w32 _ (sfits_of c.second_above-arg-1.given)) at c.second_above-second.ensures.answer)

pub returns-then-k-eq1 : goal.returns-then-k-eq1
returns-then-k-eq1 c = record {
  answer = let a = c.args in
      let r = c.second_above-second in to_z-of_z w64 r.result (sfits_of r.type_inv) ∙ second (goal.at.returns-then-k-eq1 c).After-second_above-second
      ∙ sym (ap (λ (n : Share). n.upper) (second-of-three (finish_of a.end.knots.now a.end.points.now) 3 a.k (omega arith) c.if-k-eq1.true));
}

pub returns : goal.returns
returns c = record {
  answer = let a = c.args in
      let r = c.first_above in to_z-of_z w64 r.result (sfits_of r.type_inv)
      ∙ first-is a.end.knots.now a.end.points.now (omega (arith, a.end.ending.enough)) c.two_spans-two.result c.second_above-second.result r.result
      c.two_spans-two.ensures.answer (second (goal.at.returns c).After-second_above-second)
      (rw (to_z-of_z w32 _ (sfits_of c.first_above-arg-1.given), to_z-of_z w32 _ (sfits_of c.p-1.given), to_z-of_z w64 c.second_above-second.result (sfits_of c.second_above-second.type_inv)) at r.ensures.answer)
      ∙ sym (ap (λ (n : Share). n.upper) (last-of-three (finish_of a.end.knots.now a.end.points.now) 3 a.k (omega arith) (omega (arith, c.requires.k_bound, c.if-k-eq1.false))));
}
