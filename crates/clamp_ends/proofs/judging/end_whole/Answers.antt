-- One number or two.
use mathlib.Core.Path.{sym, ap, ◌∙◌}
use native.Mathlib.Omega.{arith}
use borrow.Author.Tests.{eq-eqb}
use Rattle.clamping.specs.EndRows.{end_number}
use Rattle.clamping.specs.Clamping.{is_whole}
use Rattle.clamp_rows.specs.Ends.{as_end}
use Rattle.clamp_ends.proofs.WholeLaws.{first-fails, one-tells, two-tell}
use Rattle.clamp_ends.proofs.judging.end_whole.Goals as goal

pub returns-else-is_whole : goal.returns-else-is_whole
returns-else-is_whole c = record {
  answer = let a = c.args in
      c.if-is_whole.false ∙ first-fails (λ k. end_number (as_end a.end) a.m k) a.m c.is_whole.result c.requires.0
      (c.is_whole.ensures.answer ∙ ap is_whole c.number.ensures.answer) c.if-is_whole.false;
}

pub returns-then-m-eq2 : goal.returns-then-m-eq2
returns-then-m-eq2 c = record {
  answer = let a = c.args in
      eq-eqb _ _ c.if-m-eq2.true ∙ one-tells (λ k. end_number (as_end a.end) a.m k) a.m c.is_whole.result c.if-m-eq2.true
      (c.is_whole.ensures.answer ∙ ap is_whole c.number.ensures.answer) c.if-is_whole.true;
}

pub returns-else-m-eq2 : goal.returns-else-m-eq2
returns-else-m-eq2 c = record {
  answer = let a = c.args in
      let first = c.is_whole in two-tell (λ k. end_number (as_end a.end) a.m k) a.m c.is_whole-else-m-eq2.result (omega (arith, c.requires.0, c.requires.1, c.if-m-eq2.false))
      (sym (first.ensures.answer ∙ ap is_whole c.number.ensures.answer) ∙ c.if-is_whole.true)
      (c.is_whole-else-m-eq2.ensures.answer ∙ ap is_whole c.number-else-m-eq2.ensures.answer);
}
