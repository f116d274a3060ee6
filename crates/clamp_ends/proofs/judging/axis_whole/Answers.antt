-- No new points, or those of the start and then those of the end.
use mathlib.Core.Path.{sym, ◌∙◌}
use borrow.Author.Tests.{lt-ltb}
use Rattle.clamp_ends.proofs.WholeLaws.{all_old, start-refuses, finish-decides}
use Rattle.clamp_ends.proofs.judging.axis_whole.Goals as goal

pub returns-then-m-lt2 : goal.returns-then-m-lt2
returns-then-m-lt2 c = record {
  answer = let a = c.args in
      lt-ltb a.line.degree 2 c.if-m-lt2.true ∙ sym (all_old a.line.degree a.line.knots.now a.line.points.now a.line.carries c.if-m-lt2.true);
}

pub returns-else-end_whole : goal.returns-else-end_whole
returns-else-end_whole c = record {
  answer = let a = c.args in
      let start = c.start_of in
      c.if-end_whole.false ∙ start-refuses a.line.degree a.line.knots.now a.line.points.now a.line.carries start.result start.ensures.gathered c.end_whole.result c.end_whole.ensures.answer
      c.if-end_whole.false;
}

pub returns-then-end_whole : goal.returns-then-end_whole
returns-then-end_whole c = record {
  answer = let a = c.args in
      let start = c.start_of in let first = c.end_whole in let finish = c.finish_of in finish-decides a.line.degree a.line.knots.now a.line.points.now a.line.carries start.result finish.result start.ensures.gathered finish.ensures.gathered first.result c.end_whole-then-end_whole.result
      first.ensures.answer c.if-end_whole.true c.end_whole-then-end_whole.ensures.answer;
}
