-- By the end that the point is of; an old point is read as it was lent.
use mir.Syntax.{w32}
use borrow.Author.Rules.{sfits_of}
use mathlib.Core.Path.{sym, ap, ◌∙◌}
use mir.Facts.{to_z-of_z}
use Rattle.insertion.specs.Insertion.{point_at}
use Rattle.clamping.specs.Clamping.{whole_of}
use Rattle.clamp_ends.proofs.NumberLaws.{point-value, start-number, finish-number, between}
use Rattle.clamp_ends.proofs.writing.point_at.Goals as goal

pub returns-then-j-m : goal.returns-then-j-m
returns-then-j-m c = record {
  answer = let a = c.args in
      let start = c.start_of in to_z-of_z {w = w32} (record { sfits = c.value.type_inv }) ∙ c.value.ensures.answer
      ∙ ap whole_of (c.number.ensures.answer
      ∙ start-number a.line.degree a.line.knots.now a.line.points.now start.result start.ensures.gathered a.line.carries.degree a.j c.if-j-m.true);
}

pub returns-then-k-m : goal.returns-then-k-m
returns-then-k-m c = record {
  answer = let a = c.args in
      let finish = c.finish_of in to_z-of_z {w = w32} (record { sfits = c.value-then-k-m.type_inv }) ∙ c.value-then-k-m.ensures.answer
      ∙ ap whole_of (c.number-then-k-m.ensures.answer
      ∙ finish-number a.line.degree a.line.knots.now a.line.points.now finish.result finish.ensures.gathered a.line.carries.degree a.j c.if-j-m.false c.if-k-m.true);
}

pub returns : goal.returns
returns c = record {
  answer = let a = c.args in
      to_z-of_z {w = w32} (sfits_of c.result-1.given) ∙ sym (point-value (point_at a.line.points.now a.j))
      ∙ ap whole_of (sym (between a.line.degree a.line.knots.now a.line.points.now a.j c.requires c.if-j-m.false c.if-k-m.false));
}
