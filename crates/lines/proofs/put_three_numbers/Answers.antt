-- Three words with their numbers, and the end of the line.
use Rattle.lines.specs.Lines.{labelled, line_end, three_numbers}
use Rattle.digits.proofs.PutLaws.{four-joined}
use Rattle.lines.proofs.put_three_numbers.Goals as goal

pub returns-clause-result : goal.returns-clause-result
unfolding three_numbers
returns-clause-result c = let a = c.args in
    four-joined a.pen.now.out.now a.pen.now.at (labelled a.first.now a.a) (labelled a.second.now a.b) (labelled a.third.now a.c) line_end c.requires c.put_labelled.ensures.result c.put_labelled-2.ensures.result c.put_labelled-3.ensures.result c.byte.ensures.result
