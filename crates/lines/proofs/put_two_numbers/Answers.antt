-- The first word with its number, and then a line of one number.
use Rattle.lines.specs.Lines.{labelled, one_number, two_numbers}
use Rattle.digits.proofs.PutLaws.{two-joined}
use Rattle.lines.proofs.put_two_numbers.Goals as goal

pub returns-clause-result : goal.returns-clause-result
unfolding two_numbers
returns-clause-result c = let a = c.args in
    two-joined a.pen.now.out.now a.pen.now.at (labelled a.first.now a.a) (one_number a.second.now a.b a.end.now) c.requires c.put_labelled.ensures.result c.put_one_number.ensures.result
