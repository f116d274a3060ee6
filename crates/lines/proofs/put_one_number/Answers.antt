-- A word with its number, and the rest of the line.
use Rattle.lines.specs.Lines.{labelled, one_number}
use Rattle.digits.proofs.PutLaws.{two-joined}
use Rattle.lines.proofs.put_one_number.Goals as goal

pub returns-clause-result : goal.returns-clause-result
unfolding one_number
returns-clause-result c = let a = c.args in
    two-joined a.pen.now.out.now a.pen.now.at (labelled a.word.now a.number) a.end.now c.requires c.put_labelled.ensures.result c.bytes.ensures.result
