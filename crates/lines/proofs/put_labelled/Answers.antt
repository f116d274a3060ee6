-- The word, then the digits behind it.
use Rattle.digits.specs.Decimal.{decimal}
use Rattle.digits.proofs.PutLaws.{two-joined}
use Rattle.lines.proofs.put_labelled.Goals as goal

pub returns-clause-result : goal.returns-clause-result
returns-clause-result c = let a = c.args in two-joined a.pen.now.out.now a.pen.now.at a.word.now (decimal a.number) c.requires c.bytes.ensures.result c.decimal.ensures.result
