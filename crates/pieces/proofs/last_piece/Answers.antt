-- The rows are the last piece as they stand, and nothing is left to insert.
use Rattle.checked.specs.Along.{lists_of}
use Rattle.pieces.proofs.WalkLaws.{last-hands}
use Rattle.pieces.proofs.last_piece.Goals as goal

pub returns : goal.returns
returns c = record {
  answer = let a = c.args in last-hands a.curve.degree (lists_of a.curve) a.walk c.requires.0 c.requires.1;
}
