-- They end at the first knot above v, or with the list.
use Rattle.insertion_parts.proofs.PositionLaws.{up_to_first}
use Rattle.insertion_parts.proofs.knots_up_to.Goals as goal

pub returns : goal.returns
returns c = record { answer = rw (c.unwrap_or.ensures, c.first_above.ensures.answer) (up_to_first c.args.v c.args.knots.now) }
