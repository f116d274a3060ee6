-- The points that are left are as many fewer as knots went.
use Rattle.tsaghnobir.proofs.HandsBackLaws.{done-by, counted}
use Rattle.tsaghnobir.proofs.knots.tsb_compact.Goals as goal

pub returns-in-Ok : goal.returns-in-Ok
returns-in-Ok c = record { answer = done-by c.compact-answer.ensures.answer c.in-Ok.is counted }
