-- What the end answers is placed, and so is the state.
use mathlib.Core.Path.{ap}
use Rattle.tsaghnobir.proofs.ReadingLaws.{feed-placed}
use Rattle.tsaghnobir.proofs.bursts.tsb_feed_end.Goals as goal

pub returns : goal.returns
returns c = record { answer = let ended = c.feed_end-ended in rw (ap (λ r. r.0) c.place_job.ensures.answer, ap (λ r. r.1) c.place_job.ensures.answer) (feed-placed _ ended.ensures.answer) }
