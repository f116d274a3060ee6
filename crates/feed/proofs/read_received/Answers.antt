-- The bytes received are read where they fit; else the list is judged.
use Rattle.std.proofs.Common.{rules}
use Rattle.feed.proofs.EndLaws.{held_broken, held_left_over}
use Rattle.feed.proofs.read_received.Goals as goal

pub returns-in_err-judge_job : goal.returns-in_err-judge_job
returns-in_err-judge_job c = record {
  answer = held_broken _ _ _ _ c.if-received-work.false c.requires c.in_err-judge_job.field-0.0 c.in_err-judge_job.ensures.answer _ (search rules);
}

pub returns : goal.returns
returns c = record { answer = held_left_over _ _ _ _ c.if-received-work.false c.requires c.in_ok-judge_job.ensures.answer }
