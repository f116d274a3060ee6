-- 15 for a short work list, or what reading the bytes received answers, with a fresh state.
use Rattle.feed.specs.Ending.{short, told}
use Rattle.feed.proofs.feed_end.Goals as goal

pub returns-then-work-lt-JOB_MOST : goal.returns-then-work-lt-JOB_MOST
returns-then-work-lt-JOB_MOST c = record { answer = short c.if-work-lt-JOB_MOST.true }

pub returns : goal.returns
returns c = record {
  answer = told c.if-work-lt-JOB_MOST.false _ _ _
      c.read_received-answer.ensures.answer;
}
