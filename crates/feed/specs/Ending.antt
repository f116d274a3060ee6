-- What the end of a job in bursts answers and leaves, by the bytes that were received (heading "Jobs in bursts").
use Rattle.std.specs.Prelude.{Result, Err, List, ◌∷◌, ◌++◌, ℕ, ◌<◌, ◌≤◌, ℤ, length, take}
use Rattle.refusal.specs.declared.Refusal.TheVariants.{Room}
use Rattle.grid.specs.Limits.{job_most}
use Rattle.curve.specs.Lists.{Lists}
use Rattle.job.specs.JobReading.{JobRead}
use Rattle.job.specs.declared.Job.{Job}
use Rattle.taken_field.specs.declared.Failure.{Failure}
use Rattle.taken_field.specs.declared.Failure.TheVariants.{Refused}
use Rattle.feed.specs.Burst.{fresh}
use Rattle.feed.specs.declared.Feed.{Feed}
use Rattle.feed.specs.declared.EndAnswer.{EndAnswer}

-- bytes that a count and a work list stand for
pub data Holds (received : ℕ) (work : List ℕ) : List ℕ → Type 0 where
  -- all of them fit: they are the first entries of the list
  whole : received ≤ length work → Holds received work (take received work)
  -- more came than fit: they fill the list, and at least one byte behind them is lost
  beyond : length work < received → (b : ℕ) (lost : List ℕ) → Holds received work (work ++ b ∷ lost)

-- as reading a job does, whichever bytes are held
abbrev pub ReadsHeld : ℕ → List ℕ → Lists → List ℤ → Result Job Failure → Lists → List ℤ → Type 0
ReadsHeld received work before sides_before answer now sides_now =
    (bytes : List ℕ) → Holds received work bytes → JobRead bytes before sides_before answer now sides_now

-- what the end answers, and leaves in the four lists
pub data FeedEnds (state : Feed) (work : List ℕ) (before : Lists) (sides_before : List ℤ) : EndAnswer → Lists → List ℤ → Type 0 where
  -- a work list shorter than the longest job: 15 at once, and the state stays
  short : length work < job_most → FeedEnds state work before sides_before (record { answer = Err (Refused Room); state = state }) before sides_before
  -- else the bytes received are read, and the state is fresh
  told : job_most ≤ length work → (answer : Result Job Failure) (now : Lists) (sides_now : List ℤ) → ReadsHeld state.received work before sides_before answer now sides_now
      → FeedEnds state work before sides_before (record { answer = answer; state = fresh }) now sides_now
