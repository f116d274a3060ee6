-- What a burst leaves and answers (heading "Jobs in bursts").
use Rattle.std.specs.Prelude.{cond, Result, Ok, Err, List, ℕ, leb, eqb, length}
use Rattle.lent.specs.Lent.{after}
use Rattle.refusal.specs.Judging.{unless}
use Rattle.refusal.specs.Numbers.{accepted, room_refused}
use Rattle.grid.specs.Limits.{job_most}
use Rattle.keeping.specs.Kept.{kept_with, received_with}
use Rattle.feed.specs.declared.Feed.{Feed}
use Rattle.refusal.specs.declared.Refusal.{Refusal}
use Rattle.refusal.specs.declared.Refusal.TheVariants.{Room}

abbrev pub fresh : Feed  -- before the first burst, and after an end that answered
fresh = record { received = 0 }

abbrev pub work_number : List ℕ → ℕ  -- 15 where the work list is shorter than the longest job
work_number work = unless (leb job_most (length work)) room_refused accepted

-- a burst's answer: the new state, or the one refusal that there is
abbrev pub burst_answer : Feed → List ℕ → List ℕ → Result Feed Refusal
burst_answer state burst work = cond (eqb (work_number work) accepted) (Ok (record { received = received_with state.received burst work })) (Err Room)

-- the work list after it
abbrev pub work_after : Feed → List ℕ → List ℕ → List ℕ
work_after state burst work = after (work_number work) (kept_with state.received burst work) work
