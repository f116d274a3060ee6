-- What a burst answers and leaves, as sentences (heading "Jobs in bursts").
use Rattle.std.specs.Prelude.{Ok, Err, List, [], ◌∷◌, ◌≡◌, ℕ, ◌<◌, ◌≤◌, length}
use Rattle.refusal.specs.Chain.{row, AnswersFirst}
use Rattle.refusal.specs.declared.Refusal.TheVariants.{Room}
use Rattle.grid.specs.Limits.{job_most}
use Rattle.keeping.specs.Sentences.{BurstKept}
use Rattle.feed.specs.Burst.{work_number, burst_answer, work_after}
use Rattle.feed.specs.declared.Feed.{Feed}

-- 15 exactly where the work list is shorter than the longest job; a burst is refused for nothing else
abbrev pub BurstAnswersFirst : Type 0
BurstAnswersFirst = (work : List ℕ) → AnswersFirst (work_number work) (row 15 (length work < job_most) ∷ [])

-- a work list long enough takes every burst
abbrev pub BurstIsKept : Type 0
BurstIsKept =
    (state : Feed) (burst work : List ℕ) → job_most ≤ length work
    → (next : Feed) × (burst_answer state burst work ≡ Ok next) × BurstKept state.received burst work next.received (work_after state burst work)

-- a shorter one takes none, and is left as it was
abbrev pub ShortListKept : Type 0
ShortListKept =
    (state : Feed) (burst work : List ℕ) → length work < job_most → (burst_answer state burst work ≡ Err Room) × (work_after state burst work ≡ work)

-- an empty burst changes nothing
abbrev pub EmptyBurstChangesNothing : Type 0
EmptyBurstChangesNothing =
    (state : Feed) (work : List ℕ) → job_most ≤ length work → (burst_answer state [] work ≡ Ok state) × (work_after state [] work ≡ work)
