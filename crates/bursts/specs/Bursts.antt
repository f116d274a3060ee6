-- Bursts fed one after the other, and the end behind them (heading "Jobs in bursts").
use Rattle.std.specs.Prelude.{Result, Ok, Err, List, [], ◌∷◌, ◌++◌, ◌≡◌, ℕ, ◌≤◌, ℤ, length}
use Rattle.grid.specs.Limits.{job_most}
use Rattle.curve.specs.Lists.{Lists}
use Rattle.job.specs.JobReading.{JobRead}
use Rattle.feed.specs.Burst.{fresh, burst_answer, work_after}
use Rattle.feed.specs.Ending.{Holds, FeedEnds}
use Rattle.feed.specs.declared.Feed.{Feed}
use Rattle.refusal.specs.declared.Refusal.{Refusal}
use Rattle.feed.specs.declared.EndAnswer.{EndAnswer}

abbrev pub state_after : Result Feed Refusal → Feed → Feed  -- the state that a caller goes on with: a refusal hands no new one back
state_after (Ok next) state = next
state_after (Err refusal) state = state

-- state and work list after bursts, each handed on unaltered from one call to the next
abbrev pub fed_all : Feed → List ℕ → List (List ℕ) → Feed × List ℕ
fed_all state work [] = (state, work)
fed_all state work (burst ∷ bursts) = fed_all (state_after (burst_answer state burst work) state) (work_after state burst work) bursts

abbrev pub joined : List (List ℕ) → List ℕ  -- all bursts as one
joined [] = []
joined (burst ∷ bursts) = burst ++ joined bursts

-- from a fresh state, any bursts and then the end: what reading all of them joined answers and leaves, and a fresh state again
abbrev pub FedReadsAsJoined : Type 0
FedReadsAsJoined =
    (work : List ℕ) → job_most ≤ length work → (bursts : List (List ℕ)) (before : Lists) (sides_before : List ℤ) (r : EndAnswer) (now : Lists) (sides_now : List ℤ)
    → FeedEnds (fed_all fresh work bursts).0 (fed_all fresh work bursts).1 before sides_before r now sides_now
    → JobRead (joined bursts) before sides_before r.answer now sides_now × (r.state ≡ fresh)

-- until then the list holds the bytes received, in order, as far as they fit; no place of it is lost, so it serves for the next job
abbrev pub FedIsHeld : Type 0
FedIsHeld =
    (work : List ℕ) → job_most ≤ length work → (bursts : List (List ℕ))
    → Holds (fed_all fresh work bursts).0.received (fed_all fresh work bursts).1 (joined bursts) × (length (fed_all fresh work bursts).1 ≡ length work)

-- any state and any list hold some bytes, and the end has one outcome
abbrev pub EndDetermined : Type 0
EndDetermined =
    (state : Feed) (work : List ℕ) (before : Lists) (sides_before : List ℤ) (a b : EndAnswer) (x y : Lists) (s t : List ℤ)
    → FeedEnds state work before sides_before a x s → FeedEnds state work before sides_before b y t → (a ≡ b) × (x ≡ y) × (s ≡ t)
