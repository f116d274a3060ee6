-- What the exports by cases hand back (headings "Inserting and removing a knot", "The record on disk", "Jobs in bursts", "Numbers of refusal"). `number` is the answer;
-- `before` and `now` are the lent lists before the call and after it, `held` and `holds` the single numbers lent with them.
use Rattle.std.specs.Prelude.{List, ◌≡◌, ℕ, ◌<◌, ◌≤◌, ℤ, length}
use Rattle.lent.specs.Lent.{after}
use Rattle.refusal.specs.Numbers.{room_refused}
use Rattle.grid.specs.Limits.{job_most}
use Rattle.curve.specs.Lists.{Lists}
use Rattle.curve.specs.HandingOver.{handed_over}
use Rattle.removal.specs.Outcome.{RemovalComesTo}
use Rattle.compaction.specs.Outcome.{CompactionComesTo, knots_taken}
use Rattle.clamps.specs.Clamp.{Clamp, all_sides}
use Rattle.fault.specs.Verdict.{Verdict, number_of, place_or}
use Rattle.record.specs.Reading.{RecordComesTo}
use Rattle.job.specs.JobReading.{JobComesTo}
use Rattle.feed.specs.Ending.{Holds}
use Rattle.tsaghnobir.specs.Places.{placed, JobPlaces}

-- a call comes to the number and to some curve; the lists follow, and the single numbers by `counts` of that curve
pub record HandsBack {P : Type 0} (ComesTo : ℕ → Lists → Type 0) (counts : Lists → P) (before : Lists) (held : P) (number : ℕ) (now : Lists) (holds : P) : Type 0 where
  pub result : Lists
  pub comes_to : ComesTo number result
  pub hands : now ≡ handed_over number result before
  pub places : holds ≡ placed number (counts result) held

-- removing v from c: the points that are left
abbrev pub RemovalHandsBack : ℕ → Lists → ℕ → Lists → ℕ → ℕ → Lists → ℕ → Type 0
RemovalHandsBack m c v before = HandsBack (RemovalComesTo m c v before) (λ d. length d.xs) before

-- compacting c: the points that are left, and how many fewer they are
abbrev pub CompactionHandsBack : ℕ → Lists → Lists → ℕ × ℕ → ℕ → Lists → ℕ × ℕ → Type 0
CompactionHandsBack m c before = HandsBack (CompactionComesTo m c before) (λ d. (length d.xs, knots_taken c d)) before

-- reading a record: degree and number of points, and the place of a fault
pub record RecordHandsBack (bytes : List ℕ) (before : Lists) (held : ℕ × ℕ × ℕ) (number : ℕ) (now : Lists) (holds : ℕ × ℕ × ℕ) : Type 0 where
  pub verdict : Verdict
  pub m : ℕ
  pub c : Lists
  pub comes_to : RecordComesTo bytes before verdict m c
  pub answers : number ≡ number_of verdict
  pub hands : now ≡ handed_over number c before
  pub places : holds ≡ (placed number m held.0, placed number (length c.xs) held.1, place_or verdict held.2)

-- reading a job: degree, number of points, radius and number of clamps, and the place of a fault; the clamps' sides go to a fourth list
pub record JobHandsBack (bytes : List ℕ) (before : Lists) (sides_before : List ℤ) (held : JobPlaces) (number : ℕ) (now : Lists) (sides_now : List ℤ)
    (holds : JobPlaces) : Type 0 where
  pub verdict : Verdict
  pub m : ℕ
  pub c : Lists
  pub radius : ℕ
  pub cs : List Clamp
  pub comes_to : JobComesTo bytes before (length sides_before) verdict m c radius cs
  pub answers : number ≡ number_of verdict
  pub hands : now ≡ handed_over number c before
  pub clamps_now : sides_now ≡ after number (all_sides cs) sides_before
  pub places : holds
      ≡ (
        placed number m held.0,
        placed number (length c.xs) held.1,
        placed number radius held.2,
        placed number (length cs) held.3,
        place_or verdict held.4,
      )

-- the end of a job in bursts, by the count of bytes received and the work list; the last number is the count afterwards
pub data FeedHandsBack (received : ℕ) (work : List ℕ) (before : Lists) (sides_before : List ℤ) (held : JobPlaces) :
    ℕ → Lists → List ℤ → JobPlaces → ℕ → Type 0 where
  -- a work list shorter than the longest job: 15 at once, and the count stays
  short : length work < job_most → FeedHandsBack received work before sides_before held room_refused before sides_before held received
  -- else as reading a job, whichever bytes are held, and the count is 0 again
  told : job_most ≤ length work → (number : ℕ) (now : Lists) (sides_now : List ℤ) (holds : JobPlaces)
      → ((bytes : List ℕ) → Holds received work bytes → JobHandsBack bytes before sides_before held number now sides_now holds)
      → FeedHandsBack received work before sides_before held number now sides_now holds 0
