-- What judging and reading a job answer and leave, by what the bytes are (headings "The record on disk" and "Numbers of refusal").
use Rattle.std.specs.Prelude.{Bool, ◌&&◌, List, Result, Ok, Err, ◌≡◌, ℕ, leb, ℤ, length}
use Rattle.lent.specs.Lent.{after}
use Rattle.refusal.specs.Answers.{number_of as refusal_number}
use Rattle.refusal.specs.Judging.{unless}
use Rattle.refusal.specs.Numbers.{accepted, radius_refused, rectangle_refused, room_refused}
use Rattle.curve.specs.HandingOver.{room_for, handed_over}
use Rattle.curve.specs.Lists.{Lists}
use Rattle.grid.specs.Check.{checked_then}
use Rattle.grid.specs.Rows.{radius_ok}
use Rattle.format.specs.Format.{form1}
use Rattle.clamps.specs.Clamp.{Clamp, all_sides, clamps_ok}
use Rattle.fault.specs.Fault.{Fault}
use Rattle.fault.specs.Verdict.{Verdict, judged, broken, number_of}
use Rattle.job.specs.JobFormat.{IsJob, jobs}
use Rattle.taken_field.specs.declared.Break.{Break}
use Rattle.taken_field.specs.declared.Failure.{Failure}
use Rattle.stored_check.specs.Told.{Tells}
use Rattle.job.specs.declared.Job.{Job}

-- bytes that are only judged: a job, or their leftmost fault
pub data JobJudged (bytes : List ℕ) : Result (Unit {0}) Break → Type 0 where
  sound : IsJob form1 bytes → JobJudged bytes (Ok tt)
  faulty : (found : Break) → Fault jobs bytes (refusal_number found.refusal) found.place → JobJudged bytes (Err found)

-- row 15: the list of sides has four places a clamp, and the curve's three lists have room
abbrev pub job_room_for : Lists → List Clamp → Lists → ℕ → Bool
job_room_for c cs lent places = leb (length (all_sides cs)) places && room_for c lent

-- a job's number: 1 to 7 for its curve, then 22 for the radius, then 14 for any clamp, then 15
unfoldable pub job_number : ℕ → Lists → ℕ → List Clamp → Lists → ℕ → ℕ
job_number m c radius cs lent places =
    checked_then m c.knots c.xs c.ys
    (unless (radius_ok radius) radius_refused
    (unless (clamps_ok cs) rectangle_refused (unless (job_room_for c cs lent places) room_refused accepted)))

-- degree, number of points, radius and number of clamps, or the number of the refusal; of broken bytes number and place
abbrev pub JobAnswers : Verdict → ℕ → ℕ → ℕ → ℕ → Result Job Failure → Type 0
JobAnswers verdict m points radius clamps answer = Tells verdict (record { degree = m; points = points; radius = radius; clamps = clamps }) answer

-- what bytes come to, with these lists lent and `places` places for sides: a verdict, a degree, a curve's lists, a radius and clamps
pub data JobComesTo (bytes : List ℕ) (lent : Lists) (places : ℕ) : Verdict → ℕ → Lists → ℕ → List Clamp → Type 0 where
  -- they are the job of some lists, radius and clamps
  is_job : (w : IsJob form1 bytes) → JobComesTo bytes lent places (judged (job_number w.m w.c w.radius w.cs lent places)) w.m w.c w.radius w.cs
  -- they are nobody's: their leftmost fault is told
  is_broken : {number place : ℕ} → Fault jobs bytes number place → (m : ℕ) (c : Lists) (radius : ℕ) (cs : List Clamp)
      → JobComesTo bytes lent places (broken number place) m c radius cs

-- the answer, the lent lists and the list of sides follow from these
pub record JobRead (bytes : List ℕ) (before : Lists) (sides_before : List ℤ) (answer : Result Job Failure) (now : Lists) (sides_now : List ℤ) : Type 0 where
  pub verdict : Verdict
  pub m : ℕ
  pub c : Lists
  pub radius : ℕ
  pub cs : List Clamp
  pub comes_to : JobComesTo bytes before (length sides_before) verdict m c radius cs
  pub answers : JobAnswers verdict m (length c.xs) radius (length cs) answer
  pub hands : now ≡ handed_over (number_of verdict) c before
  pub clamps_now : sides_now ≡ after (number_of verdict) (all_sides cs) sides_before
