-- The rows of reading a job, each as a sentence, in the order of the call (heading "Numbers of refusal").
use Rattle.std.specs.Prelude.{List, [], ◌∷◌, ◌⊎◌, ℕ, ◌+◌, ◌<◌, length, take}
use Rattle.refusal.specs.Chain.{Row, row, AnswersFirst}
use Rattle.curve.specs.Lists.{Lists}
use Rattle.curve.specs.Sentences.{RoomWrong}
use Rattle.checked.specs.Sentences.{curve_rows, RadiusWrong}
use Rattle.fault.specs.Fault.{Fault}
use Rattle.grid.specs.Limits.{job_most}
use Rattle.fault.specs.Sentences.{fault_rows}
use Rattle.fault.specs.Verdict.{Verdict, number_of}
use Rattle.clamps.specs.Clamp.{Clamp, all_sides}
use Rattle.clamps.specs.Sentences.{SomeClampWrong}
use Rattle.job.specs.JobFormat.{jobs}
use Rattle.job.specs.JobReading.{JobComesTo}

-- 16 and 19 to 21 for the leftmost fault; then 1 to 7 for the curve that the bytes are the job of, 22 for its radius, 14 for some clamp, and 15: the list of sides
-- or one of the curve's three lists has too few places
abbrev pub job_rows : List ℕ → ℕ → Lists → ℕ → List Clamp → Lists → ℕ → List Row
job_rows bytes m c radius cs lent places =
    fault_rows jobs bytes
    (curve_rows m c.knots c.xs c.ys
    (row 22 (RadiusWrong radius) ∷ row 14 (SomeClampWrong cs) ∷ row 15 ((places < length (all_sides cs)) ⊎ RoomWrong c lent) ∷ []))

-- bytes longer than the longest job have the fault that their first bytes have, one more than that job's
abbrev pub JobFaultKept : Type 0
JobFaultKept =
    (bytes : List ℕ) (number place : ℕ) → job_most < length bytes → Fault jobs (take (job_most + 1) bytes) number place → Fault jobs bytes number place

-- reading a job answers n exactly when row n applies and none before it does, and 0 exactly when none applies
abbrev pub JobAnswersFirst : Type 0
JobAnswersFirst =
    (bytes : List ℕ) (lent : Lists) (places : ℕ) (verdict : Verdict) (m : ℕ) (c : Lists) (radius : ℕ) (cs : List Clamp)
    → JobComesTo bytes lent places verdict m c radius cs → AnswersFirst (number_of verdict) (job_rows bytes m c radius cs lent places)
