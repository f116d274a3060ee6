-- Reading a job answers the first row of its order whose sentence holds: `job-answers`.
use mathlib.Core.List.{List}
use mathlib.Core.Path.{refl}
use Prim.Native.Nat.{ℕ}
use lib.ListN.{length}
use Rattle.refusal.proofs.ChainLaws.{Judges, accepts, judged, answers-first}
use Rattle.curve.specs.Lists.{Lists}
use Rattle.checked.proofs.TestLaws.{fails-iff, leb-judged, both-judged, room-judged}
use Rattle.checked.proofs.GridLaws.{radius-judged}
use Rattle.checked.proofs.SentenceLaws.{curve-judged}
use Rattle.fault.specs.Verdict.{Verdict, number_of}
use Rattle.fault.proofs.LeftOverLaws.{fault-judged, file-judged}
use Rattle.clamps.specs.Clamp.{Clamp, all_sides}
use Rattle.clamps.proofs.SentenceLaws.{clamps-judged}
use Rattle.job.specs.JobFormat.{jobs}
use Rattle.job.specs.JobReading.{job_number, JobComesTo, is_job, is_broken}
use Rattle.job.specs.Sentences.{job_rows, JobAnswersFirst}

job-judged : {bytes : List ℕ} {lent : Lists} {places : ℕ} {verdict : Verdict} {m : ℕ} {c : Lists} {radius : ℕ} {cs : List Clamp}
    → JobComesTo bytes lent places verdict m c radius cs → Judges (number_of verdict) (job_rows bytes m c radius cs lent places)
unfolding job_number
job-judged {bytes = bytes} {lent = lent} {places = places} (is_job w) =
    file-judged jobs bytes w
    (curve-judged w.m w.c.knots w.c.xs w.c.ys _ _ λ passing.
    judged (fails-iff (radius-judged w.radius)) λ short.
    judged (fails-iff (clamps-judged w.cs)) λ right.
    judged (fails-iff (both-judged (leb-judged (length (all_sides w.cs)) places) (room-judged w.c lent))) λ room.
    accepts)
job-judged {bytes = bytes} (is_broken fault m c radius cs) = fault-judged jobs bytes _ fault

pub job-answers : JobAnswersFirst
job-answers bytes lent places verdict m c radius cs comes = answers-first (number_of verdict) (job_rows bytes m c radius cs lent places) refl (job-judged comes)
