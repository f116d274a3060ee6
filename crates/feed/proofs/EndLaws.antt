-- Reading what a count and a work list hold: all bytes where they fit; else the list is judged, and what was lost moves no fault.
use Rattle.std.specs.Prelude.{Result, Ok, Err, ◌≡◌}
use mathlib.Core.Path.{refl}
use mathlib.Core.List.{List, ◌∷◌}
use Prim.Native.Nat.{ℕ, ◌<◌, ◌≤◌}
use native.Mathlib.Omega.{arith}
use lib.IntN.{ℤ}
use lib.ListN.{length, take}
use Rattle.refusal.specs.declared.Refusal.TheVariants.{LeftOver}
use Rattle.grid.specs.Limits.{job_most}
use Rattle.curve.specs.Lists.{Lists}
use Rattle.taken_field.specs.declared.Break.{Break}
use Rattle.job.specs.JobReading.{JobJudged, sound, faulty, JobRead}
use Rattle.job.specs.declared.Job.{Job}
use Rattle.taken_field.specs.declared.Failure.{Failure}
use Rattle.taken_field.specs.declared.Failure.TheVariants.{Broken}
use Rattle.job.proofs.JobFaultLaws.{job-fault-behind, job-left-over}
use Rattle.job.proofs.JobReadLaws.{broken_read}
use Rattle.feed.specs.Ending.{whole, beyond, ReadsHeld}

module _ (received : ℕ) (work : List ℕ) (before : Lists) (sides : List ℤ) where
  -- they all fit
  pub held_whole : {answer : Result Job Failure} {now : Lists} {sides_now : List ℤ} → received ≤ length work → JobRead (take received work) before sides answer now sides_now
      → ReadsHeld received work before sides answer now sides_now
  held_whole fit read bytes (whole inside) = read
  held_whole fit read bytes (beyond more b lost) = absurd (omega arith)

  module _ (more : length work < received) (long : job_most ≤ length work) where
    -- the list breaks already
    pub held_broken : (found : Break) → JobJudged work (Err found) → (answer : Result Job Failure) → answer ≡ Err (Broken found) → ReadsHeld received work before sides answer before sides
    held_broken found judged answer is bytes (whole inside) = absurd (omega arith)
    held_broken found (faulty _ fault) answer is bytes (beyond _ b lost) = broken_read bytes before sides found (job-fault-behind work (b ∷ lost) long fault) answer is

    -- the list is a job, and a byte stands behind it
    abbrev behind_it : Break
    behind_it = record { refusal = LeftOver; place = job_most }

    pub held_left_over : JobJudged work (Ok tt) → ReadsHeld received work before sides (Err (Broken behind_it)) before sides
    held_left_over judged bytes (whole inside) = absurd (omega arith)
    held_left_over (sound w) bytes (beyond _ b lost) = broken_read bytes before sides behind_it (job-left-over work b lost long w) (Err (Broken behind_it)) refl
