-- The exports over reading a record, reading a job and the end of a job in bursts: what they hand back, by the answer of the call.
use mathlib.Core.List.{List}
use mathlib.Core.Path.{◌≡◌, refl, sym, ap, ◌∙◌}
use Prim.Native.Nat.{ℕ}
use lib.IntN.{ℤ}
use lib.ListN.{length}
use Rattle.std.specs.Prelude.{Result, Ok, Err}
use Rattle.refusal.specs.Answers.{number_of as refusal_number}
use Rattle.curve.specs.Lists.{Lists}
use Rattle.fault.specs.Verdict.{Verdict, judged, broken, number_of, place_or}
use Rattle.taken_field.specs.declared.Failure.{Failure}
use Rattle.taken_field.specs.declared.Failure.TheVariants.{Broken, Refused}
use Rattle.record.specs.Reading.{RecordRead}
use Rattle.record.specs.declared.StoredCurve.{StoredCurve}
use Rattle.job.specs.JobReading.{JobRead}
use Rattle.job.specs.declared.Job.{Job}
use Rattle.feed.specs.Ending as ending
use Rattle.feed.specs.Ending.{FeedEnds}
use Rattle.feed.specs.declared.EndAnswer.{EndAnswer}
use Rattle.tsaghnobir.specs.Places.{placed, JobPlaces}
use Rattle.tsaghnobir.specs.Answered.{record_placed, job_placed}
use Rattle.tsaghnobir.specs.Outcomes.{RecordHandsBack, JobHandsBack, FeedHandsBack, short, told}
use Rattle.tsaghnobir.proofs.PlaceLaws.{refused-placed}

-- what reading hands back, with its verdict turned into the one that the answer tells
module _ {bytes : List ℕ} {before now : Lists} {answer : Result StoredCurve Failure} (call : RecordRead bytes before answer now) where
  handed : {held holds : ℕ × ℕ × ℕ} (verdict : Verdict) → verdict ≡ call.verdict
      → holds ≡ (placed (number_of verdict) call.m held.0, placed (number_of verdict) (length call.c.xs) held.1, place_or verdict held.2)
      → RecordHandsBack bytes before held (number_of verdict) now holds
  handed verdict e places =
      record { verdict = verdict; m = call.m; c = call.c; comes_to = rw (← e) at call.comes_to; answers = refl; hands = rw (← e) at call.hands; places = places }

pub record-placed : {bytes : List ℕ} {before now : Lists} (answer : Result StoredCurve Failure) (held : ℕ × ℕ × ℕ) → RecordRead bytes before answer now
    → RecordHandsBack bytes before held (record_placed answer held).0 now (record_placed answer held).1
record-placed (Ok found) (a, b, p) call =
    handed call (judged 0) call.answers.0 (ap (λ (f : StoredCurve). (f.degree, f.points, p)) call.answers.1)
record-placed (Err (Refused e)) (a, b, p) call =
    handed call (judged (refusal_number e)) call.answers.0 (rw (← refused-placed e call.m a, ← refused-placed e (length call.c.xs) b))
record-placed (Err (Broken found)) (a, b, p) call =
    handed call (broken (refusal_number found.refusal) found.place) call.answers.0
    (rw (← refused-placed found.refusal call.m a, ← refused-placed found.refusal (length call.c.xs) b))

module _ {bytes : List ℕ} {before now : Lists} {sides_before sides_now : List ℤ} {answer : Result Job Failure} (call : JobRead bytes before sides_before answer now sides_now) where
  job-handed : {held holds : JobPlaces} (verdict : Verdict) → verdict ≡ call.verdict
      → holds
      ≡ (placed (number_of verdict) call.m held.0, placed (number_of verdict) (length call.c.xs) held.1, placed (number_of verdict) call.radius held.2, placed (number_of verdict) (length call.cs) held.3, place_or verdict held.4)
      → JobHandsBack bytes before sides_before held (number_of verdict) now sides_now holds
  job-handed verdict e places =
      record {
        verdict = verdict;
        m = call.m;
        c = call.c;
        radius = call.radius;
        cs = call.cs;
        comes_to = rw (← e) at call.comes_to;
        answers = refl;
        hands = rw (← e) at call.hands;
        clamps_now = rw (← e) at call.clamps_now;
        places = places;
      }

pub job-placed : {bytes : List ℕ} {before now : Lists} {sides_before sides_now : List ℤ} (answer : Result Job Failure) (held : JobPlaces)
    → JobRead bytes before sides_before answer now sides_now
    → JobHandsBack bytes before sides_before held (job_placed answer held).0 now sides_now (job_placed answer held).1
job-placed (Ok found) (a, b, r, k, p) call =
    job-handed call (judged 0) call.answers.0 (ap (λ (f : Job). (f.degree, f.points, f.radius, f.clamps, p)) call.answers.1)
job-placed (Err (Refused e)) (a, b, r, k, p) call =
    job-handed call (judged (refusal_number e)) call.answers.0
    (rw (← refused-placed e call.m a, ← refused-placed e (length call.c.xs) b, ← refused-placed e call.radius r, ← refused-placed e (length call.cs) k))
job-placed (Err (Broken found)) (a, b, r, k, p) call =
    let e = found.refusal in
    job-handed call (broken (refusal_number e) found.place) call.answers.0
    (rw (← refused-placed e call.m a, ← refused-placed e (length call.c.xs) b, ← refused-placed e call.radius r, ← refused-placed e (length call.cs) k))

-- the end
pub feed-placed : {state : Rattle.feed.specs.declared.Feed.Feed} {work : List ℕ} {before now : Lists} {sides_before sides_now : List ℤ} {r : EndAnswer} (held : JobPlaces)
    → FeedEnds state work before sides_before r now sides_now
    → FeedHandsBack state.received work before sides_before held (job_placed r.answer held).0 now sides_now (job_placed r.answer held).1 r.state.received
feed-placed held (ending.short less) = short less
feed-placed held (ending.told long answer now sides_now reads) = told long _ _ _ _ (λ bytes holds. job-placed answer held (reads bytes holds))
