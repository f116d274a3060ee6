-- What an answer leaves at the single numbers lent for it; of reading a job these are degree, points, radius, clamps and the place.
use Rattle.std.specs.Prelude.{Result, Ok, Err, ℕ}
use Rattle.refusal.specs.Answers.{number_of}
use Rattle.refusal.specs.Numbers.{accepted}
use Rattle.refusal.specs.declared.Refusal.{Refusal}
use Rattle.taken_field.specs.declared.Failure.{Failure}
use Rattle.taken_field.specs.declared.Failure.TheVariants.{Broken, Refused}
use Rattle.record.specs.declared.StoredCurve.{StoredCurve}
use Rattle.job.specs.declared.Job.{Job}
use Rattle.tsaghnobir.specs.Places.{JobPlaces}

-- the value where there is one, else what stood there
abbrev pub left_by : {A : Type 0} → Result A Refusal → A → A
left_by (Ok value) held = value
left_by (Err refusal) held = held

-- a failure as a number, and what the number lent for the place of a fault holds then
abbrev pub failure_placed : Failure → ℕ → ℕ × ℕ
failure_placed (Broken found) held = (number_of found.refusal, found.place)
failure_placed (Refused refusal) held = (number_of refusal, held)

-- what reading a record answers, as a number and as what the single numbers for degree, points and place hold then
abbrev pub record_placed : Result StoredCurve Failure → ℕ × ℕ × ℕ → ℕ × (ℕ × ℕ × ℕ)
record_placed (Ok found) held = (accepted, (found.degree, found.points, held.2))
record_placed (Err failure) held =
    let told = failure_placed failure held.2 in
    (told.0, (held.0, held.1, told.1))

-- what reading a job answers, as a number and as what the single numbers hold then
abbrev pub job_placed : Result Job Failure → JobPlaces → ℕ × JobPlaces
job_placed (Ok found) held = (accepted, (found.degree, found.points, found.radius, found.clamps, held.4))
job_placed (Err failure) held =
    let told = failure_placed failure held.4 in
    (told.0, (held.0, held.1, held.2, held.3, told.1))
