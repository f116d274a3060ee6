-- A place is told with a fault and with nothing else.
use mathlib.Core.Bool.{true, false, true≢false, false≢true}
use mathlib.Core.List.{List}
use mathlib.Core.Path.{◌≡◌, refl, sym, ap, ◌∙◌}
use Prim.Native.Nat.{ℕ, ◌≤◌}
use native.Mathlib.Omega.{arith}
use borrow.Author.Tests.{ne_eqb}
use Rattle.refusal.specs.Numbers.{ended_refused, tag_refused, length_refused, left_over_refused, room_refused}
use Rattle.fault.specs.Fault.{FileKind, Fault, ends_early, ends_in_length, wrong_tag, wrong_length, left_over}
use Rattle.fault.specs.Kinds.{lone_records}
use Rattle.fault.specs.Verdict.{Verdict, number_of, place_or}
use Rattle.record.specs.Reading as reading
use Rattle.record.specs.Reading.{RecordComesTo}
use Rattle.job.specs.JobFormat.{jobs}
use Rattle.job.specs.JobReading as job_reading
use Rattle.job.specs.JobReading.{JobComesTo}
use Rattle.curve.specs.Lists.{Lists}
use Rattle.clamps.specs.Clamp.{Clamp}
use Rattle.tsaghnobir.specs.Places.{JobPlaces}
use Rattle.tsaghnobir.specs.Outcomes.{short, told}
use Rattle.round_trip.proofs.RecordTrip as records
use Rattle.round_trip.proofs.JobTrip as trips
use Rattle.door_outcomes.specs.Exports.{told_with_place, PlaceTold, RecordPlaceTold, JobPlaceTold, FeedEndPlaceTold}

-- 1 to 7, 14, 15 and 22 are told without one
no_place : (number : ℕ) → number ≤ room_refused → told_with_place number ≡ false
no_place number h =
    rw (
      ne_eqb number ended_refused (λ e. omega arith),
      ne_eqb number tag_refused (λ e. omega arith),
      ne_eqb number length_refused (λ e. omega arith),
      ne_eqb number left_over_refused (λ e. omega arith),
    )

-- a fault with one
fault-place : {kind : FileKind} {bytes : List ℕ} {n p : ℕ} → Fault kind bytes n p → told_with_place n ≡ true
fault-place (ends_early none begins) = refl
fault-place (ends_in_length at stops e) = refl
fault-place (wrong_tag at stops more) = refl
fault-place (wrong_length at stops) = refl
fault-place (left_over at stops full) = refl

judged-told : {kind : FileKind} {bytes : List ℕ} (number held : ℕ) → told_with_place number ≡ false → PlaceTold kind bytes number held held
judged-told number held h = (λ told. absurd (false≢true (sym h ∙ told)), λ _. refl)

broken-told : {kind : FileKind} {bytes : List ℕ} {number place : ℕ} (held : ℕ) → Fault kind bytes number place → PlaceTold kind bytes number held place
broken-told held fault = (λ _. fault, λ none. absurd (true≢false (sym (fault-place fault) ∙ none)))

record-by : {bytes : List ℕ} {before c : Lists} {m : ℕ} {verdict : Verdict} (held : ℕ) → RecordComesTo bytes before verdict m c
    → PlaceTold lone_records bytes (number_of verdict) held (place_or verdict held)
record-by {before = before} held (reading.is_record w) = judged-told _ held (no_place _ (records.number-most w.m w.c before))
record-by held (reading.is_broken fault m c) = broken-told held fault

job-by : {bytes : List ℕ} {before c : Lists} {places m radius : ℕ} {cs : List Clamp} {verdict : Verdict} (held : ℕ) → JobComesTo bytes before places verdict m c radius cs
    → PlaceTold jobs bytes (number_of verdict) held (place_or verdict held)
job-by {before = before} {places = places} held (job_reading.is_job w) = judged-told _ held (trips.number-all (λ n. told_with_place n ≡ false) no_place refl w.m w.c w.radius w.cs before places)
job-by held (job_reading.is_broken fault m c radius cs) = broken-told held fault

pub record-place-told : RecordPlaceTold
record-place-told bytes before held number now holds h =
    rw (h.answers, ap (λ (v : ℕ × ℕ × ℕ). v.2) h.places) (record-by held.2 h.comes_to)

pub job-place-told : JobPlaceTold
job-place-told bytes before sides_before held number now sides_now holds h =
    rw (h.answers, ap (λ (v : JobPlaces). v.4) h.places) (job-by held.4 h.comes_to)

pub feed-end-place-told : FeedEndPlaceTold
feed-end-place-told received work before sides_before held number now sides_now holds count (short less) bytes held_bytes = judged-told _ _ refl
feed-end-place-told received work before sides_before held number now sides_now holds count (told long _ _ _ _ hands) bytes held_bytes =
    job-place-told bytes before sides_before held number now sides_now holds (hands bytes held_bytes)
