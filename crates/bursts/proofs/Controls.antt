-- Closed cases of the promise: nothing but empty bursts; the worked job (heading "Worked by hand") in three bursts, one of them empty; and a byte behind
-- a job that fills the list.
use Rattle.std.specs.Prelude.{Result, Ok, Err}
use mathlib.Core.List.{List, [], ◌∷◌}
use mathlib.Core.Path.{◌≡◌, refl, subst}
use Prim.Native.Nat.{ℕ, ◌≤◌}
use native.Mathlib.Omega.{arith}
use lib.IntN.{ℤ, pos}
use lib.ListN.{length, take, drop}
use Rattle.grid.specs.Limits.{job_most}
use Rattle.curve.specs.Lists.{Lists, lists}
use Rattle.curve.specs.HandingOver.{enough}
use Rattle.grid.specs.Rows.{degree_ok, point_count_ok, knot_count_ok, rises_from, knot_order_ok, ends_ok, occurrences, repeats_most, repeats_within, repeats_ok, on_grid, all_on_grid, range_ok, axis_ok, rectangle_ok, radius_ok}
use Rattle.grid.specs.Check.{checked_then}
use Rattle.format.specs.Format.{form1, record_bytes}
use Rattle.format.proofs.Controls.{curve_a}
use Rattle.taken_field.specs.Taking.{ended_at, length_ok, field_at}
use Rattle.layout.specs.Judging.{record_layout}
use Rattle.clamps.specs.Clamp.{all_sides, clamps_ok}
use Rattle.clamps.specs.Tail.{clamps_from}
use Rattle.fault.specs.Verdict.{judged, broken}
use Rattle.stored_check.specs.Told.{verdict_in}
use Rattle.fault.specs.Fault.{Fault}
use Rattle.fault.proofs.FirstFieldLaws.{octets-by}
use Rattle.job.specs.JobFormat.{IsJob, job_bytes, jobs}
use Rattle.job.specs.JobJudging.{behind_record, job_layout}
use Rattle.job.specs.JobReading.{job_number, is_job, JobRead}
use Rattle.job.specs.declared.Job.{Job}
use Rattle.taken_field.specs.declared.Failure.{Failure}
use Rattle.taken_field.specs.declared.Failure.TheVariants.{Broken}
use Rattle.job.proofs.JobFaultLaws.{job-fault, job-left-over}
use Rattle.job.proofs.JobLayoutLaws.{job-of-sound}
use Rattle.job.proofs.JobReadLaws.{broken_read}
use Rattle.job.proofs.Controls.{clamps_a, job_a, sound-A}
use Rattle.round_trip.proofs.JobTrip.{job-faults-exactly, job-reading-determined}
use Rattle.feed.specs.Burst.{fresh}
use Rattle.feed.specs.Ending.{Holds, whole, beyond, FeedEnds, told}
use Rattle.feed.specs.declared.EndAnswer.{EndAnswer}
use Rattle.bursts.specs.Bursts.{fed_all, joined}
use Rattle.bursts.proofs.JoinedLaws.{fed-reads-as-joined}

module _ (work : List ℕ) (long : job_most ≤ length work) (before : Lists) (sides : List ℤ) (r : EndAnswer) (now : Lists) (sides_now : List ℤ) where
  abbrev Ends : List (List ℕ) → Type 0
  Ends bursts = FeedEnds (fed_all fresh work bursts).0 (fed_all fresh work bursts).1 before sides r now sides_now

  fault-told : (bursts : List (List ℕ)) {n p : ℕ} → Ends bursts → Fault jobs (joined bursts) n p → verdict_in r.answer ≡ broken n p
  fault-told bursts {n} {p} ends fault =
      (job-faults-exactly (joined bursts) before sides r.answer now sides_now n p (fed-reads-as-joined work long bursts before sides r now sides_now ends).0).1 fault

  -- 16 at 0
  nothing-fed : Ends ([] ∷ [] ∷ []) → verdict_in r.answer ≡ broken 16 0
  unfolding job_layout behind_record record_layout field_at length_ok clamps_from
  nothing-fed ends = fault-told ([] ∷ [] ∷ []) ends (job-fault [] (octets-by [] refl) (ended_at 0) refl)

  -- and so it does end: the contract's words hold of this outcome
  nothing_ends : FeedEnds fresh work before sides (record { answer = Err (Broken (ended_at 0)); state = fresh }) before sides
  unfolding job_layout behind_record record_layout field_at length_ok clamps_from
  nothing_ends = told long (Err (Broken (ended_at 0))) before sides read
    where
      read : (bytes : List ℕ) → Holds 0 work bytes → JobRead bytes before sides (Err (Broken (ended_at 0))) before sides
      read bytes (whole inside) = broken_read [] before sides (ended_at 0) (job-fault [] (octets-by [] refl) (ended_at 0) refl) (Err (Broken (ended_at 0))) refl
      read bytes (beyond more b lost) = absurd (omega arith)

  -- 21 at 11,482, whatever the byte is
  one-byte-too-many : (job : List ℕ) (b : ℕ) → IsJob form1 job → length job ≡ job_most → Ends (job ∷ (b ∷ []) ∷ []) → verdict_in r.answer ≡ broken 21 11482
  one-byte-too-many job b w full ends = fault-told (job ∷ (b ∷ []) ∷ []) ends (job-left-over job b [] (omega arith) w)

-- three bursts, with lists that have just the places
abbrev three : List (List ℕ)
three = take 40 job_a ∷ [] ∷ drop 40 job_a ∷ []

three-joined : joined three ≡ job_a
unfolding job_a job_bytes record_bytes curve_a clamps_a
three-joined = refl

abbrev places : Lists
places = lists (0 ∷ 0 ∷ 0 ∷ 0 ∷ 0 ∷ 0 ∷ 0 ∷ 0 ∷ []) (pos 0 ∷ pos 0 ∷ pos 0 ∷ pos 0 ∷ []) (pos 0 ∷ pos 0 ∷ pos 0 ∷ pos 0 ∷ [])

abbrev side_places : List ℤ
side_places = pos 0 ∷ pos 0 ∷ pos 0 ∷ pos 0 ∷ pos 0 ∷ pos 0 ∷ pos 0 ∷ pos 0 ∷ pos 0 ∷ pos 0 ∷ pos 0 ∷ pos 0 ∷ []

-- degree 3, four points, radius 0 and three clamps
abbrev read_a : Result Job Failure
read_a = Ok (record { degree = 3; points = 4; radius = 0; clamps = 3 })

job_a-read : JobRead job_a places side_places read_a curve_a (all_sides clamps_a)
unfolding job_number enough clamps_ok rectangle_ok axis_ok radius_ok checked_then degree_ok point_count_ok knot_count_ok rises_from knot_order_ok ends_ok occurrences repeats_most repeats_within repeats_ok on_grid all_on_grid range_ok job_a job_bytes record_bytes curve_a clamps_a
job_a-read =
    record {
      verdict = judged 0;
      m = 3;
      c = curve_a;
      radius = 0;
      cs = clamps_a;
      comes_to = is_job (job-of-sound job_a (octets-by job_a refl) 16 16 16 3 sound-A);
      answers = (refl, refl);
      hands = refl;
      clamps_now = refl;
    }

-- so the end answers; the curve and its clamps are in the lists, and the state is fresh
worked-job-fed : (work : List ℕ) → job_most ≤ length work → (r : EndAnswer) (now : Lists) (sides_now : List ℤ)
    → FeedEnds (fed_all fresh work three).0 (fed_all fresh work three).1 places side_places r now sides_now
    → (r.answer ≡ read_a) × (now ≡ curve_a) × (sides_now ≡ all_sides clamps_a) × (r.state ≡ fresh)
worked-job-fed work long r now sides_now ends =
    let read = fed-reads-as-joined work long three places side_places r now sides_now ends in
    let same = job-reading-determined job_a places side_places r.answer read_a now curve_a sides_now (all_sides clamps_a)
    (subst (λ (bytes : List ℕ). JobRead bytes places side_places r.answer now sides_now) three-joined read.0) job_a-read in
    (same.0, same.1, same.2, read.1)
