-- Closed cases: a job byte by byte; the worked job, curve A with three clamps (heading "Worked by hand"), and the same with its end cut off.
use Rattle.std.specs.Prelude.{Result, Ok, Err}
use mathlib.Core.Path.{◌≡◌, refl}
use mathlib.Core.List.{List, [], ◌∷◌, ◌++◌}
use lib.IntN.{pos}
use lib.ListN.{length, take}
use Prim.Native.Nat.{ℕ}
use Rattle.curve.specs.Lists.{Lists, lists}
use Rattle.curve.specs.HandingOver.{enough}
use Rattle.grid.specs.Rows.{degree_ok, point_count_ok, knot_count_ok, rises_from, knot_order_ok, ends_ok, occurrences, repeats_most, repeats_within, repeats_ok, on_grid, all_on_grid, range_ok, axis_ok, rectangle_ok, radius_ok}
use Rattle.grid.specs.Check.{checked_then}
use Rattle.format.specs.Format.{form1, record_bytes}
use Rattle.format.proofs.Controls.{curve_a, line}
use Rattle.taken_field.specs.Taking.{ended_at, tag_at, length_ok, field_at}
use Rattle.layout.specs.Judging.{record_layout}
use Rattle.fault.specs.Verdict.{Verdict, judged, broken}
use Rattle.cutter.specs.Radius.{radius_field}
use Rattle.clamps.specs.Clamp.{Clamp, clamp_fields, clamps_ok}
use Rattle.clamps.specs.Tail.{clamps_from}
use Rattle.clamps.proofs.Controls.{two}
use Rattle.job.specs.JobFormat.{job_bytes, jobs}
use Rattle.job.proofs.JobFaultLaws.{job-fault}
use Rattle.fault.specs.Fault.{Fault}
use Rattle.fault.proofs.FirstFieldLaws.{octets-by}
use Rattle.job.specs.JobJudging.{sound, behind_record, job_layout}
use Rattle.job.specs.JobReading.{job_number, JobAnswers}
use Rattle.job.specs.declared.Job.{Job}
use Rattle.stored_check.proofs.ToldLaws.{tells_one}
use Rattle.taken_field.specs.declared.Failure.{Failure}
use Rattle.refusal.specs.declared.Refusal.TheVariants.{Rectangle, Tag}
use Rattle.taken_field.specs.declared.Failure.TheVariants.{Broken, Refused}

-- a line of three points, a cutter of 3 mm, and two clamps behind it: x from -2 to 300 and y from -262,144 to 5; x from 7 to 8 and y from 9 to 10
job-of-line : job_bytes form1 1 line 150 two
    ≡ 1 ∷ 1 ∷ 0 ∷ 1
    ∷ 2 ∷ 10 ∷ 0 ∷ 0 ∷ 0 ∷ 0 ∷ 0 ∷ 2 ∷ 1 ∷ 255 ∷ 63 ∷ 255 ∷ 63
    ∷ 3 ∷ 12 ∷ 0 ∷ 254 ∷ 255 ∷ 255 ∷ 255 ∷ 44 ∷ 1 ∷ 0 ∷ 0 ∷ 0 ∷ 0 ∷ 4 ∷ 0
    ∷ 4 ∷ 12 ∷ 0 ∷ 5 ∷ 0 ∷ 0 ∷ 0 ∷ 255 ∷ 255 ∷ 255 ∷ 255 ∷ 0 ∷ 0 ∷ 252 ∷ 255
    ∷ 6 ∷ 2 ∷ 0 ∷ 150 ∷ 0
    ∷ 5 ∷ 16 ∷ 0 ∷ 254 ∷ 255 ∷ 255 ∷ 255 ∷ 44 ∷ 1 ∷ 0 ∷ 0 ∷ 0 ∷ 0 ∷ 252 ∷ 255 ∷ 5 ∷ 0 ∷ 0 ∷ 0
    ∷ 5 ∷ 16 ∷ 0 ∷ 7 ∷ 0 ∷ 0 ∷ 0 ∷ 8 ∷ 0 ∷ 0 ∷ 0 ∷ 9 ∷ 0 ∷ 0 ∷ 0 ∷ 10 ∷ 0 ∷ 0 ∷ 0
    ∷ []
unfolding job_bytes record_bytes line two
job-of-line = refl

unfoldable pub clamps_a : List Clamp
clamps_a =
    record { low_x = pos 2; high_x = pos 3; low_y = pos 5; high_y = pos 9 }
    ∷ record { low_x = pos 9; high_x = pos 12; low_y = pos 0; high_y = pos 4 }
    ∷ record { low_x = pos 8; high_x = pos 10; low_y = pos 8; high_y = pos 9 }
    ∷ []

unfoldable pub job_a : List ℕ
job_a = job_bytes form1 3 curve_a 0 clamps_a

-- 61 bytes of record, 5 of a radius that is 0, and 19 a clamp
long-A : length job_a ≡ 123
unfolding job_a job_bytes record_bytes curve_a clamps_a
long-A = refl

pub sound-A : job_layout job_a ≡ sound 16 16 16 3
unfolding job_layout behind_record record_layout field_at length_ok clamps_from job_a job_bytes record_bytes curve_a clamps_a
sound-A = refl

-- record and radius alone are a job without clamps, and the record alone is none
alone-A : job_layout (take 66 job_a) ≡ sound 16 16 16 0
unfolding job_layout behind_record record_layout field_at length_ok clamps_from job_a job_bytes record_bytes curve_a clamps_a
alone-A = refl

no-radius-A : job_layout (take 61 job_a) ≡ Err (ended_at 61)
unfolding job_layout behind_record record_layout field_at length_ok clamps_from job_a job_bytes record_bytes curve_a clamps_a
no-radius-A = refl

-- the clamps behind the record at once; the radius twice, and behind the clamps
abbrev job_of : List ℕ → List ℕ
job_of tail = record_bytes form1 3 curve_a ++ tail

misplaced : job_layout (job_of (clamp_fields clamps_a)) ∷ job_layout (job_of (radius_field 0 ++ (radius_field 0 ++ clamp_fields clamps_a)))
    ∷ job_layout (job_of (clamp_fields clamps_a ++ radius_field 0)) ∷ []
    ≡ Err (tag_at 61) ∷ Err (tag_at 66) ∷ Err (tag_at 61) ∷ []
unfolding job_layout behind_record record_layout field_at length_ok clamps_from record_bytes curve_a clamps_a
misplaced = refl

cut-A : job_layout (take 122 job_a) ≡ Err (ended_at 122)
unfolding job_layout behind_record record_layout field_at length_ok clamps_from job_a job_bytes record_bytes curve_a clamps_a
cut-A = refl

-- a job's number: 7 for its curve comes before 22 for the radius, 22 before 14 for a clamp, and 14 before 15; and the answer by cases
abbrev crossed : List Clamp
crossed = record { low_x = pos 5; high_x = pos 2; low_y = pos 0; high_y = pos 4 } ∷ []

abbrev segment : ℕ → Lists
segment x = lists (0 ∷ 0 ∷ 4 ∷ 4 ∷ []) (pos 0 ∷ pos x ∷ []) (pos 0 ∷ pos 0 ∷ [])

numbers : job_number 1 (segment 262145) 4097 crossed (segment 0) 0 ∷ job_number 1 (segment 8) 4097 crossed (segment 0) 0
    ∷ job_number 1 (segment 8) 4096 crossed (segment 0) 0 ∷ job_number 1 (segment 8) 4097 two (segment 0) 7
    ∷ job_number 1 (segment 8) 4096 two (segment 0) 7 ∷ job_number 1 (segment 8) 0 two (lists [] [] []) 8 ∷ job_number 1 (segment 8) 4096 two (segment 0) 8 ∷ []
    ≡ 7 ∷ 22 ∷ 14 ∷ 22 ∷ 15 ∷ 15 ∷ 0 ∷ []
unfolding job_number enough clamps_ok rectangle_ok axis_ok radius_ok two checked_then degree_ok point_count_ok knot_count_ok rises_from knot_order_ok ends_ok occurrences repeats_most repeats_within repeats_ok on_grid all_on_grid range_ok
numbers = refl

-- a verdict on four points of degree 3, a radius of 150 and two clamps is told by this answer, and by no other
abbrev Reads : Verdict → Result Job Failure → Type 0
Reads verdict answer = JobAnswers verdict 3 4 150 2 answer × ((other : Result Job Failure) → JobAnswers verdict 3 4 150 2 other → other ≡ answer)

reads : (verdict : Verdict) (answer : Result Job Failure) → JobAnswers verdict 3 4 150 2 answer → Reads verdict answer
reads verdict answer h = (h, λ other k. tells_one verdict (record { degree = 3; points = 4; radius = 150; clamps = 2 }) other answer k h)

read-or-refused : Reads (judged 0) (Ok (record { degree = 3; points = 4; radius = 150; clamps = 2 }))
    × Reads (judged 14) (Err (Refused Rectangle))
    × Reads (broken 19 61) (Err (Broken (record { refusal = Tag; place = 61 })))
read-or-refused = (reads _ _ (refl, refl), reads _ (Err (Refused Rectangle)) (refl, tt), reads _ (Err (Broken (record { refusal = Tag; place = 61 }))) (refl, tt))

-- the leftmost fault of the worked job with its end cut off, and with a clamp's tag behind its record
cut-told : Fault jobs (take 122 job_a) 16 122
unfolding job_layout behind_record record_layout field_at length_ok clamps_from job_a job_bytes record_bytes curve_a clamps_a
cut-told = job-fault (take 122 job_a) (octets-by (take 122 job_a) refl) (ended_at 122) refl

tag-told : Fault jobs (take 61 job_a ++ (5 ∷ [])) 19 61
unfolding job_layout behind_record record_layout field_at length_ok clamps_from job_a job_bytes record_bytes curve_a clamps_a
tag-told = job-fault (take 61 job_a ++ (5 ∷ [])) (octets-by (take 61 job_a ++ (5 ∷ [])) refl) (tag_at 61) refl
