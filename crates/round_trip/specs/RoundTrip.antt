-- Reading and writing undo each other (heading "The record on disk"), in the words of the contracts of `write_record`, `read_record` and `read_job`.
use Rattle.std.specs.Prelude.{true, Result, Ok, List, ◌↔◌, ◌≡◌, ℕ, ◌+◌, ◌≤◌, ℤ, length, take}
use Rattle.lent.specs.Lent.{over, after}
use Rattle.refusal.specs.Numbers.{accepted}
use Rattle.refusal.specs.declared.Refusal.{Refusal}
use Rattle.taken_field.specs.declared.Failure.{Failure}
use Rattle.stored_check.specs.Told.{verdict_in}
use Rattle.curve.specs.HandingOver.{room_for, handed_over}
use Rattle.curve.specs.Lists.{Lists, lists}
use Rattle.grid.specs.Check.{Passes}
use Rattle.grid.specs.Limits.{record_most, job_most}
use Rattle.format.specs.Format.{form1, record_bytes, IsRecord}
use Rattle.fault.specs.Fault.{Fault}
use Rattle.fault.specs.Kinds.{lone_records}
use Rattle.fault.specs.Verdict.{judged, broken}
use Rattle.clamps.specs.Clamp.{Clamp, all_sides}
use Rattle.record.specs.Writing.{write_number, WriteAnswers}
use Rattle.record.specs.Reading.{RecordRead}
use Rattle.record.specs.declared.StoredCurve.{StoredCurve}
use Rattle.job.specs.JobFormat.{job_bytes, StorableJob, IsJob, jobs}
use Rattle.job.specs.JobReading.{job_number, JobAnswers, JobRead}
use Rattle.job.specs.declared.Job.{Job}

-- a curve of degree m and n points at the front of three lists: it has n + m + 1 knots
abbrev pub front_of : ℕ → ℕ → Lists → Lists
front_of m n l = lists (take (n + m + 1) l.knots) (take n l.xs) (take n l.ys)

-- a curve of degree m and n points was read
abbrev pub read_as : ℕ → ℕ → Result StoredCurve Failure
read_as m n = Ok (record { degree = m; points = n })

-- reading the record of a curve that passes gives the curve back, in any lists that have room
abbrev pub WrittenReadsBack : Type 0
WrittenReadsBack =
    (m : ℕ) (c : Lists) → Passes m c.knots c.xs c.ys → (before : Lists) (answer : Result StoredCurve Failure) (now : Lists) → room_for c before ≡ true
    → RecordRead (record_bytes form1 m c) before answer now → (answer ≡ read_as m (length c.xs)) × (now ≡ handed_over accepted c before)

-- writing a curve that was read gives the bytes that it was read from, in any list that has room, and answers how many they are and nothing else
abbrev pub ReadWritesBack : Type 0
ReadWritesBack =
    (bytes : List ℕ) (before : Lists) (m n : ℕ) (now : Lists) → RecordRead bytes before (read_as m n) now → (out : List ℕ) → length bytes ≤ length out
    → WriteAnswers m (front_of m n now) out (Ok (length bytes))
    × ((answer : Result ℕ Refusal) → WriteAnswers m (front_of m n now) out answer → answer ≡ Ok (length bytes))
    × (after (write_number m (front_of m n now) out) (record_bytes form1 m (front_of m n now)) out ≡ over bytes out)

-- bytes that read to one curve are equal
abbrev pub OneRecordForEachCurve : Type 0
OneRecordForEachCurve =
    (bytes others : List ℕ) (before lent : Lists) (m n : ℕ) (now then : Lists)
    → RecordRead bytes before (read_as m n) now → RecordRead others lent (read_as m n) then → front_of m n now ≡ front_of m n then → bytes ≡ others

-- reading a record tells a fault exactly where it is the bytes' leftmost one
abbrev pub FaultsExactly : Type 0
FaultsExactly =
    (bytes : List ℕ) (before : Lists) (answer : Result StoredCurve Failure) (now : Lists) (number place : ℕ)
    → RecordRead bytes before answer now → (verdict_in answer ≡ broken number place) ↔ Fault lone_records bytes number place

-- reading a record has one outcome
abbrev pub ReadingDetermined : Type 0
ReadingDetermined =
    (bytes : List ℕ) (before : Lists) (answer other : Result StoredCurve Failure) (now then : Lists)
    → RecordRead bytes before answer now → RecordRead bytes before other then → (answer ≡ other) × (now ≡ then)

-- no record has more than 10,261 bytes, and no job more than 11,482
abbrev pub RecordsShort : Type 0
RecordsShort = (bytes : List ℕ) → IsRecord form1 bytes → length bytes ≤ record_most

abbrev pub JobsShort : Type 0
JobsShort = (bytes : List ℕ) → IsJob form1 bytes → length bytes ≤ job_most

-- reading the job of some lists, radius and clamps reads these, and has no other answer
abbrev pub JobReadsBack : Type 0
JobReadsBack =
    (m : ℕ) (c : Lists) (radius : ℕ) (cs : List Clamp) → StorableJob form1 m c radius cs
    → (before : Lists) (sides_before : List ℤ) (answer : Result Job Failure) (now : Lists) (sides_now : List ℤ)
    → JobRead (job_bytes form1 m c radius cs) before sides_before answer now sides_now
    → JobAnswers (judged (job_number m c radius cs before (length sides_before))) m (length c.xs) radius (length cs) answer
    × ((other : Result Job Failure) → JobAnswers (judged (job_number m c radius cs before (length sides_before))) m (length c.xs) radius (length cs) other → other ≡ answer)
    × (now ≡ handed_over (job_number m c radius cs before (length sides_before)) c before)
    × (sides_now ≡ after (job_number m c radius cs before (length sides_before)) (all_sides cs) sides_before)

-- reading a job tells a fault exactly where it is the bytes' leftmost one
abbrev pub JobFaultsExactly : Type 0
JobFaultsExactly =
    (bytes : List ℕ) (before : Lists) (sides_before : List ℤ) (answer : Result Job Failure) (now : Lists) (sides_now : List ℤ) (number place : ℕ)
    → JobRead bytes before sides_before answer now sides_now → (verdict_in answer ≡ broken number place) ↔ Fault jobs bytes number place

-- reading a job has one outcome
abbrev pub JobReadingDetermined : Type 0
JobReadingDetermined =
    (bytes : List ℕ) (before : Lists) (sides_before : List ℤ) (answer other : Result Job Failure) (now then : Lists) (sides_now sides_then : List ℤ)
    → JobRead bytes before sides_before answer now sides_now → JobRead bytes before sides_before other then sides_then
    → (answer ≡ other) × (now ≡ then) × (sides_now ≡ sides_then)
