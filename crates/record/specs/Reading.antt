-- What reading a record answers and leaves, by what the bytes are (headings "The record on disk" and "Numbers of refusal").
use Rattle.std.specs.Prelude.{List, Result, ◌≡◌, ℕ, length}
use Rattle.curve.specs.HandingOver.{room_number, handed_over}
use Rattle.curve.specs.Lists.{Lists}
use Rattle.grid.specs.Check.{checked_then}
use Rattle.format.specs.Format.{form1, IsRecord}
use Rattle.fault.specs.Fault.{Fault}
use Rattle.fault.specs.Kinds.{lone_records}
use Rattle.fault.specs.Verdict.{Verdict, judged, broken, number_of}
use Rattle.taken_field.specs.declared.Failure.{Failure}
use Rattle.stored_check.specs.Told.{Tells}
use Rattle.record.specs.declared.StoredCurve.{StoredCurve}

unfoldable pub record_number : ℕ → Lists → Lists → ℕ  -- a record's number: 1 to 7 for its curve, then 15
record_number m c lent = checked_then m c.knots c.xs c.ys (room_number c lent)

-- degree and number of points, or the number of the refusal; of broken bytes number and place
abbrev pub ReadAnswers : Verdict → ℕ → ℕ → Result StoredCurve Failure → Type 0
ReadAnswers verdict m points answer = Tells verdict (record { degree = m; points = points }) answer

-- what bytes come to, with these lists lent: a verdict, a degree and a curve's lists
pub data RecordComesTo (bytes : List ℕ) (lent : Lists) : Verdict → ℕ → Lists → Type 0 where
  -- they are the record of some lists
  is_record : (w : IsRecord form1 bytes) → RecordComesTo bytes lent (judged (record_number w.m w.c lent)) w.m w.c
  -- they are nobody's: their leftmost fault is told
  is_broken : {number place : ℕ} → Fault lone_records bytes number place → (m : ℕ) (c : Lists) → RecordComesTo bytes lent (broken number place) m c

-- the answer and the lent lists follow from these
pub record RecordRead (bytes : List ℕ) (before : Lists) (answer : Result StoredCurve Failure) (now : Lists) : Type 0 where
  pub verdict : Verdict
  pub m : ℕ
  pub c : Lists
  pub comes_to : RecordComesTo bytes before verdict m c
  pub answers : ReadAnswers verdict m (length c.xs) answer
  pub hands : now ≡ handed_over (number_of verdict) c before
