-- The rows of writing and of reading a record, each as a sentence, in the order of the call (heading "Numbers of refusal").
use Rattle.std.specs.Prelude.{List, [], ◌∷◌, ℕ, ◌<◌, length}
use Rattle.refusal.specs.Chain.{Row, row, AnswersFirst}
use Rattle.curve.specs.Lists.{Lists}
use Rattle.curve.specs.Sentences.{RoomWrong}
use Rattle.checked.specs.Sentences.{curve_rows}
use Rattle.format.specs.Format.{form1, record_bytes}
use Rattle.fault.specs.Kinds.{lone_records}
use Rattle.fault.specs.Sentences.{fault_rows}
use Rattle.fault.specs.Verdict.{Verdict, number_of}
use Rattle.record.specs.Writing.{write_number}
use Rattle.record.specs.Reading.{RecordComesTo}

-- writing: 1 to 7 for the curve, then 15: the lent list is shorter than the record
abbrev pub write_rows : ℕ → Lists → List ℕ → List Row
write_rows m c out = curve_rows m c.knots c.xs c.ys (row 15 (length out < length (record_bytes form1 m c)) ∷ [])

-- reading: 16 and 19 to 21 for the leftmost fault; then 1 to 7 for the curve that the bytes are the record of, then 15 for the three lent lists
abbrev pub read_rows : List ℕ → ℕ → Lists → Lists → List Row
read_rows bytes m c lent = fault_rows lone_records bytes (curve_rows m c.knots c.xs c.ys (row 15 (RoomWrong c lent) ∷ []))

-- each call answers n exactly when row n applies and none before it does, and 0 exactly when none applies
abbrev pub WriteAnswersFirst : Type 0
WriteAnswersFirst = (m : ℕ) (c : Lists) (out : List ℕ) → AnswersFirst (write_number m c out) (write_rows m c out)

abbrev pub ReadAnswersFirst : Type 0
ReadAnswersFirst =
    (bytes : List ℕ) (lent : Lists) (verdict : Verdict) (m : ℕ) (c : Lists)
    → RecordComesTo bytes lent verdict m c → AnswersFirst (number_of verdict) (read_rows bytes m c lent)
