-- Writing and reading a record answer the first row of their order whose sentence holds: `write-answers`, `read-answers`.
use mathlib.Core.List.{List}
use mathlib.Core.Path.{refl}
use Prim.Native.Nat.{ℕ}
use lib.ListN.{length}
use Rattle.refusal.proofs.ChainLaws.{Judges, accepts, judged, answers-first}
use Rattle.curve.specs.Lists.{Lists}
use Rattle.format.specs.Format.{form1, record_bytes}
use Rattle.fault.specs.Kinds.{lone_records}
use Rattle.fault.specs.Verdict.{Verdict, number_of}
use Rattle.fault.proofs.LeftOverLaws.{fault-judged, file-judged}
use Rattle.checked.proofs.TestLaws.{fails-iff, leb-judged, room-judged}
use Rattle.checked.proofs.SentenceLaws.{curve-judged}
use Rattle.record.specs.Writing.{write_number}
use Rattle.record.specs.Reading.{record_number, RecordComesTo, is_record, is_broken}
use Rattle.record.specs.Sentences.{read_rows, WriteAnswersFirst, ReadAnswersFirst}

pub write-answers : WriteAnswersFirst
unfolding write_number
write-answers m c out =
    answers-first _ _ refl
    (curve-judged m c.knots c.xs c.ys _ _ λ passing.
    judged (fails-iff (leb-judged (length (record_bytes form1 m c)) (length out))) λ room.
    accepts)

read-judged : {bytes : List ℕ} {lent : Lists} {verdict : Verdict} {m : ℕ} {c : Lists} → RecordComesTo bytes lent verdict m c → Judges (number_of verdict) (read_rows bytes m c lent)
unfolding record_number
read-judged {bytes = bytes} {lent = lent} (is_record w) =
    file-judged lone_records bytes w
    (curve-judged w.m w.c.knots w.c.xs w.c.ys _ _ λ passing.
    judged (fails-iff (room-judged w.c lent)) λ room.
    accepts)
read-judged {bytes = bytes} (is_broken fault m c) = fault-judged lone_records bytes _ fault

pub read-answers : ReadAnswersFirst
read-answers bytes lent verdict m c comes = answers-first (number_of verdict) (read_rows bytes m c lent) refl (read-judged comes)
