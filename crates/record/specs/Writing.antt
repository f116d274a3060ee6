-- What writing a record answers (headings "The record on disk" and "Numbers of refusal").
use Rattle.std.specs.Prelude.{List, Result, ℕ, leb, length}
use Rattle.refusal.specs.Answers.{Answers}
use Rattle.refusal.specs.Judging.{unless}
use Rattle.refusal.specs.Numbers.{accepted, room_refused}
use Rattle.curve.specs.Lists.{Lists}
use Rattle.grid.specs.Check.{checked_then}
use Rattle.format.specs.Format.{form1, record_bytes}
use Rattle.refusal.specs.declared.Refusal.{Refusal}

unfoldable pub write_number : ℕ → Lists → List ℕ → ℕ  -- 1 to 7 for the curve, then 15 where the lent list is shorter than the record
write_number m c out =
    checked_then m c.knots c.xs c.ys (unless (leb (length (record_bytes form1 m c)) (length out)) room_refused accepted)

-- how many bytes were written, or the number of the refusal
abbrev pub WriteAnswers : ℕ → Lists → List ℕ → Result ℕ Refusal → Type 0
WriteAnswers m c out answer = Answers (write_number m c out) (length (record_bytes form1 m c)) answer
