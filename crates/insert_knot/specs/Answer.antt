-- What inserting a knot answers and leaves in the lent lists (headings "Inserting and removing a knot" and "Numbers of refusal").
use Rattle.std.specs.Prelude.{Result, ◌≡◌, ℕ, ◌+◌, length}
use Rattle.refusal.specs.Answers.{Answers}
use Rattle.refusal.specs.declared.Refusal.{Refusal}
use Rattle.curve.specs.Lists.{Lists}
use Rattle.curve.specs.HandingOver.{handed_over}
use Rattle.insertion.specs.Insertion.{inserted}
use Rattle.insertion.specs.Judged.{insertion_number}

-- the answer, one point more, and the curve with v handed over; or the number alone
pub record InsertOutcome (m : ℕ) (c : Lists) (v : ℕ) (before : Lists) (answer : Result ℕ Refusal) (now : Lists) : Type 0 where
  pub answers : Answers (insertion_number m c v before) (length c.xs + 1) answer
  pub hands : now ≡ handed_over (insertion_number m c v before) (inserted m c v) before
