-- What unclamping the right end answers and leaves in the lent lists (headings "Ends that are not clamped" and "Numbers of refusal").
use Rattle.std.specs.Prelude.{Result, ◌≡◌, ℕ, length}
use Rattle.refusal.specs.Answers.{Answers}
use Rattle.refusal.specs.declared.Refusal.{Refusal}
use Rattle.curve.specs.Lists.{Lists}
use Rattle.curve.specs.HandingOver.{handed_over}
use Rattle.unclamping.specs.Unclamping.{unclamped, unclamp_number}

-- the answer, as many points as before, and the unclamped curve handed over; or the number alone
pub record UnclampOutcome (m : ℕ) (c before : Lists) (answer : Result ℕ Refusal) (now : Lists) : Type 0 where
  pub answers : Answers (unclamp_number m c before) (length c.xs) answer
  pub hands : now ≡ handed_over (unclamp_number m c before) (unclamped m c) before
