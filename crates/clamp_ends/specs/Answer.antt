-- What clamping both ends answers and leaves in the lent lists (headings "Ends that are not clamped" and "Numbers of refusal").
use Rattle.std.specs.Prelude.{◌&&◌, Result, ◌≡◌, ℕ, length}
use Rattle.refusal.specs.Answers.{Answers}
use Rattle.refusal.specs.Judging.{unless}
use Rattle.refusal.specs.Numbers.{not_whole_refused}
use Rattle.refusal.specs.declared.Refusal.{Refusal}
use Rattle.curve.specs.Lists.{Lists}
use Rattle.curve.specs.HandingOver.{room_number, handed_over}
use Rattle.clamping.specs.Clamping.{clamped_number, all_whole, clamped_part, clamped, clamp_number}

-- a number and a curve, as an answer: how many points, and the curve handed over; or the number alone
pub record Outcome (number : ℕ) (result before : Lists) (answer : Result ℕ Refusal) (now : Lists) : Type 0 where
  pub answers : Answers number (length result.xs) answer
  pub hands : now ≡ handed_over number result before

abbrev pub ClampOutcome : ℕ → Lists → Lists → Result ℕ Refusal → Lists → Type 0  -- for any curve
ClampOutcome m c before answer now = Outcome (clamp_number m c before) (clamped m c) before answer now

-- the same for a curve whose points all carry: rows 11 and 15 alone are left
abbrev pub part_number : ℕ → Lists → Lists → ℕ
part_number m d before =
    unless (all_whole (clamped_number m d.knots d.xs) (length d.xs) && all_whole (clamped_number m d.knots d.ys) (length d.ys)) not_whole_refused
    (room_number (clamped_part m d) before)

abbrev pub PartOutcome : ℕ → Lists → Lists → Result ℕ Refusal → Lists → Type 0
PartOutcome m d before answer now = Outcome (part_number m d before) (clamped_part m d) before answer now
