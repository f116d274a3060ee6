-- How a call judges its input: one test after another, each with its number; the first that fails gives the answer.
use Rattle.std.specs.Prelude.{Bool, cond, ℕ, eqb}

abbrev pub unless : Bool → ℕ → ℕ → ℕ  -- `number` where the test fails, and what is judged next where it passes
unless ok number next = cond ok next number

-- what a call answers: its value where the number is 0, else the refusal by its number
abbrev pub answered : {B A : Type 0} → (B → A) → (ℕ → A) → ℕ → B → A
answered done refused number value = cond (eqb number 0) (done value) (refused number)
