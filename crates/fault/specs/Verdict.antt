-- How a reader's bytes were judged (heading "Where bytes break"): a file, with the number of its refusal or 0; or none, with number and place of its leftmost fault.
use Rattle.std.specs.Prelude.{ℕ}

pub data Verdict : Type 0 where
  judged : ℕ → Verdict
  broken : ℕ → ℕ → Verdict

abbrev pub number_of : Verdict → ℕ
number_of (judged number) = number
number_of (broken number place) = number

-- what a number lent for the place holds afterwards: only a fault has a place
abbrev pub place_or : Verdict → ℕ → ℕ
place_or (judged number) before = before
place_or (broken number place) before = place
