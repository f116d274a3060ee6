-- A call's order of judging, read as sentences: a list of rows, each with its number and with what holds exactly where the row applies.
use Rattle.std.specs.Prelude.{List, ◌↔◌, ◌≡◌, ℕ, ◌<◌, length, get_or}

-- a row of the table of refusals
pub record Row : Type 1 where
  pub number : ℕ
  pub applies : Type 0

abbrev pub row : ℕ → Type 0 → Row
row number applies = record { number = number; applies = applies }

-- the number of row k, counted from 0, and that it applies; past the last row nothing does
abbrev pub number_at : List Row → ℕ → ℕ
number_at rows k = (get_or rows k (row 0 ⊥)).number

abbrev pub AppliesAt : List Row → ℕ → Type 0
AppliesAt rows k = (get_or rows k (row 0 ⊥)).applies

-- a call answers a row's number exactly when this row applies and none before it does, and 0 exactly when no row applies
pub record AnswersFirst (answer : ℕ) (rows : List Row) : Type 0 where
  pub first : (k : ℕ) → k < length rows → (answer ≡ number_at rows k) ↔ (AppliesAt rows k × ((i : ℕ) → i < k → AppliesAt rows i → ⊥))
  pub none : (answer ≡ 0) ↔ ((i : ℕ) → AppliesAt rows i → ⊥)
