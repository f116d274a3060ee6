-- What a lent list holds after a call, entry by entry (heading "Numbers of refusal").
use Rattle.std.specs.Prelude.{List, ◌≡◌, ℕ, ◌≤◌, ◌<◌, length, get_or}
use Rattle.lent.specs.Lent.{after}

-- no place more or fewer; the first entries are the result's, all others are as before
pub record ResultThenRest {A : Type 0} (result before now : List A) : Type 0 where
  pub places : length now ≡ length before
  pub first : (k : ℕ) (d : A) → k < length result → get_or now k d ≡ get_or result k d
  pub others : (k : ℕ) (d : A) → length result ≤ k → get_or now k d ≡ get_or before k d

-- after success the first entries of a lent list are the result and the others are as they were
abbrev pub SuccessPutsResult : Type 0 → Type 0
SuccessPutsResult A = (result before : List A) → length result ≤ length before → ResultThenRest result before (after 0 result before)

-- a refused call, whatever its number, leaves the list as it was
abbrev pub RefusalLeavesList : Type 0 → Type 0
RefusalLeavesList A = (number : ℕ) (result before : List A) → 0 < number → after number result before ≡ before
