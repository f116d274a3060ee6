-- What is promised of the leftmost fault of a kind of file (heading "Where bytes break").
use Rattle.std.specs.Prelude.{List, ◌⊎◌, ◌≡◌, ℕ, ◌<◌, length, take}
use Rattle.refusal.specs.Numbers.{left_over_refused}
use Rattle.fields.specs.Bytes.{Octets}
use Rattle.fault.specs.Fault.{FileKind, Fault}

-- bytes are a file of the kind or have a leftmost fault, never both and never two; and a byte behind a file that takes no further field is left over
pub record FaultsTold (kind : FileKind) : Type 0 where
  pub told : (bytes : List ℕ) → Octets bytes → kind.Is bytes ⊎ ((number : ℕ) × (place : ℕ) × Fault kind bytes number place)
  pub never : (bytes : List ℕ) (number place : ℕ) → Fault kind bytes number place → kind.Is bytes → ⊥
  pub one : (bytes : List ℕ) (number place n p : ℕ) → Fault kind bytes number place → Fault kind bytes n p → (number ≡ n) × (place ≡ p)
  pub over : (bytes : List ℕ) (at : ℕ) → at < length bytes → kind.Full (take at bytes) → Fault kind bytes left_over_refused at
