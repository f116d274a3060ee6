-- The rows of a fault, each as a sentence, in the place where a reader judges them (heading "Numbers of refusal").
use Rattle.std.specs.Prelude.{List, ◌∷◌, ℕ}
use Rattle.refusal.specs.Chain.{Row, row}
use Rattle.fault.specs.Fault.{FileKind, Fault}

-- the leftmost fault has this number
abbrev pub HasFault : FileKind → List ℕ → ℕ → Type 0
HasFault kind bytes number = (place : ℕ) × Fault kind bytes number place

-- 16 and 19 to 21, and then the rows of what the bytes are
abbrev pub fault_rows : FileKind → List ℕ → List Row → List Row
fault_rows kind bytes rows =
    row 16 (HasFault kind bytes 16) ∷ row 19 (HasFault kind bytes 19) ∷ row 20 (HasFault kind bytes 20) ∷ row 21 (HasFault kind bytes 21) ∷ rows
