-- What removing a knot answers and leaves in the lent lists (headings "Inserting and removing a knot" and "Numbers of refusal").
use Rattle.std.specs.Prelude.{Result, ℕ, length}
use Rattle.refusal.specs.declared.Refusal.{Refusal}
use Rattle.curve.specs.Lists.{Lists}
use Rattle.curve.specs.HandingOver.{HandsOut}
use Rattle.removal.specs.Outcome.{RemovalComesTo}

-- the number of points that are left, or the refusal; and the lent lists
abbrev pub RemovalOutcome : ℕ → Lists → ℕ → Lists → Result ℕ Refusal → Lists → Type 0
RemovalOutcome m c v before answer now = HandsOut (RemovalComesTo m c v before) (λ d. length d.xs) before answer now
