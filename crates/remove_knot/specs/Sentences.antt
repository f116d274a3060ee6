-- What removing a knot that was just inserted answers (heading "Inserting and removing a knot").
use Rattle.std.specs.Prelude.{true, Result, Ok, ◌≡◌, ℕ, length}
use Rattle.refusal.specs.declared.Refusal.{Refusal}
use Rattle.curve.specs.Lists.{Lists}
use Rattle.curve.specs.HandingOver.{room_for, handed_over}
use Rattle.insertion.specs.Insertion.{inserted}
use Rattle.insertion.specs.Judged.{insertion_number}
use Rattle.remove_knot.specs.Outcome.{RemovalOutcome}

-- removing a v that was inserted answers the old number of points and hands out the old curve, where the lent lists have room for it
abbrev pub InsertedIsHandedBack : Type 0
InsertedIsHandedBack =
    (m : ℕ) (c : Lists) (v : ℕ) (lent before : Lists) (answer : Result ℕ Refusal) (now : Lists) → insertion_number m c v lent ≡ 0 → room_for c before ≡ true
    → RemovalOutcome m (inserted m c v) v before answer now → (answer ≡ Ok (length c.xs)) × (now ≡ handed_over 0 c before)
