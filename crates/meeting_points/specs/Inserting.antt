-- Inserting values one after the other (heading "Inserting and removing a knot"), and the values at which the pieces of a joined curve meet.
use Rattle.std.specs.Prelude.{List, [], ◌∷◌, ◌≡◌, ℕ, ◌-◌, length, take, drop}
use Rattle.refusal.specs.Numbers.{accepted}
use Rattle.curve.specs.Lists.{Lists}
use Rattle.insertion.specs.Insertion.{inserted}
use Rattle.insertion.specs.Judged.{insertion_number}

unfoldable pub inner_parameters : List ℕ → List ℕ  -- all parameters but the first and the last: there two pieces meet
inner_parameters ss = take (length ss - 2) (drop 1 ss)

-- the values, inserted one after the other into c, give d; no insertion is refused, with lent lists of just the places that its result needs
abbrev pub InsertsEach : ℕ → List ℕ → Lists → Lists → Type 0
InsertsEach m [] c d = c ≡ d
InsertsEach m (v ∷ vs) c d = (insertion_number m c v (inserted m c v) ≡ accepted) × InsertsEach m vs (inserted m c v) d
