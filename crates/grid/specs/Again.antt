-- What the check's loop over knots that come again tells (heading "Numbers of refusal", row 6).
use Rattle.std.specs.Prelude.{Bool, true, false, List, ◌≡◌, ℕ, ◌-◌, ◌≤◌, ◌<◌, get_or}

abbrev pub Again : List ℕ → ℕ → ℕ → Type 0  -- knot i equals the one `back` places before it
Again ts back i = get_or ts i 0 ≡ get_or ts (i - back) 0

-- the flag stands exactly where no knot from `first` on and before `past` comes again
pub record ToldOfAgain (ts : List ℕ) (first past back : ℕ) (fine : Bool) : Type 0 where
  pub none : fine ≡ true → (i : ℕ) → first ≤ i → i < past → Again ts back i → ⊥
  pub one : fine ≡ false → (i : ℕ) × (first ≤ i) × (i < past) × Again ts back i
