-- What removing a knot from both axes answers, for the inner functions.
use Rattle.std.specs.Prelude.{Result, Ok, Err, ◌≡◌, ℕ}
use Rattle.refusal.specs.declared.Refusal.{Refusal}
use Rattle.refusal.specs.declared.Refusal.TheVariants.{NotRemovable}
use Rattle.curve.specs.Lists.{Lists}
use Rattle.removal.specs.Removal.{Removes, Removable}

-- the curve without v, or a refusal where there is none
abbrev pub PolygonOutcome : ℕ → Lists → ℕ → Lists → Result (Unit {0}) Refusal → Type 0
PolygonOutcome m c v d (Ok done) = Removes m v c d
PolygonOutcome m c v d (Err refusal) = (refusal ≡ NotRemovable) × (Removable m c v → ⊥)
