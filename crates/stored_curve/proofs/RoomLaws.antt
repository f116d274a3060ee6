-- Row 15 for the curve that stands in bytes, by the lengths of its fields.
use Rattle.std.specs.Prelude.{Bool, true, false, List, Result, ◌≡◌, ℕ, ◌/◌, length}
use mathlib.Core.Path.{refl}
use Rattle.refusal.specs.Answers.{number_in, required}
use Rattle.refusal.specs.Judging.{unless}
use Rattle.refusal.specs.Numbers.{accepted, room_refused}
use Rattle.refusal.specs.declared.Refusal.{Refusal}
use Rattle.refusal.specs.declared.Refusal.TheVariants.{Room}
use Rattle.curve.specs.HandingOver.{enough, room_number}
use Rattle.curve.specs.Lists.{Lists}
use Rattle.layout.specs.StoredCurve.{curve_in}
use Rattle.layout.proofs.StoredLaws.{stored-room}

by_test : (fine : Bool) → number_in (required fine Room) ≡ unless fine room_refused accepted
by_test true = refl
by_test false = refl

-- the answer of asking for room
pub room_told : (bytes : List ℕ) (k x y : ℕ) (lent : Lists) (answer : Result (Unit {0}) Refusal)
    → answer ≡ required (enough (k / 2) (x / 4) (y / 4) (length lent.knots) (length lent.xs) (length lent.ys)) Room
    → number_in answer ≡ room_number (curve_in bytes k x y) lent
room_told bytes k x y lent answer told =
    rw (told, stored-room bytes k x y lent) (by_test (enough (k / 2) (x / 4) (y / 4) (length lent.knots) (length lent.xs) (length lent.ys)))
