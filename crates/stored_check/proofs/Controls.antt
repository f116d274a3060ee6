-- Closed cases: the verdict in each kind of answer, and the value beside it.
use Rattle.std.specs.Prelude.{Result, Ok, Err, [], ◌∷◌, ◌≡◌, ℕ}
use mathlib.Core.Path.{refl}
use Rattle.refusal.specs.declared.Refusal.TheVariants.{Tag, Room}
use Rattle.taken_field.specs.declared.Failure.{Failure}
use Rattle.taken_field.specs.declared.Failure.TheVariants.{Broken, Refused}
use Rattle.fault.specs.Verdict.{judged, broken}
use Rattle.stored_check.specs.Told.{verdict_in, Tells}

read : Result ℕ Failure
read = Ok 7

cramped : Result ℕ Failure
cramped = Err (Refused Room)

cut : Result ℕ Failure
cut = Err (Broken (record { refusal = Tag; place = 61 }))

-- a value is told by 0, a refusal by its number, a fault by number and place
verdicts : verdict_in read ∷ verdict_in cramped ∷ verdict_in cut ∷ [] ≡ judged 0 ∷ judged 15 ∷ broken 19 61 ∷ []
unfolding read cramped cut
verdicts = refl

values : Tells (judged 0) 7 read × Tells (judged 15) 7 cramped × Tells (broken 19 61) 7 cut
unfolding read cramped cut
values = ((refl, refl), (refl, tt), (refl, tt))
