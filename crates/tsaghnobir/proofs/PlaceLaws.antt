-- What an answer leaves at a single number, by the number of the call.
use mathlib.Core.Path.{◌≡◌, refl, sym, ap, ◌∙◌}
use Prim.Native.Nat.{ℕ}
use native.Mathlib.Omega.{arith}
use borrow.Author.Tests.{ne_eqb}
use Rattle.std.specs.Prelude.{Result, Ok, Err, ◌<◌}
use Rattle.refusal.specs.Answers.{number_of, number_in, Answers}
use Rattle.refusal.specs.declared.Refusal.{Refusal}
use Rattle.refusal.proofs.AnswerLaws.{refused-above_zero}
use Rattle.tsaghnobir.specs.Places.{placed}
use Rattle.tsaghnobir.specs.Answered.{left_by}

-- a refused call leaves a place as it was
pub placed-refused : {A : Type 0} (number : ℕ) (value held : A) → 0 < number → held ≡ placed number value held
placed-refused number value held h = rw (ne_eqb number 0 (λ e. omega arith))

pub refused-placed : {A : Type 0} (refusal : Refusal) (value held : A) → held ≡ placed (number_of refusal) value held
refused-placed refusal value held = placed-refused (number_of refusal) value held (refused-above_zero refusal)

-- what is left is what the number says
pub left_placed : {A : Type 0} (number : ℕ) (value held : A) (answer : Result A Refusal) → Answers number value answer → left_by answer held ≡ placed number value held
left_placed number value held (Ok x) h = h.1 ∙ rw (← h.0)
left_placed number value held (Err e) h = refused-placed e value held ∙ rw (← h.0)
