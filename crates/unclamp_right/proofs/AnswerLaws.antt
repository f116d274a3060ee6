-- A refused unclamping hands back its number and changes nothing; an accepted one hands back the unclamped curve.
use Rattle.std.specs.Prelude.{Bool, true, false, Result, Ok, Err}
use Rattle.std.proofs.Common.{rules}
use mathlib.Core.Path.{◌≡◌, refl, sym, ap, ◌∙◌}
use Prim.Native.Nat.{ℕ, ◌<◌}
use native.Mathlib.Omega.{arith}
use lib.ListN.{length}
use Rattle.refusal.specs.Answers.{number_of, number_in, required}
use Rattle.refusal.specs.declared.Refusal.{Refusal}
use Rattle.refusal.proofs.AnswerLaws.{answers-refusal, refused-above_zero}
use Rattle.curve.specs.Lists.{Lists}
use Rattle.curve.specs.HandingOver.{handed_over}
use Rattle.curve.proofs.HandingLaws.{handed_over-refused}
use Rattle.unclamping.specs.Unclamping.{unclamped, unclamp_number}
use Rattle.unclamp_right.specs.Answer.{UnclampOutcome}

module _ (m : ℕ) (c before : Lists) where
  pub outcome-refused : (e : Refusal) → number_of e ≡ unclamp_number m c before → (answer : Result ℕ Refusal) → answer ≡ Err e → UnclampOutcome m c before answer before
  outcome-refused e n answer is =
      let refused : unclamp_number m c before ≡ 0 → ⊥ = λ z. (let above : 0 < number_of e = refused-above_zero e in omega (arith, n, z)) in
      record {
        answers = answers-refusal (unclamp_number m c before) (length c.xs) answer refused (ap number_in is ∙ n);
        hands = sym (handed_over-refused (unclamp_number m c before) (unclamped m c) before refused);
      }

  pub outcome-unclamped : unclamp_number m c before ≡ 0 → (now : Lists) → now ≡ handed_over 0 (unclamped m c) before → UnclampOutcome m c before (Ok (length c.xs)) now
  outcome-unclamped z now h = record { answers = (sym z, refl); hands = rw z h }
