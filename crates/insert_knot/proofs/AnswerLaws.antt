-- A refused insertion hands back its number and changes nothing; an accepted one hands back the curve with v.
use Rattle.std.specs.Prelude.{Bool, true, false, Result, Ok, Err, ◌≡◌, ℕ, ◌+◌, length}
use mathlib.Core.Path.{refl, sym, ap, ◌∙◌}
use native.Mathlib.Omega.{arith}
use Rattle.refusal.specs.Numbers.{room_refused}
use Rattle.refusal.specs.Answers.{number_of, number_in, required}
use Rattle.refusal.specs.declared.Refusal.{Refusal}
use Rattle.refusal.specs.declared.Refusal.TheVariants.{Room}
use Rattle.refusal.proofs.AnswerLaws.{refused-above_zero, not-required}
use Rattle.curve.specs.Lists.{Lists}
use Rattle.curve.specs.HandingOver.{enough, handed_over, room_for, room_number}
use Rattle.curve.proofs.HandingLaws.{handed_over-refused}
use Rattle.grid.specs.Check.{Passes, check_number}
use Rattle.insertion.specs.Insertion.{inserted}
use Rattle.insertion.specs.Judged.{insertable_then, insertion_number}
use Rattle.insertion.proofs.JudgedLaws.{judged-refused, judged-passed, number-refused, number_passed, inserted-room}
use Rattle.insert_knot.specs.Answer.{InsertOutcome}

module _ (m : ℕ) (c : Lists) (v : ℕ) (before : Lists) where
  -- refused with the number of the insertion, and nothing written
  outcome-refused : (answer : Result ℕ Refusal) (e : Refusal) → answer ≡ Err e → number_of e ≡ insertion_number m c v before
      → InsertOutcome m c v before answer before
  outcome-refused answer e is number =
      let above = refused-above_zero e in
      record {
        answers = rw is (number, tt);
        hands = sym (handed_over-refused (insertion_number m c v before) (inserted m c v) before (λ z. omega (arith, above)));
      }

  -- by the check: 1 to 7
  pub outcome_unchecked : (answer : Result ℕ Refusal) (e : Refusal) → answer ≡ Err e → number_of e ≡ check_number m c.knots c.xs c.ys
      → InsertOutcome m c v before answer before
  outcome_unchecked answer e is number =
      let above = refused-above_zero e in
      outcome-refused answer e is (number ∙ number-refused m c v before (λ z. omega (arith, above)))

  -- of a curve that passes: by 9, 10, 11
  pub outcome_judged : Passes m c.knots c.xs c.ys → (answer : Result ℕ Refusal) (e : Refusal) → answer ≡ Err e → number_of e ≡ insertable_then m c v 0
      → InsertOutcome m c v before answer before
  outcome_judged passes answer e is number =
      let above = refused-above_zero e in
      outcome-refused answer e is
      (number ∙ judged-refused m c v (room_number (inserted m c v) before) (λ z. omega (arith, above)) ∙ sym (number_passed m c v before passes))

  -- and where these let it pass: by 15, or not at all
  module _ (passes : Passes m c.knots c.xs c.ys) (judged : insertable_then m c v 0 ≡ 0) where
    room-is : room_number (inserted m c v) before ≡ insertion_number m c v before
    room-is = judged-passed m c v (room_number (inserted m c v) before) judged ∙ sym (number_passed m c v before passes)

    pub outcome_cramped : (answer : Result ℕ Refusal) (e : Refusal) → answer ≡ Err e
        → Err e ≡ required (enough (length c.knots + 1) (length c.xs + 1) (length c.ys + 1) (length before.knots) (length before.xs) (length before.ys)) Room
        → InsertOutcome m c v before answer before
    outcome_cramped answer e is short =
        let s = not-required _ Room e short in
        let fails : room_for (inserted m c v) before ≡ false = sym (inserted-room m c v before) ∙ s.0 in
        outcome-refused answer e is (ap number_of s.1 ∙ rw fails at room-is)

    pub outcome_inserted : enough (length c.knots + 1) (length c.xs + 1) (length c.ys + 1) (length before.knots) (length before.xs) (length before.ys) ≡ true
        → (now : Lists) → now ≡ handed_over 0 (inserted m c v) before → InsertOutcome m c v before (Ok (length c.xs + 1)) now
    outcome_inserted fits now h =
        let passed : room_for (inserted m c v) before ≡ true = sym (inserted-room m c v before) ∙ fits in
        let n : 0 ≡ insertion_number m c v before = rw passed at room-is in record { answers = (n, refl); hands = rw (← n) h }
