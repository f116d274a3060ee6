-- A refused joining hands back its number and changes nothing; an accepted one hands back the joined curve.
use Rattle.std.specs.Prelude.{Bool, true, false, Result, Ok, Err, ◌≡◌, ℕ, ◌+◌, ◌-◌, ◌*◌, ◌≤◌, length}
use mathlib.Core.Path.{refl, sym, ap, ◌∙◌}
use native.Mathlib.Omega.{arith}
use Rattle.refusal.specs.Numbers.{room_refused}
use Rattle.refusal.specs.Answers.{number_of, number_in, required}
use Rattle.refusal.specs.declared.Refusal.{Refusal}
use Rattle.refusal.specs.declared.Refusal.TheVariants.{Room}
use Rattle.refusal.proofs.AnswerLaws.{refused-above_zero, not-required}
use Rattle.curve.specs.Lists.{Lists}
use Rattle.curve.specs.HandingOver.{enough, handed_over, room_for, room_number}
use Rattle.curve.proofs.HandingLaws.{handed_over-refused}
use Rattle.joined_curve.proofs.CurveLaws.{points-length}
use Rattle.joining.specs.SplinePoints.{SplinePoints}
use Rattle.joining.specs.Answer.{joined_lists, joinable_then, join_number, JoinOutcome}
use Rattle.joining.proofs.StandingLaws.{joinable-of, joinable-refused, joinable-passed}
use Rattle.joining.proofs.RoomLaws.{room-is}

module _ (inner : ℕ) (s : SplinePoints) (before : Lists) where
  -- refused with the number of the joining, and nothing written
  outcome-refused : (answer : Result ℕ Refusal) (e : Refusal) → answer ≡ Err e → number_of e ≡ join_number inner s before
      → JoinOutcome inner s before answer before
  outcome-refused answer e is number =
      let above = refused-above_zero e in
      record {
        answers = rw is (number, tt);
        hands = sym (handed_over-refused (join_number inner s before) (joined_lists inner s) before (λ z. omega (arith, above)));
      }

  -- by 17, 7, 11, 18
  pub outcome_judged : (answer : Result ℕ Refusal) (e : Refusal) → answer ≡ Err e → number_of e ≡ joinable_then s 0
      → JoinOutcome inner s before answer before
  outcome_judged answer e is number =
      let above = refused-above_zero e in
      outcome-refused answer e is (sym (joinable-refused s (room_number (joined_lists inner s) before) number (λ z. omega (arith, above))))

  -- of spline points that can be joined: by 15, or not at all
  module _ (least : 2 ≤ inner) (judged : joinable_then s 0 ≡ 0) where
    some : 2 ≤ length s.params
    some = (joinable-of s 0 judged).standing.x-axis.rising.least

    number-is : room_number (joined_lists inner s) before ≡ join_number inner s before
    number-is = sym (joinable-passed s (room_number (joined_lists inner s) before) judged)

    abbrev pub points_are : ℕ
    points_are = inner * (length s.params - 2) + 4

    pub outcome_cramped : (answer : Result ℕ Refusal) (e : Refusal) → answer ≡ Err e
        → Err e ≡ required (enough (points_are + 4) points_are points_are (length before.knots) (length before.xs) (length before.ys)) Room
        → JoinOutcome inner s before answer before
    outcome_cramped answer e is short =
        let t = not-required _ Room e short in
        let fails : room_for (joined_lists inner s) before ≡ false = room-is inner least s before some ∙ t.0 in
        let room : room_refused ≡ room_number (joined_lists inner s) before = rw fails refl in
        outcome-refused answer e is (ap number_of t.1 ∙ room ∙ number-is)

    pub outcome_joined : enough (points_are + 4) points_are points_are (length before.knots) (length before.xs) (length before.ys) ≡ true
        → (now : Lists) → now ≡ handed_over 0 (joined_lists inner s) before → JoinOutcome inner s before (Ok points_are) now
    outcome_joined fits now h =
        let passed : room_for (joined_lists inner s) before ≡ true = room-is inner least s before some ∙ fits in
        let room : 0 ≡ room_number (joined_lists inner s) before = rw passed refl in
        let n : 0 ≡ join_number inner s before = room ∙ number-is in
        record { answers = (n, sym (points-length inner least s.params s.xs s.dxs some)); hands = rw (← n) h }
