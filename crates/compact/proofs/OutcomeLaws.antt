-- How the call ends where it needs no work lists; and two outcomes of one call are the same.
use mathlib.Core.Path.{◌≡◌, refl, ap}
use Prim.Native.Nat.{ℕ, ◌+◌, ◌-◌}
use native.Mathlib.Omega.{arith}
use lib.ListN.{length}
use Rattle.std.specs.Prelude.{Result, Ok, Err}
use Rattle.refusal.specs.Answers.{number_of, number_in}
use Rattle.refusal.specs.declared.Refusal.{Refusal}
use Rattle.refusal.proofs.AnswerLaws.{refused-above_zero}
use Rattle.curve.specs.Lists.{Lists}
use Rattle.curve.specs.HandingOver.{room_number, handed_over}
use Rattle.curve.proofs.HandingLaws.{ends-untouched, hands-out-once}
use Rattle.grid.specs.Check.{Passes, check_number}
use Rattle.compaction.specs.Outcome.{CompactionComesTo, refused, knots_taken}
use Rattle.compaction.proofs.OutcomeLaws.{same_number, same-curve}
use Rattle.compaction_pass.proofs.GrowLaws.{nothing-inner}
use Rattle.work_lists.proofs.OutcomeLaws.{work_refused, work_done}
use Rattle.compact.specs.Outcome.{CompactOutcome}

module _ (m : ℕ) (c before : Lists) where
  -- a refusal by the check
  pub compact_unchecked : (answer : Result ℕ Refusal) (e : Refusal) → answer ≡ Err e → number_of e ≡ check_number m c.knots c.xs c.ys
      → CompactOutcome m c before answer before
  compact_unchecked answer e is number =
      let above = refused-above_zero e in
      ends-untouched (CompactionComesTo m c before) (λ (d : Lists). knots_taken c d) before (number_of e) c
      (refused (λ z. omega (arith, above, number, z)) number) answer (ap number_in is) (λ z. omega (arith, above))

  -- nothing can go: by row 15, or not at all
  module _ (passes : Passes m c.knots c.xs c.ys) (few : length c.xs ≡ m + 1) (now : Lists) where
    pub compact_cramped : (answer : Result ℕ Refusal) (e : Refusal) → answer ≡ Err e → number_of e ≡ room_number c before → now ≡ handed_over (number_of e) c before
        → CompactOutcome m c before answer now
    compact_cramped answer e is number hands = work_refused m c passes c (nothing-inner m c passes few) before now answer e is number hands

    pub compact_whole : 0 ≡ room_number c before → now ≡ handed_over 0 c before → CompactOutcome m c before (Ok 0) now
    compact_whole number hands =
        let none : length c.xs - length c.xs ≡ 0 = omega arith in
        rw none at (work_done m c passes c (nothing-inner m c passes few) before now (length c.xs) refl number hands)

  -- two outcomes of one call
  pub compact-determined : (a b : Result ℕ Refusal) (x y : Lists) → CompactOutcome m c before a x → CompactOutcome m c before b y → (a ≡ b) × (x ≡ y)
  compact-determined a b x y p q =
      hands-out-once (record { one_number = same_number m c before; one-curve = same-curve m c before }) (λ (d : Lists). knots_taken c d) before a b x y p q
