-- A pass whose result is handed over.
use mathlib.Core.Path.{◌≡◌, refl, sym, ap}
use Prim.Native.Nat.{ℕ, ◌-◌}
use native.Mathlib.Omega.{arith}
use lib.ListN.{length}
use Rattle.std.specs.Prelude.{Result, Ok, Err}
use Rattle.refusal.specs.Answers.{number_of, number_in}
use Rattle.refusal.specs.declared.Refusal.{Refusal}
use Rattle.refusal.proofs.AnswerLaws.{refused-above_zero}
use Rattle.curve.specs.Lists.{Lists}
use Rattle.curve.specs.HandingOver.{room_number, handed_over}
use Rattle.curve.proofs.HandingLaws.{ends-refused, ends-done}
use Rattle.grid.specs.Check.{Passes}
use Rattle.compaction.specs.Compaction.{CompactsTo}
use Rattle.compaction.specs.Outcome.{CompactionComesTo, compacted, knots_taken}
use Rattle.work_lists.specs.Outcome.{WorkOutcome}

-- what a pass leaves is handed over, or there is no room for it
module _ (m : ℕ) (c : Lists) (p : Passes m c.knots c.xs c.ys) (d : Lists) (pass : CompactsTo m c d) (before now : Lists) where
  pub work_refused : (answer : Result ℕ Refusal) (e : Refusal) → answer ≡ Err e → number_of e ≡ room_number d before → now ≡ handed_over (number_of e) d before
      → WorkOutcome m c before answer now
  work_refused answer e is number hands =
      let above = refused-above_zero e in
      ends-refused (CompactionComesTo m c before) (λ (d : Lists). knots_taken c d) before (number_of e) d (compacted p pass number) answer now (ap number_in is) (λ z. omega (arith, above)) hands

  pub work_done : (left : ℕ) → length d.xs ≡ left → 0 ≡ room_number d before → now ≡ handed_over 0 d before → WorkOutcome m c before (Ok (length c.xs - left)) now
  work_done left e number hands =
      rw (sym e) (ends-done (CompactionComesTo m c before) (λ (d : Lists). knots_taken c d) before 0 d (compacted p pass number) now refl hands)
