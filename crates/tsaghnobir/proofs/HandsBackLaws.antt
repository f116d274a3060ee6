-- An export over a call that hands a curve out by cases: what it hands back, by the answer of the call.
use mathlib.Core.Path.{◌≡◌, refl, sym, ap, ◌∙◌, subst}
use Prim.Native.Nat.{ℕ, ◌-◌, ◌≤◌}
use native.Mathlib.Omega.{arith}
use lib.ListN.{length}
use Rattle.std.specs.Prelude.{Result, Ok, Err}
use Rattle.refusal.specs.Answers.{number_of, number_in}
use Rattle.refusal.specs.declared.Refusal.{Refusal}
use Rattle.curve.specs.Lists.{Lists}
use Rattle.curve.specs.HandingOver.{HandsOut}
use Rattle.compaction.specs.Outcome.{CompactionComesTo, refused, compacted, knots_taken}
use Rattle.compaction.proofs.SentenceLaws.{pass-counted}
use Rattle.compact.specs.Outcome.{CompactOutcome}
use Rattle.tsaghnobir.specs.Outcomes.{HandsBack}
use Rattle.tsaghnobir.proofs.PlaceLaws.{refused-placed}

module _ {P : Type 0} {ComesTo : ℕ → Lists → Type 0} {count : Lists → ℕ} {counts : Lists → P} {before now : Lists} {held : P} where
  done-back : {k : ℕ} {holds : P} (call : HandsOut ComesTo count before (Ok k) now)
      → (ComesTo 0 call.result → k ≡ count call.result → holds ≡ counts call.result) → HandsBack ComesTo counts before held 0 now holds
  done-back call places =
      let comes : ComesTo 0 call.result = rw (← call.answers.0) at call.comes_to in
      record { result = call.result; comes_to = comes; hands = rw (← call.answers.0) at call.hands; places = places comes call.answers.1 }

  -- an answer that is a value, with all that is handed back by that value
  pub done-by : {answer : Result ℕ Refusal} {k : ℕ} {holds : P} → HandsOut ComesTo count before answer now → answer ≡ Ok k
      → ((d : Lists) → ComesTo 0 d → k ≡ count d → holds ≡ counts d) → HandsBack ComesTo counts before held 0 now holds
  done-by call arm places = let done = subst (λ a. HandsOut ComesTo count before a now) arm call in done-back done (places done.result)

  pub refused-back : {refusal : Refusal} → HandsOut ComesTo count before (Err refusal) now → HandsBack ComesTo counts before held (number_of refusal) now held
  refused-back {refusal} call =
      record {
        result = call.result;
        comes_to = rw (← call.answers.0) at call.comes_to;
        hands = rw (← call.answers.0) at call.hands;
        places = refused-placed refusal (counts call.result) held;
      }

-- one place, for the very number that the call answers
pub handed-back : {ComesTo : ℕ → Lists → Type 0} {count : Lists → ℕ} {before now : Lists} {held : ℕ} (answer : Result ℕ Refusal)
    → HandsOut ComesTo count before answer now
    → HandsBack ComesTo count before held (number_in answer) now (Rattle.tsaghnobir.specs.Answered.left_by answer held)
handed-back (Ok k) call = done-back call (λ comes e. e)
handed-back (Err refusal) call = refused-back call

-- a compaction leaves no more points than there were, so its count of removed knots tells how many are left
pub counted : {m : ℕ} {c lent : Lists} {count : ℕ} (d : Lists) → CompactionComesTo m c lent 0 d → count ≡ knots_taken c d
    → ◌≡◌ {A = ℕ × ℕ} (length c.xs - count, count) (length d.xs, knots_taken c d)
counted d (refused fails e) same = absurd (fails (sym e))
counted {m} {c} d (compacted passes pass e) same =
    let left : length c.xs - knots_taken c d ≡ length d.xs = omega (arith, (pass-counted m c d pass).points.0) in
    rw (same, left)

-- no more knots go than there are points
pub no_more : {m : ℕ} {c before now : Lists} {k : ℕ} → CompactOutcome m c before (Ok k) now → k ≤ length c.xs
no_more {c} call = omega (arith, call.answers.1)
