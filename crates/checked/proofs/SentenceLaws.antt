-- The check answers n exactly when the sentence of row n holds and no lower row's does, and 0 exactly when none holds; and so does each call
-- that judges more rows behind these.
use mathlib.Core.List.{List, []}
use mathlib.Core.Path.{refl, sym}
use Prim.Native.Nat.{ℕ}
use lib.IntN.{ℤ}
use Rattle.refusal.specs.Chain.{Row, AnswersFirst}
use Rattle.refusal.proofs.ChainLaws.{Judges, accepts, judged, answers-first}
use Rattle.grid.specs.Check.{checked_then, check_number, Passes}
use Rattle.grid.proofs.CheckLaws.{check-accepts}
use Rattle.checked.specs.Sentences.{curve_rows}
use Rattle.checked.proofs.TestLaws.{fails-iff}
use Rattle.checked.proofs.CountLaws.{degree-judged, points-judged, knots-judged}
use Rattle.checked.proofs.RisingLaws.{order-judged}
use Rattle.checked.proofs.EndLaws.{ends-judged}
use Rattle.checked.proofs.OccurrenceLaws.{repeats-judged}
use Rattle.checked.proofs.GridLaws.{range-judged}

module _ (m : ℕ) (ts : List ℕ) (xs ys : List ℤ) where
  -- 1 to 7, and then what a call judges of a curve that passes
  pub curve-judged : (next : ℕ) (rows : List Row) → (Passes m ts xs ys → Judges next rows) → Judges (checked_then m ts xs ys next) (curve_rows m ts xs ys rows)
  unfolding checked_then
  curve-judged next rows rest =
      judged (fails-iff (degree-judged m)) λ degree.
      judged (fails-iff (points-judged m xs ys)) λ points.
      judged (fails-iff (knots-judged m ts xs)) λ knots.
      judged (fails-iff (order-judged ts)) λ order.
      judged (fails-iff (ends-judged m ts)) λ ends.
      judged (fails-iff (repeats-judged m ts)) λ repeats.
      judged (fails-iff (range-judged xs ys)) λ range.
      rest (sym (check-accepts m ts xs ys degree points knots order ends repeats range))

  -- the answer is the lowest row that applies, or 0
  pub check-answers : AnswersFirst (check_number m ts xs ys) (curve_rows m ts xs ys [])
  unfolding check_number
  check-answers = answers-first _ _ refl (curve-judged 0 [] (λ passes. accepts))
