-- The joined knots never fall and none is above the largest (row 4), since the parameters rise.
use mathlib.Core.Bool.{true}
use mathlib.Core.List.{List, [], ◌∷◌, ◌++◌}
use mathlib.Core.Path.{◌≡◌, refl}
use Prim.Native.Nat.{ℕ, zero, suc, ◌+◌, ◌-◌, ◌≤◌, ◌<◌, zero-le}
use native.Mathlib.Nat.{le_refl, le_of_lt}
use native.Mathlib.Omega.{arith}
use lib.IntN.{ℤ}
use lib.ListN.{length, get_or, replicate}
use borrow.Author.Tests.{le-leb}
use Rattle.grid.specs.Limits.{knot_most}
use Rattle.grid.specs.Rows.{rises_from, knot_order_ok}
use Rattle.spline_pieces.specs.Pieces.{piece_of, piece_at, pieces_from, pieces}
use Rattle.spline_pieces.specs.Standing.{Rising}
use Rattle.joined_curve.specs.Curve.{knots_after, joined_knots}
use Rattle.joined_curve.proofs.CurveLaws.{knots_before, knots_from, knots-cut}

-- one knot more in front, and some equal ones
rises-more : (low s : ℕ) (l : List ℕ) → low ≤ s → s ≤ knot_most → rises_from s l ≡ true → rises_from low (s ∷ l) ≡ true
unfolding rises_from
rises-more low s l h k e = rw (le-leb low s h, le-leb s knot_most k) e

rises-run : (n low s : ℕ) (l : List ℕ) → 1 ≤ n → low ≤ s → s ≤ knot_most → rises_from s l ≡ true → rises_from low (replicate n s ++ l) ≡ true
rises-run zero low s l some h k e = absurd (omega arith)
rises-run (suc zero) low s l some h k e = rises-more low s l h k e
rises-run (suc (suc n)) low s l some h k e = rises-more low s (replicate (suc n) s ++ l) h k (rises-run (suc n) s s l (omega arith) (le_refl s) k e)

rises-none : (low : ℕ) → rises_from low [] ≡ true
unfolding rises_from
rises-none low = refl

module _ (inner : ℕ) (ss : List ℕ) (rising : Rising ss) (most : (i : ℕ) → get_or ss i 0 ≤ knot_most) (ps ds : List ℤ) where
  from-rises : 1 ≤ inner → (count i : ℕ) → i + suc count < length ss → rises_from (get_or ss i 0) (knots_from inner ss ps ds i count) ≡ true
  unfolding knots_after pieces_from piece_at piece_of
  from-rises some zero i h =
      let s = get_or ss (suc i) 0 in
      rises-run 4 (get_or ss i 0) s [] (omega arith) (le_of_lt (rising.rises i (omega arith))) (most (suc i)) (rises-none s)
  from-rises some (suc count) i h =
      let s = get_or ss (suc i) 0 in
      rises-run inner (get_or ss i 0) s (knots_from inner ss ps ds (suc i) count) some (le_of_lt (rising.rises i (omega arith))) (most (suc i))
      (from-rises some count (suc i) (omega arith))

  pub knots-rise : 1 ≤ inner → knot_order_ok (joined_knots inner (pieces ss ps ds)) ≡ true
  unfolding knot_order_ok knots_before
  knots-rise some =
      rw (knots-cut inner ss ps ds rising.least 0 (length ss - 2) (omega arith))
      (rises-run 4 0 (get_or ss 0 0) (knots_from inner ss ps ds 0 (length ss - 2)) (omega arith) zero-le (most 0) (from-rises some (length ss - 2) 0 (omega (arith, rising.least))))
