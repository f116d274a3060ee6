-- Strictly rising parameters: the test one parameter at a time, and what it says of neighbours.
use mathlib.Core.Bool.{true, false, ◌&&◌}
use mathlib.Core.List.{List, [], ◌∷◌}
use mathlib.Core.Path.{◌≡◌, ◌∙◌}
use Prim.Native.Nat.{ℕ, zero, suc, ◌+◌, ◌≤◌, ◌<◌}
use native.Mathlib.Numerals.{add-one}
use native.Mathlib.Nat.{le_of_suc-le-suc}
use native.Mathlib.Omega.{arith}
use lib.Dec.{leb}
use lib.ListN.{length, get_or, drop, drop_of_length-le}
use lib.Seq.{drop-cons}
use borrow.Author.Tests.{le-leb, lt-leb, leb-true}
use Rattle.grid.specs.Limits.{knot_most}
use Rattle.refusal.proofs.JudgingLaws.{both}
use Rattle.joining.specs.SplinePoints.{rises_strictly_from}

module _ (ss : List ℕ) (low i : ℕ) where
  step : i < length ss
      → rises_strictly_from low (drop i ss)
      ≡ (leb low (get_or ss i 0) && leb (get_or ss i 0) knot_most && rises_strictly_from (get_or ss i 0 + 1) (drop (i + 1) ss))
  unfolding rises_strictly_from
  step h = rw (add-one i, add-one (get_or ss i 0), drop-cons ss i 0)

  pub rises-low : i < length ss → get_or ss i 0 < low → rises_strictly_from low (drop i ss) ≡ false
  rises-low h below = step h ∙ simp (lt-leb _ _ below)

  pub rises-high : i < length ss → low ≤ get_or ss i 0 → knot_most < get_or ss i 0 → rises_strictly_from low (drop i ss) ≡ false
  rises-high h from above = step h ∙ simp (le-leb _ _ from, lt-leb _ _ above)

  pub rises-on : i < length ss → low ≤ get_or ss i 0 → get_or ss i 0 ≤ knot_most
      → rises_strictly_from low (drop i ss) ≡ rises_strictly_from (get_or ss i 0 + 1) (drop (i + 1) ss)
  rises-on h from to = step h ∙ simp (le-leb _ _ from, le-leb _ _ to)

  pub rises-end : length ss ≤ i → rises_strictly_from low (drop i ss) ≡ true
  unfolding rises_strictly_from
  rises-end h = rw (drop_of_length-le ss h)

-- the turns of a loop over the parameters
pub ruleset parameter_turn = (rises-low, rises-high, rises-on, rises-end)

-- the three facts of one step
rises-parts : (low s : ℕ) (ss : List ℕ) → rises_strictly_from low (s ∷ ss) ≡ true
    → (low ≤ s) × (s ≤ knot_most) × (rises_strictly_from (suc s) ss ≡ true)
unfolding rises_strictly_from
rises-parts low s ss e =
    let outer = both (leb low s && leb s knot_most) (rises_strictly_from (suc s) ss) e in
    let bounds = both (leb low s) (leb s knot_most) outer.0 in
    (leb-true low s bounds.0, leb-true s knot_most bounds.1, outer.1)

-- each parameter is below the next
pub rises_next : (low : ℕ) (ss : List ℕ) → rises_strictly_from low ss ≡ true → (i : ℕ) → suc i < length ss → get_or ss i 0 < get_or ss (suc i) 0
rises_next low [] e i h = absurd (omega arith)
rises_next low (s ∷ []) e i h = absurd (omega arith)
rises_next low (s ∷ r ∷ ss) e zero h = (rises-parts (suc s) r ss (rises-parts low s (r ∷ ss) e).2).0
rises_next low (s ∷ r ∷ ss) e (suc i) h = rises_next (suc s) (r ∷ ss) (rises-parts low s (r ∷ ss) e).2 i (le_of_suc-le-suc h)

-- none is above the largest knot
pub rises-most : (low : ℕ) (ss : List ℕ) → rises_strictly_from low ss ≡ true → (i : ℕ) → get_or ss i 0 ≤ knot_most
rises-most low [] e i = omega arith
rises-most low (s ∷ ss) e zero = (rises-parts low s ss e).1
rises-most low (s ∷ ss) e (suc i) = rises-most (suc s) ss (rises-parts low s ss e).2 i
