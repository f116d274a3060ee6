-- Row 4 by the steps from one knot to the next: knots that nowhere fall pass exactly where the last of them, the largest, does.
use mathlib.Core.Bool.{true, false}
use mathlib.Core.List.{List, [], ◌∷◌}
use mathlib.Core.Path.{◌≡◌, refl}
use Prim.Native.Nat.{ℕ, zero, suc, ◌+◌, ◌-◌, ◌≤◌, ◌<◌, zero-le}
use native.Mathlib.Nat.{le_refl, add-zero}
use native.Mathlib.Omega.{arith}
use lib.Dec.{leb}
use lib.ListN.{length, get_or}
use borrow.Author.Tests.{le-leb, leb-true, leb-false}
use Rattle.grid.specs.Limits.{knot_most}
use Rattle.grid.specs.Rows.{rises_from, knot_order_ok}
use Rattle.grid.proofs.FlagLaws.{fails, flag-tells}
use Rattle.grid.proofs.RepeatLaws.{rises-between, rises-most}

-- the last knot: where none falls, the largest
abbrev largest : List ℕ → ℕ
largest ts = get_or ts (length ts - 1) 0

-- knot j is below the one before it
abbrev pub Falls : List ℕ → ℕ → Type 0
Falls ts j = get_or ts j 0 < get_or ts (j - 1) 0

-- each entry is not below the one before it, `low` standing before the first, and none is above the largest
rises-of : (low : ℕ) (ts : List ℕ) → ((j : ℕ) → j < length ts → get_or (low ∷ ts) j 0 ≤ get_or ts j 0) → ((j : ℕ) → j < length ts → get_or ts j 0 ≤ knot_most)
    → rises_from low ts ≡ true
unfolding rises_from
rises-of low [] steps most = refl
rises-of low (t ∷ ts) steps most =
    rw (
      le-leb low t (steps 0 (omega arith)),
      le-leb t knot_most (most 0 (omega arith)),
      rises-of t ts (λ j i. steps (suc j) (omega arith)) (λ j i. most (suc j) (omega arith)),
    )

module _ (ts : List ℕ) where
  -- one that falls
  pub order-falls : (j : ℕ) → 1 ≤ j → j < length ts → Falls ts j → knot_order_ok ts ≡ false
  unfolding knot_order_ok
  order-falls j l i w = fails (rises_from 0 ts) (λ h. omega (arith, rises-between 0 ts (j - 1) j h (omega arith) i))

  module _ (none : (j : ℕ) → j < length ts → 1 ≤ j → Falls ts j → ⊥) where
    -- step by step
    climbs : (a d : ℕ) → a + d < length ts → get_or ts a 0 ≤ get_or ts (a + d) 0
    climbs a zero i = rw (add-zero a) (le_refl (get_or ts a 0))
    climbs a (suc d) i =
        let before : a + suc d - 1 ≡ a + d = omega arith in
        let step : get_or ts (a + suc d) 0 < get_or ts (a + d) 0 → ⊥ = rw before at (none (a + suc d) i (omega arith)) in
        let lower = climbs a d (omega arith) in
        omega arith

    steps : (j : ℕ) → j < length ts → get_or (0 ∷ ts) j 0 ≤ get_or ts j 0
    steps zero i = zero-le
    steps (suc j) i =
        let before : suc j - 1 ≡ j = omega arith in
        let step : get_or ts (suc j) 0 < get_or ts j 0 → ⊥ = rw before at (none (suc j) i (omega arith)) in
        omega arith

    -- none that falls: the last knot decides
    pub order-by-last : 1 ≤ length ts → leb (largest ts) knot_most ≡ knot_order_ok ts
    unfolding knot_order_ok
    order-by-last some =
        flag-tells (leb (largest ts) knot_most) (rises_from 0 ts)
        (λ e. rises-of 0 ts steps
        (λ j i. let there : j + (length ts - 1 - j) ≡ length ts - 1 = omega arith in
        omega (arith, leb-true (largest ts) knot_most e, rw there at (climbs j (length ts - 1 - j) (omega arith)))))
        (λ e. fails (rises_from 0 ts) (λ h. omega (arith, leb-false (largest ts) knot_most e, rises-most 0 ts h (length ts - 1) (omega arith))))
