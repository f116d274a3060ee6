-- Walking the quotients from Q_{i-m+1} to Q_i: all are whole exactly where those passed and the rest are.
use mathlib.Core.Bool.{true, false, ◌&&◌, true≢false}
use mathlib.Core.Logic.{⊎_elim}
use mathlib.Core.Path.{◌≡◌, refl, ◌∙◌}
use mathlib.Core.List.{List}
use Prim.Native.Nat.{ℕ, zero, suc, ◌+◌, ◌-◌, ◌≤◌, ◌<◌}
use native.Mathlib.Omega.{arith}
use lib.IntN.{ℤ}
use Rattle.signed.specs.Division.{divides}
use Rattle.refusal.proofs.JudgingLaws.{both}
use Rattle.checked.proofs.TestLaws.{one-fails}
use Rattle.insertion.proofs.OrderLaws.{either}
use Rattle.insertion.specs.Insertion.{insertion_span, whole_points, whole_from, weight, weighted_sum}

module _ (m : ℕ) (ts : List ℕ) (ps : List ℤ) (v i : ℕ) where
  pub whole-begins : i ≡ insertion_span ts v → m ≤ insertion_span ts v
      → whole_points m ts ps v ≡ whole_from m ts ps v (i + 1 - (i + 1 - m)) (i + 1 - m)
  unfolding whole_points
  whole-begins e least =
      let count : i + 1 - (i + 1 - m) ≡ m = omega arith in
      rw (count, e)

  one_more : (j : ℕ) → j ≤ i → whole_points m ts ps v ≡ whole_from m ts ps v (i + 1 - j) j
      → whole_points m ts ps v ≡ (divides (weight m ts j) (weighted_sum m ts ps v j) && whole_from m ts ps v (i + 1 - (j + 1)) (j + 1))
  unfolding whole_from
  one_more j h whole =
      let count : i + 1 - j ≡ suc (i + 1 - (j + 1)) = omega arith in
      whole ∙ rw count

  pub whole-fails : (j : ℕ) → j ≤ i → whole_points m ts ps v ≡ whole_from m ts ps v (i + 1 - j) j
      → divides (weight m ts j) (weighted_sum m ts ps v j) ≡ false → false ≡ whole_points m ts ps v
  whole-fails j h whole test = rw (one_more j h whole, test)

  pub whole-goes-on : (j : ℕ) → j ≤ i → whole_points m ts ps v ≡ whole_from m ts ps v (i + 1 - j) j
      → divides (weight m ts j) (weighted_sum m ts ps v j) ≡ true
      → whole_points m ts ps v ≡ whole_from m ts ps v (i + 1 - (j + 1)) (j + 1)
  whole-goes-on j h whole test = rw (one_more j h whole, test)

  pub whole-ends : (j : ℕ) → j ≡ i + 1 → whole_points m ts ps v ≡ whole_from m ts ps v (i + 1 - j) j
      → true ≡ whole_points m ts ps v
  unfolding whole_from
  whole-ends j e whole =
      let none : i + 1 - j ≡ 0 = omega arith in
      rw (whole, none)

-- all quotients of a walk are whole exactly where each is
from_each : (m : ℕ) (ts : List ℕ) (ps : List ℤ) (v count first : ℕ) → whole_from m ts ps v count first ≡ true
    → (j : ℕ) → first ≤ j → j < first + count → divides (weight m ts j) (weighted_sum m ts ps v j) ≡ true
unfolding whole_from
from_each m ts ps v zero first h j a b = absurd (omega arith)
from_each m ts ps v (suc count) first h j a b =
    let p = both (divides (weight m ts first) (weighted_sum m ts ps v first)) (whole_from m ts ps v count (first + 1)) h in
    let rest = from_each m ts ps v count (first + 1) p.1 j in
    either first j
    (λ later. rest (omega arith) (omega arith))
    (λ here. let same : j ≡ first = omega arith in rw same p.0)

from-of-each : (m : ℕ) (ts : List ℕ) (ps : List ℤ) (v count first : ℕ)
    → ((j : ℕ) → first ≤ j → j < first + count → divides (weight m ts j) (weighted_sum m ts ps v j) ≡ true) → whole_from m ts ps v count first ≡ true
unfolding whole_from
from-of-each m ts ps v zero first each = refl
from-of-each m ts ps v (suc count) first each =
    rw (each first (omega arith) (omega arith), from-of-each m ts ps v count (first + 1) (λ j a b. each j (omega arith) (omega arith)))

from-not : (m : ℕ) (ts : List ℕ) (ps : List ℤ) (v count first : ℕ) → whole_from m ts ps v count first ≡ false
    → (j : ℕ) × (first ≤ j) × (j < first + count) × (divides (weight m ts j) (weighted_sum m ts ps v j) ≡ false)
unfolding whole_from
from-not m ts ps v zero first h = absurd (true≢false h)
from-not m ts ps v (suc count) first h =
    let rest = from-not m ts ps v count (first + 1) in
    ⊎_elim
    (λ e. (first, omega arith, omega arith, e))
    (λ e. let r = rest e in (r.0, omega (arith, r.1), omega (arith, r.2), r.3))
    (one-fails (divides (weight m ts first) (weighted_sum m ts ps v first)) (whole_from m ts ps v count (first + 1)) h)

module _ (m : ℕ) (ts : List ℕ) (ps : List ℤ) (v : ℕ) (least : m ≤ insertion_span ts v) where
  pub whole_each : whole_points m ts ps v ≡ true → (j : ℕ) → insertion_span ts v < j + m → j ≤ insertion_span ts v
      → divides (weight m ts j) (weighted_sum m ts ps v j) ≡ true
  unfolding whole_points
  whole_each h j a b = from_each m ts ps v m (insertion_span ts v + 1 - m) h j (omega arith) (omega arith)

  pub whole-of-each : ((j : ℕ) → insertion_span ts v < j + m → j ≤ insertion_span ts v → divides (weight m ts j) (weighted_sum m ts ps v j) ≡ true)
      → whole_points m ts ps v ≡ true
  unfolding whole_points
  whole-of-each each = from-of-each m ts ps v m (insertion_span ts v + 1 - m) (λ j a b. each j (omega arith) (omega arith))

  -- some quotient is not
  pub whole-not : whole_points m ts ps v ≡ false
      → (j : ℕ) × (insertion_span ts v < j + m) × (j ≤ insertion_span ts v) × (divides (weight m ts j) (weighted_sum m ts ps v j) ≡ false)
  unfolding whole_points
  whole-not h =
      let r = from-not m ts ps v m (insertion_span ts v + 1 - m) h in
      (r.0, omega (arith, r.1), omega (arith, r.2), r.3)
