-- The exact triangle in naturals is the exact triangle over the rational numbers.
use mathlib.Core.Path.{◌≡◌, sym, ap, ap₂, ◌∙◌}
use mathlib.Core.List.{List}
use Prim.Native.Nat.{ℕ, zero, suc, ◌+◌, ◌-◌, ◌≤◌, ◌<◌}
use native.Mathlib.Nat.{sub-add_cancel, le_of_lt}
use native.Mathlib.Omega.{arith}
use lib.IntN.{ℤ, pos}
use lib.ListN.{get_or}
use Rattle.algebra.specs.Operations.{sub, div}
use Rattle.algebra.specs.Ring.{field_ring}
use Rattle.algebra.proofs.RingLaws.{add_neg_cancel}
use Rattle.fractions.proofs.Rational.{ℚ, class, plus, times, rational, rational_operations}
use Rattle.splines.specs.Triangle.{cell, entry}
use Rattle.exact.proofs.ExactLaws.{rational_knot, rational_coordinate, rational_parameter}
use Rattle.exact.proofs.HullLaws.{Carried}
use Rattle.rounding.proofs.Ratio.{Ratio, cell_ratio, Bounded}
use Rattle.rounding.proofs.WholeClass.{whole_class, whole_sum}
use Rattle.rounding.proofs.RatioClass.{as_fraction, whole-ratio, cell-class}
use Rattle.rounding.proofs.TriangleNear.{exact_entry}
use Rattle.point_at_exact.proofs.CellDifferences.{left_of, right_of, between, differences-sum, differences-above}

-- w - t among the rational numbers
pub whole_sub : (w t : ℕ) → t ≤ w → sub rational_operations (whole_class w) (whole_class t) ≡ whole_class (w - t)
whole_sub w t h =
    ap (λ (x : ℚ). sub rational_operations x (whole_class t)) (ap whole_class (sym (sub-add_cancel h)) ∙ whole_sum (w - t) t)
    ∙ add_neg_cancel (field_ring rational) (whole_class (w - t)) (whole_class t)

-- one cell: w, t and the low knot as natural numbers
pub cell-exact : (w t l : ℕ) (p q : Ratio) → l ≤ t → t ≤ w → 0 < (w - t) + (t - l) → 0 < p.under → 0 < q.under
    → class (as_fraction (cell_ratio (w - t) (t - l) p q)) ≡ cell rational_operations (whole_class w) (whole_class t) (whole_class l) (class (as_fraction p)) (class (as_fraction q))
cell-exact w t l p q a b D K J =
    cell-class (w - t) (t - l) p q D K J
    ∙ ap (λ (x : ℚ). div rational_operations (plus (times x (class (as_fraction p))) (times (whole_class (t - l)) (class (as_fraction q)))) (whole_class ((w - t) + (t - l)))) (sym (whole_sub w t b))
    ∙ ap (λ (x : ℚ). div rational_operations (plus (times (sub rational_operations (whole_class w) (whole_class t)) (class (as_fraction p))) (times x (class (as_fraction q)))) (whole_class ((w - t) + (t - l)))) (sym (whole_sub t l a))
    ∙ ap
    (div rational_operations
    (plus (times (sub rational_operations (whole_class w) (whole_class t)) (class (as_fraction p))) (times (sub rational_operations (whole_class t) (whole_class l)) (class (as_fraction q)))))
    (ap whole_class (differences-sum w t l a b) ∙ sym (whole_sub w l (omega arith)))

-- every entry
pub entry-class : (ts : List ℕ) (ps : List ℤ) (m i t : ℕ) → Carried ts ps m i t 1
    → (C : ℕ) → ((r j : ℕ) → r ≤ m → i - m + r ≤ j → j ≤ i → Bounded C (exact_entry (left_of m ts t) (right_of ts t) (λ k. get_or ps k (pos 0)) r j))
    → (r j : ℕ) → r ≤ m → i - m + r ≤ j → j ≤ i
    → class (as_fraction (exact_entry (left_of m ts t) (right_of ts t) (λ k. get_or ps k (pos 0)) r j))
    ≡ entry rational_operations (rational_knot ts) (rational_coordinate ps) m (rational_parameter t 1) r j
unfolding exact_entry entry
entry-class ts ps m i t c C b zero j R l h = ap class (whole-ratio (get_or ps j (pos 0)))
entry-class ts ps m i t c C b (suc r) j R l h =
    let g = between ts ps m i t c r j R l h in
    let w = get_or ts (j + m - r) 0 in
    let z = get_or ts j 0 in
    let p = exact_entry (left_of m ts t) (right_of ts t) (λ k. get_or ps k (pos 0)) r (j - 1) in
    let q = exact_entry (left_of m ts t) (right_of ts t) (λ k. get_or ps k (pos 0)) r j in
    let before : i - m + r ≤ j - 1 = omega arith in
    let back : j - 1 ≤ i = omega arith in
    let here : i - m + r ≤ j = omega arith in
    cell-exact w t z p q g.from g.to (differences-above w t z g.from g.to g.some) (b r (j - 1) (le_of_lt R) before back).above_zero (b r j (le_of_lt R) here h).above_zero
    ∙ ap₂ (λ (x y : ℚ). cell rational_operations (whole_class w) (whole_class t) (whole_class z) x y)
    (entry-class ts ps m i t c C b r (j - 1) (le_of_lt R) before back)
    (entry-class ts ps m i t c C b r j (le_of_lt R) here h)
