-- Where a coordinate comes from the right side.
use mathlib.Core.List.{List}
use mathlib.Core.Path.{◌≡◌, sym, ap, ◌∙◌}
use Prim.Native.Nat.{ℕ, ◌+◌, ◌-◌, ◌≤◌, ◌<◌}
use native.Mathlib.Omega.{arith}
use lib.IntN.{ℤ}
use lib.ListN.{length, get_or}
use Rattle.insertion.specs.Insertion.{insertion_span, point_at}
use Rattle.insertion.proofs.OrderLaws.{either}
use Rattle.removal.specs.Axis.{Reduced, AxisReinserts}
use Rattle.removal.proofs.EquationLaws.{reinserts-right, reinserts-double, reduced-low, reduced-high}

module _ (m : ℕ) (ks : List ℕ) (v : ℕ) (ps : List ℤ) (s : Reduced m ks (length ps - 1) v) (j : ℕ) (inside : j + 1 < length ps) where
  -- where the next knot is not below v the entry comes from the right side
  pub known-right : (q : List ℤ) → AxisReinserts m ks q v ps → insertion_span ks v < j + m → v ≤ get_or ks (j + 1) 0 → point_at q j ≡ point_at ps (j + 1)
  known-right q h a b =
      either (insertion_span ks v) (j + 1)
      (λ far. reinserts-right m ks v (length ps - 1) s q ps (omega arith) h j (omega arith) (omega arith))
      (λ near.
      let same : get_or ks (j + 1) 0 ≡ v = omega (arith, reduced-low m ks v (length ps - 1) s (j + 1) near) in
      let back : j + 1 - 1 ≡ j = omega arith in
      ap (λ (n : ℕ). point_at q n) (sym back) ∙ reinserts-double m ks v (length ps - 1) s q ps (omega arith) h (j + 1) (omega arith) near same)

  -- else the next knot is still left of the span's end
  pub next-left : get_or ks (j + 1) 0 < v → j + 1 ≤ insertion_span ks v
  next-left b =
      either (insertion_span ks v) (j + 1)
      (λ far. absurd (omega (arith, reduced-high m ks v (length ps - 1) s (j + 1) far (omega (arith, s.knots)))))
      (λ near. near)
