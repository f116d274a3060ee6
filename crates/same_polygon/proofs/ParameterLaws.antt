-- Every rational number of a span, its right end left out, is a parameter p/q of this very span: `on-span`.
use mathlib.Core.HLevel.{Π_prop}
use mathlib.Core.Path.{◌≡◌, subst}
use mathlib.Core.Quot.{ind}
use Prim.Native.Nat.{ℕ, suc, ◌*◌, ◌-◌, ◌≤◌, ◌<◌}
use native.Mathlib.Decide.{dec_le}
use native.Mathlib.Omega.{arith}
use lib.IntN.{ℤ, pos, negsuc, ◌*ℤ◌}
use Rattle.algebra.specs.OrderedField.{AtMost, Below}
use Rattle.algebra.proofs.OrderLaws as Order
use Rattle.fractions.specs.Fraction.{whole_n, over}
use Rattle.fractions.specs.Order as Fraction
use Rattle.fractions.proofs.Rational.{ℚ, class, rational}
use Rattle.fractions.proofs.SignLaws.{true_of}
use Rattle.fractions.proofs.ClassLaws.{class-at-most}
use Rattle.exact.proofs.SpanLaws.{knot-at-most}
use Rattle.exact.proofs.ExactLaws.{rational_parameter}
use Rattle.signed.proofs.OrderLaws.{le_z-true}
use Rattle.signed.proofs.PartLaws.{times-up, times_down}

-- no whole number is at most a fraction below zero
not-below-zero : (t k l : ℕ) → Fraction.AtMost (whole_n t) (record { upper = negsuc k; lower_less = l }) → ⊥
not-below-zero t k l h =
    let order = le_z-true (pos t *ℤ pos (suc l)) (negsuc k *ℤ pos 1) (true_of _ h.le) in
    omega (arith, rw (times-up (pos t) (suc l), times_down (pos t) (suc l), times-up (negsuc k) 1, times_down (negsuc k) 1) at order)

-- a statement of rational numbers that holds of every parameter p/q with low ≤ p/q < high holds of every number between
module _ (P : ℚ → Type 0) (single : (t : ℚ) → IsProp (P t)) (low high : ℕ)
    (each : (p q : ℕ) → 0 < q → low * q ≤ p → p < high * q → P (rational_parameter p q)) where
  at-fraction : (z : ℤ) (l : ℕ) → AtMost rational (class (whole_n low)) (class (record { upper = z; lower_less = l }))
      → Below rational (class (record { upper = z; lower_less = l })) (class (whole_n high)) → P (class (record { upper = z; lower_less = l }))
  at-fraction (pos p) l =
      let same : suc l - 1 ≡ l = omega arith in
      subst
      (λ (k : ℕ). AtMost rational (class (whole_n low)) (class (record { upper = pos p; lower_less = k }))
      → Below rational (class (record { upper = pos p; lower_less = k })) (class (whole_n high)) → P (class (record { upper = pos p; lower_less = k })))
      same
      (λ above below.
      let from = (knot-at-most low p (suc l) (omega arith)).1 ((class-at-most (whole_n low) (over (pos p) (suc l))).1 above) in
      elim (dec_le (high * suc l) p) [
        | yes past ↦
            absurd (Order.not-AtMost-of-below rational _ _ below
            ((class-at-most (whole_n high) (over (pos p) (suc l))).0 ((knot-at-most high p (suc l) (omega arith)).0 past)))
        | no inside ↦ each p (suc l) (omega arith) from (omega arith)
      ])
  at-fraction (negsuc k) l = λ above below. absurd (not-below-zero low k l ((class-at-most (whole_n low) (record { upper = negsuc k; lower_less = l })).1 above))

  pub on-span : (t : ℚ) → AtMost rational (class (whole_n low)) t → Below rational t (class (whole_n high)) → P t
  on-span =
      ind {β = λ t. AtMost rational (class (whole_n low)) t → Below rational t (class (whole_n high)) → P t}
      (λ t. Π_prop (λ a. Π_prop (λ b. single t)))
      (λ a. at-fraction a.upper a.lower_less)
