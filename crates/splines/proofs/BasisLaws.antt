-- The Cox-de Boor basis is local, and at least zero wherever the knots up to i+r never fall and t lies in span i, its right
-- end included. Others may cite `basis-at`, `basis-step`, `basis-local`, `basis-nonneg` (and `basis-unity` of HullLaws).
use mathlib.Core.Path.{◌≡◌, refl, ap, ap₂, sym, ◌∙◌}
use mathlib.Core.Bool.{true}
use Prim.Native.Nat.{ℕ, zero, suc, ◌+◌, ◌≤◌}
use native.Mathlib.Omega.{arith}
use native.Mathlib.Decide.{ℕ_discrete, dec_le}
use borrow.Author.Tests.{ne_eqb, eq-eqb}
use Rattle.algebra.specs.Operations.{sub, div}
use Rattle.algebra.specs.OrderedField.{OrderedField, AtMost}
use Rattle.algebra.specs.Ring.{field_ring}
use Rattle.algebra.proofs.RingLaws as Law
use Rattle.algebra.proofs.FieldLaws.{nonneg-zero}
use Rattle.algebra.proofs.OrderLaws.{sign-equal, nonneg-one, div-nonneg}
use Rattle.splines.specs.Basis.{basis}
use Rattle.splines.specs.Span.{Rising, InSpan}
use Rattle.splines.proofs.SpanLaws.{left-of, right_of}

module _ (F : OrderedField) where
  open F use {operations as O, laws, nonneg}
  open O use {Number, add, mul}

  -- the two factors of N_{j,r} in the row after it: (t - t_j)/(t_{j+r+1} - t_j) on the way up ..
  abbrev pub rise : (ts : ℕ → Number) (t : Number) (r j : ℕ) → Number
  rise ts t r j = div O (sub O t (ts j)) (sub O (ts (j + suc r)) (ts j))

  -- .. and (t_{j+r+1} - t)/(t_{j+r+1} - t_j) on the way down
  abbrev pub fall : (ts : ℕ → Number) (t : Number) (r j : ℕ) → Number
  fall ts t r j = div O (sub O (ts (j + suc r)) t) (sub O (ts (j + suc r)) (ts j))

  module _ (ts : ℕ → Number) (i : ℕ) (t : Number) where
    pub basis-at : basis O ts i t 0 i ≡ O.one
    unfolding basis
    basis-at = rw (eq-eqb i i refl)

    pub basis-step : (r j : ℕ)
        → basis O ts i t (suc r) j
        ≡ add (mul (rise ts t r j) (basis O ts i t r j)) (mul (fall ts t r (j + 1)) (basis O ts i t r (j + 1)))
    unfolding basis
    basis-step r j = rw (← same)
      where
        same : j + suc r + 1 ≡ j + 1 + suc r
        same = omega arith

    -- N_{j,r} is zero unless j is one of the r+1 indices that end with the span's
    pub basis-local : (r j : ℕ) → (i ≤ j + r → j ≤ i → ⊥) → basis O ts i t r j ≡ O.zero
    unfolding basis
    basis-local zero j out = rw (ne_eqb j i (λ e. out (omega arith) (omega arith)))
    basis-local (suc r) j out =
        ap₂ add
        (ap (mul _) (basis-local r j (λ h k. out (omega arith) (omega arith))) ∙ Law.mul-zero (field_ring F) _)
        (ap (mul _) (basis-local r (j + 1) (λ h k. out (omega arith) (omega arith))) ∙ Law.mul-zero (field_ring F) _)
        ∙ laws.add-zero _

    -- a factor that is at least zero where N_{j,r} is carried, times N_{j,r}
    weighted-nonneg : (x : Number) (r j : ℕ) → (i ≤ j + r → j ≤ i → nonneg x ≡ true) → nonneg (basis O ts i t r j) ≡ true
        → nonneg (mul x (basis O ts i t r j)) ≡ true
    weighted-nonneg x r j here h =
        elim (dec_le i (j + r)) [
          | no a ↦ outside (λ c d. a c)
          | yes a ↦ elim (dec_le j i) [ no b ↦ outside (λ c d. b d) | yes b ↦ laws.nonneg-mul _ _ (here a b) h ]
        ]
      where
        outside : (i ≤ j + r → j ≤ i → ⊥) → nonneg (mul x (basis O ts i t r j)) ≡ true
        outside out =
            sign-equal F _ _ true (sym (ap (mul x) (basis-local r j out) ∙ Law.mul-zero (field_ring F) x)) (nonneg-zero F)

  module _ (ts : ℕ → Number) (last i : ℕ) (t : Number) (rising : Rising F ts last) (span : InSpan F ts i t) where
    pub basis-nonneg : (r j : ℕ) → i + r ≤ last → nonneg (basis O ts i t r j) ≡ true
    basis-nonneg zero j h =
        elim (ℕ_discrete j i) [
          | yes e ↦ sign-equal F _ _ true (sym (ap (basis O ts i t 0) e ∙ basis-at ts i t)) (nonneg-one F)
          | no e ↦ sign-equal F _ _ true (sym (basis-local ts i t 0 j (λ a b. e (omega arith)))) (nonneg-zero F)
        ]
    basis-nonneg (suc r) j h =
        sign-equal F _ _ true (sym (basis-step ts i t r j))
        (laws.nonneg-add _ _
        (weighted-nonneg ts i t (rise ts t r j) r j
        (λ a b. div-nonneg F _ _ (left-of F ts last i t rising span j b (omega arith)) (width j (omega arith)))
        (basis-nonneg r j (omega arith)))
        (weighted-nonneg ts i t (fall ts t r (j + 1)) r (j + 1)
        (λ a b.
        div-nonneg F _ _ (right_of F ts last i t rising span (j + 1 + suc r) (omega arith) (omega arith))
        (width (j + 1) (omega arith)))
        (basis-nonneg r (j + 1) (omega arith))))
      where
        width : (j : ℕ) → j + suc r ≤ last → AtMost F (ts j) (ts (j + suc r))
        width j k = rising j (j + suc r) (omega arith) k
