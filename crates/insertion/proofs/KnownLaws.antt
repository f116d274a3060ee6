-- A quotient of an insertion that is known in whole numbers: it is whole and is the new coordinate; one at a knot that is v already is the old point
-- before it.
use mathlib.Core.Bool.{true}
use mathlib.Core.List.{List}
use mathlib.Core.Path.{◌≡◌, sym, ap, ◌∙◌}
use Prim.Native.Nat.{ℕ, ◌+◌, ◌-◌, ◌≤◌, ◌<◌}
use native.Mathlib.Omega.{arith}
use lib.IntN.{ℤ, pos, ◌+ℤ◌, ◌-ℤ◌, ◌*ℤ◌, +ℤ_idl, +ℤ_invr, zero-*ℤ, *ℤ_comm}
use lib.ListN.{get_or}
use lib.Signed.{quot_z}
use Rattle.signed.specs.Division.{divides}
use Rattle.signed.proofs.DivisionLaws.{quot-of-product, product-divides}
use Rattle.signed.proofs.DifferenceLaws.{pos-sub}
use Rattle.insertion.specs.Insertion.{weighted_sum, weight}
use Rattle.insertion.specs.Sentences.{Quotient}
use Rattle.insertion.proofs.QuotientLaws.{weight-natural}

-- a factor above zero is taken out
pub factor-out : (d : ℕ) (x y : ℤ) → 0 < d → x *ℤ pos d ≡ y *ℤ pos d → x ≡ y
factor-out d x y some e = sym (quot-of-product x d some) ∙ ap (λ z. quot_z z (pos d)) e ∙ quot-of-product y d some

module _ (m : ℕ) (ts : List ℕ) (ps : List ℤ) (v j : ℕ) (low : get_or ts j 0 ≤ v) (high : v < get_or ts (j + m) 0) where
  abbrev below : ℕ
  below = get_or ts (j + m) 0 - get_or ts j 0

  quotient-product : (q : ℤ) → Quotient m ts ps v j q → q *ℤ pos below ≡ weighted_sum m ts ps v j
  unfolding weighted_sum
  quotient-product q e = ap (λ z. q *ℤ z) (sym (pos-sub (get_or ts (j + m) 0) (get_or ts j 0) (omega arith))) ∙ e

  pub quotient-whole : (q : ℤ) → Quotient m ts ps v j q → divides (weight m ts j) (weighted_sum m ts ps v j) ≡ true
  quotient-whole q e = rw (weight-natural m ts ps v j low high, ← (quotient-product q e)) (product-divides q below)

  pub quotient_is : (q : ℤ) → Quotient m ts ps v j q → quot_z (weighted_sum m ts ps v j) (weight m ts j) ≡ q
  quotient_is q e = rw (weight-natural m ts ps v j low high, ← (quotient-product q e)) (quot-of-product q below (omega arith))

  pub quotient-unique : (p q : ℤ) → Quotient m ts ps v j p → Quotient m ts ps v j q → p ≡ q
  quotient-unique p q e f = factor-out below p q (omega arith) (quotient-product p e ∙ sym (quotient-product q f))

-- where t_j is v, nothing of P_j is taken
pub quotient-old : (m : ℕ) (ts : List ℕ) (ps : List ℤ) (v j : ℕ) → get_or ts j 0 ≡ v → Quotient m ts ps v j (get_or ps (j - 1) (pos 0))
quotient-old m ts ps v j here =
    rw here
    (*ℤ_comm (get_or ps (j - 1) (pos 0)) (pos (get_or ts (j + m) 0) -ℤ pos v)
    ∙ sym
    (ap (λ z. z +ℤ (pos (get_or ts (j + m) 0) -ℤ pos v) *ℤ get_or ps (j - 1) (pos 0))
    (ap (λ z. z *ℤ get_or ps j (pos 0)) (+ℤ_invr (pos v)) ∙ zero-*ℤ (get_or ps j (pos 0)))
    ∙ +ℤ_idl ((pos (get_or ts (j + m) 0) -ℤ pos v) *ℤ get_or ps (j - 1) (pos 0))))
