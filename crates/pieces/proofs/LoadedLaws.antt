-- Four places that are filled one after the other.
use mathlib.Core.List.{List, [], ◌∷◌}
use mathlib.Core.Path.{◌≡◌, refl, ◌∙◌}
use Prim.Native.Nat.{ℕ, zero, suc, ◌+◌, ◌≤◌, ◌<◌}
use native.Mathlib.Decide.{ℕ_discrete}
use native.Mathlib.Omega.{arith}
use lib.IntN.{ℤ, pos}
use lib.ListN.{set, length-set}
use lib.Seq.{get_or-set_same, get_or-set_other}
use Rattle.insertion.specs.Insertion.{point_at}
use Rattle.pieces.specs.Loaded.{Loaded}

-- nothing is filled
pub loaded-none : (ps : List ℤ) (from : ℕ) → Loaded ps from 0 (pos 0 ∷ pos 0 ∷ pos 0 ∷ pos 0 ∷ [])
loaded-none ps from = record { places = refl; holds = λ k h. absurd (omega arith); unused = zeros }
  where
    zeros : (k : ℕ) → 0 ≤ k → k < 4 → point_at (pos 0 ∷ pos 0 ∷ pos 0 ∷ pos 0 ∷ []) k ≡ pos 0
    zeros zero h l = refl
    zeros (suc zero) h l = refl
    zeros (suc (suc zero)) h l = refl
    zeros (suc (suc (suc zero))) h l = refl
    zeros (suc (suc (suc (suc k)))) h l = absurd (omega arith)

-- one more
pub loaded-more : {ps row : List ℤ} {from count : ℕ} → Loaded ps from count row → count < 4 → (z : ℤ) → z ≡ point_at ps (from + count) → Loaded ps from (count + 1) (set row count z)
loaded-more {ps} {row} {from} {count} so inside z e =
    record { places = length-set row count z ∙ so.places; holds = holds; unused = unused }
  where
    holds : (k : ℕ) → k < count + 1 → point_at (set row count z) k ≡ point_at ps (from + k)
    holds k h =
        elim (ℕ_discrete k count) [
          | yes here ↦ rw here (get_or-set_same row count z (pos 0) (omega (arith, so.places)) ∙ e)
          | no other ↦ get_or-set_other row count k z (pos 0) other ∙ so.holds k (omega (arith, other))
        ]

    unused : (k : ℕ) → count + 1 ≤ k → k < 4 → point_at (set row count z) k ≡ pos 0
    unused k h l = get_or-set_other row count k z (pos 0) (λ e. omega arith) ∙ so.unused k (omega arith) l
