-- A float and an exact ratio that differ by less than 1 / t, said with fractions: the float's own fraction, compared by cross-multiplying.
use mathlib.Core.Path.{◌≡◌, refl, sym, subst}
use mathlib.Core.Bool.{Bool, true, false, not, cond}
use mathlib.Core.List.{[], ◌∷◌}
use Prim.Native.Nat.{ℕ, zero, suc, ◌+◌, ◌-◌, ◌*◌, ◌≤◌, ◌<◌}
use native.Mathlib.Nat.{mul-pos, zero-lt-suc}
use native.Mathlib.Omega.{arith}
use lib.Dec.{T, ltb, lt→ltb, nltb→le}
use lib.IntN.{ℤ, pos, negsuc, neg_ℤ, ◌+ℤ◌, ◌-ℤ◌, ◌*ℤ◌, +ℤ_idl, +ℤ_idr}
use lib.Signed.{lt_z}
use lib.Ieee.{Float, nan, inf, fin, up}
use lib.Ieee.Fits.{down_pos}
use Rattle.algebra.specs.Operations.{sub}
use Rattle.algebra.proofs.Expressions.{var, ◌⊕◌, ◌⊗◌, ◌⊖◌, minus}
use Rattle.algebra.proofs.Solver.{ring}
use Rattle.algebra.proofs.IntegerRing.{integer_ring}
use Rattle.fractions.specs.Fraction.{over, sum, negation, fraction_operations}
use Rattle.fractions.specs.Order.{Below, DistanceBelow}
use Rattle.fractions.proofs.FractionLaws.{over-lower}
use Rattle.rounding.specs.FloatFraction.{upper_of, lower_of, float_fraction}
use Rattle.rounding.proofs.SignedError as Signs
use Rattle.rounding.proofs.Ratio.{Ratio}
use Rattle.rounding.proofs.RatioClass.{as_fraction}
use Rattle.rounding.proofs.Distance.{Apart, upper_plus, upper_minus}

pub lower-above-zero : (x : Float) → 0 < lower_of x
lower-above-zero nan = zero-lt-suc 0
lower-above-zero (inf s) = zero-lt-suc 0
lower-above-zero (fin s m e) = down_pos e

-- a float's upper number is the difference that `Apart` speaks of
signed : (s : Bool) (n : ℕ) → cond s (neg_ℤ (pos n)) (pos n) ≡ pos (Signs.plus s n) -ℤ pos (Signs.minus s n)
signed true n = sym (+ℤ_idl (neg_ℤ (pos n)))
signed false n = sym (+ℤ_idr (pos n))

upper-difference : (x : Float) → upper_of x ≡ pos (upper_plus x) -ℤ pos (upper_minus x)
upper-difference nan = refl
upper-difference (inf s) = refl
upper-difference (fin s m e) = signed s (m * up e)

-- x - y < z from x < y + z
difference_below : (x y z : ℕ) → x < y + z → T (lt_z (pos x -ℤ pos y) (pos z))
difference_below x zero z h = lt→ltb (x + 0) z (omega arith)
difference_below x (suc y) z h = go (ltb x (suc y)) (nltb→le x (suc y))
  where
    go : (b : Bool) → (T (not b) → suc y ≤ x) → T (lt_z (cond b (negsuc (suc y - suc x)) (pos (x - suc y))) (pos z))
    go true k = tt
    go false k =
        let l = k tt in
        lt→ltb (x - suc y) z (omega arith)

same-lower : (d k : ℕ) → 0 < d * k → 1 * suc (d * k - 1) ≡ d * k
same-lower d k P = omega arith

-- (p - n) / d - (g - h) / k < 1 / t, from the products that `Apart` compares
below_of : (p n g h d k t : ℕ) → 0 < d → 0 < k → 0 < t → (p * k + h * d) * t < (n * k + g * d) * t + d * k
    → Below (sub fraction_operations (over (pos p -ℤ pos n) d) (over (pos g -ℤ pos h) k)) (over (pos 1) t)
unfolding sum negation
below_of p n g h d k t D K P l =
    rw (over-lower (pos p -ℤ pos n) d D, over-lower (pos g -ℤ pos h) k K, over-lower (pos 1) t P, same-lower d k (mul-pos D K))
    (record { lt = subst (λ (z : ℤ). T (lt_z z (pos (d * k)))) (sym (regroup p n g h d k t)) (difference_below ((p * k + h * d) * t) ((n * k + g * d) * t) (d * k) l) })
  where
    regroup : (p n g h d k t : ℕ) → ((pos p -ℤ pos n) *ℤ pos k +ℤ neg_ℤ (pos g -ℤ pos h) *ℤ pos d) *ℤ pos t ≡ pos ((p * k + h * d) * t) -ℤ pos ((n * k + g * d) * t)
    regroup p n g h d k t =
        ring integer_ring (pos p ∷ pos n ∷ pos g ∷ pos h ∷ pos d ∷ pos k ∷ pos t ∷ [])
        (((var 0 ⊖ var 1) ⊗ var 5 ⊕ minus (var 2 ⊖ var 3) ⊗ var 4) ⊗ var 6) ((var 0 ⊗ var 5 ⊕ var 3 ⊗ var 4) ⊗ var 6 ⊖ (var 1 ⊗ var 5 ⊕ var 2 ⊗ var 4) ⊗ var 6) refl

turned : (p n g h d k t : ℕ) → (n * k + g * d) * t < (p * k + h * d) * t + d * k → (g * d + n * k) * t < (h * d + p * k) * t + k * d
turned p n g h d k t l = omega arith

-- the float differs from the ratio by less than 1 / t
pub apart-distance : (t : ℕ) (x : Float) (q : Ratio) → 0 < t → 0 < q.under → Apart t x q → DistanceBelow (float_fraction x) (as_fraction q) (over (pos 1) t)
apart-distance t x q P K a =
    let p = upper_plus x in
    let n = upper_minus x in
    let d = lower_of x in
    subst (λ (z : ℤ). DistanceBelow (over z d) (as_fraction q) (over (pos 1) t)) (sym (upper-difference x))
    (record {
      above = below_of p n q.more q.less d q.under t (lower-above-zero x) K P a.above;
      under = below_of q.more q.less p n q.under d t K (lower-above-zero x) P (turned p n q.more q.less d q.under t a.below);
    })
