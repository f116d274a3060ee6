-- One axis of a curve whose ends are clamped: no knot lies outside, so every row of an end is the old points, and so is the clamped polygon.
use mathlib.Core.Bool.{true}
use mathlib.Core.List.{List}
use mathlib.Core.Path.{◌≡◌, refl, sym, ap, ◌∙◌}
use Prim.Native.Nat.{ℕ, zero, suc, ◌+◌, ◌-◌, ◌*◌, ◌≤◌, ◌<◌}
use native.Mathlib.Nat.{add-zero, mul-zero, zero-mul, mul-one, mul_assoc, mul_comm, mul_left_comm}
use native.Mathlib.Omega.{arith}
use lib.IntN.{ℤ, pos, negsuc, neg_ℤ, ◌*ℤ◌, zero-*ℤ, +ℤ_idr}
use lib.ListN.{length, get_or}
use lib.Seq.{ext_get_or}
use Rattle.curve.specs.Lists.{NeverFall}
use Rattle.checked.specs.Checked.{Clamped}
use Rattle.clamping.specs.declared.Share.{Share}
use Rattle.clamping.specs.EndRows.{End, mean, end_row, start_of, finish_of}
use Rattle.clamping.specs.Clamping.{clamped_number, all_whole, clamped_points}
use Rattle.clamping.specs.Sentences.{IsThe}
use Rattle.clamping.proofs.NumberLaws.{by_end, number-lower}
use Rattle.clamping.proofs.WholeLaws.{whole-of-number, number-only, whole-of-each}
use Rattle.clamping.proofs.ClampedLaws.{points-length, points-at}

-- a product with a sign
times-neg : (a b : ℕ) → pos a *ℤ neg_ℤ (pos b) ≡ neg_ℤ (pos (a * b))
times-neg a zero = rw (mul-zero a)
times-neg a (suc b) = refl

-- a mean that takes nothing of its second number is the first one
rearranged : (d a b n : ℕ) → d * b * (n * a) ≡ n * ((d + 0) * (a * b))
rearranged d a b n = rw (add-zero d) (simp (mul_assoc, mul_comm, mul_left_comm))

regroup : (d a b : ℕ) (p : ℤ) → pos (d * b) *ℤ (p *ℤ pos a) ≡ p *ℤ pos ((d + 0) * (a * b))
regroup d a b (pos n) = ap pos (rearranged d a b n)
regroup d a b (negsuc n) = times-neg (d * b) (suc n * a) ∙ ap (λ (k : ℕ). neg_ℤ (pos k)) (rearranged d a b (suc n))

mean-stays : (z : ℤ) (d e : ℕ) (a b : Share) → e ≡ 0 → IsThe z a → IsThe z (mean d a e b)
unfolding mean
mean-stays z d e a b none h =
    rw (none, zero-mul a.lower, zero-*ℤ b.upper, ← h, +ℤ_idr (pos (d * b.lower) *ℤ (z *ℤ pos a.lower))) (sym (regroup d a.lower b.lower z))

times-one : (z : ℤ) → z *ℤ pos 1 ≡ z
times-one (pos n) = ap pos (mul-one n)
times-one (negsuc n) = ap (λ (k : ℕ). neg_ℤ (pos k)) (mul-one (suc n))

-- where no knot lies outside, every row is the old points
row_stays : (end : End) (m : ℕ) → ((l : ℕ) → l ≤ m → end.outside l ≡ 0) → (r k : ℕ) → IsThe (end.point k) (end_row end m r k)
unfolding end_row
row_stays end m none zero k = times-one (end.point k)
row_stays end m none (suc r) k =
    mean-stays (end.point k) _ _ (end_row end m r k) (end_row end m r (k + 1))
    (none _ (omega arith)) (row_stays end m none r k)

-- the numbers of one axis are whole, and are the old points
pub record AxisStays (m : ℕ) (ts : List ℕ) (ps : List ℤ) : Type 0 where
  pub whole : all_whole (clamped_number m ts ps) (length ps) ≡ true
  pub points : clamped_points m ts ps ≡ ps

-- one axis of a curve with clamped ends, whose first and last span are not empty
module _ (m : ℕ) (ts : List ℕ) (ps : List ℤ) (ends : Clamped m ts (length ps)) (enough : m + 1 ≤ length ps) (long : length ts ≡ length ps + m + 1)
    (rising : NeverFall ts) (first-wide : get_or ts m 0 < get_or ts (m + 1) 0) (last-wide : get_or ts (length ps - 1) 0 < get_or ts (length ps) 0) where
  number-stays : (j : ℕ) → j < length ps → IsThe (get_or ps j (pos 0)) (clamped_number m ts ps j)
  number-stays j l =
      let place : length ps - 1 - (length ps - 1 - j) ≡ j = omega arith in
      by_end m ts ps (IsThe (get_or ps j (pos 0))) j
      (λ h. row_stays (start_of m ts ps) m (λ k u. omega (arith, ends.firsts (m - k) (omega arith))) (m - 1 - j) j)
      (rw place at (row_stays (finish_of ts ps) m (λ k u. omega (arith, ends.lasts (length ps + k) (omega arith) (omega arith)))
      (m - 1 - (length ps - 1 - j)) (length ps - 1 - j)))

  each_whole : all_whole (clamped_number m ts ps) (length ps) ≡ true
  each_whole = whole-of-each (clamped_number m ts ps) (length ps) (λ j l. whole-of-number (clamped_number m ts ps j) (get_or ps j (pos 0)) (number-stays j l))

  points-stay : clamped_points m ts ps ≡ ps
  points-stay =
      ext_get_or (pos 0) (clamped_points m ts ps) ps (points-length m ts ps)
      (λ j inside.
      let l : j < length ps = rw (points-length m ts ps) at inside in
      points-at m ts ps j l
      ∙ number-only (clamped_number m ts ps j) (get_or ps j (pos 0)) (number-lower m ts ps enough long rising first-wide last-wide j) (number-stays j l))

  pub axis-stays : AxisStays m ts ps
  axis-stays = record { whole = each_whole; points = points-stay }
