-- The numbers of a clamped polygon, on one axis of a curve whose first and last span are not empty: no lower number is zero, and all lie on the grid.
use mathlib.Core.Bool.{Bool, true, false, cond}
use mathlib.Core.List.{List}
use mathlib.Core.Path.{◌≡◌, refl}
use Prim.Native.Nat.{ℕ, ◌+◌, ◌-◌, ◌*◌, ◌≤◌, ◌<◌}
use native.Mathlib.Nat.{mul_comm, div-le_of_le-mul}
use native.Mathlib.Omega.{arith}
use lib.Dec.{leb}
use lib.IntN.{ℤ, pos, nat_abs}
use lib.ListN.{length, get_or}
use borrow.Author.Tests.{leb-true}
use Rattle.signed.proofs.SizeLaws.{nat_abs-quot}
use Rattle.curve.specs.Lists.{NeverFall}
use Rattle.grid.specs.Limits.{coordinate_most}
use Rattle.clamping.specs.declared.Share.{Share}
use Rattle.clamping.specs.EndRows.{end_number, start_of, finish_of}
use Rattle.clamping.specs.Clamping.{clamped_number, whole_of}
use Rattle.clamping.proofs.BoundLaws.{row-bounded, row-lower}

-- a number is one of the start or one of the end
pub by_end : (m : ℕ) (ts : List ℕ) (ps : List ℤ) (P : Share → Type 0) (j : ℕ)
    → (j + 2 ≤ m → P (end_number (start_of m ts ps) m j)) → P (end_number (finish_of ts ps) m (length ps - 1 - j)) → P (clamped_number m ts ps j)
unfolding clamped_number
by_end m ts ps P j start finish = go (leb (j + 2) m) refl
  where
    go : (b : Bool) → leb (j + 2) m ≡ b → P (cond b (end_number (start_of m ts ps) m j) (end_number (finish_of ts ps) m (length ps - 1 - j)))
    go true e = start (leb-true (j + 2) m e)
    go false e = finish

module _ (m : ℕ) (ts : List ℕ) (ps : List ℤ) (enough : m + 1 ≤ length ps) (long : length ts ≡ length ps + m + 1) (rising : NeverFall ts) where
  -- the knots inside lie apart from the ends
  pub start-apart : get_or ts m 0 < get_or ts (m + 1) 0 → (k : ℕ) → 0 < k → k ≤ m → 0 < (start_of m ts ps).inside k
  start-apart wide k l u = omega (arith, rising (m + 1) (m + k) (omega arith) (omega arith))

  pub finish-apart : get_or ts (length ps - 1) 0 < get_or ts (length ps) 0 → (k : ℕ) → 0 < k → 0 < (finish_of ts ps).inside k
  finish-apart wide k l = omega (arith, rising (length ps - k) (length ps - 1) (omega arith) (omega arith))

  module _ (first-wide : get_or ts m 0 < get_or ts (m + 1) 0) (last-wide : get_or ts (length ps - 1) 0 < get_or ts (length ps) 0) where
    pub number-lower : (j : ℕ) → 0 < (clamped_number m ts ps j).lower
    number-lower j =
        by_end m ts ps (λ a. 0 < a.lower) j
        (λ h. row-lower (start_of m ts ps) m (m - 1 - j) j (λ k l u. start-apart first-wide k (omega arith) (omega arith)))
        (row-lower (finish_of ts ps) m (m - 1 - (length ps - 1 - j)) (length ps - 1 - j) (λ k l u. finish-apart last-wide k (omega arith)))

-- on the grid where the points are
module _ (m : ℕ) (ts : List ℕ) (ps : List ℤ) (range : (k : ℕ) → nat_abs (get_or ps k (pos 0)) ≤ coordinate_most) where
  pub number-bounded : (j : ℕ) → nat_abs (clamped_number m ts ps j).upper ≤ coordinate_most * (clamped_number m ts ps j).lower
  number-bounded j =
      by_end m ts ps (λ a. nat_abs a.upper ≤ coordinate_most * a.lower) j
      (λ h. row-bounded (start_of m ts ps) m range (m - 1 - j) j)
      (row-bounded (finish_of ts ps) m (λ k. range (length ps - 1 - k)) (m - 1 - (length ps - 1 - j)) (length ps - 1 - j))

  pub whole-within : (j : ℕ) → nat_abs (whole_of (clamped_number m ts ps j)) ≤ coordinate_most
  whole-within j =
      let a = clamped_number m ts ps j in
      rw (nat_abs-quot a.upper a.lower) (div-le_of_le-mul a.lower (rw (mul_comm a.lower coordinate_most) (number-bounded j)))
