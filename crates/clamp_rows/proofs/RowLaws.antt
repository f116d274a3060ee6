-- How large the numbers are that are worked out at an end which was gathered.
use mathlib.Core.Path.{◌≡◌}
use Prim.Native.Nat.{ℕ, ◌+◌, ◌-◌, ◌^◌, ◌≤◌, ◌<◌}
use native.Mathlib.Decide.{ℕ_discrete}
use native.Mathlib.Nat.{le_trans, mul-le-mul_left}
use native.Mathlib.Omega.{arith}
use lib.IntN.{ℤ, nat_abs}
use lib.ListN.{get_or}
use mir.Syntax.{w64}
use mir.Val.{to_z, of_z}
use mir.Facts.{to_z-of_z}
use Rattle.signed.proofs.FitLaws.{fits64-of-size}
use Rattle.grid.specs.Limits.{coordinate_most, knot_most}
use Rattle.insertion.specs.Insertion.{point_at}
use Rattle.clamping.specs.declared.Share.{Share}
use Rattle.clamping.specs.EndRows.{End, whole, mean, end_row, end_number}
use Rattle.clamping.proofs.BoundLaws.{row-bounded, row-lower, first-row-most, second-row-most}
use Rattle.clamp_rows.specs.declared.ends.NearEnd.{NearEnd}
use Rattle.clamp_rows.specs.Near.{Small, Sized, Near}
use Rattle.clamp_rows.specs.Ends.{as_end}

-- a point is small
pub point-small : (z : ℤ) → nat_abs z ≤ coordinate_most → Small (record { upper = z; lower = 1 })
point-small z h = record { lower = omega arith; upper = omega (arith, h) }

-- the first row: the knot inside that the entry has, and the knot outside that belongs to it
pub first-is : (e : NearEnd) (m k : ℕ) → mean (get_or e.inside k 0) (whole (point_at e.point k)) (get_or e.outside (m - k - 2) 0) (whole (point_at e.point (k + 1))) ≡ end_row (as_end e) m 1 k
unfolding end_row
first-is e m k =
    let inner : k + 1 - 1 ≡ k = omega arith in
    let outer : m - k - 0 - 1 - 1 ≡ m - k - 2 = omega arith in
    rw (inner, outer)

-- which row a number stands in
pub of-first-row : (end : End) (m k : ℕ) → k + 2 ≡ m → end_row end m 1 k ≡ end_number end m k
of-first-row end m k h = let one : m - 1 - k ≡ 1 = omega arith in rw one

pub of-second-row : (e : NearEnd) (m k : ℕ) → m ≡ 3 → k ≡ 0
    → mean (get_or e.inside 0 0) (end_row (as_end e) 3 1 0) (get_or e.outside 0 0) (end_row (as_end e) 3 1 1) ≡ end_number (as_end e) m k
unfolding end_row
of-second-row e m k three none = rw (three, none)

module _ (e : NearEnd) (s : Near e.inside e.outside e.point) where
  within : (j l : ℕ) → (as_end e).inside j + (as_end e).outside l ≤ knot_most
  within j l = s.within (j - 1) (l - 1)

  -- a point is read as it was gathered
  pub point-read : (k : ℕ) → to_z w64 (of_z w64 (point_at e.point k)) ≡ point_at e.point k
  point-read k = to_z-of_z (fits64-of-size (point_at e.point k) (omega (arith, s.range k)))

  -- the first row is small
  pub first_small : (m k : ℕ) → Small (end_row (as_end e) m 1 k)
  first_small m k =
      let lower = first-row-most (as_end e) m knot_most within k in
      record { lower = lower; upper = le_trans (row-bounded (as_end e) m s.range 1 k) (mul-le-mul_left coordinate_most lower) }

  -- no number of the first two rows is too large
  rows-sized : (m r k : ℕ) → k + r ≤ 2 → (end_row (as_end e) m r k).lower < 2 ^ 63 → Sized (end_row (as_end e) m r k)
  rows-sized m r k h most =
      record {
        above = row-lower (as_end e) m r k (λ j a b. s.apart (j - 1) (omega arith));
        most = most;
        range = row-bounded (as_end e) m s.range r k;
      }

  number-sized : (m k : ℕ) → k + 2 ≤ m → m ≤ 3 → Sized (end_number (as_end e) m k)
  number-sized m k h l =
      elim (ℕ_discrete (m - 1 - k) 1) [
        | yes one ↦ rw one (rows-sized m 1 k (omega arith) (omega (arith, first-row-most (as_end e) m knot_most within k)))
        | no more ↦ (
            let two : m - 1 - k ≡ 2 = omega (arith, more) in
            rw two (rows-sized m 2 k (omega (arith, two)) (omega (arith, second-row-most (as_end e) m knot_most within k)))
            )
      ]

  pub number-told : (r : Share) (m k : ℕ) → k + 2 ≤ m → m ≤ 3 → r ≡ end_number (as_end e) m k → (r ≡ end_number (as_end e) m k) × Sized r
  number-told r m k h l is = (is, rw is (number-sized m k h l))
