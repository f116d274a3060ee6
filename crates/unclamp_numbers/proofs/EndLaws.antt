-- What is worked out from the knots and points at the end is what the definition says.
use mathlib.Core.List.{List}
use mathlib.Core.Path.{◌≡◌}
use Prim.Native.Nat.{ℕ, ◌+◌, ◌-◌, ◌≤◌, ◌<◌}
use native.Mathlib.Omega.{arith}
use lib.IntN.{ℤ, pos, ◌-ℤ◌, ◌*ℤ◌}
use lib.ListN.{length, get_or}
use Rattle.curve.specs.Lists.{NeverFall}
use Rattle.clamping.specs.EndRows.{finish_of}
use Rattle.unclamping.specs.Unclamping.{open_second, open_first, open_number}
use Rattle.unclamping.proofs.EntryLaws.{last-of-two}
use Rattle.unclamp_numbers.specs.Standing.{Ending}

-- two spans next to each other
pub spans-sum : (ts : List ℕ) (count : ℕ) → NeverFall ts → 2 ≤ count → count < length ts
    → (get_or ts (count - 2 + 1) 0 - get_or ts (count - 2) 0) + (get_or ts (count - 1 + 1) 0 - get_or ts (count - 1) 0) ≡ get_or ts count 0 - get_or ts (count - 2) 0
spans-sum ts count rises some inside =
    let middle : count - 2 + 1 ≡ count - 1 = omega arith in
    let end : count - 1 + 1 ≡ count = omega arith in
    rw (middle, end) (omega (arith, rises (count - 2) (count - 1) (omega arith) (omega arith), rises (count - 1) count (omega arith) inside))

module _ (ts : List ℕ) (ps : List ℤ) (some : 3 ≤ length ps) where
  -- the last point but one, of degree 3
  pub second_is : (two last : ℕ) (r : ℤ) → two ≡ get_or ts (length ps) 0 - get_or ts (length ps - 2) 0 → last ≡ get_or ts (length ps - 1 + 1) 0 - get_or ts (length ps - 1) 0
      → r ≡ pos (two + last) *ℤ get_or ps (length ps - 2) (pos 0) -ℤ pos last *ℤ get_or ps (length ps - 3) (pos 0)
      → r ≡ (open_second (finish_of ts ps)).upper
  unfolding open_second
  second_is two last r a b e =
      let end : length ps - 1 + 1 ≡ length ps = omega arith in
      let first : length ps - 1 - 1 ≡ length ps - 2 = omega arith in
      let second : length ps - 1 - 2 ≡ length ps - 3 = omega arith in
      let width : last ≡ get_or ts (length ps) 0 - get_or ts (length ps - 1) 0 = rw end at b in
      rw (first, second, ← a, ← width) e

  -- the last point
  pub first-is : (two : ℕ) (second r : ℤ) → two ≡ get_or ts (length ps) 0 - get_or ts (length ps - 2) 0 → second ≡ (open_second (finish_of ts ps)).upper
      → r ≡ pos two *ℤ (pos 6 *ℤ get_or ps (length ps - 1) (pos 0) -ℤ pos 3 *ℤ get_or ps (length ps - 2) (pos 0)) -ℤ pos 2 *ℤ second
      → r ≡ (open_first (finish_of ts ps)).upper
  unfolding open_first
  first-is two second r a b e =
      let last : length ps - 1 - 0 ≡ length ps - 1 = omega arith in
      let first : length ps - 1 - 1 ≡ length ps - 2 = omega arith in
      rw (last, first, ← a, ← b) e

  -- of degree 2
  pub twice-less-is : (m k : ℕ) (r : ℤ) → m ≡ 2 → k + 1 < m → r ≡ pos 2 *ℤ get_or ps (length ps - 1) (pos 0) -ℤ get_or ps (length ps - 2) (pos 0)
      → r ≡ (open_number (finish_of ts ps) m k).upper
  twice-less-is m k r degree inside e =
      let last : length ps - 1 - 0 ≡ length ps - 1 = omega arith in
      let first : length ps - 1 - 1 ≡ length ps - 2 = omega arith in
      rw (last-of-two (finish_of ts ps) m k degree (omega arith), last, first) e

-- the last two spans are not empty
pub two-spans-some : (m : ℕ) (ts : List ℕ) (ps : List ℤ) → Ending m ts ps → 2 ≤ m → 0 < get_or ts (length ps) 0 - get_or ts (length ps - 2) 0
two-spans-some m ts ps s degree =
    omega (arith, s.last, s.enough, s.rises (length ps - 2) (length ps - 1) (omega (arith, s.enough)) (omega (arith, s.count)))
