-- A number at an end is worked out from what was gathered of it alone.
use mathlib.Core.Path.{◌≡◌, ap}
use Prim.Native.Nat.{ℕ, zero, suc, ◌+◌, ◌-◌, ◌≤◌}
use native.Mathlib.Omega.{arith}
use Rattle.clamping.specs.declared.Share.{Share}
use Rattle.clamping.specs.EndRows.{End, whole, mean, end_row, end_number}
use Rattle.clamp_rows.specs.declared.ends.NearEnd.{NearEnd}
use Rattle.clamp_rows.specs.Ends.{as_end, Gathered}

mean-same : (d d' e e' : ℕ) (a a' b b' : Share) → d ≡ d' → a ≡ a' → e ≡ e' → b ≡ b' → mean d a e b ≡ mean d' a' e' b'
mean-same d d' e e' a a' b b' p q r s = rw (p, q, r, s)

module _ (e : NearEnd) (end : End) (g : Gathered e end) where
  inside-same : (j : ℕ) → 1 ≤ j → j ≤ 2 → (as_end e).inside j ≡ end.inside j
  inside-same j h l =
      let place : j - 1 + 1 ≡ j = omega arith in
      rw place at (g.inside (j - 1) (omega arith))

  outside-same : (j : ℕ) → 1 ≤ j → j ≤ 2 → (as_end e).outside j ≡ end.outside j
  outside-same j h l =
      let place : j - 1 + 1 ≡ j = omega arith in
      rw place at (g.outside (j - 1) (omega arith))

  row_same : (m r k : ℕ) → k + r + 1 ≤ m → m ≤ 3 → end_row (as_end e) m r k ≡ end_row end m r k
  unfolding end_row
  row_same m zero k h l = ap whole (g.point k (omega arith))
  row_same m (suc r) k h l =
      mean-same ((as_end e).inside (k + 1)) (end.inside (k + 1)) ((as_end e).outside (m - k - r - 1)) (end.outside (m - k - r - 1))
      (end_row (as_end e) m r k) (end_row end m r k) (end_row (as_end e) m r (k + 1)) (end_row end m r (k + 1))
      (inside-same (k + 1) (omega arith) (omega arith))
      (row_same m r k (omega arith) l)
      (outside-same (m - k - r - 1) (omega arith) (omega arith))
      (row_same m r (k + 1) (omega arith) l)

  pub number_same : (m k : ℕ) → k + 2 ≤ m → m ≤ 3 → end_number (as_end e) m k ≡ end_number end m k
  number_same m k h l = row_same m (m - 1 - k) k (omega arith) l
