-- Which of the numbers of a clamped polygon a point is: one of the start, one of the end, or an old point.
use mathlib.Core.Bool.{true}
use mathlib.Core.List.{List}
use mathlib.Core.Path.{◌≡◌, sym, ap, ◌∙◌}
use Prim.Native.Nat.{ℕ, ◌+◌, ◌-◌, ◌≤◌, ◌<◌}
use native.Mathlib.Omega.{arith}
use lib.IntN.{ℤ, one, *ℤ-one}
use lib.ListN.{length}
use borrow.Author.Tests.{le-leb, lt-leb}
use Rattle.insertion.specs.Insertion.{point_at}
use Rattle.clamping.specs.EndRows.{whole, end_row, end_number, start_of, finish_of}
use Rattle.clamping.specs.Clamping.{clamped_number, is_whole, whole_of, clamped_points}
use Rattle.clamping.proofs.ClampedLaws.{points-at}
use Rattle.clamping.proofs.WholeLaws.{whole-of-number, number-only}
use Rattle.clamp_rows.specs.declared.ends.NearEnd.{NearEnd}
use Rattle.clamp_rows.specs.Ends.{as_end, Gathered}
use Rattle.clamp_rows.proofs.SameLaws.{number_same}

-- an old point is whole, and is itself
pub point-whole : (z : ℤ) → is_whole (whole z) ≡ true
unfolding one
point-whole z = whole-of-number (whole z) z (*ℤ-one z)

pub point-value : (z : ℤ) → whole_of (whole z) ≡ z
unfolding one
point-value z = number-only (whole z) z (omega arith) (*ℤ-one z)

module _ (m : ℕ) (ts : List ℕ) (ps : List ℤ) where
  at-start : (j : ℕ) → j + 2 ≤ m → clamped_number m ts ps j ≡ end_number (start_of m ts ps) m j
  unfolding clamped_number
  at-start j h = rw (le-leb (j + 2) m h)

  at-finish : (j : ℕ) → m < j + 2 → clamped_number m ts ps j ≡ end_number (finish_of ts ps) m (length ps - 1 - j)
  unfolding clamped_number
  at-finish j h = rw (lt-leb (j + 2) m h)

  -- as worked out from what was gathered
  pub start-number : (e : NearEnd) → Gathered e (start_of m ts ps) → m ≤ 3 → (j : ℕ) → j + 2 ≤ m → end_number (as_end e) m j ≡ clamped_number m ts ps j
  start-number e g most j h = number_same e (start_of m ts ps) g m j h most ∙ sym (at-start j h)

  pub finish-number : (e : NearEnd) → Gathered e (finish_of ts ps) → m ≤ 3 → (j : ℕ) → m < j + 2 → length ps - 1 - j + 2 ≤ m
      → end_number (as_end e) m (length ps - 1 - j) ≡ clamped_number m ts ps j
  finish-number e g most j h l = number_same e (finish_of ts ps) g m (length ps - 1 - j) l most ∙ sym (at-finish j h)

  -- between them
  old-point : (k : ℕ) → m < k + 2 → end_number (finish_of ts ps) m k ≡ whole (point_at ps (length ps - 1 - k))
  unfolding end_row
  old-point k h = let none : m - 1 - k ≡ 0 = omega arith in rw none

  pub between : (j : ℕ) → j < length ps → m < j + 2 → m < length ps - 1 - j + 2 → clamped_number m ts ps j ≡ whole (point_at ps j)
  between j l h u =
      let place : length ps - 1 - (length ps - 1 - j) ≡ j = omega arith in
      at-finish j h ∙ old-point (length ps - 1 - j) u ∙ ap (λ (k : ℕ). whole (point_at ps k)) place

  -- all points but the first m - 1 and the last m - 1 are kept
  pub points_kept : (j : ℕ) → m - 1 ≤ j → j + (m - 1) < length ps → point_at ps j ≡ point_at (clamped_points m ts ps) j
  points_kept j low high =
      let l : j < length ps = omega arith in
      sym (points-at m ts ps j l ∙ ap whole_of (between j l (omega arith) (omega arith)) ∙ point-value (point_at ps j))
