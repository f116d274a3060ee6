-- The last m - 1 points of one axis: what judging them says, and the list of the points as it is written.
use mathlib.Core.Bool.{true, false, true≢false}
use mathlib.Core.List.{List}
use mathlib.Core.Path.{◌≡◌, sym, ap, ◌∙◌}
use Prim.Native.Nat.{ℕ, ◌+◌, ◌-◌, ◌≤◌, ◌<◌}
use native.Mathlib.Omega.{arith}
use lib.IntN.{ℤ, pos}
use lib.ListN.{length, get_or, take}
use Rattle.refusal.proofs.JudgingLaws.{both}
use Rattle.signed.specs.Division.{divides}
use Rattle.lent.specs.Lent.{over}
use Rattle.lent.proofs.StoreLaws.{Stored}
use Rattle.grid.specs.Rows.{on_grid, all_on_grid}
use Rattle.grid.proofs.FlagLaws.{fails}
use Rattle.checked.proofs.GridLaws.{grid-each}
use Rattle.insertion.proofs.PartLaws.{same-front, front-copied}
use Rattle.clamping.specs.declared.Share.{Share}
use Rattle.clamping.specs.EndRows.{finish_of}
use Rattle.clamping.specs.Clamping.{is_whole, whole_of}
use Rattle.unclamping.specs.Unclamping.{open_number, open_points, opens_on}
use Rattle.unclamping.proofs.EntryLaws.{whole_is, open_points-length, open_points-at, point-old}
use Rattle.unclamping.proofs.AxisLaws.{Fits, axis-each, axis-opens}
use Rattle.unclamp_numbers.specs.Standing.{Ending}
use Rattle.unclamp_parts.specs.Standing.{fits}

-- a number that code has read in two parts
pub whole-as-read : (a : Share) (upper : ℤ) (lower : ℕ) → upper ≡ a.upper → lower ≡ a.lower → divides (pos lower) upper ≡ is_whole a
whole-as-read a upper lower e f = rw (e, f)

-- the test of a point, as two facts
pub fits_both : (a : Share) → fits a ≡ true → Fits a
unfolding fits
fits_both a h = both (is_whole a) (on_grid (whole_of a)) h

fits-of : (a : Share) → Fits a → fits a ≡ true
unfolding fits
fits-of a p = rw (p.0, p.1)

module _ (m : ℕ) (ts : List ℕ) (ps : List ℤ) (s : Ending m ts ps) where
  -- an axis that opens: the k-th point from its end
  pub point-fits : opens_on m ts ps ≡ true → (k : ℕ) → k < length ps → fits (open_number (finish_of ts ps) m k) ≡ true
  point-fits h k inside =
      let back : length ps - 1 - (length ps - 1 - k) ≡ k = omega arith in
      fits-of (open_number (finish_of ts ps) m k) (rw back at (axis-each m ts ps h (length ps - 1 - k) (omega arith)))

  -- one point that does not fit: the axis does not open
  pub point-refuses : (k : ℕ) → k + 1 < m → fits (open_number (finish_of ts ps) m k) ≡ false → false ≡ opens_on m ts ps
  point-refuses k inside h = sym (fails (opens_on m ts ps) (λ e. true≢false (sym (point-fits e k (omega (arith, s.enough))) ∙ h)))

  -- the last m - 1 fit: it opens
  pub points-accept : all_on_grid ps ≡ true → ((k : ℕ) → k + 1 < m → fits (open_number (finish_of ts ps) m k) ≡ true) → true ≡ opens_on m ts ps
  points-accept old each = sym (axis-opens m ts ps (grid-each ps old) (λ k i. fits_both (open_number (finish_of ts ps) m k) (each k i)))

  -- the points in front are copied
  pub points-stored : (before list : List ℤ) → length ps ≤ length before → list ≡ over (take (length before) (take (length ps + 1 - m) ps)) before
      → Stored (open_points m ts ps) before list (length ps + 1 - m)
  points-stored before list room copied =
      let n = open_points-length m ts ps in
      let front =
      same-front (pos 0) (open_points m ts ps) ps (length ps + 1 - m) (omega (arith, s.least)) (omega (arith, s.least))
      (λ k inside.
      let early : k + m ≤ length ps = omega (arith, s.enough) in
      let there : k < length ps = omega (arith, s.least) in
      open_points-at m ts ps k there ∙ ap whole_of (point-old m ts ps k there early) ∙ whole_is (get_or ps k (pos 0))) in
      front-copied (open_points m ts ps) before (take (length ps + 1 - m) ps) list (length ps + 1 - m) (omega (arith, s.least)) (omega arith) front copied
