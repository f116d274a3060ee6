-- One axis opens exactly where its last m - 1 points are whole and on the grid: the others are as before.
use mathlib.Core.Bool.{true, false, true≢false}
use mathlib.Core.List.{List}
use mathlib.Core.Logic.{◌⊎◌, inl, inr, ⊎_elim}
use mathlib.Core.Path.{◌≡◌, refl, sym, ◌∙◌}
use Prim.Native.Nat.{ℕ, ◌+◌, ◌-◌, ◌≤◌, ◌<◌}
use native.Mathlib.Omega.{arith}
use lib.IntN.{ℤ, pos}
use lib.ListN.{length, get_or}
use Rattle.refusal.proofs.JudgingLaws.{both}
use Rattle.grid.specs.Rows.{on_grid, all_on_grid}
use Rattle.grid.proofs.EntryLaws.{every_holds}
use Rattle.checked.specs.Checked.{OnGrid}
use Rattle.checked.proofs.TestLaws.{one-fails, passes-from, every-passes, some-fails}
use Rattle.checked.proofs.GridLaws.{on_grid-judged}
use Rattle.insertion.proofs.OrderLaws.{either}
use Rattle.clamping.specs.declared.Share.{Share}
use Rattle.clamping.specs.EndRows.{finish_of}
use Rattle.clamping.specs.Clamping.{is_whole, whole_of, all_whole}
use Rattle.clamping.proofs.WholeLaws.{whole_each, whole-of-each, one-not}
use Rattle.unclamping.specs.Unclamping.{open_number, open_numbers, open_points, opens_on}
use Rattle.unclamping.proofs.EntryLaws.{whole-one, whole_is, open_points-length, open_points-at, point-old}

-- a number is whole and on the grid
abbrev pub Fits : Share → Type 0
Fits a = (is_whole a ≡ true) × (on_grid (whole_of a) ≡ true)

-- it is not
abbrev pub FitsNot : Share → Type 0
FitsNot a = (is_whole a ≡ false) ⊎ (on_grid (whole_of a) ≡ false)

module _ (m : ℕ) (ts : List ℕ) (ps : List ℤ) where
  -- every number of an axis that opens
  pub axis-each : opens_on m ts ps ≡ true → (j : ℕ) → j < length ps → Fits (open_numbers m ts ps j)
  unfolding opens_on all_on_grid
  axis-each h j i =
      let p = both (all_whole (open_numbers m ts ps) (length ps)) (all_on_grid (open_points m ts ps)) h in
      let grid = every-passes on_grid all_on_grid refl (λ z r. refl) (pos 0) (open_points m ts ps) p.1 j (rw (open_points-length m ts ps) i) in
      (whole_each (open_numbers m ts ps) (length ps) p.0 j i, rw (open_points-at m ts ps j i) at grid)

  axis-of-each : ((j : ℕ) → j < length ps → Fits (open_numbers m ts ps j)) → opens_on m ts ps ≡ true
  unfolding opens_on all_on_grid
  axis-of-each each =
      rw (
        whole-of-each (open_numbers m ts ps) (length ps) (λ j i. (each j i).0),
        every_holds on_grid all_on_grid refl (λ z r. refl) (pos 0) (open_points m ts ps)
            (λ j i. let inside : j < length ps = rw (open_points-length m ts ps) at i in rw (open_points-at m ts ps j inside) (each j inside).1),
      )

  axis-not : opens_on m ts ps ≡ false → (j : ℕ) × (j < length ps) × FitsNot (open_numbers m ts ps j)
  unfolding opens_on all_on_grid
  axis-not h =
      ⊎_elim
      (λ e. let r = one-not (open_numbers m ts ps) (length ps) e in (r.0, r.1, inl r.2))
      (λ e.
      let r = some-fails on_grid all_on_grid refl (λ z s. refl) (pos 0) (open_points m ts ps) e in
      let inside : r.0 < length ps = rw (open_points-length m ts ps) at r.1 in
      (r.0, inside, inr (rw (open_points-at m ts ps r.0 inside) at r.2)))
      (one-fails (all_whole (open_numbers m ts ps) (length ps)) (all_on_grid (open_points m ts ps)) h)

  -- where the old points are on the grid
  module _ (old : (j : ℕ) → j < length ps → OnGrid (get_or ps j (pos 0))) where
    fits-old : (j : ℕ) → j < length ps → j + m ≤ length ps → Fits (open_numbers m ts ps j)
    fits-old j i h =
        rw (point-old m ts ps j i h) (
          whole-one (get_or ps j (pos 0)),
          rw (whole_is (get_or ps j (pos 0))) (passes-from (on_grid-judged (get_or ps j (pos 0))) (old j i)),
        )

    -- the last m - 1 points decide
    pub axis-opens : ((k : ℕ) → k + 1 < m → Fits (open_number (finish_of ts ps) m k)) → opens_on m ts ps ≡ true
    axis-opens ends =
        axis-of-each (λ j i. either (length ps) (j + m) (λ late. ends (length ps - 1 - j) (omega arith)) (λ early. fits-old j i early))

    fits-clash : (a : Share) → Fits a → FitsNot a → ⊥
    fits-clash a p (inl e) = true≢false (sym p.0 ∙ e)
    fits-clash a p (inr e) = true≢false (sym p.1 ∙ e)

    pub axis-fails : opens_on m ts ps ≡ false → (j : ℕ) × (j < length ps) × (length ps < j + m) × FitsNot (open_numbers m ts ps j)
    axis-fails h =
        let r = axis-not h in
        either (length ps) (r.0 + m)
        (λ late. (r.0, r.1, late, r.2))
        (λ early. absurd (fits-clash (open_numbers m ts ps r.0) (fits-old r.0 r.1 early) r.2))
