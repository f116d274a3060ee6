-- How often a value stands in the cut curve: `fully-cut`; and that every value there stood among the knots before: `old_value`.
use mathlib.Core.Path.{◌∙◌}
use Prim.Native.Nat.{ℕ, ◌≤◌, ◌<◌}
use native.Mathlib.Decide.{dec_le}
use native.Mathlib.Omega.{arith}
use lib.ListN.{length}
use Rattle.curve.specs.Lists.{Lists}
use Rattle.grid.specs.Rows.{occurrences}
use Rattle.grid.specs.Check.{Passes}
use Rattle.checked.specs.Checked.{Clamped}
use Rattle.checked.proofs.CheckedLaws.{checked-of-passes}
use Rattle.cutting.specs.Cutting.{cuts, cut}
use Rattle.cut_whole.specs.Sentences.{InnerKnot, FullyCut}
use Rattle.cut_whole.proofs.EachLaws.{each-occurrences}
use Rattle.cut_whole.proofs.CountLaws.{counted-cuts}

module _ (m : ℕ) (c : Lists) (passes : Passes m c.knots c.xs c.ys) (clamped : Clamped m c.knots (length c.xs)) where
  -- an inner knot lies strictly inside, so it stands at most m times
  inner-most : (v : ℕ) → InnerKnot m c v → occurrences v c.knots ≤ m
  inner-most v k = (checked-of-passes m c.knots c.xs c.ys passes).inner v k.above k.below

  pub fully-cut : FullyCut m c
  fully-cut = record {
    inner = λ v k. each-occurrences m (cuts m c) c v ∙ omega (arith, (counted-cuts m c passes clamped).inner v k, inner-most v k);
    other = λ v n. each-occurrences m (cuts m c) c v ∙ omega (arith, (counted-cuts m c passes clamped).other v n);
  }

  pub old_value : (v : ℕ) → 0 < occurrences v (cut m c).knots → 0 < occurrences v c.knots
  old_value v some =
      elim (dec_le 1 (occurrences v c.knots)) [
        | yes h ↦ h
        | no h ↦ absurd (omega (arith, fully-cut.other v (λ k. omega (arith, k.stands))))
      ]
