-- A third of what an i64 holds: an i64 holds it too, also where it moves a coordinate; and when it is whole.
use mathlib.Core.Path.{◌≡◌, ap, ◌∙◌}
use Prim.Native.Nat.{ℕ, ◌^◌, ◌≤◌}
use native.Mathlib.Omega.{arith}
use lib.Dec.{eqb}
use lib.IntN.{ℤ, pos, nat_abs, ◌+ℤ◌, ◌-ℤ◌, ◌*ℤ◌}
use lib.Signed.{quot_z, rem_z}
use mir.Syntax.{w32, w64}
use mir.Val.{SFits, to_z, of_z}
use mir.ValLaws.{to_z-of_z}
use Rattle.signed.specs.Division.{divides}
use Rattle.signed.proofs.SizeLaws.{nat_abs-quot}
use Rattle.signed.proofs.DivisionLaws.{remainder-none}
use Rattle.signed.proofs.WidthLaws.{sfits-sum, sfits-difference}
use Rattle.signed.proofs.FitLaws.{fits64-of-size, size-of-fits32, size-of-fits64}
use Rattle.spline_pieces.specs.Pieces.{third_whole}

module _ (z : ℤ) (fits : SFits w64 z) where
  third-size : nat_abs (quot_z z (pos 3)) ≤ 2 ^ 62
  third-size = rw (nat_abs-quot z 3) (omega (arith, size-of-fits64 z fits))

  pub third-fits : SFits w64 (quot_z z (pos 3))
  third-fits = fits64-of-size (quot_z z (pos 3)) (omega (arith, third-size))

  -- a coordinate moved by it, either way
  pub moved-fits : (p : ℤ) → SFits w32 p → SFits w64 (p +ℤ quot_z z (pos 3)) × SFits w64 (p -ℤ quot_z z (pos 3))
  moved-fits p held =
      let size = size-of-fits32 p held in (
        sfits-sum w64 p (quot_z z (pos 3)) (2 ^ 31) (2 ^ 62) size third-size (omega arith),
        sfits-difference w64 p (quot_z z (pos 3)) (2 ^ 31) (2 ^ 62) size third-size (omega arith),
      )

-- code that tests the bits of its remainder judges whether the third is whole
pub third-judged : (h : ℕ) (d z : ℤ) → SFits w64 z → z ≡ pos h *ℤ d → eqb (of_z w64 (rem_z (to_z w64 (of_z w64 z)) (pos 3))) 0 ≡ third_whole h d
unfolding third_whole
third-judged h d z fits e = rw (to_z-of_z w64 z fits) (remainder-none z 3 (omega arith) (omega arith)) ∙ ap (divides (pos 3)) e

pub ruleset third_tested = (third-judged)

-- code that moves a coordinate by a third reads where it is moved to
module _ (p w z : ℤ) (point : SFits w32 p) (wide : SFits w64 w) (reach : SFits w64 z) (same : w ≡ p) where
  pub moved-on : to_z w64 (of_z w64 (to_z w64 (of_z w64 w) +ℤ to_z w64 (of_z w64 (quot_z (to_z w64 (of_z w64 z)) (pos 3))))) ≡ p +ℤ quot_z z (pos 3)
  moved-on =
      rw (to_z-of_z w64 w wide, to_z-of_z w64 z reach, same, to_z-of_z w64 (quot_z z (pos 3)) (third-fits z reach))
      (to_z-of_z w64 (p +ℤ quot_z z (pos 3)) (moved-fits z reach p point).0)

  pub moved-back : to_z w64 (of_z w64 (to_z w64 (of_z w64 w) -ℤ to_z w64 (of_z w64 (quot_z (to_z w64 (of_z w64 z)) (pos 3))))) ≡ p -ℤ quot_z z (pos 3)
  moved-back =
      rw (to_z-of_z w64 w wide, to_z-of_z w64 z reach, same, to_z-of_z w64 (quot_z z (pos 3)) (third-fits z reach))
      (to_z-of_z w64 (p -ℤ quot_z z (pos 3)) (moved-fits z reach p point).1)
