-- What one piece adds to the text, and how far out its points lie.
use mathlib.Core.Path.{◌≡◌, sym, ap, ◌∙◌}
use Prim.Native.Nat.{ℕ, ◌+◌, ◌*◌, ◌≤◌, ◌<◌}
use native.Mathlib.Nat.{mul-le-mul_left}
use native.Mathlib.Omega.{arith}
use lib.ListN.{length, length-append}
use Rattle.curve.specs.Lists.{Lists}
use Rattle.grid.specs.Check.{Passes}
use Rattle.checked.proofs.CheckedLaws.{checked-of-passes}
use Rattle.cutting.specs.declared.Piece.{Piece}
use Rattle.cutting.specs.Pieces.{piece_of}
use Rattle.cutting.proofs.FourLaws.{four-used}
use Rattle.grid.specs.Limits.{pair_bytes_most}
use Rattle.path_data.specs.Text.{move_text, segment_text, part_text}
use Rattle.path_data.specs.Sentences.{PieceOnGrid}
use Rattle.path_data.proofs.TextLaws.{part_text-first, part_text-later}
use Rattle.path_data.proofs.LengthLaws.{move_text-most, segment_text-most}
use Rattle.svg_out.specs.Measure.{part_most}

-- a piece of a curve that passes the check is on the grid
pub piece-on-grid : (m : ℕ) (d : Lists) (k : ℕ) → Passes m d.knots d.xs d.ys → k * m + m < length d.xs → PieceOnGrid m (piece_of m d k)
unfolding piece_of
piece-on-grid m d k passes inside a h =
    let f = checked-of-passes m d.knots d.xs d.ys passes in
    let most = f.sizes.degree-most in (
      rw (four-used m d.xs (k * m) a h most) (f.grid_x (k * m + a) (omega arith)),
      rw (four-used m d.ys (k * m) a h most) (f.grid_y (k * m + a) (omega (arith, f.sizes.as_many))),
    )

module _ (m k : ℕ) (p : Piece) (few : m ≤ 3) (grid : PieceOnGrid m p) where
  segment-most : length (segment_text m p) ≤ 2 + pair_bytes_most * 3
  segment-most = omega (arith, segment_text-most m p grid, mul-le-mul_left pair_bytes_most few)

  pub later-part : (r : ℕ) → 0 < k → r ≡ length (segment_text m p) → (r ≡ length (part_text m k p)) × (r ≤ part_most)
  later-part r h e = (e ∙ ap length (sym (part_text-later m k p h)), omega (arith, e, segment-most))

  pub first_part : (r s : ℕ) → k ≡ 0 → r ≡ length (move_text p) → s ≡ length (segment_text m p) → (r + s ≡ length (part_text m k p)) × (r + s ≤ part_most)
  first_part r s h e f = (
    rw (e, f) (sym (length-append (move_text p) (segment_text m p))) ∙ ap length (sym (part_text-first m p)) ∙ ap (λ j. length (part_text m j p)) (sym h),
    omega (arith, e, f, segment-most, move_text-most m p grid),
  )
