-- The pieces of a curve with clamped ends are as many as the points of the cut curve allow, at least one, and on the grid; the clamped copy has such ends: so a
-- curve's path data is of the grammar and within the longest.
use mathlib.Core.List.{List, [], ◌∷◌}
use mathlib.Core.Path.{◌≡◌, ap}
use Prim.Native.Nat.{ℕ, ◌+◌, ◌*◌, ◌≤◌, ◌<◌}
use native.Mathlib.Nat.{mul-le-mul_right, suc-mul}
use native.Mathlib.Omega.{arith}
use lib.ListN.{length}
use Rattle.refusal.specs.Numbers.{accepted}
use Rattle.curve.specs.Lists.{Lists}
use Rattle.grid.proofs.SizeLaws.{sizes-of-passes}
use Rattle.checked.specs.Checked.{Clamped}
use Rattle.insertion.proofs.EntryLaws.{entries-length}
use Rattle.clamping.specs.Clamping.{clamped}
use Rattle.clamping.proofs.ClampedLaws.{clamped-passes}
use Rattle.cutting.specs.Cutting.{cut, cut_number}
use Rattle.cutting.specs.Pieces.{piece_of, piece_count, pieces}
use Rattle.cutting.specs.declared.Piece.{Piece}
use Rattle.cut_whole.proofs.SentenceLaws.{cut-passes, cut-sizes, spans-follow}
use Rattle.path_data.specs.Grammar.{svg_path}
use Rattle.path_data.specs.Text.{path_text}
use Rattle.path_data.specs.Sentences.{EachOnGrid, OfCurve}
use Rattle.path_data.proofs.GrammarLaws.{text-is-path-data}
use Rattle.path_data.proofs.LengthLaws.{entries-on-grid}
use Rattle.path_data.proofs.LongestLaws.{text-within-most}
use Rattle.svg_out.proofs.PartLaws.{piece-on-grid}
use Rattle.svg_whole.specs.Sentences.{SvgIsPathData, SvgWithinMost}
use Rattle.svg_whole.proofs.DrawLaws.{draw-passes, draw-whole}

module _ (m : ℕ) (c : Lists) (none : cut_number m c ≡ accepted) where
  abbrev count : ℕ
  count = piece_count m c

  pieces-count : length (pieces m c) ≡ count
  unfolding pieces
  pieces-count = entries-length (piece_of m (cut m c)) count

  module _ (clamped : Clamped m c.knots (length c.xs)) where
    -- piece k lies within the points of the cut curve
    piece-within : (k : ℕ) → k < count → k * m + m < length (cut m c).xs
    piece-within k h = omega (arith, (cut-sizes m c none clamped).xs, suc-mul k m, mul-le-mul_right m h)

    pieces-on-grid : EachOnGrid m (pieces m c)
    unfolding pieces
    pieces-on-grid =
        entries-on-grid m (piece_of m (cut m c)) count
        (λ k h. piece-on-grid m (cut m c) k (cut-passes m c none).cut-passes (piece-within k h))

    pub pieces-of-curve : OfCurve m (pieces m c)
    pieces-of-curve =
        let d = cut m c in
        let sizes = sizes-of-passes m d.knots d.xs d.ys (cut-passes m c none).cut-passes in
        record {
          degree = sizes.degree-least;
          points = omega (arith, (cut-sizes m c none clamped).xs, sizes.most, ap (λ n. n * m) pieces-count);
          grid = pieces-on-grid;
        }

-- some pieces, at least one
of-grammar : (m : ℕ) (ps : List Piece) → 1 ≤ m → m ≤ 3 → 1 ≤ length ps → svg_path (path_text m ps)
of-grammar m [] h k some = absurd (omega arith)
of-grammar m (p ∷ ps) h k some = text-is-path-data m p ps h k

pub svg-is-path-data : SvgIsPathData
svg-is-path-data m c none =
    let e = clamped m c in
    let cuttable = (draw-whole m c none).1 in
    let passes = (cut-passes m e cuttable).passes in
    let sizes = sizes-of-passes m e.knots e.xs e.ys passes in
    of-grammar m (pieces m e) sizes.degree-least sizes.degree-most (omega (arith, pieces-count m e cuttable, (spans-follow m e passes).some))

pub svg-within-most : SvgWithinMost
svg-within-most m c none =
    let e = clamped m c in
    text-within-most m (pieces m e) (pieces-of-curve m e (draw-whole m c none).1 (clamped-passes m c (draw-passes m c none)).clamped-ends)
