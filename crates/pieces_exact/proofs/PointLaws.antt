-- The points of a piece, place by place: `piece-points`.
use mathlib.Core.Path.{◌≡◌, refl, ap, ◌∙◌}
use Prim.Native.Nat.{ℕ, ◌*◌}
use lib.ListN.{length, get_or}
use Rattle.curve.specs.Lists.{Lists}
use Rattle.checked.specs.declared.Axis.{Axis}
use Rattle.checked.specs.declared.Axis.TheVariants.{X, Y}
use Rattle.grid.proofs.SizeLaws.{sizes-of-passes}
use Rattle.insertion.specs.Insertion.{point_at}
use Rattle.insertion.proofs.EntryLaws.{entries_at}
use Rattle.cutting.specs.Cutting.{cut}
use Rattle.cutting.specs.Pieces.{four_from, piece_of, piece_count, pieces}
use Rattle.cutting.proofs.FourLaws.{four-count, four-used, four-unused}
use Rattle.cut_whole.proofs.SentenceLaws.{cut-passes}
use Rattle.pieces_exact.specs.PieceCurve.{axis_of, points_of, PiecePoints}

-- a piece holds its four places on either axis
piece-fours : (axis : Axis) (m : ℕ) (d : Lists) (k : ℕ) → points_of axis (piece_of m d k) ≡ four_from m (axis_of axis d) (k * m)
unfolding piece_of
piece-fours X m d k = refl
piece-fours Y m d k = refl

pub piece-points : PiecePoints
unfolding pieces
piece-points axis m c k past h l =
    let known = cut-passes m c h in
    let most = (sizes-of-passes m c.knots c.xs c.ys known.passes).degree-most in
    let same : points_of axis (get_or (pieces m c) k past) ≡ four_from m (axis_of axis (cut m c)) (k * m) =
    ap (points_of axis) (entries_at (piece_of m (cut m c)) (piece_count m c) k past l) ∙ piece-fours axis m (cut m c) k in
    record {
      count = ap length same ∙ four-count m (axis_of axis (cut m c)) (k * m);
      used = λ a i. ap (λ ps. point_at ps a) same ∙ four-used m (axis_of axis (cut m c)) (k * m) a i most;
      unused = λ a i j. ap (λ ps. point_at ps a) same ∙ four-unused m (axis_of axis (cut m c)) (k * m) a i j;
    }
