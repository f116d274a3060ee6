-- What is promised of the pieces that are drawn of any curve (heading "Out to SVG"): those of its clamped copy are the exact curve over the domain. `m` is the degree,
-- `c` the curve; `past` is whatever is read past the end of the list of pieces, where nothing is claimed.
use Rattle.std.specs.Prelude.{◌≡◌, ℕ, ◌+◌, ◌<◌, length, get_or}
use Rattle.refusal.specs.Numbers.{accepted}
use Rattle.curve.specs.Lists.{Lists}
use Rattle.checked.specs.declared.Axis.{Axis}
use Rattle.clamping.specs.Clamping.{clamped}
use Rattle.cutting.specs.Pieces.{piece_count, pieces}
use Rattle.cutting.specs.declared.Piece.{Piece}
use Rattle.cut_whole.specs.Sentences.{low_at, high_at}
use Rattle.pieces_exact.specs.PieceCurve.{BezierIsCurve, Meet}
use Rattle.svg_out.specs.Svg.{draw_number}

-- there is a piece for each span of c that is not empty, between its two knots; at every fraction between these, both included, and on either axis it is the exact
-- curve c; and neighbours share knot and point
pub record DrawnPieces (m : ℕ) (c : Lists) (past : Piece) : Type 0 where
  pub count : length (pieces m (clamped m c)) ≡ piece_count m c
  pub low : (k : ℕ) → k < piece_count m c → (get_or (pieces m (clamped m c)) k past).low ≡ low_at m c k
  pub high : (k : ℕ) → k < piece_count m c → (get_or (pieces m (clamped m c)) k past).high ≡ high_at m c k
  pub curve : (axis : Axis) (k : ℕ) → k < piece_count m c → BezierIsCurve axis m c (get_or (pieces m (clamped m c)) k past)
  pub meet : (k : ℕ) → k + 1 < piece_count m c → Meet m (get_or (pieces m (clamped m c)) k past) (get_or (pieces m (clamped m c)) (k + 1) past)

abbrev pub DrawnIsCurve : Type 0
DrawnIsCurve = (m : ℕ) (c : Lists) (past : Piece) → draw_number m c ≡ accepted → DrawnPieces m c past
