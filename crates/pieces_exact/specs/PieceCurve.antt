-- What is promised of the pieces of a curve that is cut without a refusal (heading "Out to SVG"), most of it where its ends are clamped, in the words of the definition of `pieces`.
-- `m` is the degree, `c` the curve; `past` is whatever is read past the end of the list of pieces, where nothing is claimed.
use Rattle.std.specs.Prelude.{List, ◌≡◌, ℕ, ◌+◌, ◌-◌, ◌*◌, ◌≤◌, ◌<◌, ℤ, pos, length, get_or}
use Rattle.refusal.specs.Numbers.{accepted}
use Rattle.curve.specs.Lists.{Lists}
use Rattle.checked.specs.Checked.{Clamped}
use Rattle.carrying.specs.Carrying.{on_axis}
use Rattle.checked.specs.declared.Axis.{Axis}
use Rattle.fractions.specs.Order.{Equals}
use Rattle.exact.specs.ExactCurve.{exact_at}
use Rattle.insertion.specs.Insertion.{point_at}
use Rattle.knots_exact.specs.SameCurve.{SameCurve}
use Rattle.meeting_points.specs.Inserting.{InsertsEach}
use Rattle.cutting.specs.Cutting.{cuts, cut, cut_number}
use Rattle.cutting.specs.Pieces.{piece_count, pieces}
use Rattle.cutting.specs.declared.Piece.{Piece}
use Rattle.pieces_exact.specs.BezierPoint.{bezier_at}

-- the coordinates of a curve, or of a piece, on the asked axis
abbrev pub axis_of : Axis → Lists → List ℤ
axis_of axis c = on_axis axis c.xs c.ys

abbrev pub points_of : Axis → Piece → List ℤ
points_of axis b = on_axis axis b.xs b.ys

-- inserting the values of the cuts, one after the other, gives the cut curve, with no refusal; so it is the same exact curve
abbrev pub CutKeepsCurve : Type 0
CutKeepsCurve = (m : ℕ) (c : Lists) → cut_number m c ≡ accepted → InsertsEach m (cuts m c) c (cut m c) × SameCurve m c (cut m c)

-- on one axis, at every fraction p/q between the knots of a piece b, both included, the Bezier curve of its points is the exact curve c
abbrev pub BezierIsCurve : Axis → ℕ → Lists → Piece → Type 0
BezierIsCurve axis m c b =
    (p q : ℕ) → 0 < q → b.low * q ≤ p → p ≤ b.high * q
    → Equals (bezier_at m b.low b.high (points_of axis b) p q) (exact_at m c.knots (axis_of axis c) p q)

-- ... and so it is for every piece, on either axis
abbrev pub PieceIsCurve : Type 0
PieceIsCurve =
    (axis : Axis) (m : ℕ) (c : Lists) (k : ℕ) (past : Piece) → cut_number m c ≡ accepted → Clamped m c.knots (length c.xs) → k < piece_count m c
    → BezierIsCurve axis m c (get_or (pieces m c) k past)

-- a piece has four places on an axis: the points k·m to k·m + m of the cut curve, and 0 in those that it does not use
pub record PointsOfPiece (axis : Axis) (m : ℕ) (c : Lists) (k : ℕ) (ps : List ℤ) : Type 0 where
  pub count : length ps ≡ 4
  pub used : (a : ℕ) → a ≤ m → point_at ps a ≡ point_at (axis_of axis (cut m c)) (k * m + a)
  pub unused : (a : ℕ) → m < a → a < 4 → point_at ps a ≡ pos 0

abbrev pub PiecePoints : Type 0
PiecePoints =
    (axis : Axis) (m : ℕ) (c : Lists) (k : ℕ) (past : Piece) → cut_number m c ≡ accepted → k < piece_count m c
    → PointsOfPiece axis m c k (points_of axis (get_or (pieces m c) k past))

-- a piece ends where the next begins: at the same knot, and on either axis at the same point
pub record Meet (m : ℕ) (b d : Piece) : Type 0 where
  pub knot : b.high ≡ d.low
  pub point : (axis : Axis) → point_at (points_of axis b) m ≡ point_at (points_of axis d) 0

abbrev pub PiecesMeet : Type 0
PiecesMeet =
    (m : ℕ) (c : Lists) (k : ℕ) (past : Piece) → cut_number m c ≡ accepted → Clamped m c.knots (length c.xs) → k + 1 < piece_count m c
    → Meet m (get_or (pieces m c) k past) (get_or (pieces m c) (k + 1) past)

-- the pieces go from t_m to t_{n+1}: there is one at least, for each span that is not empty one, none is empty, the first begins at the one end
-- and the last ends at the other
pub record Cover (m : ℕ) (c : Lists) (past : Piece) : Type 0 where
  pub some : 1 ≤ length (pieces m c)
  pub count : length (pieces m c) ≡ piece_count m c
  pub wide : (k : ℕ) → k < length (pieces m c) → (get_or (pieces m c) k past).low < (get_or (pieces m c) k past).high
  pub start : (get_or (pieces m c) 0 past).low ≡ get_or c.knots m 0
  pub stop : (get_or (pieces m c) (length (pieces m c) - 1) past).high ≡ get_or c.knots (length c.xs) 0

abbrev pub PiecesCoverDomain : Type 0
PiecesCoverDomain = (m : ℕ) (c : Lists) (past : Piece) → cut_number m c ≡ accepted → Clamped m c.knots (length c.xs) → Cover m c past
