-- What is promised of the text of path data (heading "Out to SVG").
use Rattle.std.specs.Prelude.{List, [], ◌∷◌, ℕ, ◌+◌, ◌*◌, ◌≤◌, length}
use Rattle.grid.specs.Limits.{points_most, svg_most}
use Rattle.checked.specs.Checked.{OnGrid}
use Rattle.insertion.specs.Insertion.{point_at}
use Rattle.cutting.specs.declared.Piece.{Piece}
use Rattle.path_data.specs.Text.{path_text}
use Rattle.path_data.specs.Grammar.{svg_path}

-- at each degree the text of some pieces, at least one, is of the grammar
abbrev pub TextIsPathData : Type 0
TextIsPathData = (m : ℕ) (p : Piece) (ps : List Piece) → 1 ≤ m → m ≤ 3 → svg_path (path_text m (p ∷ ps))

-- the points of a piece of degree m lie on the grid
abbrev pub PieceOnGrid : ℕ → Piece → Type 0
PieceOnGrid m p = (a : ℕ) → a ≤ m → OnGrid (point_at p.xs a) × OnGrid (point_at p.ys a)

-- and those of every piece of a list
pub data EachOnGrid (m : ℕ) : List Piece → Type 0 where
  none : EachOnGrid m []
  more : (p : Piece) (ps : List Piece) → PieceOnGrid m p → EachOnGrid m ps → EachOnGrid m (p ∷ ps)

-- pieces of degree m that are a curve's: on the grid, and with no more points than a curve can have (k pieces of degree m have k m + 1)
pub record OfCurve (m : ℕ) (ps : List Piece) : Type 0 where
  pub degree : 1 ≤ m
  pub points : length ps * m + 1 ≤ points_most
  pub grid : EachOnGrid m ps

-- their text is no longer than the longest one
abbrev pub TextWithinMost : Type 0
TextWithinMost = (m : ℕ) (ps : List Piece) → OfCurve m ps → length (path_text m ps) ≤ svg_most
