-- The pieces between neighbouring spline points (heading "Joining spline points"), on one axis.
-- `ss` are the parameters s_0 .. s_k, `ps` the points P_0 .. P_k, `ds` the tangents P_0' .. P_k'; h is the width s_{i+1} - s_i.
use Rattle.std.specs.Prelude.{Bool, true, ◌&&◌, List, [], ◌∷◌, ℕ, zero, suc, ◌-◌, ℤ, pos, ◌+ℤ◌, ◌-ℤ◌, ◌*ℤ◌, length, get_or}
use Rattle.std.specs.Int.Signed.{quot_z}
use Rattle.signed.specs.Division.{divides}
use Rattle.grid.specs.Rows.{on_grid}

unfoldable pub third_whole : ℕ → ℤ → Bool  -- h·d/3 is a whole number: 3 goes into h·d, also where d is negative
third_whole h d = divides (pos 3) (pos h *ℤ d)

unfoldable pub third : ℕ → ℤ → ℤ  -- h·d/3, where that is whole
third h d = quot_z (pos h *ℤ d) (pos 3)

-- one piece on one axis: its two knots; its four points, of which one leaves the start and one arrives at the end; and whether these
-- two are whole (start and end always are), for they are meant only where they are
pub record Piece : Type 0 where
  pub low : ℕ
  pub high : ℕ
  pub start : ℤ
  pub leaving : ℤ
  pub arriving : ℤ
  pub end : ℤ
  pub whole : Bool

-- the piece from p with tangent d to q with tangent e: p, p + h·d/3, q - h·e/3, q
unfoldable pub piece_of : ℕ → ℕ → ℤ → ℤ → ℤ → ℤ → Piece
piece_of low high p d q e =
    record {
      low = low;
      high = high;
      start = p;
      leaving = p +ℤ third (high - low) d;
      arriving = q -ℤ third (high - low) e;
      end = q;
      whole = third_whole (high - low) d && third_whole (high - low) e;
    }

unfoldable pub piece_at : List ℕ → List ℤ → List ℤ → ℕ → Piece  -- piece i, from P_i to P_{i+1}
piece_at ss ps ds i =
    piece_of (get_or ss i 0) (get_or ss (suc i) 0) (get_or ps i (pos 0)) (get_or ds i (pos 0)) (get_or ps (suc i) (pos 0)) (get_or ds (suc i) (pos 0))

unfoldable pub pieces_from : List ℕ → List ℤ → List ℤ → ℕ → ℕ → List Piece  -- `count` pieces from piece i on
pieces_from ss ps ds i zero = []
pieces_from ss ps ds i (suc count) = piece_at ss ps ds i ∷ pieces_from ss ps ds (suc i) count

unfoldable pub pieces : List ℕ → List ℤ → List ℤ → List Piece  -- all pieces: one fewer than points
pieces ss ps ds = pieces_from ss ps ds 0 (length ss - 1)

unfoldable pub every_piece : (Piece → Bool) → List Piece → Bool  -- every piece passes a test
every_piece ok [] = true
every_piece ok (piece ∷ rest) = ok piece && every_piece ok rest

abbrev pub all_whole : List Piece → Bool  -- row 11 over pieces: all their points are whole
all_whole = every_piece (λ piece. piece.whole)

unfoldable pub piece_on_grid : Piece → Bool  -- the four points of a piece are on the grid
piece_on_grid piece = on_grid piece.start && on_grid piece.leaving && on_grid piece.arriving && on_grid piece.end

abbrev pub all_pieces_on_grid : List Piece → Bool  -- row 18 over pieces: all their points are on the grid
all_pieces_on_grid = every_piece piece_on_grid
