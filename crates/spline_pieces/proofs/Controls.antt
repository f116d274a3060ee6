-- Closed cases, worked by hand (heading "Joining spline points"): thirds of tangents, and pieces of unlike widths.
use mathlib.Core.Bool.{true, false}
use mathlib.Core.List.{[], ◌∷◌}
use mathlib.Core.Path.{◌≡◌, refl}
use lib.IntN.{pos, negsuc}
use Rattle.signed.specs.Division.{divides}
use Rattle.grid.specs.Rows.{on_grid}
use Rattle.spline_pieces.specs.Pieces.{third_whole, third, piece_of, piece_at, pieces_from, pieces, every_piece, all_whole, piece_on_grid, all_pieces_on_grid}

-- 3·(-2)/3, and 4·(-1)/3, which is not whole
third-of-minus-six : third 3 (negsuc 1) ≡ negsuc 1
unfolding third
third-of-minus-six = refl

thirds-whole : third_whole 3 (negsuc 1) ∷ third_whole 4 (negsuc 0) ∷ third_whole 4 (pos 3) ∷ [] ≡ true ∷ false ∷ true ∷ []
unfolding third_whole divides
thirds-whole = refl

-- parameters 0 3 9, points 0 -6 12, tangents 1 -2 3: one piece has the width 3, the other 6
two-pieces : pieces (0 ∷ 3 ∷ 9 ∷ []) (pos 0 ∷ negsuc 5 ∷ pos 12 ∷ []) (pos 1 ∷ negsuc 1 ∷ pos 3 ∷ [])
    ≡ record { low = 0; high = 3; start = pos 0; leaving = pos 1; arriving = negsuc 3; end = negsuc 5; whole = true }
    ∷ record { low = 3; high = 9; start = negsuc 5; leaving = negsuc 9; arriving = pos 6; end = pos 12; whole = true }
    ∷ []
unfolding pieces pieces_from piece_at piece_of third third_whole divides
two-pieces = refl

-- tangents 1 1 1 over the widths 3 and 4: the second piece's points are not whole
second-not-whole : all_whole (pieces (0 ∷ 3 ∷ 7 ∷ []) (pos 0 ∷ pos 0 ∷ pos 0 ∷ []) (pos 1 ∷ pos 1 ∷ pos 1 ∷ [])) ≡ false
unfolding pieces pieces_from piece_at piece_of third third_whole divides every_piece
second-not-whole = refl

-- from 262,144 with the tangent 1 over the width 3 a piece leaves the grid; with the tangent -1 it does not
off-and-on : all_pieces_on_grid (pieces (0 ∷ 3 ∷ []) (pos 262144 ∷ pos 0 ∷ []) (pos 1 ∷ pos 0 ∷ []))
    ∷ all_pieces_on_grid (pieces (0 ∷ 3 ∷ []) (pos 262144 ∷ pos 0 ∷ []) (negsuc 0 ∷ pos 0 ∷ []))
    ∷ []
    ≡ false ∷ true ∷ []
unfolding pieces pieces_from piece_at piece_of third third_whole divides every_piece piece_on_grid on_grid
off-and-on = refl
