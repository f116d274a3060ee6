-- Spline points (heading "Joining spline points"): their pieces on each axis, and row 17, when they can be joined.
use Rattle.std.specs.Prelude.{Bool, true, ◌&&◌, List, [], ◌∷◌, ℕ, suc, leb, eqb, ℤ, length}
use Rattle.grid.specs.Limits.{knot_most, spline_points_least, spline_points_most}
use Rattle.spline_pieces.specs.Pieces.{Piece, pieces}

pub record SplinePoints : Type 0 where  -- the parameters, the points and the tangents, as five lists
  pub params : List ℕ
  pub xs : List ℤ
  pub ys : List ℤ
  pub dxs : List ℤ
  pub dys : List ℤ

abbrev pub spline_points : List ℕ → List ℤ → List ℤ → List ℤ → List ℤ → SplinePoints
spline_points ss xs ys dxs dys = record { params = ss; xs = xs; ys = ys; dxs = dxs; dys = dys }

abbrev pub pieces_x : SplinePoints → List Piece  -- the pieces of the x axis, and of the y axis
pieces_x s = pieces s.params s.xs s.dxs

abbrev pub pieces_y : SplinePoints → List Piece
pieces_y s = pieces s.params s.ys s.dys

-- no parameter is below `low` or above 16,383, and each is at least one more than the one before it
unfoldable pub rises_strictly_from : ℕ → List ℕ → Bool
rises_strictly_from low [] = true
rises_strictly_from low (s ∷ ss) = leb low s && leb s knot_most && rises_strictly_from (suc s) ss

unfoldable pub spline_count_ok : ℕ → Bool  -- 2 to 342 parameters
spline_count_ok count = leb spline_points_least count && leb count spline_points_most

unfoldable pub counts_agree : SplinePoints → Bool  -- the four other lists are as long as that of the parameters
counts_agree s =
    let count = length s.params in
    eqb (length s.xs) count && eqb (length s.ys) count && eqb (length s.dxs) count && eqb (length s.dys) count

-- row 17: 2 to 342 spline points, five lists of one length, parameters strictly rising up to 16,383
unfoldable pub spline_points_ok : SplinePoints → Bool
spline_points_ok s = spline_count_ok (length s.params) && counts_agree s && rises_strictly_from 0 s.params
