-- The curve of degree 3 that is taken from pieces (heading "Joining spline points"): its knots, and its points on one axis.
-- `inner` says how often a knot stands where two pieces meet: 3 keeps the meeting point among the points, 2 leaves it out.
use Rattle.std.specs.Prelude.{List, [], ◌∷◌, ◌++◌, ℕ, ◌-◌, ◌≤◌, ℤ, replicate}
use Rattle.spline_pieces.specs.Pieces.{Piece}
use Rattle.joined_curve.specs.declared.meeting.Meeting.{Meeting}
use Rattle.joined_curve.specs.declared.meeting.Meeting.TheVariants.{LeftOut, Kept}

abbrev pub end_knots : ℕ  -- how often an end value stands
end_knots = 4

abbrev pub inner_twice : ℕ  -- how often an inner value stands where the meeting points drop out: joining by default
inner_twice = 2

abbrev pub inner_thrice : ℕ  -- how often an inner value stands where the meeting points stay: joining through the points
inner_thrice = 3

abbrev pub inner_of : Meeting → ℕ  -- how often it stands, by what becomes of the meeting points
inner_of LeftOut = inner_twice
inner_of Kept = inner_thrice

abbrev pub EitherNumber : ℕ → Type 0  -- one of the two: `inner` is 2 or 3
EitherNumber inner = (inner_twice ≤ inner) × (inner ≤ inner_thrice)

unfoldable pub knots_after : ℕ → Piece → List Piece → List ℕ  -- the knots from the end of `piece` on, with the pieces that follow it
knots_after inner piece [] = replicate end_knots piece.high
knots_after inner piece (next ∷ rest) = replicate inner piece.high ++ knots_after inner next rest

unfoldable pub joined_knots : ℕ → List Piece → List ℕ  -- end values four times, inner ones `inner` times
joined_knots inner [] = []
joined_knots inner (piece ∷ rest) = replicate end_knots piece.low ++ knots_after inner piece rest

-- the points after the start of `piece`: the one that leaves it, the one that arrives, and the end where the curve ends or the meeting point stays
unfoldable pub points_after : ℕ → Piece → List Piece → List ℤ
points_after inner piece [] = piece.leaving ∷ piece.arriving ∷ piece.end ∷ []
points_after inner piece (next ∷ rest) = piece.leaving ∷ piece.arriving ∷ (replicate (inner - 2) piece.end ++ points_after inner next rest)

unfoldable pub joined_points : ℕ → List Piece → List ℤ  -- the start of the first piece, and the points after it
joined_points inner [] = []
joined_points inner (piece ∷ rest) = piece.start ∷ points_after inner piece rest
